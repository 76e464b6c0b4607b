-- Plain books of which the answer to the question for 25 is no, and which no Book holds: nine versions, and the parts of B2 that are true
-- of whatever stands in a Book's arrays. Each is K but for one entry.
use Rattle.std.specs.Prelude.{false, List, [], ◌∷◌, map, ◌≡◌, refl}
use Rattle.std.proofs.Math.Option.{none, some}
use Rattle.demand_1_2.specs.Verdict.{Part, book_nos, its_counts, rule}
use Rattle.model.specs.Book.{Book, Modules, Spec, Specs, System, Systems}
use Rattle.model.specs.Maps.{change, only_if, put}
use Rattle.model.specs.Teaching.{K, everything, one, probe, shell, tank, temp, v2, va, vb}
use Rattle.sets.specs.Tests.{◌<?◌, ◌=?◌, ◌or◌}

-- K with other specifications, modules or systems
abbrev specs_now : Specs → Book
specs_now S = record { specs = S; modules = K.modules; systems = K.systems }

abbrev modules_now : Modules → Book
modules_now M = record { specs = K.specs; modules = M; systems = K.systems }

abbrev systems_now : Systems → Book
systems_now Y = record { specs = K.specs; modules = K.modules; systems = Y }

abbrev nine_versions : Spec
nine_versions = record { prov = λ f. f =? temp; req = λ v. only_if (v <? 9) (λ f. false); std = one }

abbrev one_more : System → System
one_more y = record { uses = y.uses; comp = put vb (y.comp va) y.comp }

abbrev pub others : List (Book × List Part)
others =
    -- Nine versions of probe. A component of a Book has eight slots.
    (specs_now (put probe (some nine_versions) K.specs), its_counts ∷ []) ∷
    -- B2: shell is defined and not specified. What a Book has a definition of has a kind, and is specified.
    (modules_now (put shell (some (λ v. none)) K.modules), rule 2 ∷ []) ∷
    -- B2: tank is both module and system. A component of a Book has one kind.
    (modules_now (put tank (some (λ v. only_if (v =? va) 0)) K.modules), rule 2 ∷ []) ∷
    -- B2: an implementation for a version that probe has not. The implementations and compositions of a Book stand by its slots.
    (modules_now (put probe (some (λ v. only_if (v =? one or v =? v2) 0)) K.modules), rule 2 ∷ []) ∷
    -- B2: no implementation for a version that probe has.
    (modules_now (put probe (some (λ v. none)) K.modules), rule 2 ∷ []) ∷
    -- B2: a composition for a version that tank has not.
    (systems_now (change tank one_more K.systems), rule 2 ∷ []) ∷ []

-- By `no_passes` none of them passes.
pub others_nos : map (λ x. book_nos x.0) others ≡ map (λ x. x.1) others
unfolding everything book_nos
others_nos = refl
