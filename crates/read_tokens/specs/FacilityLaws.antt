-- Facilities read one after the other: the table and the set are those of the whole list.
use Rattle.std.specs.Prelude.{Bool, false, true, List, [], Some, ◌∷◌, ◌≡◌, refl, ℕ, is_some}
use Rattle.std.proofs.Common.{◌∙◌, ap, subst, sym}
use Rattle.std.proofs.Math.Path.{fun_ext}
use Rattle.command_lists.specs.GatheredLaws.{or_nothing}
use Rattle.model.specs.Book.{facilities}
use Rattle.model.specs.Lists.{elem, set_of}
use Rattle.model.specs.Questions.{each_below}
use Rattle.sets.specs.SetLaws.{bit_zero}
use Rattle.sets.specs.Sets.{Set, bit, with}
use Rattle.sets.specs.TestLaws.{<?_in}
use Rattle.sets.specs.Tests.{◌<?◌, ◌=?◌, ◌or◌}
use Rattle.text.specs.Language.{Name}
use Rattle.text.specs.Tables.{Table, Tables, no_names, number, numbers}
use Rattle.read_tokens.specs.BothLaws.{both_out, both_there, some_same}
use Rattle.read_tokens.specs.Growth.{Grows, Later, Longer, NumberedAll, fold_on, joint, mentioned, with_facs}
use Rattle.read_tokens.specs.GrowthLaws.{enters_below, enters_longer, enters_number, grows_each, grows_fac, longer_none, numbered_all}
use Rattle.read_tokens.specs.Steps.{Each, Facilities, FacilityStep, facility_start}

-- ---- the table and the room

-- these facilities are mentioned, and no other name
abbrev pub only_facs : List Name → Tables
only_facs ws = with_facs no_names ws

one_by_one : (ws : List Name) → mentioned (λ w. only_facs (w ∷ [])) ws ≡ only_facs ws
unfolding mentioned joint
one_by_one [] = refl
one_by_one (w ∷ ws) = ap (λ m. joint (only_facs (w ∷ [])) m) (one_by_one ws)

pub facilities_grow : (t : Tables) (s s' : Facilities) (ws : List Name) → Each FacilityStep s s' ws
    → Grows (with_facs t s.0) (with_facs t s'.0) (is_some s.1) (is_some s'.1) (only_facs ws)
facilities_grow t s s' ws e =
    subst (Grows (with_facs t s.0) (with_facs t s'.0) (is_some s.1) (is_some s'.1)) (one_by_one ws)
    (grows_each FacilityStep (λ s. with_facs t s.0) (λ s. is_some s.1) (λ w. only_facs (w ∷ []))
    (λ s s' w f. subst (λ (r : Bool). Grows (with_facs t s.0) (with_facs t s'.0) (is_some s.1) r (only_facs (w ∷ [])))
    (sym (ap is_some f.set ∙ both_there with s.1 f.place))
    (grows_fac (with_facs t s.0) (is_some s.1) s'.0 f.place w f.enters)) s s' ws e)

-- ---- the numbers

abbrev pub facility_tables : Table → Tables
facility_tables t = record { comps = []; vers = []; facs = t; impls = [] }

pub later_facs : (t : Table) (u : Tables) → Longer t u.facs → Later (facility_tables t) u
later_facs t u l = record { comps = longer_none _; vers = longer_none _; facs = l; impls = longer_none _ }

abbrev FacilitiesNumbered : Facilities → Facilities → List Name → Set → Type 0
FacilitiesNumbered =
    NumberedAll (λ (s : Facilities). facility_tables s.0) (λ (s : Facilities). s.1) (λ u w. number u.facs w) with (λ k. k <? facilities)

facilities-all : (s s' : Facilities) (ws : List Name) (set : Set) → Each FacilityStep s s' ws → s'.1 ≡ Some set → FacilitiesNumbered s s' ws set
facilities-all s s' ws set e y = numbered_all FacilityStep _ _ _ _ _ (λ s s' w g f o.
    (let b = both_out with s.1 f.place (sym f.set ∙ o) in record {
      before = b.0;
      was = b.2;
      value = b.1;
      is = λ u l. enters_number facilities s.0 s'.0 f.place w f.enters b.1 b.3 u.facs l.facs;
      passes = <?_in _ _ (enters_below facilities s.0 s'.0 f.place w f.enters b.1 b.3);
      adds = sym b.4;
      later = later_facs s.0 (facility_tables s'.0) (enters_longer facilities s.0 s'.0 f.place w f.enters);
    })) s s' ws set e y

or_turn : (a b c : Bool) → ((a or b) or c) ≡ (b or (a or c))
unfolding ◌or◌
or_turn true true c = refl
or_turn true false c = refl
or_turn false b c = refl

with_all : (s : Set) (ks : List ℕ) (i : ℕ) → fold_on with s ks i ≡ (s i or elem i ks)
unfolding fold_on with elem
with_all s [] i = sym (or_nothing (s i))
with_all s (k ∷ ks) i = with_all (with s k) ks i ∙ or_turn (i =? k) (s i) (elem i ks)

pub with_none : (ks : List ℕ) → fold_on with (bit 0) ks ≡ set_of ks
unfolding set_of ◌or◌
with_none ks = fun_ext (λ i. with_all (bit 0) ks i ∙ ap (λ (b : Bool). b or elem i ks) (bit_zero i))

-- the set of facilities that were read, by their numbers in all later tables
pub record FacilitiesAre (t t' : Table) (set : Set) (ws : List Name) : Type 0 where
  pub values : List ℕ
  pub are : (u : Table) → Longer t' u → numbers u ws ≡ values
  pub below : each_below facilities values ≡ true
  pub set_is : set_of values ≡ set
  pub longer : Longer t t'

pub facilities_are : (t : Table) (s : Facilities) (set : Set) (ws : List Name) → Each FacilityStep (facility_start t) s ws → s.1 ≡ Some set
    → FacilitiesAre t s.0 set ws
unfolding numbers each_below facility_start
facilities_are t s set ws e y =
    let a = facilities-all (facility_start t) s ws set e y in
    record {
      values = a.values;
      are = λ u l. a.are (facility_tables u) (later_facs s.0 (facility_tables u) l);
      below = a.pass;
      set_is = sym (a.add ∙ ap (λ (x : Set). fold_on with x a.values) (sym (some_same a.was)) ∙ with_none a.values);
      longer = a.later.facs;
    }
