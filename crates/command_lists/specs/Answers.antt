-- The plain book's answers to the adding commands, and what an accepted one changes, from what is gathered of the command's lists
-- (`AnswerLaws.antt`: it depends on the lists only through this). The questions stand in document 01's order.
use Rattle.std.specs.Prelude.{[], ◌∷◌, ℕ}
use Rattle.std.proofs.Math.Option.{Option}
use Rattle.book.specs.Changes.{with_module, with_spec, with_system, with_sysvar}
use Rattle.model.specs.Book.{Book, Specs, components, facilities, has_version, implementations, is_defined, is_module, is_system}
use Rattle.model.specs.Book.{provides, specified, standard, versions}
use Rattle.model.specs.Limits.{how_many}
use Rattle.model.specs.Maps.{Map, if_there, option_map, or_else}
use Rattle.model.specs.Questions.{first_no, no_requirements}
use Rattle.model.specs.Rules.{B3, B4, B5_to_B9}
use Rattle.command_lists.specs.Gathered.{Gathered, listed}
use Rattle.sets.specs.Sets.{Set, disjoint, subset}
use Rattle.sets.specs.Tests.{◌&◌, ◌<?◌, ◌⇔◌, ◌≤?◌, all, any, count, ~◌}

-- ---- ADD-SPEC: component, facilities provided, versions with what each requires, standard version

unfoldable pub spec_answer : Book → ℕ → Set → Gathered Set → ℕ → ℕ
spec_answer b c p g s = first_no (
    (1, c <? components & ~ g.large & s <? versions) ∷
    (2, any versions (listed g)) ∷
    (3, ~ g.twice) ∷
    (5, ~ specified b.specs c) ∷
    (12, count versions (listed g) ≤? 8) ∷
    (13, all versions (λ v. if_there (g.given v) (disjoint facilities p))) ∷
    (14, listed g s) ∷ [])

unfoldable pub spec_after : Book → ℕ → Set → Gathered Set → ℕ → Book
spec_after b c p g s = with_spec b c (record { prov = p; req = g.given; std = s })

-- ---- ADD-MOD: component, versions with their implementations

unfoldable pub mod_answer : Book → ℕ → Gathered ℕ → ℕ
mod_answer b c g = first_no (
    (1, c <? components & ~ g.large) ∷
    (2, any versions (listed g)) ∷
    (3, ~ g.twice) ∷
    (4, specified b.specs c) ∷
    (8, ~ is_defined b.modules b.systems c) ∷
    (9, all versions (λ v. listed g v ⇔ has_version b.specs c v)) ∷ [])

unfoldable pub mod_after : Book → ℕ → Gathered ℕ → Book
mod_after b c g = with_module b c g.given

-- ---- ADD-SYS: component, usable components, versions with their compositions

-- "A composition may leave a member's version out; the member's standard version is stored."
unfoldable pub stores : Specs → Map (Option ℕ) → Map ℕ
stores S m d = option_map (λ v. or_else v (standard S d)) (m d)

unfoldable pub sys_after : Book → ℕ → Set → Map (Map (Option ℕ)) → Book
sys_after b c u m = with_system b c (record { uses = u; comp = λ v. option_map (stores b.specs) (m v) })

unfoldable pub sys_answer : Book → ℕ → Gathered (Unit {0}) → Gathered (Map (Option ℕ)) → ℕ
sys_answer b c u g = first_no (
    (1, c <? components & ~ u.large & ~ g.large) ∷
    (2, any versions (listed g) & ~ g.empty) ∷
    (3, ~ g.twice & ~ u.twice) ∷
    (4, specified b.specs c) ∷
    (8, ~ is_defined b.modules b.systems c) ∷
    (9, all versions (λ v. listed g v ⇔ has_version b.specs c v)) ∷
    (16, no_requirements b c) ∷
    (17, subset components (listed u) (specified b.specs)) ∷
    (19, B3 b.specs (sys_after b c (listed u) g.given).systems) ∷
    (20, B4 (sys_after b c (listed u) g.given).systems) ∷
    (21, B5_to_B9 (sys_after b c (listed u) g.given)) ∷ [])

-- ---- ADD-MODVAR: component, version, facilities required, implementation

unfoldable pub modvar_answer : Book → ℕ → ℕ → Set → ℕ → ℕ
modvar_answer b c v q i = first_no (
    (1, c <? components & v <? versions & i <? implementations) ∷
    (6, is_module b.modules c) ∷
    (11, ~ has_version b.specs c v) ∷
    (12, how_many b.specs c <? 8) ∷
    (13, disjoint facilities (provides b.specs c) q) ∷ [])

-- ---- ADD-SYSVAR: component, version, composition

unfoldable pub sysvar_after : Book → ℕ → ℕ → Map (Option ℕ) → Book
sysvar_after b c v m = with_sysvar b c v (stores b.specs m)

unfoldable pub sysvar_answer : Book → ℕ → ℕ → Gathered (Option ℕ) → ℕ
sysvar_answer b c v g = first_no (
    (1, c <? components & v <? versions & ~ g.large) ∷
    (2, any components (listed g)) ∷
    (3, ~ g.twice) ∷
    (7, is_system b.systems c) ∷
    (11, ~ has_version b.specs c v) ∷
    (12, how_many b.specs c <? 8) ∷
    (21, B5_to_B9 (sysvar_after b c v g.given)) ∷ [])
