-- The questions as the functions put them.
use Rattle.std.specs.Prelude.{Bool, List, [], ◌∷◌, ℕ}
use Rattle.std.proofs.Math.Option.{Option}
use Rattle.model.specs.Book.{Book, components, facilities, has_version, is_defined, is_system, specified, versions}
use Rattle.model.specs.Limits.{how_many}
use Rattle.model.specs.Maps.{Map, if_there}
use Rattle.model.specs.Questions.{Question, no_requirements}
use Rattle.command_lists.specs.Gathered.{Gathered, listed}
use Rattle.sets.specs.Sets.{Set, disjoint, subset}
use Rattle.sets.specs.Tests.{◌&◌, ◌<?◌, ◌⇔◌, all, any, ~◌}

-- question 13 of ADD-SPEC, for the version v
unfoldable pub free_at : Set → Gathered Set → ℕ → Bool
free_at p g v = if_there (g.given v) (disjoint facilities p)

-- the questions of ADD-SYS before 19, 20 and 21
unfoldable pub sys_asked : Book → ℕ → Gathered (Unit {0}) → Gathered (Map (Option ℕ)) → List Question
sys_asked b c u g =
    (1, c <? components & ~ u.large & ~ g.large) ∷
    (2, any versions (listed g) & ~ g.empty) ∷
    (3, ~ g.twice & ~ u.twice) ∷
    (4, specified b.specs c) ∷
    (8, ~ is_defined b.modules b.systems c) ∷
    (9, all versions (λ v. listed g v ⇔ has_version b.specs c v)) ∷
    (16, no_requirements b c) ∷
    (17, subset components (listed u) (specified b.specs)) ∷ []

-- the questions of ADD-SYSVAR before 21
unfoldable pub sysvar_asked : Book → ℕ → ℕ → Gathered (Option ℕ) → List Question
sysvar_asked b c v g =
    (1, c <? components & v <? versions & ~ g.large) ∷
    (2, any components (listed g)) ∷
    (3, ~ g.twice) ∷
    (7, is_system b.systems c) ∷
    (11, ~ has_version b.specs c v) ∷
    (12, how_many b.specs c <? 8) ∷ []
