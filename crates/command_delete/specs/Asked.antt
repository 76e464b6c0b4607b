-- The questions as the functions put them.
use Rattle.std.specs.Prelude.{Bool, List, [], ◌∷◌, ℕ}
use Rattle.model.specs.Book.{Book, Systems, components, has_version, member, standard, versions}
use Rattle.model.specs.Maps.{has}
use Rattle.model.specs.Questions.{Question, held_by_none}
use Rattle.sets.specs.Tests.{◌&◌, ◌<?◌, ◌=?◌, ~◌}

-- question 18: the version w of s does not hold the pair c.v
unfoldable pub not_held_at : Systems → ℕ → ℕ → ℕ → ℕ → Bool
not_held_at Y c v s w = ~ has (member Y s w c) (λ x. x =? v)

-- the questions of DEL-MOD, and those of DEL-SYS before 21: t answers the question m
unfoldable pub kind_asked : ℕ → ℕ → Bool → List Question
kind_asked c m t = (1, c <? components) ∷ (m, t) ∷ []

-- DEL-MODVAR and DEL-SYSVAR: 1, m, 10, 15, 18, where t answers the question m
unfoldable pub version_asked : Book → ℕ → ℕ → ℕ → Bool → List Question
version_asked b c v m t =
    (1, c <? components & v <? versions) ∷
    (m, t) ∷
    (10, has_version b.specs c v) ∷
    (15, ~ (v =? standard b.specs c)) ∷
    (18, held_by_none b c v) ∷ []
