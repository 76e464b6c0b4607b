-- The parts of the question for 25 on tables (crate text, Handed), as the code asks them.
use Rattle.std.specs.Prelude.{Bool, ℕ}
use Rattle.model.specs.Book.{has_version, implementation, specified}
use Rattle.model.specs.Lists.{non_empty}
use Rattle.model.specs.Maps.{if_there}
use Rattle.sets.specs.Sets.{Set}
use Rattle.sets.specs.Tests.{◌⇒◌, all, ~◌}
use Rattle.text.specs.Bytes.{same, valid_implementation, valid_name}
use Rattle.text.specs.Handed.{component_named, version_named}
use Rattle.text.specs.Session.{State}
use Rattle.text.specs.Tables.{Table, name_at}

-- the places i and j do not hold one name
unfoldable pub apart_from : Table → ℕ → ℕ → Bool
apart_from t i j = ~ same (name_at t i) (name_at t j)

-- the name of the place i, if it holds one, stands at no place below it
unfoldable pub new_at : Table → ℕ → Bool
new_at t i = non_empty (name_at t i) ⇒ all i (apart_from t i)

-- the facility f, if it is in the set, has a valid name
unfoldable pub named_if : Table → Set → ℕ → Bool
named_if t p f = p f ⇒ valid_name (name_at t f)

unfoldable pub implementation_named : State → ℕ → ℕ → Bool
implementation_named s c v =
    if_there (implementation s.book.modules c v) (λ i. valid_implementation (name_at s.tables.impls i))

unfoldable pub version_if : State → ℕ → ℕ → Bool
version_if s c v = has_version s.book.specs c v ⇒ version_named s c v

unfoldable pub component_if : State → ℕ → Bool
component_if s c = specified s.book.specs c ⇒ component_named s c
