-- When the next command may be carried out on a Book and four tables, by the arrays of the Book and the rows of the tables.
use Rattle.std.specs.Prelude.{true, List, ◌≡◌, ℕ}
use Rattle.names.specs.Kept.{Kept}
use Rattle.names.specs.Stored.{Rows}
use Rattle.model.specs.Book.{components, facilities, implementations, versions}
use Rattle.book_rules.specs.Test as test

-- the next command may be carried out on them: the Book passes the test for 25, and no table has a free place before its last name
pub record Ready (s n : List ℕ) (c v f i : Rows) : Type 0 where
  pub passes : test.passes s n ≡ true
  pub comps : Kept components c
  pub vers : Kept versions v
  pub facs : Kept facilities f
  pub impls : Kept implementations i
