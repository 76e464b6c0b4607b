-- The question for 25 on tables (document 01, "The questions, in order"): "For text also: do the tables hand in one valid name
-- for each number in the book, no name twice in a table? no: 25"
use Rattle.std.specs.Prelude.{Bool, true, [], ◌∷◌, ◌≡◌, ℕ}
use Rattle.std.proofs.Math.Option.{some}
use Rattle.model.specs.Book.{components, facilities, has_version, implementation, provides, requires, specified, versions}
use Rattle.model.specs.Limits.{Passes}
use Rattle.model.specs.Lists.{non_empty}
use Rattle.model.specs.Maps.{if_there}
use Rattle.sets.specs.Tests.{◌&◌, ◌⇒◌, all, ~◌}
use Rattle.text.specs.Bytes.{among, valid_implementation, valid_name}
use Rattle.text.specs.Session.{State}
use Rattle.text.specs.Tables.{Table, name_at}

-- "no name twice in a table": a place that holds no byte has no name
abbrev pub Once : Table → Type 0
Once t = (i j : ℕ) → non_empty (name_at t i) ≡ true → name_at t i ≡ name_at t j → i ≡ j

-- "one valid name for each number in the book, no name twice in a table"
pub record Named (s : State) : Type 0 where
  pub component : (c : ℕ) → specified s.book.specs c ≡ true → valid_name (name_at s.tables.comps c) ≡ true
  pub version : (c v : ℕ) → has_version s.book.specs c v ≡ true → valid_name (name_at s.tables.vers v) ≡ true
  pub provided : (c f : ℕ) → provides s.book.specs c f ≡ true → valid_name (name_at s.tables.facs f) ≡ true
  pub required : (c v f : ℕ) → requires s.book.specs c v f ≡ true → valid_name (name_at s.tables.facs f) ≡ true
  pub implemented : (c v i : ℕ) → implementation s.book.modules c v ≡ some i
      → valid_implementation (name_at s.tables.impls i) ≡ true
  pub comps_once : Once s.tables.comps
  pub vers_once : Once s.tables.vers
  pub facs_once : Once s.tables.facs
  pub impls_once : Once s.tables.impls

-- the answer to the question for 25 is yes, of a book with its tables
pub record PassesNamed (s : State) : Type 0 where
  pub passes : Passes s.book
  pub named : Named s

-- ---- the same as a test that computes, of a book that passes (`names_hold_lem`, `hold_names`)

unfoldable pub none_twice : Table → Bool
none_twice [] = true
none_twice (x ∷ xs) = (non_empty x ⇒ ~ among x xs) & none_twice xs

unfoldable pub version_named : State → ℕ → ℕ → Bool
version_named s c v =
    valid_name (name_at s.tables.vers v)
    & all facilities (λ f. requires s.book.specs c v f ⇒ valid_name (name_at s.tables.facs f))
    & if_there (implementation s.book.modules c v) (λ i. valid_implementation (name_at s.tables.impls i))

unfoldable pub component_named : State → ℕ → Bool
component_named s c =
    valid_name (name_at s.tables.comps c)
    & all facilities (λ f. provides s.book.specs c f ⇒ valid_name (name_at s.tables.facs f))
    & all versions (λ v. has_version s.book.specs c v ⇒ version_named s c v)

unfoldable pub names_hold : State → Bool
names_hold s =
    all components (λ c. specified s.book.specs c ⇒ component_named s c)
    & none_twice s.tables.comps & none_twice s.tables.vers & none_twice s.tables.facs & none_twice s.tables.impls
