-- Two books that are the same by names (document 01, "Text and session").
use Rattle.std.specs.Prelude.{Bool, [], ◌++◌, ◌≡◌, suc, zero, ℕ}
use Rattle.model.specs.Book.{composed, has_version, implementation, is_module, is_system, member, provides, requires, specified}
use Rattle.model.specs.Book.{standard, usable}
use Rattle.model.specs.Maps.{has}
use Rattle.sets.specs.Tests.{◌&◌, ◌=?◌}
use Rattle.text.specs.Bytes.{Text}
use Rattle.text.specs.Language.{Name}
use Rattle.text.specs.Session.{State, decimal, row}
use Rattle.text.specs.Tables.{Table, place}
use Rattle.text.specs.Written.{written}

-- what a book may say, by names
pub data Fact : Type 0 where
  IsSpecified IsModule IsSystem : Name → Fact
  -- component and facility, version, or usable component
  Provides Version Standard Usable Composed : Name → Name → Fact
  -- component, version, and facility or implementation
  Requires Implemented : Name → Name → Name → Fact
  -- system, version, component, version
  Member : Name → Name → Name → Name → Fact

-- the test at the number of a name: a name without a number passes none
unfoldable pub at : Table → Name → (ℕ → Bool) → Bool
at t w test = has (place t w) test

-- the book says so, where each number is replaced by its name
unfoldable pub holds : State → Fact → Bool
holds s (IsSpecified c) = at s.tables.comps c (specified s.book.specs)
holds s (IsModule c) = at s.tables.comps c (is_module s.book.modules)
holds s (IsSystem c) = at s.tables.comps c (is_system s.book.systems)
holds s (Provides c f) = at s.tables.comps c (λ c. at s.tables.facs f (provides s.book.specs c))
holds s (Version c v) = at s.tables.comps c (λ c. at s.tables.vers v (has_version s.book.specs c))
holds s (Standard c v) =
    at s.tables.comps c (λ c. at s.tables.vers v (λ v. specified s.book.specs c & v =? standard s.book.specs c))
holds s (Usable c d) = at s.tables.comps c (λ c. at s.tables.comps d (usable s.book.systems c))
holds s (Composed c v) = at s.tables.comps c (λ c. at s.tables.vers v (composed s.book.systems c))
holds s (Requires c v f) =
    at s.tables.comps c (λ c. at s.tables.vers v (λ v. at s.tables.facs f (requires s.book.specs c v)))
holds s (Implemented c v i) =
    at s.tables.comps c (λ c. at s.tables.vers v (λ v. at s.tables.impls i (λ i.
    has (implementation s.book.modules c v) (λ j. i =? j))))
holds s (Member c v d w) =
    at s.tables.comps c (λ c. at s.tables.vers v (λ v. at s.tables.comps d (λ d. at s.tables.vers w (λ w.
    has (member s.book.systems c v d) (λ x. w =? x)))))

-- "Two books are the same by names if they agree once each number is replaced by its name"
abbrev pub Same : State → State → Type 0
Same s s' = (x : Fact) → holds s x ≡ holds s' x

-- ---- what demand 2 speaks of

abbrev pub text_of : State → Text
text_of s = written s.book s.tables

-- the rows of n commands from number i on, all accepted
unfoldable pub accepted : ℕ → ℕ → Text
accepted i zero = []
accepted i (suc n) = row i (decimal 0) ++ accepted (suc i) n
