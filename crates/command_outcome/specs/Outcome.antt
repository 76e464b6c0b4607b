-- The one contract form of the ten commands, over `model`'s definitions. A Book stands as its two arrays.
use Rattle.std.specs.Prelude.{true, List, ◌≡◌, ℕ}
use Rattle.book.specs.Plain.{plain_of}
use Rattle.model.specs.Commands.{Command}
use Rattle.model.specs.PlainBook.{answer, next}
use Rattle.book_rules.specs.Test.{passes}
use Rattle.sets.specs.Tests.{if?◌then◌else◌}

-- "Any call that takes a book: are its numbers below their limits .. no: 25", before all other questions
unfoldable pub answered : List ℕ → List ℕ → Command → ℕ
answered s n k = if? passes s n then answer (plain_of s n) k else 25

-- The call of the command k on the Book s n answers a and leaves the Book s' n': the plain book's answer with 25 first; refused, the Book
-- as it was; accepted, a Book that holds the plain book's next and passes the test for 25.
pub record Called (s n : List ℕ) (k : Command) (a : ℕ) (s' n' : List ℕ) : Type 0 where
  pub answer_is : a ≡ answered s n k
  pub refused : (a ≡ 0 → ⊥) → (s' ≡ s) × (n' ≡ n)
  pub accepted : a ≡ 0 → (plain_of s' n' ≡ next (plain_of s n) k) × (passes s' n' ≡ true)
