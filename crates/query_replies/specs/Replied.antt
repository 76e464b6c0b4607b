-- The contract form of the queries, over `model`'s definitions. A Book stands as its two arrays.
use Rattle.std.specs.Prelude.{List, [], ◌∷◌, ◌≡◌, ℕ}
use Rattle.book.specs.Plain.{plain_of}
use Rattle.model.specs.Book.{Book, components, has_version, specified, versions}
use Rattle.model.specs.Lists.{rising}
use Rattle.model.specs.Queries.{Query, Reply, refused, reply, the_components, the_facilities}
use Rattle.model.specs.Questions.{Question}
use Rattle.book_rules.specs.Test.{passes}
use Rattle.sets.specs.Sets.{bit}
use Rattle.sets.specs.Tests.{◌&◌, ◌<?◌, ◌=?◌, if?◌then◌else◌}

-- "Any call that takes a book: are its numbers below their limits .. no: 25", before all other questions
unfoldable pub replied_to : List ℕ → List ℕ → Query → Reply
replied_to s n q = if? passes s n then reply (plain_of s n) q else refused 25

-- The answer a and the value x of a call are this reply: accepted, what x is read as; refused, the number a, and x is 0.
pub record Replied (read : ℕ → Reply) (a x : ℕ) (r : Reply) : Type 0 where
  pub is : (if? a =? 0 then read x else refused a) ≡ r
  pub nothing : (a ≡ 0 → ⊥) → x ≡ 0

-- "Facilities and components rise by number": the numbers of a set of 64 bits
unfoldable pub numbers_in : ℕ → List ℕ
numbers_in set = rising 64 (bit set)

unfoldable pub facilities_in : ℕ → Reply
facilities_in set = the_facilities (numbers_in set)

unfoldable pub components_in : ℕ → Reply
components_in set = the_components (numbers_in set)

-- the questions put to a query of one component: 1, 4
unfoldable pub of_component : Book → ℕ → List Question
of_component b c = (1, c <? components) ∷ (4, specified b.specs c) ∷ []

-- and to a query of a component with a version: 1, 4, 10
unfoldable pub of_pair : Book → ℕ → ℕ → List Question
of_pair b c v = (1, c <? components & v <? versions) ∷ (4, specified b.specs c) ∷ (10, has_version b.specs c v) ∷ []
