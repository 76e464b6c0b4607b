-- The contract of the parts list, over `model`'s definitions. A Book stands as its two arrays.
use Rattle.std.specs.Prelude.{Err, List, Ok, Result, [], ◌++◌, ◌∷◌, map, ◌≡◌, ◌*◌, ◌+◌, ◌≤◌, ℕ, length}
use Rattle.book.specs.Plain.{plain_of}
use Rattle.model.specs.Book.{Book, Pair}
use Rattle.model.specs.PartsList.{how_many_systems, longest_chain, parts}
use Rattle.model.specs.Queries.{PARTS, asked}
use Rattle.model.specs.Questions.{Question, first_no}
use Rattle.book_rules.specs.Test.{passes}
use Rattle.parts.specs.declared.PartsList.{PartsList}
use Rattle.refusal.specs.declared.Refusal.{Refusal}
use Rattle.seqs.specs.Filled.{filled}
use Rattle.sets.specs.Tests.{◌≤?◌, if?◌then◌else◌}

-- A row is one number.
unfoldable pub row_number : Pair → ℕ
row_number q = q.0 * 64 + q.1

-- "parts, text, session: does the result fit the lent slice? no: 22", after the other questions; the slice has room places
unfoldable pub parts_asked : Book → ℕ → ℕ → ℕ → List Question
parts_asked b c v room = asked b (PARTS c v) ++ (22, length (parts b c v) ≤? room) ∷ []

-- "Any call that takes a book: are its numbers below their limits .. no: 25", before all other questions
unfoldable pub parts_answer : List ℕ → List ℕ → ℕ → ℕ → ℕ → ℕ
parts_answer s n c v room = if? passes s n then first_no (parts_asked (plain_of s n) c v room) else 25

-- what the call hands back where it finds the list: how many rows, which stand at the start of the slice, and "a depth .. at least the
-- longest chain and at most the number of systems plus one"
pub record Found (b : Book) (c v : ℕ) (old : List ℕ) (rows depth : ℕ) (out : List ℕ) : Type 0 where
  pub rows_are : rows ≡ length (parts b c v)
  pub out_is : out ≡ filled (map row_number (parts b c v)) old
  pub at_least : longest_chain b.systems c v ≤ depth
  pub at_most : depth ≤ how_many_systems b.systems + 1

-- The call for the parts of c, v on the Book s n and the slice old answers a, and leaves out in the slice.
pub record Listed (s n : List ℕ) (c v : ℕ) (old : List ℕ) (a rows depth : ℕ) (out : List ℕ) : Type 0 where
  pub answer_is : a ≡ parts_answer s n c v (length old)
  pub refused : (a ≡ 0 → ⊥) → (out ≡ old) × (rows ≡ 0) × (depth ≡ 0)
  pub found : a ≡ 0 → Found (plain_of s n) c v old rows depth out

-- how many rows the call hands back, and the depth: 0 where it is refused
abbrev pub rows_found : Result PartsList Refusal → ℕ
rows_found (Ok l) = l.rows
rows_found (Err e) = 0

abbrev pub depth_found : Result PartsList Refusal → ℕ
depth_found (Ok l) = l.depth
depth_found (Err e) = 0
