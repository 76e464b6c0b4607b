-- What demand 3 says of a sequence of calls, sentence by sentence.
use Rattle.std.specs.Prelude.{true, List, map, ◌⊎◌, ◌↔◌, ◌≡◌, ◌<◌, ◌≤◌, ℕ, length}
use Rattle.book.specs.Plain.{plain_of}
use Rattle.command_outcome.specs.Calls.{Call, command_of}
use Rattle.command_outcome.specs.Outcome.{Called}
use Rattle.model.specs.Book.{empty, has_version}
use Rattle.model.specs.Limits.{Passes}
use Rattle.model.specs.PartsList.{parts}
use Rattle.model.specs.PlainBook.{answers, reached}
use Rattle.model_laws.specs.Notions.{how_many_pairs}
use Rattle.model_laws.specs.PartsRight.{PartsRight}
use Rattle.parts.specs.Listed.{Found, Listed}

-- a Book as its two arrays
abbrev pub Arrays : Type 0
Arrays = List ℕ × List ℕ

-- the call q on a Book answers a and leaves a Book: the contract of each of the ten
abbrev pub Step : Arrays → Call → ℕ → Arrays → Type 0
Step b q a b' = Called b.0 b.1 (command_of q) a b'.0 b'.1

-- The call for the parts of a stored version answers a; `old` stood in the slice, and `out` stands there afterwards.
pub record PartsGiven (s n : List ℕ) (c v : ℕ) (old : List ℕ) (a rows depth : ℕ) (out : List ℕ) : Type 0 where
  -- "the parts list given for each stored version equals document 01's, row for row": in every slice that has room for it.
  pub given : length (parts (plain_of s n) c v) ≤ length old → (a ≡ 0) × Found (plain_of s n) c v old rows depth out
  -- "It holds exactly the versions that the stored one is made from, each once and after its own members. It has no more rows than the
  -- book has versions, and no chain in it is longer than the number of systems plus one."
  pub right : PartsRight (plain_of s n) c v
  -- "The call for it gives 22 exactly when the slice has fewer rows than this list;
  pub gives_22 : (a ≡ 22) ↔ (length old < length (parts (plain_of s n) c v))
  -- so a slice with a row for each version in the book is never too short."
  pub never_short : how_many_pairs (plain_of s n) ≤ length old → a ≡ 0
  -- It gives no other answer, and with 22 the slice is as it was.
  pub 0_or_22 : (a ≡ 0) ⊎ (a ≡ 22)
  pub kept : a ≡ 22 → (out ≡ old) × (rows ≡ 0) × (depth ≡ 0)

-- "For every sequence of calls of the ten commands, refused ones among them and whatever numbers they carry, this holds." The calls qs were
-- answered by the numbers ns, and the last of them left the Book s n.
pub record Demand3 (qs : List Call) (ns : List ℕ) (s n : List ℕ) : Type 0 where
  -- "The answers are, one by one, those of document 01's plain book fed the same calls.
  pub the_answers : ns ≡ answers empty (map command_of qs)
  -- The book after the sequence holds exactly what the plain book then holds,
  pub the_book : plain_of s n ≡ reached empty (map command_of qs)
  -- and B1 to B9 hold in it.
  pub the_rules : Passes (plain_of s n)
  -- In every book so reached, the parts list given for each stored version equals document 01's, row for row." And so on, as above.
  pub the_parts : (c v : ℕ) → has_version (plain_of s n).specs c v ≡ true → (old : List ℕ) (a rows depth : ℕ) (out : List ℕ)
      → Listed s n c v old a rows depth out → PartsGiven s n c v old a rows depth out
