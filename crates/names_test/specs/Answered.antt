-- The call for the text of a Book with tables handed in: its answer, and the slice after it.
use Rattle.std.specs.Prelude.{Bool, List, Result, ◌≡◌, ℕ, length}
use Rattle.book.specs.declared.Book.{Book as Stored}
use Rattle.book.specs.Plain.{plain_of}
use Rattle.names.specs.Stored.{Rows, tables_of}
use Rattle.names.specs.declared.Names.{Names}
use Rattle.book_rules.specs.Test as test
use Rattle.refusal.specs.Numbers.{code, found}
use Rattle.refusal.specs.declared.Refusal.{Refusal}
use Rattle.seqs.specs.Filled.{filled}
use Rattle.sets.specs.Tests.{◌&◌, ◌=?◌, ◌≤?◌, if?◌then◌else◌}
use Rattle.text.specs.Handed.{names_hold}
use Rattle.text.specs.SameByNames.{text_of}
use Rattle.text.specs.Session.{State}

-- the book and the tables that are handed in, by the rows of the tables
unfoldable pub handed : List ℕ → List ℕ → Rows → Rows → Rows → Rows → State
handed s n c v f i = record { book = plain_of s n; tables = tables_of c v f i }

-- the same by the structs of the code
abbrev pub handed_in : Stored → Names → State
handed_in b n = handed b.sets b.numbers n.comps.rows n.vers.rows n.facs.rows n.impls.rows

module _ (s n : List ℕ) (c v f i : Rows) where
  -- "Any call that takes a book: are its numbers below their limits, .. For text also: do the tables hand in one valid name for each
  -- number in the book, no name twice in a table?"
  unfoldable pub passes_named : Bool
  passes_named = test.passes s n & names_hold (handed s n c v f i)

  -- "The first no gives the number": 25, and for "does the result fit the lent slice?" 22
  unfoldable pub text_answer : List ℕ → ℕ
  text_answer old = if? passes_named then (if? length (text_of (handed s n c v f i)) ≤? length old then 0 else 22) else 25

  -- how many bytes are written
  unfoldable pub text_len : List ℕ → ℕ
  text_len old = if? text_answer old =? 0 then length (text_of (handed s n c v f i)) else 0

  -- the slice then: "A refused call .. writes nothing. An accepted one leaves the slice past its result untouched."
  unfoldable pub slice_with : List ℕ → List ℕ
  slice_with old = if? text_answer old =? 0 then filled (text_of (handed s n c v f i)) old else old

-- The call answers a and has written len bytes; new is the slice then.
pub record TextCall (s n : List ℕ) (c v f i : Rows) (old : List ℕ) (a len : ℕ) (new : List ℕ) : Type 0 where
  pub answer : a ≡ text_answer s n c v f i old
  pub length_is : len ≡ text_len s n c v f i old
  pub slice : new ≡ slice_with s n c v f i old

-- the same of the structs of the code, and of what it gives back
abbrev pub IsTextCall : Stored → Names → List ℕ → Result ℕ Refusal → List ℕ → Type 0
IsTextCall b n old r new = TextCall b.sets b.numbers n.comps.rows n.vers.rows n.facs.rows n.impls.rows old (code r) (found r) new
