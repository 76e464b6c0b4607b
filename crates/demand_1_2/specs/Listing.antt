-- Demand 1 of a session: "A refused command gives one number from document 01 and changes neither the book nor a slice, save a session's
-- rows and zeroed slice." What its listing is made of, command by command.
use Rattle.std.specs.Prelude.{true, List, [], ◌++◌, ◌∷◌, map, ◌⊎◌, ◌≡◌, suc, ℕ, drop, length, replicate, take}
use Rattle.model.specs.Lists.{elem}
use Rattle.refusal.specs.Numbers.{code, found}
use Rattle.session_state.specs.State.{plain_state}
use Rattle.svcd.specs.declared.SessionEnd.{SessionEnd}
use Rattle.text.specs.Bytes.{Text}
use Rattle.text.specs.Language.{OUT, Said, command, over, said, wrong}
use Rattle.text.specs.SameByNames.{text_of}
use Rattle.text.specs.Session.{State, carry, changed, decimal, fresh, refused, row, rows}
use Rattle.text.specs.Tables.{joined}

-- The numbers of document 01 that a command of the language may be refused with in a session. Of the others, 23 is for what is not of the
-- language and 22 for the session itself; the questions for 1, 2, 14 and 25 get no no from a text.
unfoldable pub refusals : List ℕ
refusals = 3 ∷ 4 ∷ 5 ∷ 6 ∷ 7 ∷ 8 ∷ 9 ∷ 10 ∷ 11 ∷ 12 ∷ 13 ∷ 15 ∷ 16 ∷ 17 ∷ 18 ∷ 19 ∷ 20 ∷ 21 ∷ 24 ∷ []

-- Command i of a session, k, in the state s: the lines that it gives, and the state after it.
pub data Entry (i : ℕ) (s : State) (k : Said) : Text → State → Type 0 where
  -- refused, with 24 and for names without a number as well: one row with its number; book and tables are as they were
  refusal : (n : ℕ) → carry s k ≡ refused n → elem n refusals ≡ true → Entry i s k (row i (decimal n)) s
  -- one of the ten commands, accepted: one row with 0
  acceptance : (s' : State) → carry s k ≡ changed s' → Entry i s k (row i (decimal 0)) s'
  -- an accepted query: "After a 0 come the query's rows: command number, then one name, or component and version"; nothing is changed
  answered : (rs : List Text) → carry s k ≡ rows rs → Entry i s k (row i (decimal 0) ++ joined (map (row i) rs)) s
  -- ""out" is followed by the book's text"; nothing is changed
  put_out : k ≡ OUT → Entry i s k (row i (decimal 0) ++ text_of s) s

-- The text t, read in the state s from command number i on: the listing, and the state in the end.
pub data Listing : ℕ → State → Text → Text → State → Type 0 where
  -- ""quit" or the end of input ends it without a row."
  ended : {i : ℕ} {s : State} {t : Text} → command t ≡ over → Listing i s t [] s
  -- "Is the command of the language? no: 23, and the session ends.": nothing follows this row; book and tables are as they were
  broken_off : {i : ℕ} {s : State} {t : Text} → command t ≡ wrong → Listing i s t (row i (decimal 23)) s
  -- the lines of command i, then the listing of the rest of the text from the next number on, in the state after it
  goes_on : {i : ℕ} {s s' s'' : State} {t rest lines more : Text} {k : Said} → command t ≡ said k rest → Entry i s k lines s'
      → Listing (suc i) s' rest more s'' → Listing i s t (lines ++ more) s''

-- A session on the text t and the slice `old`, which is `new` then, that gave r.
pub record Demand1 (t : Text) (old new : List ℕ) (r : SessionEnd) : Type 0 where
  -- "Only 22 refuses a session itself."
  pub answers : (code r.answer ≡ 0) ⊎ (code r.answer ≡ 22)
  -- Accepted, it has put the listing of the text into the slice, from command 1 and an empty session on, and hands back the state in the end;
  pub listing : code r.answer ≡ 0 → Listing 1 fresh t (take (found r.answer) new) (plain_state r.state)
  -- the slice is as long as it was, and behind the listing it is as it was.
  pub as_long : length new ≡ length old
  pub behind : code r.answer ≡ 0 → drop (found r.answer) new ≡ drop (found r.answer) old
  -- "A listing longer than the slice gives 22 and a slice of zeros"; "after 22 both are empty"
  pub zeroed : code r.answer ≡ 22 → (found r.answer ≡ 0) × (new ≡ replicate (length old) 0) × (plain_state r.state ≡ fresh)
