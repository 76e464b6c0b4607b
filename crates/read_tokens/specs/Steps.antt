-- What a reader of a list carries from entry to entry, and what one entry changes of it.
use Rattle.std.specs.Prelude.{List, [], Option, Some, ◌∷◌, ◌≡◌, ◌≤◌, ℕ, drop, length, option_map}
use Rattle.std.proofs.Math.Option.{none}
use Rattle.model.specs.Book.{facilities}
use Rattle.names.specs.Stored.{Rows, table_of}
use Rattle.sets.specs.Sets.{Set, bit, with}
use Rattle.text.specs.Bytes.{Text}
use Rattle.text.specs.Language.{Name, Reader, list_of}
use Rattle.text.specs.Tables.{Table}
use Rattle.text.specs.Tokens.{Token}
use Rattle.read_tokens.specs.Entering.{Enters, both}
use Rattle.read_tokens.specs.Readers.{Got}

-- the entries of a list taken one after the other, from the state s to the state s''
unfoldable pub Each : {S A : Type 0} → (S → S → A → Type 0) → S → S → List A → Type 0
Each R s s'' [] = s ≡ s''
Each {S = S} R s s'' (x ∷ xs) = (s' : S) × R s s' x × Each R s' s'' xs

-- what the rest of a list gives from position i and state s on is what the whole gives from `at` and s₀ on
pub record Leads {S A : Type 0} (k : Token) (p : Reader A) (R : S → S → A → Type 0) (t : Text) (at : ℕ) (s₀ : S) (i : ℕ) (s : S) : Type 0 where
  pub from : at ≤ i
  pub inside : i ≤ length t
  pub on : (e : ℕ) (s' : S) → Got (list_of k p) (Each R s s') t i e → Got (list_of k p) (Each R s₀ s') t at e
  pub off : list_of k p (drop i t) ≡ none → list_of k p (drop at t) ≡ none

-- ---- facilities, gathered into a set, if there was a place for each name

abbrev pub Facilities : Type 0
Facilities = Table × Option Set

unfoldable pub facility_state : Rows → Option ℕ → Facilities
facility_state rows o = (table_of facilities rows, option_map bit o)

-- no facility yet
unfoldable pub facility_start : Table → Facilities
facility_start t = (t, Some (bit 0))

pub record FacilityStep (s s' : Facilities) (w : Name) : Type 0 where
  pub place : Option ℕ
  pub enters : Enters facilities s.0 s'.0 place w
  pub set : s'.1 ≡ both with s.1 place
