-- What a session leaves (document 01, "Text and session"): the listing in the slice, and the state as reached.
use Rattle.std.specs.Prelude.{Bool, None, Option, Some, false, true, List, ◌≡◌, ℕ, length}
use Rattle.refusal.specs.Numbers.{code, found}
use Rattle.sets.specs.Tests.{if?◌then◌else◌}
use Rattle.text.specs.Bytes.{Text}
use Rattle.text.specs.LentSlice.{fits_in, slice_after, state_after}
use Rattle.text.specs.Session.{State, session}
use Rattle.session_state.specs.State.{plain_state}
use Rattle.svcd.specs.declared.SessionEnd.{SessionEnd}

-- "A listing longer than the slice gives 22 and a slice of zeros."
unfoldable pub answer_of : List ℕ → Text → ℕ
answer_of slice t = if? fits_in slice t then 0 else 22

-- how many bytes the listing in the slice has
unfoldable pub length_of : List ℕ → Text → ℕ
length_of slice t = if? fits_in slice t then length (session t).0 else 0

-- what is left of the session of the text t on the slice `old`: the slice `new` and the state s
pub record Leaves (t : Text) (old new : List ℕ) (fits : Bool) (n : ℕ) (s : State) : Type 0 where
  pub fits_is : fits ≡ fits_in old t
  pub length_is : n ≡ length_of old t
  pub slice : new ≡ slice_after old t
  pub state : s ≡ state_after old t

-- whether the listing fits, by its length that is given back
abbrev pub fits : Option ℕ → Bool
fits (Some n) = true
fits None = false

-- and how many bytes it has
abbrev pub len : Option ℕ → ℕ
len (Some n) = n
len None = 0

-- What the library's session on the text t gives back, and the slice then: 0 with the listing's length, or 22. "The library's session also
-- hands back its book and tables as reached; after 22 both are empty."
pub record SessionCall (t : Text) (old new : List ℕ) (r : SessionEnd) : Type 0 where
  pub answer : code r.answer ≡ answer_of old t
  pub len : found r.answer ≡ length_of old t
  pub slice : new ≡ slice_after old t
  pub state : plain_state r.state ≡ state_after old t
