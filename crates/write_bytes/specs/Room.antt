-- Text written piece by piece into the rest of a slice.
use Rattle.std.specs.Prelude.{Bool, false, true, List, None, Option, Some, ◌++◌, ◌≡◌, ◌+◌, ◌-◌, ◌≤◌, ℕ, length, take}
use Rattle.seqs.specs.Filled.{filled}
use Rattle.sets.specs.Tests.{◌&◌, ◌≤?◌}
use Rattle.text.specs.Bytes.{Text}

-- The room for what is still to be written: whether all up to now did fit, and then how many bytes are left.
pub record Room : Type 0 where
  pub fits : Bool
  pub left : ℕ

-- the room that a writer has: none once something did not fit
abbrev pub room_of : Option ℕ → Room
room_of (Some n) = record { fits = true; left = n }
room_of None = record { fits = false; left = 0 }

-- the slice with w at the start of its last n bytes
unfoldable pub written_in : ℕ → Text → List ℕ → List ℕ
written_in n w old = filled (take (length old - n) old ++ w) old

-- What the writer of the text w does with the room p and the slice `old`: the room q and the slice `new` are then left. Of a text
-- that does not fit, nothing is said of the bytes in the room.
pub record Puts (w : Text) (p q : Room) (old new : List ℕ) : Type 0 where
  pub fits : q.fits ≡ (p.fits & length w ≤? p.left)
  pub left : q.fits ≡ true → q.left + length w ≡ p.left
  pub keeps : length new ≡ length old
  pub holds : q.fits ≡ true → p.left ≤ length old → new ≡ written_in p.left w old
