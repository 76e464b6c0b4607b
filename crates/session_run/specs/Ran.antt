-- A session as a loop of steps: what it has done so far, and in the end.
use Rattle.std.specs.Prelude.{true, List, ◌≡◌, ◌+◌, ◌≤◌, ℕ, drop, length}
use Rattle.write_bytes.specs.Room.{Puts, Room, room_of}
use Rattle.write_bytes.specs.RoomLaws.{Partly}
use Rattle.write_bytes.specs.declared.writer.Writer.{Writer}
use Rattle.session_step.specs.Stepped.{session_of}
use Rattle.text.specs.Bytes.{Text}
use Rattle.text.specs.Session.{State, session}

-- all of a slice is free
abbrev pub whole : List ℕ → Room
whole old = record { fits = true; left = length old }

-- the listing of the text t is put into the slice `old`, and s is the state as reached
pub record Ran (t : Text) (s : State) (q : Room) (old new : List ℕ) : Type 0 where
  pub puts : Puts (session t).0 (whole old) q old new
  pub state : s ≡ (session t).1

-- the session of the text from position `start` on is carried out up to position `at`, and command i comes next
pub record Running (t : Text) (start at i : ℕ) (s : State) (q : Room) (old new : List ℕ) : Type 0 where
  pub listing : Partly (session (drop start t)).0 (session_of i s (drop at t)).0 (whole old) q old new
  pub state : (session_of i s (drop at t)).1 ≡ (session (drop start t)).1
  pub inside : at ≤ length t
  pub numbered : i ≤ at + 1

-- the same by what a writer, of which the slice was `old` at first, has written
pub record RunningBy (t : Text) (start at i : ℕ) (s : State) (old : List ℕ) (before after : Writer) : Type 0 where
  pub running : Running t start at i s (room_of after.left) old after.out.now
  pub same_slice : after.out.ghost_name ≡ before.out.ghost_name
