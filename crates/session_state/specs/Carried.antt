-- A command that was carried out in the state s, which left the state s'.
use Rattle.std.specs.Prelude.{List, ◌≡◌, ℕ}
use Rattle.write_bytes.specs.Room.{Puts, Room, room_of}
use Rattle.write_bytes.specs.declared.writer.Writer.{Writer}
use Rattle.text.specs.Language.{Said}
use Rattle.text.specs.Session.{State, afterwards, carry, decided, lines}

-- one of the ten commands: a is its answer; refused, nothing is changed
pub record Decides (s s' : State) (a : ℕ) (x : Said) : Type 0 where
  pub is : carry s x ≡ decided a s'
  pub refused : (a ≡ 0 → ⊥) → s' ≡ s

-- any command, the i-th of a session: its rows are put into the slice `old`, which has the room p and then is `new` with the room q
pub record Carried (i : ℕ) (s s' : State) (p q : Room) (old new : List ℕ) (x : Said) : Type 0 where
  pub rows : Puts (lines i (carry s x)) p q old new
  pub state : s' ≡ afterwards s (carry s x)

-- the same of a writer, which keeps its slice
pub record CarriedBy (i : ℕ) (s s' : State) (w w' : Writer) (x : Said) : Type 0 where
  pub carried : Carried i s s' (room_of w.left) (room_of w'.left) w.out.now w'.out.now x
  pub same_slice : w'.out.ghost_name ≡ w.out.ghost_name
