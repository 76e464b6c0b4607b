-- One step of a session: the next command, number i, is read and carried out.
use Rattle.std.specs.Prelude.{Bool, None, Option, Some, false, true, List, ◌++◌, ◌≡◌, ◌<◌, ◌≤◌, suc, ℕ, drop, length}
use Rattle.std.proofs.Math.Option.{none}
use Rattle.read_tokens.specs.Readers.{Got}
use Rattle.read_tokens.specs.declared.reader.Reader.{Reader}
use Rattle.write_bytes.specs.Room.{Puts, Room, room_of}
use Rattle.write_bytes.specs.declared.writer.Writer.{Writer}
use Rattle.session_state.specs.Carried.{Carried}
use Rattle.text.specs.Bytes.{Text}
use Rattle.text.specs.Language.{Reader as Production, Said}
use Rattle.text.specs.Session.{State, decimal, row, session_from}

-- the session of the text t, in the state s and with command number i
unfoldable pub session_of : ℕ → State → Text → Text × State
session_of i s t = session_from (length t) i s t

-- The command that the production k reads from position `at` on: if there is one, up to e, it is carried out; if not, the row says 23,
-- nothing is changed, and e is 0.
pub record Behind (k : Production Said) (i : ℕ) (t : Text) (at : ℕ) (s s' : State) (p q : Room) (old new : List ℕ) (more : Bool) (e : ℕ)
    : Type 0 where
  pub read : more ≡ true → Got k (Carried i s s' p q old new) t at e
  pub unread : more ≡ false → k (drop at t) ≡ none
  pub refused : more ≡ false → Puts (row i (decimal 23)) p q old new
  pub unchanged : more ≡ false → s' ≡ s
  pub stops : more ≡ false → e ≡ 0

-- The whole step, on the text t, the rest after the commands before: s' is the state afterwards; `rows` are put. If there is more, the
-- session goes on behind the first e bytes; if not, e is 0.
pub record Stepped (i : ℕ) (t : Text) (s s' : State) (p q : Room) (old new : List ℕ) (more : Bool) (e : ℕ) : Type 0 where
  pub rows : Text
  pub puts : Puts rows p q old new
  pub goes_on : more ≡ true → session_of i s t ≡ (rows ++ (session_of (suc i) s' (drop e t)).0, (session_of (suc i) s' (drop e t)).1)
  pub onward : more ≡ true → 0 < e
  pub inside : more ≡ true → e ≤ length t
  pub ends : more ≡ false → session_of i s t ≡ (rows, s')
  pub stops : more ≡ false → e ≡ 0

-- whether a session goes on, by the position that a step gives
abbrev pub more : Option ℕ → Bool
more (Some e) = true
more None = false

-- and where
abbrev pub end : Option ℕ → ℕ
end (Some e) = e
end None = 0

-- a command read from where the reader r stands, and a step, by the writer and the position that is given
pub record BehindOf (k : Production Said) (i : ℕ) (r : Reader) (s s' : State) (w w' : Writer) (e : Option ℕ) : Type 0 where
  pub behind : Behind k i r.text.now r.at s s' (room_of w.left) (room_of w'.left) w.out.now w'.out.now (more e) (end e)
  pub same_slice : w'.out.ghost_name ≡ w.out.ghost_name

pub record StepOf (i : ℕ) (t : Text) (s s' : State) (w w' : Writer) (e : Option ℕ) : Type 0 where
  pub stepped : Stepped i t s s' (room_of w.left) (room_of w'.left) w.out.now w'.out.now (more e) (end e)
  pub same_slice : w'.out.ghost_name ≡ w.out.ghost_name
