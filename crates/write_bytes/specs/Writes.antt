-- What a writer does with the slice that it is lent.
use Rattle.std.specs.Prelude.{⊤, true, ◌≡◌, ℕ}
use Rattle.std.specs.Borrow.{MutBor}
use Rattle.sets.specs.Sets.{Set}
use Rattle.text.specs.Bytes.{Text}
use Rattle.write_bytes.specs.Room.{Puts, room_of}
use Rattle.write_bytes.specs.declared.writer.Writer.{Writer}

-- the writer puts the text w into the room of its slice, which it keeps
pub record Writes (w : Text) (before after : Writer) : Type 0 where
  pub puts : Puts w (room_of before.left) (room_of after.left) before.out.now after.out.now
  pub same_slice : after.out.ghost_name ≡ before.out.ghost_name

-- each call of a function puts the text w
abbrev pub PutsText : (MutBor Writer → ⊤ → MutBor Writer → Type 0) → Text → Type 0
PutsText post w = (a b : MutBor Writer) → post a tt b → Writes w a.now b.now

-- each call of a function with a number of the set puts the text that f has for the number
abbrev pub PutsEach : (MutBor Writer → ℕ → ⊤ → MutBor Writer → Type 0) → Set → (ℕ → Text) → Type 0
PutsEach post s f = (a b : MutBor Writer) (k : ℕ) → s k ≡ true → post a k tt b → Writes (f k) a.now b.now
