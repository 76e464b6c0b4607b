-- The names of deletions and queries, which are parts of the text.
use Rattle.std.specs.Prelude.{true, ◌≡◌}
use Rattle.text.specs.Bytes.{Text, short}
use Rattle.text.specs.Language.{Name, Said}
use Rattle.read_command.specs.declared.Pair.{Pair}

-- the command is f of the name w
pub record OneSaid (f : Name → Said) (w : Text) (x : Said) : Type 0 where
  pub is : x ≡ f w
  pub fits : short w ≡ true

-- the command is f of two names
pub record PairSaid (f : Name → Name → Said) (r : Pair) (x : Said) : Type 0 where
  pub is : x ≡ f r.component.now r.version.now
  pub component_fits : short r.component.now ≡ true
  pub version_fits : short r.version.now ≡ true
