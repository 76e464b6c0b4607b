use Rattle.std.proofs.Common.{refl}
use Rattle.read_tokens.specs.TokenLaws.{imp_yes}
use Rattle.read_tokens.proofs.reader.Reader.imp.Goals as goal

pub returns : goal.returns
returns c = rw c.part.ensures (imp_yes _ _ _ c.next_token.ensures _ c.in_ok-start.was _ _ c.in-Quoted.is, refl)
