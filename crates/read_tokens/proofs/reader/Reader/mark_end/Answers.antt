use Rattle.read_tokens.specs.TokenLaws.{mark_yes}
use Rattle.read_tokens.proofs.reader.Reader.mark_end.Goals as goal

pub returns : goal.returns
returns c = mark_yes _ _ _ c.next_token.ensures _ c.in_ok-d.was _ _ _ c.in-Mark.is c.if-d-c.false
