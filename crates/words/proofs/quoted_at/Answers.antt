use Rattle.std.proofs.Common.{rules}
use Rattle.words.specs.TokenLaws.{quoted_cut, quoted_open, quoted_none, quoted_long, quoted_yes}
use Rattle.words.proofs.quoted_at.Goals as goal

pub returns-then-end-at-le32 : goal.returns-then-end-at-le32
returns-then-end-at-le32 c = search (rules, quoted_yes)

pub returns-else-end-text : goal.returns-else-end-text
returns-else-end-text c = search (rules, quoted_cut, quoted_open, quoted_none, quoted_long)
