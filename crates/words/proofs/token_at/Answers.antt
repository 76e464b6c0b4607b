use Rattle.std.proofs.Common.{rules}
use Rattle.words.specs.TokenLaws.{token_word, token_mark, token_quoted, token_bad}
use Rattle.words.proofs.token_at.Goals as goal

pub returns-then-is_alnum : goal.returns-then-is_alnum
returns-then-is_alnum c = search (rules, token_word)

pub returns-then-is_mark : goal.returns-then-is_mark
returns-then-is_mark c = search (rules, token_mark)

pub returns-then-c-eq34 : goal.returns-then-c-eq34
returns-then-c-eq34 c = search (rules, token_quoted)

pub returns : goal.returns
returns c = search (rules, token_bad)
