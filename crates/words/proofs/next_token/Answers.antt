use Rattle.std.proofs.Common.{rules}
use Rattle.words.specs.TokenLaws.{next_open, next_end, next_at}
use Rattle.words.proofs.next_token.Goals as goal

pub returns-in_err-i : goal.returns-in_err-i
returns-in_err-i c = search (rules, next_open)

pub returns-then-text-i : goal.returns-then-text-i
returns-then-text-i c = search (rules, next_end)

pub returns : goal.returns
returns c = search (rules, next_at)
