use Rattle.std.proofs.Common.{rules}
use Rattle.words.specs.WordLaws.{ends_over, ends_none, ends_word}
use Rattle.words.proofs.word_end.Goals as goal

pub returns-then-is_alnum : goal.returns-then-is_alnum
returns-then-is_alnum c = search (rules, ends_word)

pub returns-else-at-text : goal.returns-else-at-text
returns-else-at-text c = search (rules, ends_over, ends_none)
