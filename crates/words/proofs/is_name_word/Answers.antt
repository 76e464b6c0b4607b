use Rattle.std.proofs.Common.{rules}
use Rattle.words.specs.NameLaws.{word_long, word_unless}
use Rattle.words.specs.TokenLaws.{short_in}
use Rattle.words.proofs.is_name_word.Goals as goal

pub keyword_of-requires : goal.keyword_of-requires
keyword_of-requires c = search (rules, short_in)

pub returns-then-word-le32 : goal.returns-then-word-le32
returns-then-word-le32 c = search (rules, word_unless)

pub returns-else-word-le32 : goal.returns-else-word-le32
returns-else-word-le32 c = search (rules, word_long)
