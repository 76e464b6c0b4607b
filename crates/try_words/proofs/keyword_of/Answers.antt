use Rattle.std.proofs.Common.{rules}
use Rattle.words.specs.TokenLaws.{short_in}
use Rattle.try_words.proofs.keyword_of.Goals as goal

pub keyword_of-requires : goal.keyword_of-requires
keyword_of-requires c = search (rules, short_in)
