use Rattle.std.proofs.Common.{rules}
use Rattle.words.specs.WordLaws.{word_inside, word_cut}
use Rattle.words.proofs.word.Goals as goal

pub slice_bounds-result-end : goal.slice_bounds-result-end
slice_bounds-result-end c = search (rules, word_inside)

pub returns : goal.returns
returns c = search (rules, word_cut)
