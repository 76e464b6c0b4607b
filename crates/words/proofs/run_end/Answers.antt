use Rattle.std.proofs.Common.{◌∙◌, ◌-◌, drop, length, rules, take, tests}
use Rattle.std.proofs.lemmas.Iterator.{YieldsList-from_slice}
use Rattle.std.proofs.lemmas.Iterator.Consumers.{count_from_yields_List}
use Rattle.std.proofs.lemmas.Iterator.Search.{YieldsList-from_take_while}
use Rattle.std.proofs.lemmas.List.Folds.{length-prefix_len}
use Rattle.words.specs.Reading.{in_run}
use Rattle.words.specs.RunLaws.{run_counted}
use Rattle.words.proofs.run_end.Goals as goal

pub returns : goal.returns
returns c =
    let rest = take (length c.args.text.now - c.args.at) (drop c.args.at c.args.text.now) in
    let passing = in_run c.args.quoted in
    let taken = c.take_while.ensures in
    let count = count_from_yields_List c.take_while.result _ c.count.ensures.ran
    (YieldsList-from_take_while _ passing (YieldsList-from_slice rest (cc)) taken.closure taken.done (λ x b q k. search (rules, tests))) in
    run_counted _ _ _ _ c.requires (count ∙ length-prefix_len passing rest)
