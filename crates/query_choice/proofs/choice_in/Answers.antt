use Rattle.query_choice.specs.ChoiceLaws.{choice_0, choice_22}
use Rattle.query_choice.proofs.choice_in.Goals as goal

pub returns-then-out-rows : goal.returns-then-out-rows
returns-then-out-rows c =
    choice_22 _ _ _ _ c.args.passing.passes c.ranges.wanted.fits _ c.chosen_rows-chosen.ensures _
    c.count_rows-rows.ensures c.if-out-rows.true

pub returns : goal.returns
returns c =
    choice_0 _ _ _ _ c.args.passing.passes c.ranges.wanted.fits _ c.chosen_rows-chosen.ensures _
    c.count_rows-rows.ensures c.if-out-rows.false
    c.write_rows.ensures
