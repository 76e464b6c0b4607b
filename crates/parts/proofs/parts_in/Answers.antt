use Rattle.std.proofs.Common.{rules}
use Rattle.parts.specs.RowLaws.{rows_within}
use Rattle.parts.specs.ListedLaws.{asked_is, list, refuse, refuse_22, stored}
use Rattle.parts.proofs.parts_in.Goals as goal

pub returns-in_err-asked_of_pair : goal.returns-in_err-asked_of_pair
returns-in_err-asked_of_pair c =
    refuse _ _ _ _ _ c.args.passing.passes _ _ _ (asked_is _ _ _ (search rules)) (search rules) (search rules) (search rules)

pub rows_of-found-requires : goal.rows_of-found-requires
rows_of-found-requires c = stored _ _ _ c.in_ok-asked_of_pair.ensures

pub returns-then-out-found : goal.returns-then-out-found
returns-then-out-found c =
    refuse_22 _ _ _ _ _ c.args.passing.passes (asked_is _ _ _ c.in_ok-asked_of_pair.ensures) _ _ c.rows_of-found.ensures c.if-out-found.true

pub returns : goal.returns
returns c =
    list _ _ _ _ _ c.args.passing.passes (asked_is _ _ _ c.in_ok-asked_of_pair.ensures) _ _ c.rows_of-found.ensures _ _ c.if-out-found.false
    c.write_rows.ensures c.most_depth.ensures
