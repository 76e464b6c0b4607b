use Rattle.std.proofs.Common.{arith, rules}
use Rattle.std.proofs.lemmas.Result.{Ok-from_Ok_iff, OkIff-at_ok}
use Rattle.names.specs.PlaceLaws.{short_length}
use Rattle.names.specs.RowLaws.{row_is}
use Rattle.names.proofs.table.row_of.Goals as goal

pub unwrap-requires : goal.unwrap-requires
unwrap-requires c =
    let l = (short_length _ c.requires).1 in rw (Ok-from_Ok_iff _ _ _ c.try_from.ensures (omega arith)) (search rules)

pub slice_bounds-row-end : goal.slice_bounds-row-end
slice_bounds-row-end c = let l = (short_length _ c.requires).1 in omega arith

pub returns : goal.returns
returns c =
    rw c.copy_from_slice.ensures.after
    (row_is _ _ _ (OkIff-at_ok _ _ _ _ c.try_from.ensures c.unwrap.ensures).1 (short_length _ c.requires).1)
