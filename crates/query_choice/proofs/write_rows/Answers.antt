use Rattle.std.proofs.Common.{rules, arith, length-drop, length-take}
use Rattle.query_choice.specs.ListedLaws.{rows_end, rows_length, rows_low, rows_room, rows_start, rows_turn}
use Rattle.query_choice.proofs.write_rows.Goals as goal

pub loop-c-init : goal.loop-c-init
loop-c-init c = (search rules, rows_start _ _)

pub offset_bounds-out-at : goal.offset_bounds-out-at
offset_bounds-out-at c = let l = rows_low _ _ _ _ _ c.loop-c.invariant.1 in omega arith

pub slice_bounds-write_versions-count : goal.slice_bounds-write_versions-count
slice_bounds-write_versions-count c =
    let l = rows_room _ _ c.requires _ _ _ c.loop-c.invariant.1 c.loop-c-test.true in
    omega arith

pub slice_bounds-write_versions-start : goal.slice_bounds-write_versions-start
slice_bounds-write_versions-start c =
    let l = rows_room _ _ c.requires _ _ _ c.loop-c.invariant.1 c.loop-c-test.true in
    omega arith

pub write_versions-at-requires-clause-c_bound : goal.write_versions-at-requires-clause-c_bound
write_versions-at-requires-clause-c_bound c =
    let low = c.loop-c-test.true in
    low

pub write_versions-at-requires-clause-versions_in_bounds : goal.write_versions-at-requires-clause-versions_in_bounds
write_versions-at-requires-clause-versions_in_bounds c =
    let low = c.loop-c-test.true in
    let l = rows_room _ _ c.requires _ _ _ c.loop-c.invariant.1 low in
    simp (length-take, length-drop) (omega arith)

pub overflow_add-at : goal.overflow_add-at
overflow_add-at c =
    let l = rows_low _ _ _ _ _ (rows_turn _ _ c.requires _ _ _ c.loop-c.invariant.1 _
    c.write_versions-at.ensures.value c.write_versions-at.ensures.out_after) in
    omega arith

pub loop-c-preserved : goal.loop-c-preserved
loop-c-preserved c =
    let wrote = c.write_versions-at in
    (omega arith, rows_turn _ _ c.requires _ _ _ c.loop-c.invariant.1 _ wrote.ensures.value wrote.ensures.out_after)

pub shape_of-out : goal.shape_of-out
shape_of-out c = rows_length _ _ c.requires _ _ _ c.loop-c.invariant.1 c.loop-c.invariant.0

pub returns : goal.returns
returns c = rows_end _ _ _ _ _ c.loop-c.invariant.0 c.loop-c-test.false c.loop-c.invariant.1
