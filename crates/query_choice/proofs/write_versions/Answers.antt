use Rattle.std.proofs.Common.{rules, arith, ◌<◌, ◌∙◌, ap}
use Rattle.query_replies.specs.Listed.{row_of}
use Rattle.query_choice.specs.ListedLaws.{write_end, write_hit, write_length, write_low, write_miss, write_none, write_room, write_start}
use Rattle.sets.specs.SetLaws.{bit_zero}
use Rattle.sets.specs.Sets.{bit}
use Rattle.query_choice.proofs.write_versions.Goals as goal
use Rattle.query_choice.proofs.write_versions.Goals.{else-member, then-member}

pub returns-then-versions-eq0-clause-value : goal.returns-then-versions-eq0-clause-value
returns-then-versions-eq0-clause-value c =
    let w = write_none (λ n. row_of (c.args.c, n)) (bit c.args.versions) c.args.out.now 64 (λ d. ap (λ s. bit s d) c.if-versions-eq0.true ∙ bit_zero d) in
    w.at

pub returns-then-versions-eq0-clause-out_after : goal.returns-then-versions-eq0-clause-out_after
returns-then-versions-eq0-clause-out_after c =
    let w = write_none (λ n. row_of (c.args.c, n)) (bit c.args.versions) c.args.out.now 64 (λ d. ap (λ s. bit s d) c.if-versions-eq0.true ∙ bit_zero d) in
    w.is

pub loop-v-init : goal.loop-v-init
loop-v-init c = (search rules, write_start _ _ _ 64 c.requires.versions_in_bounds)

pub offset_bounds-out-at : goal.offset_bounds-out-at
offset_bounds-out-at c = let l = write_low _ _ _ _ _ _ c.loop-v.invariant.1 in omega arith

pub bounds-out-at : goal.bounds-out-at
bounds-out-at c =
    let low : c.loop-v.v < 64 = omega (arith, c.loop-v-test.true) in
    write_room _ _ _ _ c.requires.versions_in_bounds _ _ _ low c.loop-v.invariant.1 c.member.ensures
    c.if-member.true

pub overflow_add-at : goal.overflow_add-at
overflow_add-at c = let l = write_low _ _ _ _ _ _ c.loop-v.invariant.1 in omega arith

pub loop-v-preserved : goal.loop-v-preserved
loop-v-preserved c =
    let fits = c.requires.versions_in_bounds in
    let low : c.loop-v.v < 64 = omega (arith, c.loop-v-test.true) in
    let so_far = c.loop-v.invariant.1 in
    let tested = c.member.ensures in (
      omega arith,
      elim c.if-member.branch [ then-member w ↦ write_hit _ _ _ _ fits _ _ _ low so_far tested _ w.if-member.true w.row.ensures w.at-is w.out-is | else-member w ↦ write_miss _ _ _ _ fits _ _ _ low so_far tested w.if-member.false w.at-is w.out-is ],
    )

pub shape_of-out : goal.shape_of-out
shape_of-out c = write_length _ _ _ _ c.requires.versions_in_bounds _ _ _ c.loop-v.invariant.0 c.loop-v.invariant.1

pub returns-clause-value : goal.returns-clause-value
returns-clause-value c =
    let w = write_end _ _ _ 64 c.requires.versions_in_bounds _ _ _ c.loop-v.invariant.0 c.loop-v-test.false c.loop-v.invariant.1 in
    w.at

pub returns-clause-out_after : goal.returns-clause-out_after
returns-clause-out_after c =
    let w = write_end _ _ _ 64 c.requires.versions_in_bounds _ _ _ c.loop-v.invariant.0 c.loop-v-test.false c.loop-v.invariant.1 in
    w.is
