use Rattle.std.proofs.Common.{rules, length, length-append}
use Rattle.std.proofs.lemmas.Slice.Zip.{zip_turn, zip_end}
use Rattle.command_lists.specs.Said.{facilities_said, requirements_said, sets_of, sets_step}
use Rattle.command_lists.specs.MappedLaws.{sets_large, sets_nothing}
use Rattle.command_slices.specs.SliceLaws.{pairs_start, pairs_turn, pairs_differ, pairs_end, said_below, said_set}
use Rattle.command_slices.proofs.sets_of.Goals as goal

pub loop-v-init : goal.loop-v-init
loop-v-init c = pairs_start _ _ _ _ _ _ _ _ _ _ _ (sets_nothing _ c.none-g.ensures)

pub loop-v-preserved : goal.loop-v-preserved
unfolding sets_step
loop-v-preserved c =
    let t = zip_turn c.args.versions.now c.args.required.now c.loop-v.yielded c.into_iter-v-iterator.result c.loop-v.v-iterator c.next.new.self c.next.result (search rules) (search rules) c.loop-v.yielded_by _ c.in-Some.is c.next.ensures.steps in
    pairs_turn _ _ _ _ _ _ _ _ _ _ _ _ c.loop-v.invariant _ _ _ _ (length-append _ _) t.0 t.1 (t.2 0) (t.3 0) (c.with_set-g.ensures (facilities_said _) (said_below _) (said_set _ (rw (t.3 0) (c.type_inv.required (length c.loop-v.yielded)).fits)))

pub returns-then-versions-required : goal.returns-then-versions-required
unfolding sets_of requirements_said
returns-then-versions-required c =
    let e = zip_end c.args.versions.now c.args.required.now c.loop-v.yielded c.into_iter-v-iterator.result c.loop-v.v-iterator c.next.new.self c.next.result (search rules) (search rules) c.loop-v.yielded_by c.in-None.is c.next.ensures.steps in
    pairs_differ _ _ _ _ _ _ _ _ _ _ _ _ c.loop-v.invariant _ e c.if-versions-required.true (sets_large _ _ c.with_large.ensures)

pub returns : goal.returns
unfolding sets_of requirements_said
returns c =
    let e = zip_end c.args.versions.now c.args.required.now c.loop-v.yielded c.into_iter-v-iterator.result c.loop-v.v-iterator c.next.new.self c.next.result (search rules) (search rules) c.loop-v.yielded_by c.in-None.is c.next.ensures.steps in
    pairs_end _ _ _ _ _ _ _ _ _ _ _ _ c.loop-v.invariant e c.if-versions-required.false
