use Rattle.std.proofs.Common.{rules, length-append}
use Rattle.std.proofs.lemmas.Slice.Zip.{zip_turn, zip_end}
use Rattle.command_lists.specs.Said.{implementations_said, itself, numbers_of, numbers_step}
use Rattle.command_lists.specs.MappedLaws.{numbers_large, numbers_nothing}
use Rattle.command_slices.specs.SliceLaws.{pairs_start, pairs_turn, pairs_differ, pairs_end}
use Rattle.command_slices.proofs.numbers_of.Goals as goal

pub loop-v-init : goal.loop-v-init
loop-v-init c = pairs_start _ _ _ _ _ _ _ _ _ _ _ (numbers_nothing _ c.none-g.ensures)

pub loop-v-preserved : goal.loop-v-preserved
unfolding numbers_step itself
loop-v-preserved c =
    let t = zip_turn c.args.versions.now c.args.implementations.now c.loop-v.yielded c.into_iter-v-iterator.result c.loop-v.v-iterator c.next.new.self c.next.result (search rules) (search rules) c.loop-v.yielded_by _ c.in-Some.is c.next.ensures.steps in
    pairs_turn _ _ _ _ _ _ _ _ _ _ _ _ c.loop-v.invariant _ _ _ _ (length-append _ _) t.0 t.1 (t.2 0) (t.3 0) c.with_number-g.ensures

pub returns-then-versions-implementations : goal.returns-then-versions-implementations
unfolding numbers_of implementations_said
returns-then-versions-implementations c =
    let e = zip_end c.args.versions.now c.args.implementations.now c.loop-v.yielded c.into_iter-v-iterator.result c.loop-v.v-iterator c.next.new.self c.next.result (search rules) (search rules) c.loop-v.yielded_by c.in-None.is c.next.ensures.steps in
    pairs_differ _ _ _ _ _ _ _ _ _ _ _ _ c.loop-v.invariant _ e c.if-versions-implementations.true (numbers_large _ _ c.with_large.ensures)

pub returns : goal.returns
unfolding numbers_of implementations_said
returns c =
    let e = zip_end c.args.versions.now c.args.implementations.now c.loop-v.yielded c.into_iter-v-iterator.result c.loop-v.v-iterator c.next.new.self c.next.result (search rules) (search rules) c.loop-v.yielded_by c.in-None.is c.next.ensures.steps in
    pairs_end _ _ _ _ _ _ _ _ _ _ _ _ c.loop-v.invariant e c.if-versions-implementations.false
