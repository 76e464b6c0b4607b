use Rattle.std.proofs.Common.{rules, length-append}
use Rattle.std.proofs.lemmas.Slice.Zip.{zip_turn, zip_end}
use Rattle.command_lists.specs.Said.{members_of, members_said, members_step}
use Rattle.command_lists.specs.MappedLaws.{composition_large, composition_nothing}
use Rattle.command_slices.specs.SliceLaws.{pairs_start, pairs_turn, pairs_differ, pairs_end}
use Rattle.command_slices.proofs.composition_of.Goals as goal

pub loop-m-init : goal.loop-m-init
loop-m-init c = pairs_start _ _ _ _ _ _ _ _ _ _ _ (composition_nothing _ c.none-g.ensures)

pub loop-m-preserved : goal.loop-m-preserved
unfolding members_step
loop-m-preserved c =
    let t = zip_turn c.args.members.now c.args.versions.now c.loop-m.yielded c.into_iter-m-iterator.result c.loop-m.m-iterator c.next.new.self c.next.result (search rules) (search rules) c.loop-m.yielded_by _ c.in-Some.is c.next.ensures.steps in
    pairs_turn _ _ _ _ _ _ _ _ _ _ _ _ c.loop-m.invariant _ _ _ _ (length-append _ _) t.0 t.1 (t.2 0) (t.3 0)
    (rw (← c.version_said.ensures) c.with_member-g.ensures)

pub returns-then-members-versions : goal.returns-then-members-versions
unfolding members_of members_said
returns-then-members-versions c =
    let e = zip_end c.args.members.now c.args.versions.now c.loop-m.yielded c.into_iter-m-iterator.result c.loop-m.m-iterator c.next.new.self c.next.result (search rules) (search rules) c.loop-m.yielded_by c.in-None.is c.next.ensures.steps in
    pairs_differ _ _ _ _ _ _ _ _ _ _ _ _ c.loop-m.invariant _ e c.if-members-versions.true (composition_large _ _ c.with_large.ensures)

pub returns : goal.returns
unfolding members_of members_said
returns c =
    let e = zip_end c.args.members.now c.args.versions.now c.loop-m.yielded c.into_iter-m-iterator.result c.loop-m.m-iterator c.next.new.self c.next.result (search rules) (search rules) c.loop-m.yielded_by c.in-None.is c.next.ensures.steps in
    pairs_end _ _ _ _ _ _ _ _ _ _ _ _ c.loop-m.invariant e c.if-members-versions.false
