use Rattle.std.proofs.Common.{rules, arith, refl, length, length-append}
use Rattle.std.proofs.lemmas.Slice.Zip.{zip_turn, zip_end}
use Rattle.command_lists.specs.MappedLaws.{compositions_large, compositions_nothing}
use Rattle.command_slices.specs.SliceLaws.{compositions_start, compositions_turn, compositions_end}
use Rattle.command_slices.specs.SliceLaws.{few_members, few_versions, lengths_differ, members_left, versions_left}
use Rattle.command_slices.proofs.compositions_of.Goals as goal

pub loop-v-init : goal.loop-v-init
loop-v-init c = (search rules, search rules, compositions_start _ _ _ _ _ (compositions_nothing _ c.none-g.ensures))

pub returns-then-members-a : goal.returns-then-members-a
returns-then-members-a c =
    let t = zip_turn c.args.versions.now c.args.lengths.now c.loop-v.yielded c.into_iter-v-iterator.result c.loop-v.v-iterator c.next.new.self c.next.result (search rules) (search rules) c.loop-v.yielded_by _ c.in-Some.is c.next.ensures.steps in
    few_members c.args.versions.now c.args.lengths.now c.args.members.now c.args.chosen.now (length c.loop-v.yielded) c.loop-v.a _ c.loop-v.invariant.2 _ _ t.0 t.1 (t.2 0) (t.3 0) _ c.if-members-a.true (compositions_large _ _ c.with_large.ensures)

pub returns-then-chosen-a : goal.returns-then-chosen-a
returns-then-chosen-a c =
    let t = zip_turn c.args.versions.now c.args.lengths.now c.loop-v.yielded c.into_iter-v-iterator.result c.loop-v.v-iterator c.next.new.self c.next.result (search rules) (search rules) c.loop-v.yielded_by _ c.in-Some.is c.next.ensures.steps in
    few_versions c.args.versions.now c.args.lengths.now c.args.members.now c.args.chosen.now (length c.loop-v.yielded) c.loop-v.a _ c.loop-v.invariant.2 _ _ t.0 t.1 (t.2 0) (t.3 0) _ c.if-chosen-a.true (compositions_large _ _ c.with_large-then-chosen-a.ensures)

pub loop-v-preserved : goal.loop-v-preserved
loop-v-preserved c =
    let t = zip_turn c.args.versions.now c.args.lengths.now c.loop-v.yielded c.into_iter-v-iterator.result c.loop-v.v-iterator c.next.new.self c.next.result (search rules) (search rules) c.loop-v.yielded_by _ c.in-Some.is c.next.ensures.steps in (
      omega (arith, c.loop-v.invariant.0, c.if-members-a.false),
      omega (arith, c.loop-v.invariant.1, c.if-chosen-a.false),
      compositions_turn c.args.versions.now c.args.lengths.now c.args.members.now c.args.chosen.now (length c.loop-v.yielded) c.loop-v.a _ c.loop-v.invariant.2 _ _ t.0 t.1 (t.2 0) (t.3 0) _ _ _ (length-append _ _) c.if-members-a.false c.if-chosen-a.false refl (c.add_composition.ensures _ c.composition_at-k.ensures),
    )

pub returns-then-versions-lengths : goal.returns-then-versions-lengths
returns-then-versions-lengths c =
    let e = zip_end c.args.versions.now c.args.lengths.now c.loop-v.yielded c.into_iter-v-iterator.result c.loop-v.v-iterator c.next.new.self c.next.result (search rules) (search rules) c.loop-v.yielded_by c.in-None.is c.next.ensures.steps in
    lengths_differ c.args.versions.now c.args.lengths.now c.args.members.now c.args.chosen.now (length c.loop-v.yielded) c.loop-v.a _ c.loop-v.invariant.2 _ e c.if-versions-lengths.true (compositions_large _ _ c.with_large-then-versions-lengths.ensures)

pub returns-then-a-members : goal.returns-then-a-members
returns-then-a-members c =
    let e = zip_end c.args.versions.now c.args.lengths.now c.loop-v.yielded c.into_iter-v-iterator.result c.loop-v.v-iterator c.next.new.self c.next.result (search rules) (search rules) c.loop-v.yielded_by c.in-None.is c.next.ensures.steps in
    members_left c.args.versions.now c.args.lengths.now c.args.members.now c.args.chosen.now (length c.loop-v.yielded) c.loop-v.a _ c.loop-v.invariant.2 e c.if-versions-lengths.false _ c.if-a-members.true (compositions_large _ _ c.with_large-then-a-members.ensures)

pub returns-then-a-chosen : goal.returns-then-a-chosen
returns-then-a-chosen c =
    let e = zip_end c.args.versions.now c.args.lengths.now c.loop-v.yielded c.into_iter-v-iterator.result c.loop-v.v-iterator c.next.new.self c.next.result (search rules) (search rules) c.loop-v.yielded_by c.in-None.is c.next.ensures.steps in
    versions_left c.args.versions.now c.args.lengths.now c.args.members.now c.args.chosen.now (length c.loop-v.yielded) c.loop-v.a _ c.loop-v.invariant.2 e c.if-versions-lengths.false _ c.if-a-members.false c.if-a-chosen.true (compositions_large _ _ c.with_large-then-a-chosen.ensures)

pub returns : goal.returns
returns c =
    let e = zip_end c.args.versions.now c.args.lengths.now c.loop-v.yielded c.into_iter-v-iterator.result c.loop-v.v-iterator c.next.new.self c.next.result (search rules) (search rules) c.loop-v.yielded_by c.in-None.is c.next.ensures.steps in
    compositions_end c.args.versions.now c.args.lengths.now c.args.members.now c.args.chosen.now (length c.loop-v.yielded) c.loop-v.a _ c.loop-v.invariant.2 e c.if-versions-lengths.false c.if-a-members.false c.if-a-chosen.false
