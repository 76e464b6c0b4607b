use Rattle.std.specs.Prelude.{not}
use Rattle.std.proofs.Common.{rules, arith, ap, ◌∙◌, sym}
use Rattle.book_rules.specs.CompositionLaws.{apart_start, apart-skip, apart_turn, apart_stop, apart_end}
use Rattle.book_rules.specs.RuleLaws.{provided_more, provided_same}
use Rattle.book_rules.specs.WalkLaws.{is_member_lem}
use Rattle.book.specs.ReadLaws.{spec_limits_lem}
use Rattle.sets.specs.Sets.{Set, bit}
use Rattle.sets.specs.LoopLaws.{union_start}
use Rattle.book_compositions.proofs.b6_at.Goals as goal
use Rattle.book_compositions.proofs.b6_at.Goals.{else-member, then-member+else-not-disjoint}

pub loop-m-init : goal.loop-m-init
loop-m-init c = (search rules, union_start _, apart_start _ _ _ _)

pub returns-then-not-disjoint : goal.returns-then-not-disjoint
returns-then-not-disjoint c =
    apart_stop _ _ _ _ _ _ _ c.loop-m.invariant.1 c.provides-provided.ensures c.disjoint.ensures (spec_limits_lem _ _).provided<
    c.loop-m-test.true (is_member_lem _ _ _ _ _ c.members-members.ensures c.member.ensures c.if-member.true)
    (ap not c.if-not-disjoint.true)

pub loop-m-preserved : goal.loop-m-preserved
loop-m-preserved c =
    let seen = c.loop-m.invariant.1 in
    let member = c.member.ensures ∙ ap (λ (a : Set). a c.loop-m.m) c.members-members.ensures in (
      omega arith,
      elim c.if-member.branch [
        | then-member+else-not-disjoint w ↦ ap bit w.seen-is ∙ provided_more _ _ _ _ seen member _ _ w.if-member.true
            w.provides-provided.ensures w.union-seen.ensures
        | else-member w ↦ ap bit w.seen-is ∙ provided_same _ _ _ _ seen member w.if-member.false
      ],
      elim c.if-member.branch [
        | then-member+else-not-disjoint w ↦ apart_turn _ _ _ _ _ _ _ seen w.provides-provided.ensures w.disjoint.ensures
            (spec_limits_lem _ _).provided< c.loop-m.invariant.2 (ap not w.if-not-disjoint.false)
        | else-member w ↦ apart-skip _ _ _ _ _ c.loop-m.invariant.2 (sym member ∙ w.if-member.false)
      ],
    )

pub returns : goal.returns
returns c = apart_end _ _ _ _ _ c.loop-m-test.false c.loop-m.invariant.2
