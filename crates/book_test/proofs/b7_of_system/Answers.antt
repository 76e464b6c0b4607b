use Rattle.std.specs.Prelude.{not}
use Rattle.std.proofs.Common.{rules, arith, ap, refl, sym, ◌∙◌}
use Rattle.sets.specs.LoopLaws.{all_start, all_turn, all_stop, all_end}
use Rattle.book_needs.specs.declared.needs.Needs.{Needs}
use Rattle.book_rules.specs.CompositionLaws.{of_system}
use Rattle.book_rules.specs.TestLaws.{no_system_passes, composed_test, composed_skip}
use Rattle.book_test.proofs.b7_of_system.Goals as goal
use Rattle.book_test.proofs.b7_of_system.Goals.{else-member-via-then-member+else-not-b7_at, else-member-via-else-member}

pub returns-then-not-is_system-clause-value : goal.returns-then-not-is_system-clause-value
returns-then-not-is_system-clause-value c = no_system_passes _ _ _ c.is_system.ensures c.if-not-is_system.true

pub loop-v-init : goal.loop-v-init
loop-v-init c = (search rules, search rules, all_start _)

pub returns-then-not-b7_at-clause-value : goal.returns-then-not-b7_at-clause-value
unfolding of_system
returns-then-not-b7_at-clause-value c = all_stop _ _ _ c.loop-v-test.true
    (composed_test _ _ _ _ _ _ (sym c.is_system.ensures ∙ c.if-not-is_system.false) c.versions-versions.ensures c.member.ensures
    c.if-member.true (rw c.loop-v.invariant.1 at c.b7_at.ensures.value)) (ap not c.if-not-b7_at.true)

pub loop-v-preserved : goal.loop-v-preserved
loop-v-preserved c = (
  omega arith,
  elim c.else-member.branch [
    | else-member-via-then-member+else-not-b7_at w ↦ ap (λ (s : Needs). s.book.now) w.needs-is
        ∙ w.b7_at.ensures.same_book ∙ c.loop-v.invariant.1
    | else-member-via-else-member w ↦ ap (λ (s : Needs). s.book.now) w.needs-is ∙ c.loop-v.invariant.1
  ],
  elim c.else-member.branch [
    | else-member-via-then-member+else-not-b7_at w ↦ all_turn _ _ c.loop-v.invariant.2
        (composed_test _ _ _ _ _ _ (sym c.is_system.ensures ∙ c.if-not-is_system.false) c.versions-versions.ensures c.member.ensures
        w.if-member.true (rw c.loop-v.invariant.1 at w.b7_at.ensures.value)) (ap not w.if-not-b7_at.false)
    | else-member-via-else-member w ↦ all_turn _ _ c.loop-v.invariant.2
        (composed_skip _ _ _ _ _ _ (sym c.is_system.ensures ∙ c.if-not-is_system.false) c.versions-versions.ensures c.member.ensures
        w.if-member.false) refl
  ],
)

pub returns-clause-value : goal.returns-clause-value
unfolding of_system
returns-clause-value c = all_end _ _ _ c.loop-v.invariant.0 (omega arith) c.loop-v.invariant.2
