use Rattle.std.specs.Prelude.{not}
use Rattle.std.proofs.Common.{rules, arith, ap, ◌∙◌}
use Rattle.sets.specs.LoopLaws.{all_start, all_turn, all_stop, all_end}
use Rattle.model.specs.Rules.{B9, each_composition}
use Rattle.book_rules.specs.CompositionLaws.{if_composed, of_system}
use Rattle.book_test.proofs.b9.Goals as goal

pub loop-s-init : goal.loop-s-init
loop-s-init c = (search rules, search rules, all_start _)

pub returns-then-not-b9_of_system-clause-value : goal.returns-then-not-b9_of_system-clause-value
unfolding B9 each_composition of_system if_composed
returns-then-not-b9_of_system-clause-value c = all_stop _ _ _ c.loop-s-test.true (rw c.loop-s.invariant.1 at c.b9_of_system.ensures.value)
    (ap not c.if-not-b9_of_system.true)

pub loop-s-preserved : goal.loop-s-preserved
loop-s-preserved c = (
  omega arith,
  c.b9_of_system.ensures.same_book ∙ c.loop-s.invariant.1,
  all_turn _ _ c.loop-s.invariant.2 (rw c.loop-s.invariant.1 at c.b9_of_system.ensures.value) (ap not c.if-not-b9_of_system.false),
)

pub returns-clause-value : goal.returns-clause-value
unfolding B9 each_composition of_system if_composed
returns-clause-value c = all_end _ _ _ c.loop-s.invariant.0 (omega arith) c.loop-s.invariant.2
