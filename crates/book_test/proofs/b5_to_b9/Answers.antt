use Rattle.std.proofs.Common.{◌∙◌, sym}
use Rattle.model.specs.Rules.{B5_to_B9}
use Rattle.book_rules.specs.RuleLaws.{and_first, and_second}
use Rattle.book_rules.specs.TestLaws.{sound}
use Rattle.book_test.proofs.b5_to_b9.Goals as goal

pub returns-then-not-b5 : goal.returns-then-not-b5
unfolding B5_to_B9
returns-then-not-b5 c = sym c.if-not-b5.true ∙ and_first _ _ c.b5.ensures c.if-not-b5.true

pub new-requires : goal.new-requires
new-requires c = sound _ _ c.requires (sym c.b5.ensures ∙ c.if-not-b5.false)

pub returns-then-b6 : goal.returns-then-b6
unfolding B5_to_B9
returns-then-b6 c = and_second _ _ c.b5.ensures c.if-not-b5.false
    (and_second _ _ c.b6.ensures c.if-b6.true (rw c.new.ensures at c.b7_to_b9.ensures))

pub returns-else-b6 : goal.returns-else-b6
unfolding B5_to_B9
returns-else-b6 c = and_second _ _ c.b5.ensures c.if-not-b5.false (and_first _ _ c.b6.ensures c.if-b6.false)
