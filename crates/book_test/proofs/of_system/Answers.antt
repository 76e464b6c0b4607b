use Rattle.std.proofs.Common.{rules, sym, ◌∙◌}
use Rattle.book_rules.specs.CompositionLaws.{if_composed, of_system}
use Rattle.book_rules.specs.TestLaws.{no_system_passes, composed_test, composed_skip}
use Rattle.book_test.proofs.of_system.Goals as goal

pub returns-then-not-is_system : goal.returns-then-not-is_system
returns-then-not-is_system g c = λ t h. no_system_passes _ t _ c.is_system.ensures c.if-not-is_system.true

pub returns : goal.returns
unfolding of_system
returns g c = λ t h.
    let system = sym c.is_system.ensures ∙ c.if-not-is_system.false in
    c.all.ensures (if_composed _ t c.args.s) (λ v r l p. search (rules, composed_test, composed_skip))
