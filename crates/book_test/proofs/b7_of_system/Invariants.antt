use Rattle.std.proofs.Common.{◌≤◌, ◌≡◌, true}
use Rattle.sets.specs.Tests.{all}
use Rattle.book.specs.Plain.{plain}
use Rattle.book_rules.specs.CompositionLaws.{if_composed}
use Rattle.model.specs.Rules.{B7_at}
use Rattle.book_test.proofs.b7_of_system.Given as goal

abbrev pub invariant-loop-v : goal.invariant-loop-v
invariant-loop-v l =
    (l.v ≤ 64) × (l.needs.book.now ≡ l.fn.needs.book.now)
    × (all l.v (if_composed (plain l.fn.needs.book.now).systems
    (B7_at (plain l.fn.needs.book.now).specs (plain l.fn.needs.book.now).systems) l.s) ≡ true)
