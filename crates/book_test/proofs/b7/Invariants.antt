use Rattle.std.proofs.Common.{◌≤◌, ◌≡◌, true}
use Rattle.sets.specs.Tests.{all}
use Rattle.book.specs.Plain.{plain}
use Rattle.book_rules.specs.CompositionLaws.{of_system}
use Rattle.model.specs.Rules.{B7_at}
use Rattle.book_test.proofs.b7.Given as goal

abbrev pub invariant-loop-s : goal.invariant-loop-s
invariant-loop-s l =
    (l.s ≤ 32) × (l.needs.book.now ≡ l.fn.needs.book.now)
    × (all l.s (of_system (plain l.fn.needs.book.now).systems (B7_at (plain l.fn.needs.book.now).specs (plain l.fn.needs.book.now).systems)) ≡ true)
