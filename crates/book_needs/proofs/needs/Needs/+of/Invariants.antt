-- The walk over members. The measure is the number of systems that can still be met below; the invariant says that the sum is the union of
-- the needs of the members passed.
use Rattle.std.proofs.Common.{◌≡◌, ◌≤◌}
use Rattle.sets.specs.Sets.{bit, union_below}
use Rattle.model_laws.specs.Notions.{systems_below}
use Rattle.book.specs.Plain.{plain}
use Rattle.book_rules.specs.Table.{member_needs}
use Rattle.book_needs.proofs.needs.Needs.+of.Given as goal

abbrev pub decreases-of : goal.decreases-of
decreases-of l = systems_below (plain l.self.now.book.now).systems l.c

abbrev pub invariant-loop-m : goal.invariant-loop-m
invariant-loop-m l =
    (l.m ≤ 32) × (l.self.book.now ≡ l.fn.self.book.now)
    × (bit l.sum ≡ union_below l.m (member_needs (plain l.fn.self.book.now).specs (plain l.fn.self.book.now).systems l.c l.v))
