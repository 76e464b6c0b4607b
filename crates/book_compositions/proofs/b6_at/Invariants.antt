use Rattle.std.proofs.Common.{◌≤◌, ◌≡◌}
use Rattle.book_rules.specs.CompositionLaws.{apart_below}
use Rattle.book_rules.specs.RuleLaws.{provided_by}
use Rattle.book.specs.Plain.{plain}
use Rattle.model.specs.Book.{is_member}
use Rattle.sets.specs.Sets.{bit, union_below}
use Rattle.book_compositions.proofs.b6_at.Given as goal

abbrev pub invariant-loop-m : goal.invariant-loop-m
invariant-loop-m l =
    (l.m ≤ 32)
    × (bit l.seen ≡ union_below l.m (provided_by (plain l.book).specs (is_member (plain l.book).systems l.s l.v)))
    × apart_below (plain l.book).specs (plain l.book).systems l.s l.v l.m
