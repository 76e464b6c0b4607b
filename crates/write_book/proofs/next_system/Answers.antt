use Rattle.std.proofs.Common.{arith, ◌∙◌}
use Rattle.sets.specs.Answered.{answered}
use Rattle.names.specs.EnterLaws.{found_at, found_nothing}
use Rattle.write_bytes.specs.ByNameLaws.{fewer, first_below}
use Rattle.write_book.specs.SystemLaws.{next_found, next_none, next_not}
use Rattle.write_book.proofs.next_system.Goals as goal

pub returns-then-is_next : goal.returns-then-is_next
unfolding answered
returns-then-is_next c =
    next_found _ _ _ _ (found_at _ _ _ c.first_by_name.ensures c.in-Some.is) _ c.is_next.ensures c.if-is_next.true c.loop-s.invariant

pub without-rest-requires : goal.without-rest-requires
without-rest-requires c = let h = first_below _ _ _ _ (found_at _ _ _ c.first_by_name.ensures c.in-Some.is) in omega (arith, h)

pub loop-s-smaller : goal.loop-s-smaller
loop-s-smaller c = fewer _ _ _ _ _ (found_at _ _ _ c.first_by_name.ensures c.in-Some.is) c.without-rest.ensures

pub loop-s-preserved : goal.loop-s-preserved
loop-s-preserved c =
    c.loop-s.invariant
    ∙ next_not _ _ _ _ (found_at _ _ _ c.first_by_name.ensures c.in-Some.is) c.is_next.ensures c.if-is_next.false c.without-rest.ensures

pub returns : goal.returns
unfolding answered
returns c = next_none _ _ _ _ _ (found_nothing _ _ c.first_by_name.ensures c.in_default.is) c.loop-s.invariant
