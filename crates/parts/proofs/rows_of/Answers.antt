use Rattle.std.proofs.Common.{rules, arith, refl}
use Rattle.parts.specs.MarkLaws.{good_book}
use Rattle.parts.specs.RowLaws.{rows_start, rows_turn, rows_end, rows_full}
use Rattle.parts.proofs.rows_of.Goals as goal

pub loop-k-init : goal.loop-k-init
loop-k-init c = (search rules, search rules, rows_start _ _ _)

pub returns-in_default : goal.returns-in_default
returns-in_default c =
    rows_end _ (good_book _ _ c.args.passing.passes) _ _ c.requires _ c.loop-k.invariant.1 _ _ _ c.loop-k.invariant.2
    (omega (arith, c.loop-k-test.true)) c.in_default.ensures.value

pub loop-k-preserved : goal.loop-k-preserved
loop-k-preserved c = (
  omega arith,
  c.loop-k.invariant.1,
  rows_turn _ (good_book _ _ c.args.passing.passes) _ _ c.requires _ c.loop-k.invariant.1 _ _ _ c.loop-k.invariant.2
      (omega (arith, c.loop-k-test.true)) _ _ _ _ c.in-Some.ensures.value c.with.ensures refl,
)

pub returns : goal.returns
returns c = rows_full _ _ _ _ _ _ c.loop-k.invariant.2 c.loop-k.invariant.0 (omega arith)
