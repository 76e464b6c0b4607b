use Rattle.std.proofs.Common.{zero-le, arith, ap, not}
use Rattle.sets.specs.LoopLaws.{all_end, all_start, all_stop, all_turn}
use Rattle.sets.proofs.below.all.Goals as goal

pub loop-k-init : goal.loop-k-init
loop-k-init g c = (zero-le, λ t h. all_start t)

pub returns-then-not-passes : goal.returns-then-not-passes
returns-then-not-passes g c t h =
    all_stop _ _ t c.loop-k-test.true (h _ _ c.loop-k-test.true c.passes.ensures) (ap not c.if-not-passes.true)

pub loop-k-preserved : goal.loop-k-preserved
loop-k-preserved g c =
    (omega arith, λ t h. all_turn _ t (c.loop-k.invariant.1 t h) (h _ _ c.loop-k-test.true c.passes.ensures) (ap not c.if-not-passes.false))

pub returns : goal.returns
returns g c t h = all_end _ _ t c.loop-k.invariant.0 (omega arith) (c.loop-k.invariant.1 t h)
