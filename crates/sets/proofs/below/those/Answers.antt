use Rattle.std.proofs.Common.{zero-le, arith, ap, ◌∙◌}
use Rattle.sets.specs.LoopLaws.{collect_hit, collect_miss, collect_start}
use Rattle.sets.specs.Sets.{bit}
use Rattle.sets.proofs.below.those.Goals as goal
use Rattle.sets.proofs.below.those.Goals.{else-passes, then-passes}

pub loop-k-init : goal.loop-k-init
loop-k-init g c = (zero-le, λ t h. collect_start t)

pub loop-k-preserved : goal.loop-k-preserved
loop-k-preserved g c = (
  omega arith,
  λ t h. (let so_far = c.loop-k.invariant.1 t h in let tested = h _ _ c.loop-k-test.true c.passes.ensures in
      elim c.if-passes.branch [
        | then-passes w ↦ ap bit w.found-is ∙ collect_hit _ _ t so_far tested _ w.if-passes.true w.with-found.ensures
        | else-passes w ↦ ap bit w.found-is ∙ collect_miss _ _ t so_far tested w.if-passes.false
      ]),
)
