use Rattle.std.proofs.Common.{zero-le, arith, ap, ◌∙◌}
use Rattle.sets.specs.LoopLaws.{union_start, union_turn}
use Rattle.sets.specs.Sets.{Set, bit, union}
use Rattle.sets.proofs.below.union_of.Goals as goal

pub loop-k-init : goal.loop-k-init
loop-k-init g c = (zero-le, λ p h. union_start p)

pub loop-k-preserved : goal.loop-k-preserved
loop-k-preserved g c = (
  omega arith,
  λ p h. union_turn _ p _ _ (c.loop-k.invariant.1 p h)
      (c.union-found.ensures ∙ ap (λ (s : Set). union (bit c.loop-k.found) s) (h _ _ c.loop-k-test.true c.set.ensures)),
)
