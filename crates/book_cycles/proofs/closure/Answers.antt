use Rattle.std.proofs.Common.{rules}
use Rattle.book_cycles.specs.Closure.{rows_start}
use Rattle.book_cycles.proofs.closure.Goals as goal

pub loop-k-init : goal.loop-k-init
loop-k-init c = (
  search rules,
  rows_start _ _ c.each_component-reach.ensures.size
      (λ d l. (let each = c.each_component-reach.ensures.each d l in search rules)),
)
