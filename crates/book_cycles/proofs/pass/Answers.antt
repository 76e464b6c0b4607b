use Rattle.std.proofs.Common.{rules}
use Rattle.book_cycles.specs.Closure.{rows_turn}
use Rattle.book_cycles.proofs.pass.Goals as goal

pub returns : goal.returns
returns c = rows_turn _ _ _ _ c.requires.rows c.requires.k_bound c.each_component.ensures.size
    (λ d l. (let each = c.each_component.ensures.each d l in search rules))
