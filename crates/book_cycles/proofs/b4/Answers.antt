use Rattle.std.proofs.Common.{rules}
use Rattle.model.specs.Rules.{B4, each_system}
use Rattle.book_cycles.specs.Closure.{self_free, self_skip, self_test}
use Rattle.book_cycles.proofs.b4.Goals as goal

pub returns : goal.returns
unfolding B4 each_system self_free
returns c = c.all.ensures _ (λ k r l e. search (rules, self_skip, self_test))
