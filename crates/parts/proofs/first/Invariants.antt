use Rattle.std.proofs.Common.{◌-◌, ◌<◌, ◌≤◌, ◌≡◌, ℕ}
use Rattle.std.proofs.Math.Option.{Option}
use Rattle.model.specs.Book.{Pair}
use Rattle.model.specs.Lists.{first_from}
use Rattle.parts.specs.Due.{pair_found}
use Rattle.parts.proofs.first.Given as goal

abbrev pub invariant-loop-k : goal.invariant-loop-k
invariant-loop-k g l =
    (l.k ≤ l.fn.n)
    × ((f : ℕ → Option Pair) → ((k : ℕ) (r : _) → k < l.fn.n → goal.F-post g l.fn.find k r → pair_found r ≡ f k)
    → first_from l.fn.n 0 f ≡ first_from (l.fn.n - l.k) l.k f)
