use Rattle.std.proofs.Common.{◌≡◌, Bool, true, ℕ, ◌<◌, ◌≤◌}
use Rattle.sets.specs.Tests as tests
use Rattle.sets.proofs.below.all.Given as goal

abbrev pub invariant-loop-k : goal.invariant-loop-k
invariant-loop-k g l =
    (l.k ≤ l.fn.n)
    × ((t : ℕ → Bool) → ((k : ℕ) (r : Bool) → k < l.fn.n → goal.F-post g l.fn.passes k r → r ≡ t k) → tests.all l.k t ≡ true)
