use Rattle.std.proofs.Common.{◌≡◌, Bool, ℕ, ◌<◌, ◌≤◌}
use Rattle.sets.specs.Sets.{below, bit}
use Rattle.sets.proofs.below.those.Given as goal

abbrev pub invariant-loop-k : goal.invariant-loop-k
invariant-loop-k g l =
    (l.k ≤ l.fn.n)
    × ((t : ℕ → Bool) → ((k : ℕ) (r : Bool) → k < l.fn.n → goal.F-post g l.fn.passes k r → r ≡ t k) → bit l.found ≡ below l.k t)
