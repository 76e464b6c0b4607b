use Rattle.std.proofs.Common.{◌≡◌, ℕ, ◌<◌, ◌≤◌}
use Rattle.sets.specs.Sets.{Set, bit, union_below}
use Rattle.sets.proofs.below.union_of.Given as goal

abbrev pub invariant-loop-k : goal.invariant-loop-k
invariant-loop-k g l =
    (l.k ≤ l.fn.n)
    × ((p : ℕ → Set) → ((k r : ℕ) → k < l.fn.n → goal.F-post g l.fn.set k r → bit r ≡ p k) → bit l.found ≡ union_below l.k p)
