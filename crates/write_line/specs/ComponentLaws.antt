-- Laws of the set of the components that have a line.
use Rattle.std.specs.Prelude.{Bool, List, ◌≡◌, refl, ◌+◌, ◌≤◌, suc, zero, ℕ}
use Rattle.std.proofs.Common.{ap, ap₂, arith}
use Rattle.model.specs.Lists.{from, keep, rising}
use Rattle.sets.specs.Sets.{Set, below}
use Rattle.sets.specs.TestLaws.{<?_in, and-true}
use Rattle.text.specs.Tables.{Table}
use Rattle.text.specs.Written.{by_name, sorted}

-- numbers of n and more do not count
from_below : (j i n : ℕ) (a : Set) → i + j ≤ n → from j i (below n a) ≡ from j i a
unfolding from below
from_below zero i n a h = refl
from_below (suc j) i n a h =
    ap₂ (λ (b : Bool) (l : List ℕ). keep b i l) (and-true _ _ (<?_in _ _ (omega arith))) (from_below j (suc i) n a (omega arith))

pub below_same : (t : Table) (n : ℕ) (a : Set) → by_name t n (below n a) ≡ by_name t n a
unfolding by_name rising
below_same t n a = ap (sorted t) (from_below n 0 n a (omega arith))
