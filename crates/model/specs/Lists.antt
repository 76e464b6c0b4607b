-- Lists of numbers, and numbers in rising order.
use Rattle.std.specs.Prelude.{Bool, false, true, List, [], ◌∷◌, max, suc, zero, ℕ}
use Rattle.std.proofs.Math.Option.{Option, none, some}
use Rattle.model.specs.Maps.{Map, else_try}
use Rattle.sets.specs.Sets.{Set}
use Rattle.sets.specs.Tests.{◌&◌, ◌=?◌, ◌or◌, if?◌then◌else◌, ~◌}

unfoldable pub non_empty : {A : Type 0} → List A → Bool
non_empty [] = false
non_empty (x ∷ xs) = true

unfoldable pub every : {A : Type 0} → (A → Bool) → List A → Bool
every f [] = true
every f (x ∷ xs) = f x & every f xs

-- the number n stands in the list
unfoldable pub elem : ℕ → List ℕ → Bool
elem n [] = false
elem n (x ∷ xs) = n =? x or elem n xs

-- no number stands twice
unfoldable pub once : List ℕ → Bool
once [] = true
once (x ∷ xs) = ~ elem x xs & once xs

-- the set of the numbers in the list
unfoldable pub set_of : List ℕ → Set
set_of xs n = elem n xs

-- what stands beside the number n in a list of pairs: at its first place
unfoldable pub beside : {A : Type 0} → List (ℕ × A) → Map A
beside [] n = none
beside (x ∷ xs) n = if? n =? x.0 then some x.1 else beside xs n

unfoldable pub firsts : {A : Type 0} → List (ℕ × A) → List ℕ
firsts [] = []
firsts (x ∷ xs) = x.0 ∷ firsts xs

unfoldable pub seconds : {A : Type 0} → List (ℕ × A) → List A
seconds [] = []
seconds (x ∷ xs) = x.1 ∷ seconds xs

-- ---- numbers below a bound, in rising order

-- x in front of the list, if the test passes
unfoldable pub keep : {A : Type 0} → Bool → A → List A → List A
keep true x xs = x ∷ xs
keep false x xs = xs

-- of the k numbers from i on, those that pass the test f, rising
unfoldable pub from : ℕ → ℕ → (ℕ → Bool) → List ℕ
from zero i f = []
from (suc k) i f = keep (f i) i (from k (suc i) f)

-- the numbers below n that pass the test f, rising
unfoldable pub rising : ℕ → (ℕ → Bool) → List ℕ
rising n f = from n 0 f

-- what f finds at the lowest of the k numbers from i on at which it finds something
unfoldable pub first_from : {A : Type 0} → ℕ → ℕ → (ℕ → Option A) → Option A
first_from zero i f = none
first_from (suc k) i f = let rest = first_from k (suc i) f in else_try (f i) rest

-- the list that is made of x, if it is there
unfoldable pub if_found : {A B : Type 0} → Option A → (A → List B) → List B
if_found none g = []
if_found (some x) g = g x

-- the greatest f i of the numbers i below n, 0 where there is none
unfoldable pub greatest : ℕ → (ℕ → ℕ) → ℕ
greatest zero f = zero
greatest (suc n) f = max (f n) (greatest n f)
