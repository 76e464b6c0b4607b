-- Sets of numbers; and a set of numbers below a width as the binary digits of one number.
use Rattle.std.specs.Prelude.{Bool, ◌%◌, ◌/◌, ◌^◌, ℕ}
use Rattle.sets.specs.Tests.{◌&◌, ◌<?◌, ◌=?◌, ◌or◌, ◌⇒◌, all, any, ~◌}

abbrev pub Set : Type 0
Set = ℕ → Bool

-- The set that the number s stands for: f is in it where the binary digit f of s is 1.
unfoldable pub bit : ℕ → Set
bit s f = s / 2 ^ f % 2 =? 1

-- the numbers of either set
unfoldable pub union : Set → Set → Set
union a b f = a f or b f

-- the set a and the number n
unfoldable pub with : Set → ℕ → Set
with a n f = f =? n or a f

-- the set a but for the number n
unfoldable pub without : Set → ℕ → Set
without a n f = ~ (f =? n) & a f

-- the numbers of the set a that are below k
unfoldable pub below : ℕ → Set → Set
below k a f = f <? k & a f

-- each number below k that is in a is in b
unfoldable pub subset : ℕ → Set → Set → Bool
subset k a b = all k (λ f. a f ⇒ b f)

-- no number below k is in both
unfoldable pub disjoint : ℕ → Set → Set → Bool
disjoint k a b = all k (λ f. a f ⇒ ~ (b f))

-- some number below k is in both
unfoldable pub meet : ℕ → Set → Set → Bool
meet k a b = any k (λ f. a f & b f)

-- the numbers that are in one of the sets p 0 to p (n - 1)
unfoldable pub union_below : ℕ → (ℕ → Set) → Set
union_below n p f = any n (λ i. p i f)

-- the numbers of a that are not in b
unfoldable pub minus : Set → Set → Set
minus a b f = a f & ~ b f
