-- Tests: what is true of a number, of all numbers below a bound, of some of them, of how many. Every one computes.
use Rattle.std.specs.Prelude.{Bool, ◌&&◌, ◌||◌, cond, false, not, true, suc, zero, ℕ, eqb, leb, ltb}

infix 15 if?◌then◌else◌
infixr 20 ◌⇒◌
infix 25 ◌⇔◌
infix 40 ~◌
infixr 35 ◌&◌
infixr 30 ◌or◌
infix 50 ◌=?◌
infix 50 ◌<?◌
infix 50 ◌≤?◌
-- The connectives and comparisons are the libraries' own, but shut: the arguments of a law are then found without being written.
unfoldable pub ~◌ : Bool → Bool
~ b = not b

unfoldable pub ◌&◌ : Bool → Bool → Bool
a & b = a && b

unfoldable pub ◌or◌ : Bool → Bool → Bool
a or b = a || b

unfoldable pub if?◌then◌else◌ : {A : Type 0} → Bool → A → A → A
if? b then x else y = cond b x y

unfoldable pub ◌=?◌ : ℕ → ℕ → Bool
m =? n = eqb m n

unfoldable pub ◌<?◌ : ℕ → ℕ → Bool
m <? n = ltb m n

unfoldable pub ◌≤?◌ : ℕ → ℕ → Bool
m ≤? n = leb m n

-- if a then b
unfoldable pub ◌⇒◌ : Bool → Bool → Bool
true ⇒ b = b
false ⇒ b = true

-- both or neither
unfoldable pub ◌⇔◌ : Bool → Bool → Bool
true ⇔ b = b
false ⇔ b = ~ b

-- the test f passes at each number below n
unfoldable pub all : ℕ → (ℕ → Bool) → Bool
all zero f = true
all (suc n) f = let rest = all n f in f n & rest

-- the test f passes at some number below n
unfoldable pub any : ℕ → (ℕ → Bool) → Bool
any zero f = false
any (suc n) f = let rest = any n f in f n or rest

-- one more than n where the test passes, else n
unfoldable pub one_if : Bool → ℕ → ℕ
one_if true n = suc n
one_if false n = n

-- how many numbers below n pass the test f
unfoldable pub count : ℕ → (ℕ → Bool) → ℕ
count zero f = zero
count (suc n) f = one_if (f n) (count n f)
