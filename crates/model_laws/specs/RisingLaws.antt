-- Laws of numbers in rising order.
use Rattle.std.specs.Prelude.{Bool, false, true, List, [], ◌++◌, ◌∷◌, ◌≡◌, ◌+◌, ◌-◌, ◌<◌, ◌^◌, ◌≤◌, suc, zero, ℕ, length}
use Rattle.std.proofs.Common.{append-nil, ◌∙◌, ap, ap₂, sym, le_refl, add-one, arith, length-append}
use Rattle.std.proofs.Math.Path.{fun_ext, refl}
use Rattle.model.specs.Lists.{every, from, keep, rising, set_of}
use Rattle.model.specs.Questions.{each_below}
use Rattle.sets.specs.SetLaws.{bit_limit}
use Rattle.sets.specs.Sets.{bit}
use Rattle.sets.specs.TestLaws.{<?_in, and_in, iff→≡}
use Rattle.sets.specs.Tests.{◌<?◌, count, one_if}
use Rattle.model_laws.specs.ListLaws.{rising-elem}

-- ---- one number more

keep_append : (b : Bool) (x : ℕ) (xs ys : List ℕ) → keep b x (xs ++ ys) ≡ keep b x xs ++ ys
unfolding keep
keep_append true x xs ys = refl
keep_append false x xs ys = refl

from_more : (k i : ℕ) (f : ℕ → Bool) → from (suc k) i f ≡ from k i f ++ keep (f (i + k)) (i + k) []
unfolding from
from_more zero i f = let e : i ≡ i + 0 = omega arith in ap (λ (j : ℕ). keep (f j) j []) e
from_more (suc k) i f =
    let e : suc i + k ≡ i + suc k = omega arith in
    ap (keep (f i) i) (from_more k (suc i) f ∙ ap (λ (j : ℕ). from k (suc i) f ++ keep (f j) j []) e)
    ∙ keep_append (f i) i (from k (suc i) f) (keep (f (i + suc k)) (i + suc k) [])

rising_more : (k : ℕ) (f : ℕ → Bool) → rising (k + 1) f ≡ rising k f ++ keep (f k) k []
unfolding rising
rising_more k f =
    let e : 0 + k ≡ k = omega arith in
    ap (λ (m : ℕ). from m 0 f) (add-one k) ∙ from_more k 0 f ∙ ap (λ (j : ℕ). from k 0 f ++ keep (f j) j []) e

pub rising_hit : (k : ℕ) (f : ℕ → Bool) → f k ≡ true → rising (k + 1) f ≡ rising k f ++ (k ∷ [])
unfolding keep
rising_hit k f e = rising_more k f ∙ ap (λ (b : Bool). rising k f ++ keep b k []) e

pub rising_miss : (k : ℕ) (f : ℕ → Bool) → f k ≡ false → rising (k + 1) f ≡ rising k f
unfolding keep
rising_miss k f e = rising_more k f ∙ ap (λ (b : Bool). rising k f ++ keep b k []) e ∙ append-nil (rising k f)

keep-length : (b : Bool) (x n : ℕ) → n + length (keep b x []) ≡ one_if b n
unfolding keep one_if
keep-length true x n = omega arith
keep-length false x n = omega arith

pub rising-length : (k : ℕ) (f : ℕ → Bool) → length (rising k f) ≡ count k f
unfolding count
rising-length zero f = unfold rising from in refl
rising-length (suc k) f =
    ap (λ (m : ℕ). length (rising m f)) (sym (add-one k)) ∙ ap length (rising_more k f) ∙ length-append (rising k f) (keep (f k) k [])
    ∙ ap (λ (m : ℕ). m + length (keep (f k) k [])) (rising-length k f) ∙ keep-length (f k) k (count k f)

from_cong : (k i : ℕ) (f g : ℕ → Bool) → ((d : ℕ) → d < i + k → f d ≡ g d) → from k i f ≡ from k i g
unfolding from
from_cong zero i f g h = refl
from_cong (suc k) i f g h = ap₂ (λ (b : Bool) (xs : List ℕ). keep b i xs) (h i (omega arith)) (from_cong k (suc i) f g (λ d l. h d (omega arith)))

-- two tests that agree below k
pub rising_cong : (k : ℕ) (f g : ℕ → Bool) → ((d : ℕ) → d < k → f d ≡ g d) → rising k f ≡ rising k g
unfolding rising
rising_cong k f g h = from_cong k 0 f g (λ d l. h d (omega arith))

-- ---- other bounds

from-none : (k i : ℕ) (f : ℕ → Bool) → ((d : ℕ) → i ≤ d → f d ≡ false) → from k i f ≡ []
unfolding from keep
from-none zero i f h = refl
from-none (suc k) i f h = ap (λ (b : Bool). keep b i (from k (suc i) f)) (h i (le_refl i)) ∙ from-none k (suc i) f (λ d l. h d (omega arith))

-- two tests that agree below i + k, and the first passes nowhere further on
from_same : (k m i : ℕ) (f g : ℕ → Bool) → k ≤ m → ((d : ℕ) → d < i + k → f d ≡ g d) → ((d : ℕ) → i + k ≤ d → f d ≡ false)
    → from m i f ≡ from k i g
unfolding from
from_same zero m i f g l h z = from-none m i f (λ d q. z d (omega arith))
from_same (suc k) zero i f g l h z = absurd (omega arith)
from_same (suc k) (suc m) i f g l h z =
    ap₂ (λ (b : Bool) (xs : List ℕ). keep b i xs) (h i (omega arith))
    (from_same k m (suc i) f g (omega arith) (λ d q. h d (omega arith)) (λ d q. z d (omega arith)))

-- of a test that passes nowhere from k on, the same numbers rise below every larger bound
pub rising_narrow : (k m : ℕ) (f g : ℕ → Bool) → k ≤ m → ((d : ℕ) → d < k → f d ≡ g d) → ((d : ℕ) → k ≤ d → f d ≡ false) → rising m f ≡ rising k g
unfolding rising
rising_narrow k m f g l h z = from_same k m 0 f g l (λ d q. h d (omega arith)) (λ d q. z d (omega arith))

-- the first a of the numbers, and the rest
pub from_split : (a m i : ℕ) (f : ℕ → Bool) → a ≤ m → from m i f ≡ from a i f ++ from (m - a) (i + a) f
unfolding from
from_split zero m i f l =
    let e : m ≡ m - 0 = omega arith in let e' : i ≡ i + 0 = omega arith in ap₂ (λ (x y : ℕ). from x y f) e e'
from_split (suc a) zero i f l = absurd (omega arith)
from_split (suc a) (suc m) i f l =
    let e : m - a ≡ suc m - suc a = omega arith in let e' : suc i + a ≡ i + suc a = omega arith in
    ap (keep (f i) i) (from_split a m (suc i) f (omega arith) ∙ ap₂ (λ (x y : ℕ). from a (suc i) f ++ from x y f) e e')
    ∙ keep_append (f i) i (from a (suc i) f) _

-- ---- the numbers as a list of a command or query

-- A set of 64 bits is the set of its numbers.
pub rising-set : (s : ℕ) → s < 2 ^ 64 → set_of (rising 64 (bit s)) ≡ bit s
unfolding set_of
rising-set s h = fun_ext (λ f. iff→≡ _ _ (λ t. ((rising-elem 64 f (bit s)).0 t).1) (λ t. (rising-elem 64 f (bit s)).1 (bit_limit 64 s f h t, t)))

keep-every : (g : ℕ → Bool) (b : Bool) (x : ℕ) (xs : List ℕ) → g x ≡ true → every g xs ≡ true → every g (keep b x xs) ≡ true
unfolding every keep
keep-every g true x xs e t = and_in _ _ e t
keep-every g false x xs e t = t

from_below : (n k i : ℕ) (f : ℕ → Bool) → i + k ≤ n → every (λ x. x <? n) (from k i f) ≡ true
unfolding from
from_below n zero i f l = unfold every in refl
from_below n (suc k) i f l = keep-every (λ x. x <? n) (f i) i _ (<?_in _ _ (omega arith)) (from_below n k (suc i) f (omega arith))

-- All of them are below the bound.
pub rising_below : (n : ℕ) (f : ℕ → Bool) → each_below n (rising n f) ≡ true
unfolding each_below rising
rising_below n f = from_below n n 0 f (omega arith)
