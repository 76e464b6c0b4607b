-- Laws of lists of numbers, and of numbers beside numbers.
use Rattle.std.specs.Prelude.{Bool, false, true, List, [], ◌∷◌, ◌↔◌, ◌⊎◌, ◌≡◌, refl, ◌+◌, ◌<◌, ◌≤◌, suc, zero, ℕ, length}
use Rattle.std.proofs.Common.{inl, inr, ◌∙◌, ap, subst, sym, zero-le, le_refl, le_trans, arith}
use Rattle.std.proofs.Math.Option.{Option, some-injective, none, some}
use Rattle.model.specs.Lists.{beside, elem, every, first_from, firsts, from, keep, rising, seconds}
use Rattle.model.specs.Maps.{else_try, is_some, only_if}
use Rattle.model.specs.Rules.{p, r}
use Rattle.sets.specs.TestLaws.{=?-not, =?-out, =?-same, and_in, and_l, and_r, bool?, clash, count_mono, count_none, if-false, if-true}
use Rattle.sets.specs.TestLaws.{one_if_le_suc, one_if_up, or-false, or_l, or_out, or_r, same?}
use Rattle.sets.specs.Tests.{◌=?◌, ◌or◌, count, one_if}
use Rattle.model_laws.specs.MapLaws.{is_some_in, no_some, option?}

pub every-elem : (f : ℕ → Bool) (xs : List ℕ) → every f xs ≡ true → (k : ℕ) → elem k xs ≡ true → f k ≡ true
unfolding every elem
every-elem f [] t k e = clash e refl
every-elem f (x ∷ xs) t k e =
    elim (or_out _ _ e) [ inl q ↦ rw (=?-out _ _ q) (and_l _ _ t) | inr q ↦ every-elem f xs (and_r _ _ t) k q ]

pub every_listed : (t : ℕ → Bool) (xs : List ℕ) → ((k : ℕ) → elem k xs ≡ true → t k ≡ true) → every t xs ≡ true
unfolding every elem
every_listed t [] h = refl
every_listed t (x ∷ xs) h = and_in _ _ (h x (or_l _ _ (=?-same x))) (every_listed t xs (λ k e. h k (or_r _ _ e)))

pub beside_elem : {A : Type 0} (xs : List (ℕ × A)) (n : ℕ) → is_some (beside xs n) ≡ elem n (firsts xs)
unfolding beside firsts elem is_some
beside_elem [] n = refl
beside_elem (x ∷ xs) n =
    elim (bool? (n =? x.0)) [
      | inl e ↦ is_some_in _ (if-true _ _ _ e) ∙ sym (or_l _ _ e)
      | inr e ↦ ap is_some (if-false _ _ _ e) ∙ beside_elem xs n ∙ sym (or-false _ _ e)
    ]

pub beside_second : {A : Type 0} (t : A → Bool) (xs : List (ℕ × A)) → every t (seconds xs) ≡ true → (n : ℕ) (a : A) → beside xs n ≡ some a → t a ≡ true
unfolding beside seconds every
beside_second t [] h n a e = clash (is_some_in none e) (unfold is_some in refl)
beside_second t (x ∷ xs) h n a e =
    elim (bool? (n =? x.0)) [
      | inl q ↦ subst (λ z. t z ≡ true) (some-injective _ _ (sym (if-true _ _ _ q) ∙ e)) (and_l _ _ h)
      | inr q ↦ beside_second t xs (and_r _ _ h) n a (sym (if-false _ _ _ q) ∙ e)
    ]

-- a number more in a set counts at most one more
one_if_top : (b : Bool) (n : ℕ) → one_if b n ≤ suc n
unfolding one_if
one_if_top true n = le_refl (suc n)
one_if_top false n = omega arith

pub count_one_more : (n x : ℕ) (g : ℕ → Bool) → count n (λ i. (i =? x) or g i) ≤ suc (count n g)
unfolding count
count_one_more zero x g = zero-le
count_one_more (suc n) x g =
    elim (same? n x) [
      | inl e ↦ le_trans (one_if_top _ _) (omega (arith, one_if_up (g n) (count n g), before e))
      | inr ne ↦ rw (or-false _ (g n) (=?-not n x ne)) (one_if_le_suc (g n) _ _ (count_one_more n x g))
    ]
  where
    before : n ≡ x → count n (λ i. (i =? x) or g i) ≤ count n g
    before e = count_mono n _ _ (λ i l t. elim (or_out _ _ t) [ inl q ↦ absurd (omega (arith, =?-out _ _ q)) | inr q ↦ q ])

pub count_list : (n : ℕ) (xs : List ℕ) → count n (λ i. elem i xs) ≤ length xs
unfolding elem
count_list n [] = rw count_none (le_refl 0)
count_list n (x ∷ xs) = le_trans (count_one_more n x (λ i. elem i xs)) (omega (arith, count_list n xs))

-- ---- numbers in rising order

keep-elem : (x : Bool) (i n : ℕ) (xs : List ℕ) → elem n (keep x i xs) ≡ true → ((n ≡ i) × (x ≡ true)) ⊎ (elem n xs ≡ true)
unfolding keep elem
keep-elem true i n xs t = elim (or_out (n =? i) (elem n xs) t) [ inl s ↦ inl (=?-out n i s, refl) | inr s ↦ inr s ]
keep-elem false i n xs t = inr t

elem-keep : (x : Bool) (i n : ℕ) (xs : List ℕ) → elem n xs ≡ true → elem n (keep x i xs) ≡ true
unfolding keep elem
elem-keep true i n xs t = or_r _ _ t
elem-keep false i n xs t = t

keep_head : (x : Bool) (i : ℕ) (xs : List ℕ) → x ≡ true → elem i (keep x i xs) ≡ true
unfolding keep elem
keep_head true i xs e = or_l _ _ (=?-same i)
keep_head false i xs e = clash e refl

from_out : (k i n : ℕ) (f : ℕ → Bool) → elem n (from k i f) ≡ true → (n < i + k) × (f n ≡ true)
unfolding from
from_out zero i n f t = clash t (unfold elem in refl)
from_out (suc k) i n f t =
    elim (keep-elem (f i) i n _ t) [
      | inl s ↦ (omega (arith, s.0), ap f s.0 ∙ s.1)
      | inr s ↦ (let z = from_out k (suc i) n f s in (omega (arith, z.0), z.1))
    ]

from_in : (k i n : ℕ) (f : ℕ → Bool) → i ≤ n → n < i + k → f n ≡ true → elem n (from k i f) ≡ true
unfolding from
from_in zero i n f a l t = absurd (omega arith)
from_in (suc k) i n f a l t =
    elim (same? n i) [
      | inl s ↦ rw s (keep_head _ i _ (sym (ap f s) ∙ t))
      | inr s ↦ elem-keep _ i n _ (from_in k (suc i) n f (omega arith) (omega arith) t)
    ]

-- The list holds the numbers below the bound that pass the test.
pub rising-elem : (k n : ℕ) (f : ℕ → Bool) → (elem n (rising k f) ≡ true) ↔ ((n < k) × (f n ≡ true))
unfolding rising
rising-elem k n f = (λ t. (let z = from_out k 0 n f t in (omega (arith, z.0), z.1)), λ z. from_in k 0 n f zero-le (omega (arith, z.0)) z.1)

-- ---- the first that is found

else_some : {A : Type 0} (o p : Option A) (x : A) → else_try o p ≡ some x → (o ≡ some x) ⊎ (p ≡ some x)
unfolding else_try
else_some none p x e = inr e
else_some (some y) p x e = inl e

else_none : {A : Type 0} (o p : Option A) → else_try o p ≡ none → (o ≡ none) × (p ≡ none)
unfolding else_try
else_none none p e = (refl, e)
else_none (some y) p e = no_some (sym e)

pub only_some : {A : Type 0} (t : Bool) (q x : A) → only_if t q ≡ some x → (t ≡ true) × (q ≡ x)
unfolding only_if
only_some true q x e = (refl, some-injective _ _ e)
only_some false q x e = no_some e

pub only_none : {A : Type 0} (t : Bool) (q : A) → only_if t q ≡ none → t ≡ false
unfolding only_if
only_none true q e = no_some (sym e)
only_none false q e = refl

pub first_from-some : {A : Type 0} (k i : ℕ) (f : ℕ → Option A) (x : A) → first_from k i f ≡ some x → (j : ℕ) × (j < i + k) × (f j ≡ some x)
unfolding first_from
first_from-some zero i f x e = no_some e
first_from-some (suc k) i f x e =
    elim (else_some (f i) _ x e) [
      | inl q ↦ (i, omega arith, q)
      | inr r ↦ (let z = first_from-some k (suc i) f x r in (z.0, omega (arith, z.1), z.2))
    ]

pub first_from-none : {A : Type 0} (k i : ℕ) (f : ℕ → Option A) → first_from k i f ≡ none → (j : ℕ) → i ≤ j → j < i + k → f j ≡ none
unfolding first_from
first_from-none zero i f e j a h = absurd (omega arith)
first_from-none (suc k) i f e j a h =
    let q = else_none (f i) _ e in elim (same? j i) [ inl s ↦ rw s q.0 | inr n ↦ first_from-none k (suc i) f q.1 j (omega arith) (omega arith) ]

-- what is found is found at no lower number
pub first_from_least : {A : Type 0} (k i : ℕ) (f : ℕ → Option A) (x : A) → first_from k i f ≡ some x
    → (j : ℕ) × (f j ≡ some x) × ((m : ℕ) → i ≤ m → m < j → f m ≡ none)
unfolding first_from else_try
first_from_least zero i f x e = no_some e
first_from_least (suc k) i f x e =
    elim (option? (f i)) [
      | inl z ↦ (let r = first_from_least k (suc i) f x (sym (ap (λ o. else_try o (first_from k (suc i) f)) z) ∙ e) in
          (r.0, r.1, λ m a h. elim (same? m i) [ inl s ↦ rw s z | inr n ↦ r.2 m (omega arith) h ]))
      | inr y ↦ (i, y.1 ∙ sym (ap (λ o. else_try o (first_from k (suc i) f)) y.1) ∙ e, λ m a h. absurd (omega arith))
    ]
