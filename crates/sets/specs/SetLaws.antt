-- Laws of sets as numbers, for every width k.
use Rattle.std.specs.Prelude.{Bool, false, not, true, ◌≡◌, refl, ◌%◌, ◌*◌, ◌+◌, ◌-◌, ◌/◌, ◌<◌, ◌^◌, ◌≤◌, max, min, suc, zero, ℕ, eqb}
use Rattle.std.specs.Bool.{beq}
use Rattle.std.proofs.Common.{inl, inr, ◌∙◌, ap₂, div-add-mod', div-one, lt_of_le_of_lt, lt_of_lt_of_le, mod-eq_of_lt, mod-lt, zero-lt-suc, add-one, one-add, arith, lit<, pow_mono, pow_pos, shl_exact, shr_lt, shr-shr}
use Rattle.std.proofs.Math.Path.{ap, fun_ext, sym}
use Rattle.std.proofs.Math.Nat.{div-eq_of_lt, zero-div}
use Rattle.std.proofs.Math.Arith.{digits_mod, lt-one}
use Rattle.std.proofs.lemmas.Nat.{and_le_l, and_shr, or_shr, xor_shr}
use Rattle.std.specs.Int.Bits.{and_step, bit_and, bit_or, bit_xor, differ, or_step, shifted_even, shifted_half, xor_step}
use Rattle.std.specs.Int.Count.{ones, ones_step}
use Rattle.std.proofs.Math.Dec.{eqb-suc-suc, eqb-suc-zero, eqb-zero-suc, ltb}
use Rattle.std.proofs.Math.Pow.{field, mod-mod-pow}
use borrow.Author.Tests.{eq-eqb, eqb-true}
use Rattle.sets.specs.Sets.{Set, below, bit, disjoint, meet, minus, subset, union, with, without}
use Rattle.sets.specs.TestLaws.{<?_no, <?_out, all_in, all_no, all_out, all_width, and_absorb, and-false, and_in, and_l}
use Rattle.sets.specs.TestLaws.{and_no, and_r, and_swap, and-true, any_in, any_out, bool?, clash, fails, iff→≡, imp_in}
use Rattle.sets.specs.TestLaws.{imp_no, imp_out, not_in, not_no, not_out, or_swap}
use Rattle.sets.specs.Tests.{◌&◌, ◌<?◌, ◌=?◌, ◌or◌, count, one_if, ~◌}

two_pos : 0 < 2
two_pos = zero-lt-suc 1

-- ---- one binary digit

digit_or : (p q : ℕ) → p < 2 → q < 2 → (max p q =? 1) ≡ (p =? 1 or q =? 1)
unfolding ◌=?◌ ◌or◌
digit_or zero zero hp hq = refl
digit_or zero (suc zero) hp hq = refl
digit_or (suc zero) zero hp hq = refl
digit_or (suc zero) (suc zero) hp hq = refl
digit_or zero (suc (suc q)) hp hq = absurd (omega arith)
digit_or (suc zero) (suc (suc q)) hp hq = absurd (omega arith)
digit_or (suc (suc p)) q hp hq = absurd (omega arith)

digit_and : (p q : ℕ) → p < 2 → q < 2 → (min p q =? 1) ≡ (p =? 1 & q =? 1)
unfolding ◌=?◌ ◌&◌
digit_and zero zero hp hq = refl
digit_and zero (suc zero) hp hq = refl
digit_and (suc zero) zero hp hq = refl
digit_and (suc zero) (suc zero) hp hq = refl
digit_and zero (suc (suc q)) hp hq = absurd (omega arith)
digit_and (suc zero) (suc (suc q)) hp hq = absurd (omega arith)
digit_and (suc (suc p)) q hp hq = absurd (omega arith)

digit_xor : (p q : ℕ) → p < 2 → q < 2 → (differ p q =? 1) ≡ not (beq (p =? 1) (q =? 1))
unfolding ◌=?◌
digit_xor zero zero hp hq = refl
digit_xor zero (suc zero) hp hq = refl
digit_xor (suc zero) zero hp hq = refl
digit_xor (suc zero) (suc zero) hp hq = refl
digit_xor zero (suc (suc q)) hp hq = absurd (omega arith)
digit_xor (suc zero) (suc (suc q)) hp hq = absurd (omega arith)
digit_xor (suc (suc p)) q hp hq = absurd (omega arith)

digit_same : (p q : ℕ) → p < 2 → q < 2 → (p =? 1) ≡ (q =? 1) → p ≡ q
unfolding ◌=?◌
digit_same zero zero hp hq e = refl
digit_same zero (suc zero) hp hq e = clash refl (sym e)
digit_same (suc zero) zero hp hq e = clash refl e
digit_same (suc zero) (suc zero) hp hq e = refl
digit_same zero (suc (suc q)) hp hq e = absurd (omega arith)
digit_same (suc zero) (suc (suc q)) hp hq e = absurd (omega arith)
digit_same (suc (suc p)) q hp hq e = absurd (omega arith)

or_odd : (a b : ℕ) → bit_or a b % 2 ≡ max (a % 2) (b % 2)
or_odd a b = ap (λ (x : ℕ). x % 2) (or_step a b) ∙ digits_mod _ (omega (arith, mod-lt a two_pos, mod-lt b two_pos))

and_odd : (a b : ℕ) → bit_and a b % 2 ≡ min (a % 2) (b % 2)
and_odd a b = ap (λ (x : ℕ). x % 2) (and_step a b) ∙ digits_mod _ (omega (arith, mod-lt a two_pos, mod-lt b two_pos))

xor_odd : (a b : ℕ) → bit_xor a b % 2 ≡ differ (a % 2) (b % 2)
xor_odd a b = ap (λ (x : ℕ). x % 2) (xor_step a b) ∙ digits_mod _ (differ_lt _ _ (mod-lt a two_pos) (mod-lt b two_pos))
  where
    differ_lt : (p q : ℕ) → p < 2 → q < 2 → differ p q < 2
    differ_lt zero q hp hq = hq
    differ_lt (suc zero) zero hp hq = hp
    differ_lt (suc zero) (suc zero) hp hq = lit< tt
    differ_lt (suc zero) (suc (suc q)) hp hq = absurd (omega arith)
    differ_lt (suc (suc p)) q hp hq = absurd (omega arith)

-- ---- the operations on numbers, digit by digit

pub bit_union : (a b : ℕ) → bit (bit_or a b) ≡ union (bit a) (bit b)
unfolding bit union
bit_union a b = fun_ext (λ f.
    ap (λ (x : ℕ). x % 2 =? 1) (or_shr a b f) ∙ ap (λ (x : ℕ). x =? 1) (or_odd (a / 2 ^ f) (b / 2 ^ f))
    ∙ digit_or (a / 2 ^ f % 2) (b / 2 ^ f % 2) (mod-lt _ two_pos) (mod-lt _ two_pos))

bit-and : (a b f : ℕ) → bit (bit_and a b) f ≡ (bit a f & bit b f)
unfolding bit
bit-and a b f =
    ap (λ (x : ℕ). x % 2 =? 1) (and_shr a b f) ∙ ap (λ (x : ℕ). x =? 1) (and_odd (a / 2 ^ f) (b / 2 ^ f))
    ∙ digit_and (a / 2 ^ f % 2) (b / 2 ^ f % 2) (mod-lt _ two_pos) (mod-lt _ two_pos)

bit-xor : (a b f : ℕ) → bit (bit_xor a b) f ≡ not (beq (bit a f) (bit b f))
unfolding bit
bit-xor a b f =
    ap (λ (x : ℕ). x % 2 =? 1) (xor_shr a b f) ∙ ap (λ (x : ℕ). x =? 1) (xor_odd (a / 2 ^ f) (b / 2 ^ f))
    ∙ digit_xor (a / 2 ^ f % 2) (b / 2 ^ f % 2) (mod-lt _ two_pos) (mod-lt _ two_pos)

pub bit_zero : (f : ℕ) → bit 0 f ≡ false
unfolding bit ◌=?◌
bit_zero f = rw zero-div refl

bit_suc : (s f : ℕ) → bit s (suc f) ≡ bit (s / 2) f
unfolding bit
bit_suc s f = ap (λ (x : ℕ). x % 2 =? 1) (ap (λ (k : ℕ). s / 2 ^ k) (sym (one-add f)) ∙ sym (shr-shr s 1 f))

-- Two numbers below 2 ^ k with the same digits below k are equal.
pub bit_ext : (k a b : ℕ) → a < 2 ^ k → b < 2 ^ k → ((f : ℕ) → f < k → bit a f ≡ bit b f) → a ≡ b
unfolding bit
bit_ext zero a b ha hb h = lt-one ha ∙ sym (lt-one hb)
bit_ext (suc k) a b ha hb h =
    let ha' : a / 2 < 2 ^ k = shr_lt k 1 (rw (← add-one k) at ha) in
    let hb' : b / 2 < 2 ^ k = shr_lt k 1 (rw (← add-one k) at hb) in
    let hi : a / 2 ≡ b / 2 = bit_ext k (a / 2) (b / 2) ha' hb' (λ f l. sym (bit_suc a f) ∙ h (suc f) (omega arith) ∙ bit_suc b f) in
    let lo : a % 2 ≡ b % 2 = digit_same (a % 2) (b % 2) (mod-lt a two_pos) (mod-lt b two_pos) (simp div-one at (h 0 (zero-lt-suc k))) in
    sym (div-add-mod' a 2) ∙ ap₂ (λ (x y : ℕ). x * 2 + y) hi lo ∙ div-add-mod' b 2

-- A number below 2 ^ k has no digit from k on.
pub bit_high : (k s f : ℕ) → s < 2 ^ k → k ≤ f → bit s f ≡ false
unfolding bit ◌=?◌
bit_high k s f h l = rw (div-eq_of_lt (lt_of_lt_of_le h (pow_mono l))) refl

-- A test of f against the width k, where f is not below it, answers for the digit.
pub bit_past : (k s f : ℕ) → s < 2 ^ k → k ≤ f → ltb f k ≡ bit s f
unfolding ◌<?◌
bit_past k s f h l = fails (f <? k) (λ t. omega (arith, <?_out f k t, l)) ∙ sym (bit_high k s f h l)

mod_digit : (k s f : ℕ) → f < k → bit (s % 2 ^ k) f ≡ bit s f
unfolding bit
mod_digit k s f l =
    let j : ℕ = k - suc f in
    let e : k ≡ (j + 1) + f = omega arith in
    ap (λ (x : ℕ). x % 2 =? 1) (ap (λ (x : ℕ). s % 2 ^ x / 2 ^ f) e ∙ field s (j + 1) f) ∙ ap (λ (x : ℕ). x =? 1) (mod-mod-pow (s / 2 ^ f) j 1)

-- The remainder by 2 ^ k keeps the digits below k.
pub bit_mod : (k s : ℕ) → bit (s % 2 ^ k) ≡ below k (bit s)
unfolding below
bit_mod k s = fun_ext (λ f. elim (bool? (f <? k)) [
  | inl t ↦ mod_digit k s f (<?_out f k t) ∙ sym (and-true _ _ t)
  | inr t ↦ bit_high k (s % 2 ^ k) f (mod-lt s (pow_pos k)) (<?_no f k t) ∙ sym (and-false _ _ t)
])

-- The set that a number below 2 ^ k stands for has no number from k on.
pub bit_below : (k s : ℕ) → s < 2 ^ k → bit s ≡ below k (bit s)
bit_below k s h = ap bit (sym (mod-eq_of_lt h)) ∙ bit_mod k s

or_xor : (p q : Bool) → not (beq (p or q) q) ≡ (p & ~ q)
unfolding ◌or◌ ◌&◌ ~◌
or_xor true true = refl
or_xor true false = refl
or_xor false true = refl
or_xor false false = refl

pub bit_minus : (a b : ℕ) → bit (bit_xor (bit_or a b) b) ≡ minus (bit a) (bit b)
unfolding minus union
bit_minus a b = fun_ext (λ f.
    bit-xor (bit_or a b) b f ∙ ap (λ (x : Bool). not (beq x (bit b f))) (ap (λ (s : Set). s f) (bit_union a b)) ∙ or_xor (bit a f) (bit b f))

-- ---- tests of two sets, by one operation on their numbers

module _ (k a b : ℕ) (ha : a < 2 ^ k) where
  and_below : bit_and a b < 2 ^ k
  and_below = lt_of_le_of_lt (and_le_l a b) ha

  pub subset_by_and : eqb (bit_and a b) a ≡ subset k (bit a) (bit b)
  unfolding subset
  subset_by_and = iff→≡ _ _
      (λ e. all_in k _ (λ f l. imp_in _ _ (λ t. and_r _ _ (sym (bit-and a b f) ∙ ap (λ (x : ℕ). bit x f) (eqb-true _ _ e) ∙ t))))
      (λ w. eq-eqb _ _ (bit_ext k (bit_and a b) a and_below ha (λ f l. bit-and a b f ∙ and_absorb _ _ (imp_out _ _ (all_out k _ w f l)))))

  pub disjoint_by_and : eqb (bit_and a b) 0 ≡ disjoint k (bit a) (bit b)
  unfolding disjoint
  disjoint_by_and = iff→≡ _ _
      (λ e. all_in k _ (λ f l. imp_in _ _ (λ t. not_in _ (sym (and-true _ _ t) ∙ sym (bit-and a b f) ∙ ap (λ (x : ℕ). bit x f) (eqb-true _ _ e) ∙ bit_zero f))))
      (λ w. eq-eqb _ _ (bit_ext k (bit_and a b) 0 and_below (pow_pos k)
      (λ f l. bit-and a b f ∙ and_no _ _ (λ t. not_out _ (imp_out _ _ (all_out k _ w f l) t)) ∙ sym (bit_zero f))))

-- A set whose numbers are below k is within another, or apart from it, at every width from k on as it is at k.
module _ (k n : ℕ) (a b : Set) (l : k ≤ n) (low : (f : ℕ) → k ≤ f → a f ≡ false) where
  pub subset_width : subset n a b ≡ subset k a b
  unfolding subset
  subset_width = all_width k n _ l (λ f h. imp_in _ _ (λ t. clash t (low f h)))

-- some number is in both sets where they are not disjoint
pub meet-disjoint : (k : ℕ) (a b : Set) → meet k a b ≡ (~ disjoint k a b)
unfolding meet disjoint
meet-disjoint k a b = iff→≡ _ _
    (λ t. (let q = any_out k _ t in not_in _ (fails _ (λ d. clash (and_r _ _ q.2) (not_out _ (imp_out _ _ (all_out k _ d q.0 q.1) (and_l _ _ q.2)))))))
    (λ t. (let q = all_no k _ (not_out _ t) in let z = imp_no _ _ q.2 in any_in k _ q.0 q.1 (and_in _ _ z.0 (not_no _ z.1))))

-- ---- one number put in or taken out

bit_pow : (f g : ℕ) → bit (1 * 2 ^ f) g ≡ (g =? f)
unfolding bit ◌=?◌
bit_pow zero zero = refl
bit_pow zero (suc g) = bit_suc 1 g ∙ bit_zero g ∙ sym (eqb-suc-zero g)
bit_pow (suc f) zero = ap (λ (x : ℕ). eqb (x % 2) 1) (div-one (1 * 2 ^ suc f)) ∙ ap (λ (x : ℕ). eqb x 1) (shifted_even 1 f) ∙ sym (eqb-zero-suc f)
bit_pow (suc f) (suc g) = bit_suc (1 * 2 ^ suc f) g ∙ ap (λ (x : ℕ). bit x g) (shifted_half 1 f) ∙ bit_pow f g ∙ sym (eqb-suc-suc g f)

-- 1 << f, as the code computes it
bit_one : (f g : ℕ) → f < 64 → bit (1 * 2 ^ f % 2 ^ 64) g ≡ (g =? f)
bit_one f g l = ap (λ (x : ℕ). bit x g) (shl_exact 1 f 64 (lit< tt) (omega arith)) ∙ bit_pow f g

pub bit_with : (s f : ℕ) → f < 64 → bit (bit_or s (1 * 2 ^ f % 2 ^ 64)) ≡ with (bit s) f
unfolding with
bit_with s f l = bit_union s _ ∙ unfold union in fun_ext (λ g. or_swap _ _ ∙ ap (λ (x : Bool). x or bit s g) (bit_one f g l))

pub bit_without : (s f : ℕ) → f < 64 → bit (bit_xor (bit_or s (1 * 2 ^ f % 2 ^ 64)) (1 * 2 ^ f % 2 ^ 64)) ≡ without (bit s) f
unfolding without with
bit_without s f l = fun_ext (λ g.
    bit-xor _ _ g ∙ ap₂ (λ (x y : Bool). not (beq x y)) (ap (λ (a : Set). a g) (bit_with s f l)) (bit_one f g l) ∙ ap (λ (x : Bool). not (beq x (g =? f))) (or_swap _ _) ∙ or_xor (bit s g) (g =? f) ∙ and_swap _ _)

-- ---- the language's count of a number's ones

one_if_swap : (a b : Bool) (n : ℕ) → one_if a (one_if b n) ≡ one_if b (one_if a n)
unfolding one_if
one_if_swap true true n = refl
one_if_swap true false n = refl
one_if_swap false true n = refl
one_if_swap false false n = refl

count_shift : (k : ℕ) (p : ℕ → Bool) → count (suc k) p ≡ one_if (p 0) (count k (λ i. p (suc i)))
unfolding count
count_shift zero p = refl
count_shift (suc k) p = ap (one_if (p (suc k))) (count_shift k p) ∙ one_if_swap (p (suc k)) (p 0) (count k (λ i. p (suc i)))

digit_count : (r n : ℕ) → r < 2 → r + n ≡ one_if (r =? 1) n
unfolding one_if ◌=?◌
digit_count zero n h = omega arith
digit_count (suc zero) n h = omega arith
digit_count (suc (suc r)) n h = absurd (omega arith)

zero_digit : (n : ℕ) → (n % 2 =? 1) ≡ bit n 0
unfolding bit
zero_digit n = ap (λ (x : ℕ). x % 2 =? 1) (sym (div-one n))

-- It is how many numbers the set holds.
pub ones_count : (k n : ℕ) → n < 2 ^ k → ones n ≡ count k (bit n)
unfolding ones
ones_count zero n h = rw (lt-one h) (unfold count in refl)
ones_count (suc k) n h =
    let high : n / 2 < 2 ^ k = shr_lt k 1 (rw (← add-one k) at h) in
    ones_step n ∙ digit_count (n % 2) (ones (n / 2)) (mod-lt n two_pos)
    ∙ ap₂ one_if (zero_digit n) (ones_count k (n / 2) high ∙ ap (count k) (fun_ext (λ i. sym (bit_suc n i)))) ∙ sym (count_shift k (bit n))

-- A number in the set of a number below 2 ^ k is below k.
pub bit_limit : (k s f : ℕ) → s < 2 ^ k → bit s f ≡ true → f < k
bit_limit k s f h t = elim (bool? (f <? k)) [ inl y ↦ <?_out _ _ y | inr z ↦ clash t (bit_high k s f h (<?_no _ _ z)) ]
