-- Laws of loops that run upwards from 0: one for the start, one for a turn, one for each way out. The index is i, the bound n.
use Rattle.std.specs.Prelude.{Bool, false, not, true, ◌≡◌, refl, ◌+◌, ◌<◌, ◌≤◌, ℕ}
use Rattle.std.proofs.Math.Logic.{inl, inr}
use Rattle.std.proofs.Common.{◌∙◌, ap₂, le_antisymm, add-one, arith}
use Rattle.std.proofs.Math.Path.{ap, fun_ext, sym}
use Rattle.std.proofs.lemmas.Bool.{not-false, not-true}
use Rattle.sets.specs.SetLaws.{bit_zero}
use Rattle.sets.specs.Sets.{Set, below, bit, union, union_below, with}
use Rattle.sets.specs.TestLaws.{<?_in, <?_out, =?-in, =?-not, all_out, and-false, and_in, and_no, clash, fails, iff→≡}
use Rattle.sets.specs.TestLaws.{or-false, or_l, or_swap, same?}
use Rattle.sets.specs.Tests.{◌&◌, ◌<?◌, ◌or◌, all, any, count, one_if}

from_here : (n i : ℕ) → i ≤ n → n ≤ i → i ≡ n
from_here n i h k = le_antisymm h k

-- ---- a loop that tests f at i as r, and returns false at the first that fails

pub all_start : (f : ℕ → Bool) → all 0 f ≡ true
unfolding all
all_start f = refl

pub all_turn : (i : ℕ) (f : ℕ → Bool) {r : Bool} → all i f ≡ true → r ≡ f i → not r ≡ false → all (i + 1) f ≡ true
unfolding all
all_turn i f {r} a e t = rw add-one (and_in _ _ (sym e ∙ not-false r t) a)

pub all_stop : (n i : ℕ) (f : ℕ → Bool) {r : Bool} → i < n → r ≡ f i → not r ≡ true → false ≡ all n f
all_stop n i f {r} l e t = sym (fails _ (λ a. clash (all_out n f a i l) (sym e ∙ not-true r t)))

pub all_end : (n i : ℕ) (f : ℕ → Bool) → i ≤ n → n ≤ i → all i f ≡ true → true ≡ all n f
all_end n i f h k a = sym a ∙ ap (λ (m : ℕ). all m f) (from_here n i h k)

-- ---- a loop that tests f at i as r, and returns true at the first that passes

pub any_start : (f : ℕ → Bool) → any 0 f ≡ false
unfolding any
any_start f = refl

pub any_turn : (i : ℕ) (f : ℕ → Bool) {r : Bool} → any i f ≡ false → r ≡ f i → r ≡ false → any (i + 1) f ≡ false
unfolding any
any_turn i f {r} a e t = rw add-one (or-false _ _ (sym e ∙ t) ∙ a)

-- ---- a loop that unites the sets p 0, p 1 and so on into the number s

pub union_start : (p : ℕ → Set) → bit 0 ≡ union_below 0 p
unfolding union_below any
union_start p = fun_ext bit_zero

pub union_turn : (i : ℕ) (p : ℕ → Set) (s t : ℕ) → bit s ≡ union_below i p → bit t ≡ union (bit s) (p i) → bit t ≡ union_below (i + 1) p
unfolding union_below any union
union_turn i p s t a e = e ∙ fun_ext (λ f. rw add-one (ap (λ (x : Bool). x or p i f) (ap (λ (q : Set). q f) a) ∙ or_swap _ _))

pub union_end : (n i : ℕ) (p : ℕ → Set) (s : ℕ) → i ≤ n → n ≤ i → bit s ≡ union_below i p → bit s ≡ union_below n p
union_end n i p s h k a = a ∙ ap (λ (m : ℕ). union_below m p) (from_here n i h k)

-- ---- a loop that collects in the number s the numbers at which f passes as r

pub collect_start : (f : ℕ → Bool) → bit 0 ≡ below 0 f
unfolding below
collect_start f = fun_ext (λ d. bit_zero d ∙ sym (and-false _ _ (fails _ (λ t. omega (arith, <?_out _ _ t)))))

module _ (i s : ℕ) (f : ℕ → Bool) {r : Bool} (es : bit s ≡ below i f) (er : r ≡ f i) where
  other : (d : ℕ) → (d ≡ i → ⊥) → (d <? i) ≡ (d <? i + 1)
  other d ne = iff→≡ _ _ (λ y. <?_in _ _ (omega (arith, <?_out _ _ y))) (λ y. <?_in _ _ (omega (arith, <?_out _ _ y, ne)))

  pub collect_hit : (t : ℕ) → r ≡ true → bit t ≡ with (bit s) i → bit t ≡ below (i + 1) f
  unfolding below with
  collect_hit t e et = et ∙ fun_ext (λ d. elim (same? d i) [
    | inl q ↦ or_l _ _ (=?-in d i q) ∙ sym (and_in _ _ (<?_in _ _ (omega arith)) (ap f q ∙ sym er ∙ e))
    | inr ne ↦ or-false _ _ (=?-not d i ne) ∙ ap (λ (a : Set). a d) es ∙ ap (λ (b : Bool). b & f d) (other d ne)
  ])

  pub collect_miss : r ≡ false → bit s ≡ below (i + 1) f
  unfolding below
  collect_miss e = es ∙ fun_ext (λ d. elim (same? d i) [
    | inl q ↦ and_no _ _ (λ y. ap f q ∙ sym er ∙ e) ∙ sym (and_no _ _ (λ y. ap f q ∙ sym er ∙ e))
    | inr ne ↦ ap (λ (b : Bool). b & f d) (other d ne)
  ])

-- ---- a loop that counts in s the numbers at which f passes as r

pub count_start : (f : ℕ → Bool) → 0 ≡ count 0 f
unfolding count
count_start f = refl

pub count_hit : (i s : ℕ) (f : ℕ → Bool) {r : Bool} → s ≡ count i f → r ≡ f i → r ≡ true → s + 1 ≡ count (i + 1) f
unfolding count one_if
count_hit i s f {r} a e t = rw (add-one s, add-one i) (ap₂ one_if (sym (sym e ∙ t)) a)

pub count_miss : (i s : ℕ) (f : ℕ → Bool) {r : Bool} → s ≡ count i f → r ≡ f i → r ≡ false → s ≡ count (i + 1) f
unfolding count one_if
count_miss i s f {r} a e t = rw (add-one i) (ap₂ one_if (sym (sym e ∙ t)) a)

pub count_end : (n i s : ℕ) (f : ℕ → Bool) → i ≤ n → n ≤ i → s ≡ count i f → s ≡ count n f
count_end n i s f h k a = a ∙ ap (λ (m : ℕ). count m f) (from_here n i h k)
