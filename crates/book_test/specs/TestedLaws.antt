-- What the answer of the test for 25 says.
use Rattle.std.specs.Prelude.{Bool, false, true, List, ◌≡◌, ℕ}
use Rattle.std.proofs.Common.{ap, inl, inr, sym, ◌∙◌, arith}
use Rattle.book_rules.specs.Test.{passes}
use Rattle.refusal.specs.NumberLaws.{no_number_0}
use Rattle.refusal.specs.Numbers.{number}
use Rattle.refusal.specs.declared.Refusal.{Refusal}
use Rattle.model.specs.Book.{Book, Systems}
use Rattle.model.specs.Rules.{B6, B7, B8, B9, each_composition}
use Rattle.book_test.specs.Rules.{B6_to_B9_at}
use Rattle.sets.specs.TestLaws.{all_in, all_out, and_in, and_l, and_r, bool?, if-false, if-true, iff→≡, imp_in, imp_out}
use Rattle.sets.specs.Tests.{◌&◌, if?◌then◌else◌}

pub is_tested : {p r : Bool} → r ≡ p → r ≡ true → ◌≡◌ {A = ℕ} 0 (if? p then 0 else 25)
is_tested e t = sym (if-true _ _ _ (sym e ∙ t))

pub is_refused : {p r : Bool} → r ≡ p → r ≡ false → ◌≡◌ {A = ℕ} 25 (if? p then 0 else 25)
is_refused e f = sym (if-false _ _ _ (sym e ∙ f))

pub was_tested : {p : Bool} → ◌≡◌ {A = ℕ} 0 (if? p then 0 else 25) → p ≡ true
was_tested {p} e = elim (bool? p) [
  | inl t ↦ t
  | inr f ↦ absurd (let z = e ∙ if-false _ _ _ f in omega (arith, z))
]

pub not_passed : {p : Bool} (a : ℕ) → a ≡ (if? p then 0 else 25) → (a ≡ 0 → ⊥) → (a ≡ 25) × (p ≡ false)
not_passed {p} a e ne = elim (bool? p) [
  | inl t ↦ absurd (ne (e ∙ if-true _ _ _ t))
  | inr f ↦ (e ∙ if-false _ _ _ f, f)
]

-- refused: the Book does not pass
pub tested_no : (s n : List ℕ) (e : Refusal) → number e ≡ (if? passes s n then 0 else 25) → passes s n ≡ false
tested_no s n e h = (not_passed {p = passes s n} (number e) h (no_number_0 e)).1

-- ---- B5, and then the others of each composition

-- two rules are met by each composition where both together are
each_both : (Y : Systems) (f g : ℕ → ℕ → Bool) → each_composition Y (λ s v. f s v & g s v) ≡ (each_composition Y f & each_composition Y g)
unfolding each_composition
each_both Y f g = iff→≡ _ _
    (λ t. and_in _ _
    (all_in 32 _ (λ s l. all_in 64 _ (λ v k. imp_in _ _ (λ y. and_l _ _ (imp_out _ _ (all_out 64 _ (all_out 32 _ t s l) v k) y)))))
    (all_in 32 _ (λ s l. all_in 64 _ (λ v k. imp_in _ _ (λ y. and_r _ _ (imp_out _ _ (all_out 64 _ (all_out 32 _ t s l) v k) y))))))
    (λ t. all_in 32 _ (λ s l. all_in 64 _ (λ v k. imp_in _ _ (λ y. and_in _ _
    (imp_out _ _ (all_out 64 _ (all_out 32 _ (and_l _ _ t) s l) v k) y)
    (imp_out _ _ (all_out 64 _ (all_out 32 _ (and_r _ _ t) s l) v k) y)))))

pub rest_is : (b : Book) {r : Bool} → r ≡ each_composition b.systems (B6_to_B9_at b)
    → r ≡ (B6 b.specs b.systems & B7 b.specs b.systems & B8 b.specs b.systems & B9 b.specs b.systems)
unfolding B6_to_B9_at B6 B7 B8 B9
rest_is b e = e ∙ each_both b.systems _ _ ∙ ap (λ (x : Bool). B6 b.specs b.systems & x)
    (each_both b.systems _ _ ∙ ap (λ (x : Bool). B7 b.specs b.systems & x) (each_both b.systems _ _))
