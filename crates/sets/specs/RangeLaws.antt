-- Laws of a test that is put to each number of a range.
use Rattle.std.specs.Prelude.{Bool, List, MatchOption, Option, false, true, ◌≡◌, refl, ◌+◌, ◌<◌, suc, zero, ℕ}
use denote.Param.Members.{Mut}
use Rattle.std.specs.Fn.{Called}
use Rattle.std.specs.Iterator.{YieldsThen}
use Rattle.std.specs.List.{FoldsTo, list_all, range_with_len}
use Rattle.std.proofs.iter.Yields.{nat_range_steps}
use Rattle.std.proofs.lemmas.Iterator.{YieldsList-from_range}
use Rattle.std.proofs.lemmas.Iterator.Search.{all_from_yields_List}
use Rattle.std.proofs.Common.{◌∙◌, ap, zero-lt-suc, arith}
use Rattle.sets.specs.TestLaws.{all_in, all_out, and_in, and_l, and_r, iff→≡}
use Rattle.sets.specs.Tests.{◌&◌, all}

module _ (f : ℕ → Bool) where
  list_in : (a n : ℕ) → ((i : ℕ) → i < n → f (a + i) ≡ true) → list_all f (range_with_len a n) ≡ true
  unfolding ◌&◌
  list_in a zero h = refl
  list_in a (suc n) h =
      let here : a ≡ a + 0 = omega arith in
      and_in (f a) _ (ap f here ∙ h 0 (zero-lt-suc n))
      (list_in (a + 1) n (λ i l. (let same : a + 1 + i ≡ a + suc i = omega arith in ap f same ∙ h (suc i) (omega arith))))

  list_out : (a n : ℕ) → list_all f (range_with_len a n) ≡ true → (i : ℕ) → i < n → f (a + i) ≡ true
  unfolding ◌&◌
  list_out a (suc n) t zero l = (let here : a + 0 ≡ a = omega arith in ap f here ∙ and_l (f a) _ t)
  list_out a (suc n) t (suc i) l =
      (let same : a + suc i ≡ a + 1 + i = omega arith in ap f same ∙ list_out (a + 1) n (and_r (f a) _ t) i (omega arith))
  list_out a zero t i l = absurd (omega (arith, l))

  list_range : (n : ℕ) → list_all f (range_with_len 0 n) ≡ all n f
  list_range n = iff→≡ _ _
      (λ t. all_in n f (λ i l. (let same : i ≡ 0 + i = omega arith in ap f same ∙ list_out 0 n t i l)))
      (λ t. list_in 0 n (λ i l. (let same : 0 + i ≡ i = omega arith in ap f same ∙ all_out n f t i l)))

-- What `(0..n).all` answers, from its clause `ran` and what one call of its closure answers.
pub range_all : {F : Type 0} {g : Mut F (ℕ × Unit {0}) Bool} (test : ℕ → Bool) (n : ℕ) {u : _} {f : F} {r : Bool}
    → (xs : List ℕ) × (o : Option ℕ) × (j : F) × YieldsThen nat_range_steps record { start = 0; end = n } xs o u
    × FoldsTo (λ p x q. Called g p (x, tt) true q) f xs j
    × MatchOption o (r ≡ true) (λ x. (r ≡ false) × ((h : F) × Called g j (x, tt) false h))
    → ((x : ℕ) (b : Bool) (q : F) → Called g f (x, tt) b q → (q ≡ f) × (b ≡ test x)) → r ≡ all n test
range_all test n {u} {f} {r} ran each =
    all_from_yields_List test u f r ran (YieldsList-from_range 0 n n refl (omega arith)) each ∙ list_range test n
