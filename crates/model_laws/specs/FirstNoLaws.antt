-- The number at the first no, question after question.
use Rattle.std.specs.Prelude.{Bool, false, not, true, List, [], ◌++◌, ◌∷◌, ◌≡◌, refl, ◌≤◌, suc, ℕ}
use Rattle.std.proofs.Common.{inl, inr, ◌∙◌, ap, sym, arith}
use Rattle.model.specs.Questions.{Question, first_no}
use Rattle.sets.specs.TestLaws.{<?_out, bool?, fails, if-false, if-true}
use Rattle.sets.specs.Tests.{◌<?◌, ~◌}
use Rattle.model_laws.specs.Accepted.{Numbered}

pub no_at : (m : ℕ) (t : Bool) (qs : List Question) → t ≡ false → first_no ((m, t) ∷ qs) ≡ m
unfolding first_no
no_at m t qs e = if-false _ _ _ e

pub yes_at : (m : ℕ) (t : Bool) (qs : List Question) → t ≡ true → first_no ((m, t) ∷ qs) ≡ first_no qs
unfolding first_no
yes_at m t qs e = if-true _ _ _ e

pub not_yes : (b : Bool) → b ≡ true → (~ b) ≡ false
unfolding ~◌
not_yes b e = ap not e

pub too_large : (l c : ℕ) → l ≤ c → (c <? l) ≡ false
too_large l c h = fails _ (λ t. omega (arith, h, <?_out _ _ t))

-- ---- some questions first, then the others

pub others_asked : (qs rs : List Question) → Numbered qs → first_no qs ≡ 0 → first_no (qs ++ rs) ≡ first_no rs
unfolding first_no
others_asked [] rs n e = refl
others_asked (q ∷ qs) rs n e = elim (bool? q.1) [
  | inl y ↦ if-true _ _ _ y ∙ others_asked qs rs n.1 (sym (if-true _ _ _ y) ∙ e)
  | inr z ↦ absurd (omega (arith, n.0, sym (if-false _ _ _ z) ∙ e))
]

pub none-asked : (qs rs : List Question) (m : ℕ) → first_no qs ≡ suc m → first_no (qs ++ rs) ≡ suc m
unfolding first_no
none-asked [] rs m e = absurd (omega (arith, e))
none-asked (q ∷ qs) rs m e = elim (bool? q.1) [
  | inl y ↦ if-true _ _ _ y ∙ none-asked qs rs m (sym (if-true _ _ _ y) ∙ e)
  | inr z ↦ if-false _ _ _ z ∙ (sym (if-false _ _ _ z) ∙ e)
]

pub none_left : first_no [] ≡ 0
unfolding first_no
none_left = refl
