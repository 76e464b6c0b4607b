-- The first no, question after question.
use Rattle.std.specs.Prelude.{Bool, List, false, true, ◌∷◌, ◌≡◌, ◌+◌, ◌<◌, ◌≤◌, ℕ, drop, get_or, length, map, ◌&&◌, ◌++◌, ◌≢◌, refl, suc, zero}
use Rattle.std.proofs.Common.{◌∙◌, add-one, ap, ap₂, drop-cons, drop_of_length-le, sym}
use Rattle.command_outcome.specs.Asked.{question}
use Rattle.model.specs.Questions.{Question, first_no}
use Rattle.model_laws.specs.FirstNoLaws.{no_at, none-asked, yes_at}
use Rattle.refusal.specs.Numbers.{number}
use Rattle.sets.specs.Tests.{if?◌then◌else◌}
use Rattle.refusal.specs.declared.Refusal.{Refusal}

module _ (qs : List (Bool × Refusal)) (i : ℕ) (asked : first_no (map question qs) ≡ first_no (map question (drop i qs))) where
  one : (d : Bool × Refusal) → i < length qs → first_no (map question qs) ≡ first_no (question (get_or qs i d) ∷ map question (drop (i + 1) qs))
  one d h = asked ∙ rw add-one (ap (λ (l : List (Bool × Refusal)). first_no (map question l)) (drop-cons qs i d h))

  pub asked_no : (d : Bool × Refusal) → i < length qs → (get_or qs i d).0 ≡ false → number (get_or qs i d).1 ≡ first_no (map question qs)
  asked_no d h e = sym (one d h ∙ no_at _ _ _ e)

  pub asked_yes : (d : Bool × Refusal) → i < length qs → (get_or qs i d).0 ≡ true
      → first_no (map question qs) ≡ first_no (map question (drop (i + 1) qs))
  asked_yes d h e = one d h ∙ yes_at _ _ _ e

  pub asked_end : length qs ≤ i → 0 ≡ first_no (map question qs)
  unfolding first_no
  asked_end h = sym (asked ∙ ap (λ (l : List (Bool × Refusal)). first_no (map question l)) (drop_of_length-le qs h))

-- ---- one question after another

pub next : (n : ℕ) {a b : Bool} (xs ys : List Question) → a ≡ b → first_no xs ≡ first_no ys → first_no ((n, a) ∷ xs) ≡ first_no ((n, b) ∷ ys)
unfolding first_no
next n xs ys e q = ap₂ (λ (z : Bool) (m : ℕ). if? z then m else n) e q

pub grouped : (x y z : Bool) → ((x && y) && z) ≡ (x && (y && z))
grouped true y z = refl
grouped false y z = refl

-- the first question with a no, of questions that are put before others
pub asked_before : (qs rs : List Question) (r : ℕ) → r ≡ first_no qs → r ≢ 0 → first_no (qs ++ rs) ≡ r
asked_before qs rs zero e ne = absurd (ne refl)
asked_before qs rs (suc m) e ne = none-asked qs rs m (sym e)
