-- Demand 2 of the call for a text: where it answers 0 or 22, what it has then written, and equal texts.
use Rattle.std.specs.Prelude.{false, true, ◌↔◌, ◌⊎◌, ◌≡◌, ℕ}
use mathlib.Core.List.{List}
use Rattle.std.proofs.Math.Logic.{inl, inr}
use Rattle.std.proofs.Common.{◌∙◌, sym, arith}
use Rattle.std.proofs.Math.Path.{ap₂}
use Rattle.std.proofs.Math.ListN.{length, take}
use Rattle.std.proofs.Math.Seq.{take-append_seam}
use Rattle.book.specs.Plain.{proper}
use Rattle.names.specs.Stored.{Rows}
use Rattle.book_rules.specs.TestLaws.{passes_plain, passes-proper, plain_passes}
use Rattle.seqs.specs.Filled.{filled}
use Rattle.sets.specs.TestLaws.{=?-in, and_in, and_l, and_r, bool?, if-false, if-true}
use Rattle.sets.specs.Tests.{◌≤?◌}
use Rattle.text.specs.Handed.{PassesNamed}
use Rattle.text.specs.SameByNames.{Same, text_of}
use Rattle.text_laws.specs.EqualTexts as texts
use Rattle.text_laws.specs.Handed.{hold_names, names_hold_lem}
use Rattle.model_laws.specs.Good.{passes→good}
use Rattle.names_test.specs.Answered.{TextCall, handed, passes_named, slice_with, text_answer, text_len}

module _ (s n : List ℕ) (c v f i : Rows) where
  -- the test is the question for 25: of the Book's own numbers, of the book and of its tables
  pub test_named : passes_named s n c v f i ≡ true → (proper s n ≡ true) × PassesNamed (handed s n c v f i)
  unfolding passes_named handed
  test_named t =
      let p = passes_plain s n (and_l _ _ t) in
      (passes-proper s n (and_l _ _ t), record { passes = p; named = names_hold_lem (handed s n c v f i) (passes→good p) (and_r _ _ t) })

  pub named_test : (proper s n ≡ true) × PassesNamed (handed s n c v f i) → passes_named s n c v f i ≡ true
  unfolding passes_named handed
  named_test p = and_in _ _ (plain_passes s n p.0 p.1.passes) (hold_names (handed s n c v f i) p.1.named)

  module _ (old : List ℕ) where
    no_test : passes_named s n c v f i ≡ false → text_answer s n c v f i old ≡ 25
    unfolding text_answer
    no_test t = if-false _ _ _ t

    tested : (a : ℕ) → text_answer s n c v f i old ≡ a → (a ≡ 25 → ⊥) → passes_named s n c v f i ≡ true
    tested a e z = elim (bool? (passes_named s n c v f i)) [
      | inl t ↦ t
      | inr t ↦ absurd (z (sym e ∙ no_test t))
    ]

    0_or_22 : passes_named s n c v f i ≡ true → (text_answer s n c v f i old ≡ 0) ⊎ (text_answer s n c v f i old ≡ 22)
    unfolding text_answer
    0_or_22 t = elim (bool? (length (text_of (handed s n c v f i)) ≤? length old)) [
      | inl y ↦ inl (if-true _ _ _ t ∙ if-true _ _ _ y)
      | inr y ↦ inr (if-true _ _ _ t ∙ if-false _ _ _ y)
    ]

    -- the answer is 0 or 22 exactly when the answer to the question for 25 is yes
    pub answers_named : ((text_answer s n c v f i old ≡ 0) ⊎ (text_answer s n c v f i old ≡ 22))
        ↔ ((proper s n ≡ true) × PassesNamed (handed s n c v f i))
    answers_named = (by, λ p. 0_or_22 (named_test p))
      where
        by : (text_answer s n c v f i old ≡ 0) ⊎ (text_answer s n c v f i old ≡ 22) → (proper s n ≡ true) × PassesNamed (handed s n c v f i)
        by (inl e) = test_named (tested 0 e (λ z. absurd (omega arith)))
        by (inr e) = test_named (tested 22 e (λ z. absurd (omega arith)))

-- ---- a call that answered 0

module _ {s n : List ℕ} {c v f i : Rows} {old : List ℕ} {a len : ℕ} {new : List ℕ} (k : TextCall s n c v f i old a len new) (z : a ≡ 0) where
  pub answered_named : PassesNamed (handed s n c v f i)
  answered_named = ((answers_named s n c v f i old).0 (inl (sym k.answer ∙ z))).1

  -- it has written the book's text
  pub answered_text : take len new ≡ text_of (handed s n c v f i)
  unfolding text_len slice_with filled
  answered_text =
      let t = =?-in _ 0 (sym k.answer ∙ z) in
      ap₂ (λ (l : ℕ) (x : List ℕ). take l x) (k.length_is ∙ if-true _ _ _ t) (k.slice ∙ if-true _ _ _ t)
      ∙ take-append_seam (text_of (handed s n c v f i)) _

-- "two books have equal texts exactly when they are the same by names"
pub equal_texts : {s n : List ℕ} {c v f i : Rows} {old : List ℕ} {a len : ℕ} {new : List ℕ} {s' n' : List ℕ} {c' v' f' i' : Rows} {old' : List ℕ}
    {a' len' : ℕ} {new' : List ℕ}
    → TextCall s n c v f i old a len new → a ≡ 0 → TextCall s' n' c' v' f' i' old' a' len' new' → a' ≡ 0
    → (take len new ≡ take len' new') ↔ Same (handed s n c v f i) (handed s' n' c' v' f' i')
equal_texts k z k' z' =
    let q = texts.equal_texts _ _ (answered_named k z) (answered_named k' z') in (
      λ e. q.0 (sym (answered_text k z) ∙ e ∙ answered_text k' z'),
      λ e. answered_text k z ∙ q.1 e ∙ sym (answered_text k' z'),
    )
