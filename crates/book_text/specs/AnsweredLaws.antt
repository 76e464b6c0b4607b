-- Laws of the call for a text: one for each way out of it.
use Rattle.std.specs.Option.{ok_or}
use Rattle.std.specs.Prelude.{Bool, None, Option as Found, Some, not, List, ◌≡◌, ℕ}
use Rattle.std.proofs.Math.Bool.{false, true}
use Rattle.std.proofs.Math.Logic.{inl, inr}
use Rattle.std.proofs.Common.{◌∙◌, arith}
use Rattle.std.proofs.Math.Option.{none, some, some-injective}
use Rattle.std.proofs.Math.Path.{ap, refl, subst, sym}
use borrow.Author.Tests.{not-false, not-true}
use Rattle.std.proofs.Math.ListN.{length}
use Rattle.book.specs.Plain.{plain_of}
use Rattle.write_bytes.specs.Written.{starting_with, wrote}
use Rattle.names.specs.Stored.{Rows, tables_of}
use Rattle.book_rules.specs.Test as test
use Rattle.book_test.specs.TestedLaws.{not_passed}
use Rattle.refusal.specs.Numbers.{code, found}
use Rattle.refusal.specs.declared.Refusal.TheVariants.{DoesNotFit}
use Rattle.sets.specs.Answered.{answered}
use Rattle.sets.specs.TestLaws.{=?-in, =?-not, and-false, and_in, and_no, bool?, if-false, if-true}
use Rattle.sets.specs.Tests.{◌≤?◌, if?◌then◌else◌}
use Rattle.text.specs.Bytes.{Text}
use Rattle.text.specs.Handed.{names_hold}
use Rattle.text.specs.Written.{written}
use Rattle.names_test.specs.Answered.{TextCall, handed, passes_named, slice_with, text_answer, text_len}

module _ (s n : List ℕ) (c v f i : Rows) (old : List ℕ) where
  abbrev the : Text
  the = written (plain_of s n) (tables_of c v f i)

  -- refused, whatever the number is
  refuse : (a : ℕ) → (a ≡ 0 → ⊥) → text_answer s n c v f i old ≡ a → TextCall s n c v f i old a 0 old
  unfolding text_len slice_with
  refuse a z e = record {
    answer = sym e;
    length_is = sym (if-false _ _ _ (=?-not _ 0 (λ y. z (sym e ∙ y))));
    slice = sym (if-false _ _ _ (=?-not _ 0 (λ y. z (sym e ∙ y))));
  }

  refuse_25 : passes_named s n c v f i ≡ false → TextCall s n c v f i old 25 0 old
  unfolding text_answer
  refuse_25 h = refuse 25 (λ y. absurd (omega arith)) (if-false _ _ _ h)

  -- a Book that does not pass the test for 25
  pub untested : (a len : ℕ) → a ≡ (if? test.passes s n then 0 else 25) → (a ≡ 0 → ⊥) → len ≡ 0 → TextCall s n c v f i old a len old
  unfolding passes_named
  untested a len e ne z =
      let h = not_passed a e ne in
      subst (λ (x : ℕ). TextCall s n c v f i old x len old) (sym h.0)
      (subst (λ (x : ℕ). TextCall s n c v f i old 25 x old) (sym z) (refuse_25 (and-false _ _ h.1)))

  module _ (good : test.passes s n ≡ true) {q : Bool} (eq : q ≡ names_hold (handed s n c v f i)) where
    pub no_names_lem : not q ≡ true → TextCall s n c v f i old 25 0 old
    unfolding passes_named
    no_names_lem h = refuse_25 (and_no _ _ (λ y. sym eq ∙ not-true q h))

    module _ (yq : not q ≡ false) where
      both : passes_named s n c v f i ≡ true
      unfolding passes_named
      both = and_in _ _ good (sym eq ∙ not-false q yq)

      module _ {w : Found ℕ} {new : List ℕ} (ew : answered w ≡ wrote the old) (en : new ≡ starting_with the old) where
        pub too_short : w ≡ None → TextCall s n c v f i old 22 0 new
        unfolding answered wrote text_answer handed starting_with
        too_short h = elim (bool? (length the ≤? length old)) [
          | inl t ↦ (let k : none ≡ some (length the) = sym (ap answered h) ∙ ew ∙ if-true _ _ _ t in absurd (cc))
          | inr t ↦ (let z = refuse 22 (λ y. absurd (omega arith)) (if-true _ _ _ both ∙ if-false _ _ _ t) in
              record { answer = z.answer; length_is = z.length_is; slice = en ∙ if-false _ _ _ t ∙ z.slice })
        ]

        pub writes : {k : ℕ} → w ≡ Some k → TextCall s n c v f i old 0 k new
        unfolding answered wrote text_answer text_len slice_with handed starting_with
        writes {k} h = elim (bool? (length the ≤? length old)) [
          | inl t ↦ (let a : text_answer s n c v f i old ≡ 0 = if-true _ _ _ both ∙ if-true _ _ _ t in
              record {
                answer = sym a;
                length_is = some-injective _ _ (sym (ap answered h) ∙ ew ∙ if-true _ _ _ t) ∙ sym (if-true _ _ _ (=?-in _ 0 a));
                slice = en ∙ if-true _ _ _ t ∙ sym (if-true _ _ _ (=?-in _ 0 a));
              })
          | inr t ↦ (let z : some k ≡ none = sym (ap answered h) ∙ ew ∙ if-false _ _ _ t in absurd (cc))
        ]

      -- both ways in one answer
      pub given : (w : Found ℕ) {new : List ℕ} → answered w ≡ wrote the old → new ≡ starting_with the old
          → TextCall s n c v f i old (code (ok_or w DoesNotFit)) (found (ok_or w DoesNotFit)) new
      given (Some k) ew en = writes ew en refl
      given None ew en = too_short ew en refl
