-- What the program prints, whether text and listing fit or not.
use Rattle.std.specs.Prelude.{Err, List, Ok, Result, ◌++◌, ◌<◌, ◌≤◌, ℕ}
use Rattle.std.proofs.Math.Logic.{inl, inr}
use Rattle.std.proofs.Common.{◌∙◌}
use Rattle.std.proofs.Math.Path.{◌≡◌, ap, refl, sym}
use native.Mathlib.Omega.{arith}
use Rattle.std.proofs.Math.ListN.{drop, length, length-append, take}
use Rattle.std.proofs.Math.Seq.{take-append_seam}
use Rattle.refusal.specs.NumberLaws.{no_number_0}
use Rattle.refusal.specs.Numbers.{code, found}
use Rattle.refusal.specs.declared.Refusal.{Refusal}
use Rattle.sets.specs.TestLaws.{and-false, and-true, bool?, fails, if-false, if-true, ≤?_in, ≤?_out}
use Rattle.sets.specs.Tests.{◌&◌, ◌≤?◌}
use Rattle.svcd.specs.Reached.{answer_of, length_of}
use Rattle.text.specs.Bytes.{Text, bytes}
use Rattle.text.specs.LentSlice.{fits_in, listing_in, prints, program_bytes, slice_after}
use Rattle.text.specs.Session.{session}

module _ (t : Text) where
  pub text_too_long : program_bytes < length t → bytes "0,22\n" ≡ prints t
  unfolding prints
  text_too_long h = sym (if-false _ _ _ (and-false _ _ (fails _ (λ e. let k = ≤?_out (length t) program_bytes e in omega arith))))

  module _ (h : length t ≤ program_bytes) (old : List ℕ) (l : length old ≡ program_bytes) where
    fit : (length t ≤? program_bytes & length (session t).0 ≤? program_bytes) ≡ fits_in old t
    unfolding fits_in
    fit = and-true _ _ (≤?_in _ _ h) ∙ ap (λ (n : ℕ). length (session t).0 ≤? n) (sym l)

    pub listing_too_long : {a : ℕ} → a ≡ answer_of old t → (a ≡ 0 → ⊥) → bytes "0,22\n" ≡ prints t
    unfolding prints answer_of
    listing_too_long e n = elim (bool? (fits_in old t)) [
      | inl y ↦ absurd (n (e ∙ if-true _ _ _ y))
      | inr z ↦ sym (if-false _ _ _ (fit ∙ z))
    ]

    pub printed : {a n : ℕ} {new : List ℕ} → new ≡ slice_after old t → a ≡ answer_of old t → n ≡ length_of old t → a ≡ 0
        → (n ≤ length new) × (take n new ≡ prints t)
    unfolding prints answer_of length_of slice_after listing_in
    printed {a} {n} {new} s e d z = elim (bool? (fits_in old t)) [
      | inl y ↦ (let m : n ≡ length (session t).0 = d ∙ if-true _ _ _ y in
          let w : new ≡ (session t).0 ++ drop (length (session t).0) old = s ∙ if-true _ _ _ y in
          let k = ap length w ∙ length-append (session t).0 (drop (length (session t).0) old) in (
            omega arith,
            ap (λ (i : ℕ). take i new) m ∙ ap (take (length (session t).0)) w ∙ take-append_seam (session t).0 _ ∙ sym (if-true _ _ _ (fit ∙ y)),
          ))
      | inr y ↦ (let w : ◌≡◌ {A = ℕ} 22 0 = sym (if-false _ _ _ y) ∙ sym e ∙ z in absurd (omega arith))
    ]

    -- by what the library's session gives back
    module _ {r : Result ℕ Refusal} (e : code r ≡ answer_of old t) where
      pub printed_ok : {n : ℕ} {new : List ℕ} → new ≡ slice_after old t → found r ≡ length_of old t → r ≡ Ok n
          → (n ≤ length new) × (take n new ≡ prints t)
      printed_ok s d o = printed s (sym (ap (λ x. code x) o) ∙ e) (sym (ap (λ x. found x) o) ∙ d) refl

      pub printed_22 : {x : Refusal} → r ≡ Err x → bytes "0,22\n" ≡ prints t
      printed_22 {x} o = listing_too_long (sym (ap (λ y. code y) o) ∙ e) (no_number_0 x)
