-- Demand 3 of the call for a parts list.
use Rattle.std.specs.Prelude.{true, List, [], ◌∷◌, ◌≡◌, ◌<◌, ◌≤◌, ℕ, length}
use Rattle.std.proofs.Common.{inl, inr, ◌∙◌, le_trans, arith}
use Rattle.book.specs.Plain.{plain_of}
use Rattle.model.specs.Book.{has_version}
use Rattle.model.specs.PartsList.{parts}
use Rattle.model.specs.Queries.{asked}
use Rattle.model.specs.Questions.{first_no}
use Rattle.demand_3.specs.Demand.{PartsGiven}
use Rattle.parts.specs.Listed.{Listed, parts_answer, parts_asked}
use Rattle.book_rules.specs.Test.{passes}
use Rattle.book_rules.specs.TestLaws.{passes_plain}
use Rattle.sets.specs.TestLaws.{<?_in, and_in, fails, if-false, if-true, ≤_or_<, ≤?_in, ≤?_out}
use Rattle.sets.specs.Tests.{◌≤?◌}
use Rattle.model_laws.specs.Good.{passes→good, version_specified}
use Rattle.model_laws.specs.Parts.{pair_limits}
use Rattle.model_laws.specs.Sequence.{passes-parts}

-- of a stored version only question 22 is left
module _ (s n : List ℕ) (c v room : ℕ) (good : passes s n ≡ true) (has_it : has_version (plain_of s n).specs c v ≡ true) where
  stored_limits : (c < 32) × (v < 64)
  stored_limits = pair_limits (plain_of s n) (passes→good (passes_plain s n good)) c v has_it c v has_it

  only_22 : parts_answer s n c v room ≡ first_no ((22, length (parts (plain_of s n) c v) ≤? room) ∷ [])
  unfolding parts_answer parts_asked asked first_no
  only_22 =
      if-true _ _ _ good ∙ if-true _ _ _ (and_in _ _ (<?_in _ _ stored_limits.0) (<?_in _ _ stored_limits.1))
      ∙ if-true _ _ _ (version_specified _ c v has_it) ∙ if-true _ _ _ has_it

  pub fits_0 : length (parts (plain_of s n) c v) ≤ room → parts_answer s n c v room ≡ 0
  unfolding first_no
  fits_0 h = only_22 ∙ if-true _ _ _ (≤?_in _ _ h)

  pub short_22 : room < length (parts (plain_of s n) c v) → parts_answer s n c v room ≡ 22
  unfolding first_no
  short_22 h = only_22 ∙ if-false _ _ _ (fails _ (λ t. omega (arith, h, ≤?_out _ _ t)))

module _ (s n : List ℕ) (c v : ℕ) (old : List ℕ) (a rows depth : ℕ) (out : List ℕ) (good : passes s n ≡ true)
    (has_it : has_version (plain_of s n).specs c v ≡ true) (z : Listed s n c v old a rows depth out) where
  fits : length (parts (plain_of s n) c v) ≤ length old → a ≡ 0
  fits h = z.answer_is ∙ fits_0 s n c v (length old) good has_it h

  short : length old < length (parts (plain_of s n) c v) → a ≡ 22
  short h = z.answer_is ∙ short_22 s n c v (length old) good has_it h

  is_short : a ≡ 22 → length old < length (parts (plain_of s n) c v)
  is_short e = elim (≤_or_< (length (parts (plain_of s n) c v)) (length old)) [
    | inl h ↦ absurd (omega (arith, e, fits h))
    | inr h ↦ h
  ]

  -- the answer and the rows of the call for a stored version, on a Book that passes
  pub parts_given : PartsGiven s n c v old a rows depth out
  parts_given =
      let right = passes-parts (plain_of s n) (passes_plain s n good) c v has_it in
      record {
        given = λ h. (fits h, z.found (fits h));
        right = right;
        gives_22 = (is_short, short);
        never_short = λ h. fits (le_trans right.rows h);
        0_or_22 = elim (≤_or_< (length (parts (plain_of s n) c v)) (length old)) [
          | inl h ↦ inl (fits h)
          | inr h ↦ inr (short h)
        ];
        kept = λ e. z.refused (λ k. omega (arith, e, k));
      }
