-- CHOICE: the pairs chosen as 32 sets of versions, as rows, and as the reply.
use Rattle.std.specs.Prelude.{Bool, false, true, List, map, ◌≡◌, refl, ◌%◌, ◌/◌, ◌<◌, ◌^◌, ◌≤◌, ℕ, length}
use Rattle.std.proofs.Common.{inl, inr, ◌∙◌, arith}
use Rattle.std.proofs.Math.Path.{ap, fun_ext, sym}
use Rattle.std.proofs.lemmas.List.{length-map}
use Rattle.book.specs.Plain.{plain_of, specs_of}
use Rattle.model_laws.specs.FirstNoLaws.{yes_at}
use Rattle.model.specs.Book.{Book, Pair, Specs, facilities, has_version, provides}
use Rattle.model.specs.Queries.{CHOICE, asked, choice, found, refused, rising_pairs, the_pairs}
use Rattle.model.specs.Questions.{first_no}
use Rattle.model.specs.Lists.{rising}
use Rattle.query_replies.specs.Found.{Chosen, chosen_at, flat, row_in}
use Rattle.query_replies.specs.Listed.{Listed, fitted, row_of}
use Rattle.query_choice.specs.ListedLaws.{list_full, list_refused, list_written}
use Rattle.query_replies.specs.Replied.{numbers_in, replied_to}
use Rattle.query_replies.specs.RepliedLaws.{to_25, to_found}
use Rattle.query_replies.specs.RowLaws.{rows_flat}
use Rattle.book_rules.specs.Test.{passes}
use Rattle.seqs.specs.Filled.{filled}
use Rattle.sets.specs.SetLaws.{bit_zero}
use Rattle.sets.specs.Sets.{Set, bit, subset}
use Rattle.sets.specs.TestLaws.{and-false, and_swap, and-true, bool?, if-false, if-true}
use Rattle.sets.specs.Tests.{◌&◌, count, if?◌then◌else◌}
use Rattle.model_laws.specs.RisingLaws.{rising_below, rising_cong, rising-length, rising-set}

module _ (S : Specs) (w c p : ℕ) {t : Bool} (ep : bit p ≡ provides S c) (et : t ≡ subset 64 (bit w) (bit p)) where
  tested : subset 64 (bit w) (provides S c) ≡ t
  tested = sym (et ∙ ap (subset 64 (bit w)) ep)

  pub chosen_yes : (x : ℕ) → t ≡ true → bit x ≡ has_version S c → bit x ≡ chosen_at S (bit w) c
  unfolding chosen_at
  chosen_yes x e ex = ex ∙ fun_ext (λ v. sym (and_swap _ _ ∙ and-true _ _ (tested ∙ e)))

  pub chosen_no : t ≡ false → bit 0 ≡ chosen_at S (bit w) c
  unfolding chosen_at
  chosen_no e = fun_ext (λ v. bit_zero v ∙ sym (and_swap _ _ ∙ and-false _ _ (tested ∙ e)))

-- ---- as rows

rows_chosen : (S : Specs) (w : Set) (t : List ℕ) → Chosen S w t → rising 2048 (row_in t) ≡ map row_of (rising_pairs (chosen_at S w))
rows_chosen S w t k = rising_cong 2048 (row_in t) (flat (chosen_at S w)) at ∙ sym (rows_flat (chosen_at S w))
  where
    at : (d : ℕ) → d < 2048 → row_in t d ≡ flat (chosen_at S w) d
    at d l = unfold row_in flat in ap (λ (a : Set). a (d % 64)) (k.row (d / 64) (omega arith))

choice_is : (b : Book) (w : ℕ) → w < 2 ^ 64 → rising_pairs (chosen_at b.specs (bit w)) ≡ choice b (numbers_in w)
unfolding choice chosen_at numbers_in
choice_is b w h = ap (λ (a : Set). rising_pairs (λ c v. has_version b.specs c v & subset facilities a (provides b.specs c))) (sym (rising-set w h))

-- ---- as the reply

module _ (s n old : List ℕ) (w : ℕ) where
  -- a Book that does not pass the test for 25
  pub choice_untested : (a x : ℕ) → a ≡ (if? passes s n then 0 else 25) → (a ≡ 0 → ⊥) → x ≡ 0
      → Listed old a x old (fitted (length old) (replied_to s n (CHOICE (numbers_in w))))
  choice_untested a x e ne z = elim (bool? (passes s n)) [
    | inl t ↦ absurd (ne (e ∙ if-true _ _ _ t))
    | inr f ↦ rw z (list_refused old a (to_25 s n _ f ∙ ap refused (sym (e ∙ if-false _ _ _ f))))
  ]

  module _ (good : passes s n ≡ true) (w< : w < 2 ^ 64) (t : List ℕ) (k : Chosen (specs_of s n) (bit w) t)
      (m : ℕ) (em : m ≡ count 2048 (row_in t)) where
    pairs : List Pair
    pairs = choice (plain_of s n) (numbers_in w)

    rows_are : rising 2048 (row_in t) ≡ map row_of pairs
    unfolding pairs
    rows_are = rows_chosen (specs_of s n) (bit w) t k ∙ ap (map row_of) (choice_is (plain_of s n) w w<)

    count_is : m ≡ length pairs
    count_is = em ∙ sym (rising-length 2048 (row_in t)) ∙ ap length rows_are ∙ length-map pairs row_of

    replied : replied_to s n (CHOICE (numbers_in w)) ≡ the_pairs pairs
    unfolding asked found pairs numbers_in
    replied = to_found s n (CHOICE (numbers_in w)) good (yes_at 1 _ _ (rising_below 64 (bit w)) ∙ (unfold first_no in refl))

    pub choice_22 : length old < m → Listed old 22 0 old (fitted (length old) (replied_to s n (CHOICE (numbers_in w))))
    choice_22 l = list_full old pairs replied m count_is l

    pub choice_0 : {new : List ℕ} → m ≤ length old → new ≡ filled (rising 2048 (row_in t)) old
        → Listed old 0 m new (fitted (length old) (replied_to s n (CHOICE (numbers_in w))))
    choice_0 l e = list_written old pairs replied m count_is l (e ∙ ap (λ (p : List ℕ). filled p old) rows_are)
