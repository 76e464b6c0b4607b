-- Laws of the searches in a table's rows: for a word, and for a free place.
use Rattle.std.specs.Prelude.{Bool, None, Option, Some, false, true, List, [], ◌∷◌, ◌≡◌, ◌+◌, ◌<◌, suc, zero, ℕ, position}
use Rattle.std.specs.Prelude.{cond, eqb, refl, get_or, length}
use Rattle.std.specs.List.{position_from}
use Rattle.std.specs.Str.{bytes_eq}
use Rattle.std.proofs.Common.{◌∙◌, ap, sym, arith, zero-le, le_of_suc-le-suc, not-suc-le-zero}
use Rattle.std.proofs.lemmas.Iterator.Adapters.{position_from-zero}
use Rattle.std.proofs.lemmas.List.Quantifiers.{position-Some}
use Rattle.model.specs.Lists.{non_empty}
use Rattle.names.specs.PlaceLaws.{first_at, first_none, place_at, place_none, short_there}
use Rattle.names.specs.Stored.{Rows, lowest_free, name_in, name_of, table_of}
use Rattle.names.specs.UpToLastLaws.{last_at, last_length}
use Rattle.seqs.specs.SameLaws.{same_is}
use Rattle.sets.specs.Answered.{answered}
use Rattle.sets.specs.TestLaws.{=?-not}
use Rattle.sets.specs.Tests.{◌=?◌, ~◌}
use Rattle.text.specs.Bytes.{same, short}
use Rattle.text.specs.Language.{Name}
use Rattle.text.specs.Tables.{name_at, place}

passed : (b : Bool) (i : ℕ) (o : Option ℕ) → cond b (Some i) o ≡ None → (b ≡ false) × (o ≡ None)
passed true i o e = absurd (cc)
passed false i o e = (refl, e)

empty_is : (w : Name) → (~ non_empty w) ≡ eqb (length w) 0
unfolding non_empty ~◌ ◌=?◌
empty_is [] = refl
empty_is (c ∷ cs) = sym (=?-not (length (c ∷ cs)) 0 (λ e. absurd (omega arith)))

-- where nothing is found, no element passes
nothing_from : {A : Type 0} (p : A → Bool) (xs : List A) (i : ℕ) → position_from p i xs ≡ None → (k : ℕ) (d : A) → k < length xs
    → p (get_or xs k d) ≡ false
nothing_from p [] i e k d h = absurd (not-suc-le-zero h)
nothing_from p (x ∷ xs) i e zero d h = (passed (p x) i _ e).0
nothing_from p (x ∷ xs) i e (suc k) d h = nothing_from p xs (i + 1) (passed (p x) i _ e).1 k d (le_of_suc-le-suc h)

nothing_found : {A : Type 0} (p : A → Bool) (xs : List A) → None ≡ position p xs → (k : ℕ) (d : A) → k < length xs
    → p (get_or xs k d) ≡ false
nothing_found p xs e = nothing_from p xs 0 (sym (e ∙ position_from-zero p xs))

module _ (n : ℕ) (rows : Rows) (l : length rows ≡ n) where
  at : (i : ℕ) → i < n → name_at (table_of n rows) i ≡ name_of (get_or rows i [])
  unfolding table_of name_in
  at i h = last_at n (name_in rows) i h

  module _ (w : Name) (s : short w ≡ true) where
    abbrev is_word : List ℕ → Bool
    is_word row = bytes_eq w (name_of row)

    same_at : (i : ℕ) → i < n → same w (name_at (table_of n rows) i) ≡ is_word (get_or rows i [])
    same_at i h = ap (same w) (at i h) ∙ sym (same_is w _)

    -- the place of a word
    pub place_found : (r : Option ℕ) → r ≡ position is_word rows → answered r ≡ place (table_of n rows) w
    unfolding answered table_of
    place_found (Some k) e =
        let f = position-Some is_word rows k [] (sym e) in
        sym (place_at (table_of n rows) w k (short_there w s)
        (λ i h. same_at i (omega (arith, f.0)) ∙ f.2 i h) (same_at k (omega (arith, f.0)) ∙ f.1))
    place_found None e =
        sym (place_none (table_of n rows) w (λ i h. let b = last_length n (name_in rows) in
        same_at i (omega arith) ∙ nothing_found is_word rows e i [] (omega arith)))

  -- the lowest free place
  abbrev is_free : List ℕ → Bool
  is_free row = eqb (length (name_of row)) 0

  free_at : (i : ℕ) → i < n → (~ non_empty (name_at (table_of n rows) i)) ≡ is_free (get_or rows i [])
  free_at i h = ap (λ (x : Name). ~ non_empty x) (at i h) ∙ empty_is _

  pub free_found : (r : Option ℕ) → r ≡ position is_free rows → answered r ≡ lowest_free n (table_of n rows)
  unfolding answered lowest_free
  free_found (Some k) e =
      let f = position-Some is_free rows k [] (sym e) in
      sym (first_at n 0 k (λ i. ~ non_empty (name_at (table_of n rows) i)) zero-le (omega (arith, f.0))
      (λ i h. free_at i (omega (arith, f.0)) ∙ f.2 i h) (free_at k (omega (arith, f.0)) ∙ f.1))
  free_found None e =
      sym (first_none n 0 (λ i. ~ non_empty (name_at (table_of n rows) i))
      (λ i h. free_at i (omega arith) ∙ nothing_found is_free rows e i [] (omega arith)))
