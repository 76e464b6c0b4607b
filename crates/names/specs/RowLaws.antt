-- Laws of the name in a row.
use Rattle.std.specs.Prelude.{None, Option, Some, ◌++◌, ◌∷◌, ◌⊎◌, ◌≡◌, ◌+◌, ◌-◌, ◌<◌, ◌≤◌, List, [], ℕ, drop, get_or, length, take}
use Rattle.std.specs.Borrow.{Bor}
use Rattle.std.specs.Option.{MatchOption, unwrap_or}
use Rattle.std.proofs.Common.{◌∙◌, ap, ap₂, sym, inl, inr, arith, length-drop, take_all}
use Rattle.std.proofs.Math.ListN.{get_or-eq_default}
use Rattle.std.proofs.Math.Seq.{take-append_seam}
use Rattle.std.proofs.lemmas.List.{get_or_default}
use Rattle.names.specs.Stored.{Rows, name_in, name_of, table_of, up_to_last}
use Rattle.names.specs.UpToLastLaws.{last_at, last_length}
use Rattle.text.specs.Language.{Name}
use Rattle.text.specs.Tables.{name_at}
use Rattle.sets.specs.TestLaws.{fails, if-false, if-true, ≤?_in, ≤?_out}

module _ (row : List ℕ) (long : length row ≡ 33) where
  behind : take 32 (drop 1 row) ≡ drop 1 row
  behind = take_all 32 (drop 1 row) (rw length-drop (omega arith))

  -- the part of the row behind its first byte, up to the length that stands there
  pub name_got : (n : ℕ) → n ≡ get_or row 0 0 → (o : Option (Bor (List ℕ))) (d : Bor (List ℕ)) → d.now ≡ []
      → MatchOption o ((n < 0) ⊎ (length (take 32 (drop 1 row)) < n)) (λ x. (0 ≤ n) × (n ≤ length (take 32 (drop 1 row)))
      × (x.now ≡ take (n - 0) (take 32 (drop 1 row))) × (length x.now + 0 ≡ n)) → (unwrap_or o d).now ≡ name_of row
  unfolding name_of
  name_got n e (Some x) d q h =
      let l = length-drop 1 row in
      let b = ap length behind in
      let f : get_or row 0 0 ≤ 32 = omega (arith, h.1) in
      let z : n - 0 ≡ n = omega arith in
      h.2 ∙ ap₂ take z behind ∙ ap (λ (m : ℕ). take m (drop 1 row)) e ∙ sym (if-true _ _ _ (≤?_in _ _ f))
  name_got n e None d q (inl h) = elim h [ ]
  name_got n e None d q (inr h) =
      let l = length-drop 1 row in
      let b = ap length behind in
      q ∙ sym (if-false _ _ _ (fails _ (λ t. let m = ≤?_out _ _ t in absurd (omega arith))))

module _ (n : ℕ) (rows : Rows) (k : ℕ) where
  -- the name at a place
  pub name_there : (row : List ℕ) (w : Name) → w ≡ name_of row → row ≡ get_or rows k row → k < length rows → k < n
      → w ≡ name_at (table_of n rows) k
  unfolding name_in table_of
  name_there row w e r l h =
      e ∙ ap name_of (r ∙ get_or_default rows k row [] l) ∙ sym (last_at n (name_in rows) k h)

  -- past the last place there is none
  pub name_past : n ≤ k → [] ≡ name_at (table_of n rows) k
  unfolding name_at table_of
  name_past h = sym (get_or-eq_default (up_to_last n (name_in rows)) [] (let l = last_length n (name_in rows) in omega arith))

-- the row of a word
pub row_is : (n : ℕ) (w rest : List ℕ) → n ≡ length w → length w ≤ 32 → name_of (n ∷ (w ++ rest)) ≡ w
unfolding name_of
row_is n w rest e l =
    if-true _ _ _ (≤?_in _ _ (omega arith)) ∙ ap (λ (m : ℕ). take m (w ++ rest)) e ∙ take-append_seam w rest
