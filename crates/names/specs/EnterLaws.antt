-- Laws of a word put into a table: where it stands already, where it is new, and where there is no room.
use Rattle.std.specs.Prelude.{false, true, [], ◌++◌, ◌∷◌, ◌≡◌, refl, ◌+◌, ◌<◌, ◌≤◌, suc, ℕ, length}
use Rattle.std.proofs.Common.{inl, inr, ◌∙◌, subst, arith, length-append}
use Rattle.std.proofs.Math.Option.{Option, some-injective, none, some}
use Rattle.std.proofs.Math.Path.{ap, sym}
use Rattle.model.specs.Lists.{every, non_empty}
use Rattle.model.specs.Maps.{is_some, option_map}
use Rattle.names.specs.PlaceLaws.{lowest_behind, lowest_none, short_there}
use Rattle.names.specs.Stored.{Rows, lowest_free, name_in, place_with, table_of, table_with}
use Rattle.sets.specs.Answered.{answered}
use Rattle.names.specs.UpToLastLaws.{last_length}
use Rattle.sets.specs.TestLaws.{<?_no, <?_out, bool?, clash, fails, if-false, if-true, or_l, or_r, ≤?_in, ≤?_out}
use Rattle.sets.specs.Tests.{◌<?◌, ◌≤?◌}
use Rattle.text.specs.Bytes.{among, same, short}
use Rattle.text.specs.Language.{Name}
use Rattle.text.specs.Tables.{Table, enter, place}
use Rattle.text_laws.specs.Places.{enter_every, place-among, place_there}
use Rattle.text_laws.specs.TextLaws.{every_append, every_cons, every-none, same_refl}
use Rattle.model_laws.specs.MapLaws.{no_some}
use Rattle.std.specs.Prelude.{Option as Found}
use Rattle.std.specs.Prelude.{None, Some}

-- ---- what an answer says

pub found_at : (f : Found ℕ) (k : ℕ) (o : Option ℕ) → answered f ≡ o → f ≡ Some k → o ≡ some k
unfolding answered
found_at f k o e q = sym e ∙ ap answered q

pub found_nothing : (f : Found ℕ) (o : Option ℕ) → answered f ≡ o → f ≡ None → o ≡ none
unfolding answered
found_nothing f o e q = sym e ∙ ap answered q

-- ---- a word that stands in the table

enter_held : (t : Table) (w : Name) → among w t ≡ true → enter t (w ∷ []) ≡ t
unfolding enter
enter_held t w a = if-true _ _ _ a

enter_new : (t : Table) (w : Name) → among w t ≡ false → enter t (w ∷ []) ≡ t ++ (w ∷ [])
unfolding enter
enter_new t w a = if-false _ _ _ a

pub table-length : (n : ℕ) (rows : Rows) → length (table_of n rows) ≤ n
unfolding table_of
table-length n rows = last_length n (name_in rows)

module _ (n : ℕ) (rows : Rows) (w : Name) (f : Found ℕ) (k : ℕ) (e : answered f ≡ place (table_of n rows) w) (q : f ≡ Some k) where
  held : enter (table_of n rows) (w ∷ []) ≡ table_of n rows
  held = enter_held (table_of n rows) w (place-among (table_of n rows) w k (found_at f k _ e q))

  fits_held : (length (enter (table_of n rows) (w ∷ [])) ≤? n) ≡ true
  fits_held = ≤?_in _ _ (subst (λ (t : Table). length t ≤ n) (sym held) (table-length n rows))

  pub held_place : answered (Some k) ≡ place_with n (table_of n rows) w
  unfolding place_with
  held_place = sym (if-true _ _ _ fits_held ∙ ap (λ (t : Table). place t w) held ∙ sym e ∙ ap answered q)

  pub held_table : table_of n rows ≡ table_with n (table_of n rows) w
  unfolding table_with
  held_table = sym (if-true _ _ _ fits_held ∙ held)

-- ---- a new word

place_new : (t : Table) (w : Name) → among w t ≡ false → place (t ++ (w ∷ [])) w ≡ some (length t)
unfolding place among option_map
place_new [] w a = if-true _ _ _ (same_refl w)
place_new (x ∷ xs) w a =
    if-false _ _ _ (fails _ (λ y. clash (or_l (same w x) (among w xs) y) a))
    ∙ ap (option_map suc) (place_new xs w (fails _ (λ y. clash (or_r (same w x) (among w xs) y) a)))

not-among : (t : Table) (w : Name) → place t w ≡ none → among w t ≡ false
not-among t w e = fails _ (λ a. clash (place_there t w a) (ap is_some e ∙ (unfold is_some in refl)))

module _ (n : ℕ) (rows : Rows) (h : every non_empty (table_of n rows) ≡ true) (f : Found ℕ)
    (e : answered f ≡ lowest_free n (table_of n rows)) where
  behind_last : (k : ℕ) → f ≡ Some k → (k < n) × (k ≡ length (table_of n rows))
  behind_last k q =
      let l = table-length n rows in
      elim (bool? (length (table_of n rows) <? n)) [
        | inl y ↦ (let o = <?_out _ _ y in
            let z : length (table_of n rows) ≡ k = some-injective _ _ (sym (lowest_behind n _ h o) ∙ found_at f k _ e q) in
            (omega arith, sym z))
        | inr y ↦ no_some (sym (lowest_none n _ h (<?_no _ _ y)) ∙ found_at f k _ e q)
      ]

  -- the lowest free place is the first behind the last name
  pub new_fits : (k : ℕ) → f ≡ Some k → k < n
  new_fits k q = (behind_last k q).0

  pub new_number : (k : ℕ) → f ≡ Some k → k ≡ length (table_of n rows)
  new_number k q = (behind_last k q).1

  no_more : f ≡ None → n ≤ length (table_of n rows)
  no_more q =
      elim (bool? (length (table_of n rows) <? n)) [
        | inl y ↦ no_some (sym (found_nothing f _ e q) ∙ lowest_behind n _ h (<?_out _ _ y))
        | inr y ↦ <?_no _ _ y
      ]

  module _ (w : Name) (a : place (table_of n rows) w ≡ none) where
    absent : among w (table_of n rows) ≡ false
    absent = not-among _ w a

    new_length : length (enter (table_of n rows) (w ∷ [])) ≡ length (table_of n rows) + 1
    new_length = ap length (enter_new _ w absent) ∙ length-append (table_of n rows) (w ∷ [])

    module _ (k : ℕ) (q : f ≡ Some k) where
      fits_new : (length (enter (table_of n rows) (w ∷ [])) ≤? n) ≡ true
      fits_new = let l = new_length in let o = behind_last k q in ≤?_in _ _ (omega arith)

      pub new_place : answered (Some k) ≡ place_with n (table_of n rows) w
      unfolding place_with answered
      new_place =
          ap some (behind_last k q).1 ∙ sym (if-true _ _ _ fits_new ∙ ap (λ (u : Table). place u w) (enter_new _ w absent)
          ∙ place_new _ w absent)

      pub new_table : (u : Table) → u ≡ table_of n rows ++ (w ∷ []) → u ≡ table_with n (table_of n rows) w
      unfolding table_with
      new_table u z = z ∙ sym (if-true _ _ _ fits_new ∙ enter_new _ w absent)

    module _ (q : f ≡ None) where
      full : (length (enter (table_of n rows) (w ∷ [])) ≤? n) ≡ false
      full = let l = no_more q in let m = new_length in fails _ (λ y. let o = ≤?_out _ _ y in absurd (omega arith))

      pub full_place : answered None ≡ place_with n (table_of n rows) w
      unfolding place_with answered
      full_place = sym (if-false _ _ _ full)

      pub full_table : table_of n rows ≡ table_with n (table_of n rows) w
      unfolding table_with
      full_table = sym (if-false _ _ _ full)

-- ---- no place before the last name is free: it stays so

pub with_held : (n : ℕ) (t : Table) (w : Name) → every non_empty t ≡ true → short w ≡ true
    → every non_empty (table_with n t w) ≡ true
unfolding table_with
with_held n t w h s =
    elim (bool? (length (enter t (w ∷ [])) ≤? n)) [
      | inl e ↦ ap (every non_empty) (if-true _ _ _ e)
          ∙ enter_every non_empty t (w ∷ []) h (every_cons non_empty w [] (short_there w s) (every-none non_empty))
      | inr e ↦ ap (every non_empty) (if-false _ _ _ e) ∙ h
    ]

pub new_held : (t u : Table) (w : Name) → every non_empty t ≡ true → short w ≡ true → u ≡ t ++ (w ∷ []) → every non_empty u ≡ true
new_held t u w h s e =
    ap (every non_empty) e ∙ every_append non_empty t (w ∷ []) h (every_cons non_empty w [] (short_there w s) (every-none non_empty))
