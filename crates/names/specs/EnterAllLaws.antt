-- Words put in one after another, as they are mentioned, against crate text's `enter` of the whole list.
use Rattle.std.specs.Prelude.{false, true, List, [], ◌∷◌, ◌≡◌, refl, ◌≤◌, ℕ, length}
use Rattle.std.proofs.Common.{inl, inr, ◌∙◌, ap, subst, sym, arith, length-append}
use Rattle.model.specs.Lists.{every}
use Rattle.model.specs.Maps.{is_some}
use Rattle.names.specs.Stored.{all_placed, place_with, table_after, table_with}
use Rattle.sets.specs.TestLaws.{and-false, and_l, and-true, bool?, clash, fails, if-false, if-true, ≤?_in, ≤?_out}
use Rattle.sets.specs.Tests.{◌≤?◌}
use Rattle.text.specs.Bytes.{among}
use Rattle.text.specs.Language.{Name}
use Rattle.text.specs.Tables.{Table, enter, place}
use Rattle.text_laws.specs.Places.{enter_has, enter_longer, place_longer, place_there}

enter_on : (t : Table) (w : Name) (ws : List Name) → enter t (w ∷ ws) ≡ enter (enter t (w ∷ [])) ws
unfolding enter
enter_on t w ws = refl

enter_nothing : (t : Table) → enter t [] ≡ t
unfolding enter
enter_nothing t = refl

enter_length : (t : Table) (ws : List Name) → length t ≤ length (enter t ws)
enter_length t ws = let u = enter_longer t ws in let e = ap length u.1 ∙ length-append t u.0 in omega arith

one_length : (t : Table) (w : Name) (ws : List Name) → length (enter t (w ∷ [])) ≤ length (enter t (w ∷ ws))
one_length t w ws =
    subst (λ (u : Table). length (enter t (w ∷ [])) ≤ length u) (sym (enter_on t w ws)) (enter_length (enter t (w ∷ [])) ws)

has_one : (t : Table) (w : Name) → among w (enter t (w ∷ [])) ≡ true
unfolding every
has_one t w = and_l _ _ (enter_has t (w ∷ []))

with_in : (n : ℕ) (t : Table) (w : Name) → (length (enter t (w ∷ [])) ≤? n) ≡ true → table_with n t w ≡ enter t (w ∷ [])
unfolding table_with
with_in n t w e = if-true _ _ _ e

place_in : (n : ℕ) (t : Table) (w : Name) → (length (enter t (w ∷ [])) ≤? n) ≡ true → place_with n t w ≡ place (enter t (w ∷ [])) w
unfolding place_with
place_in n t w e = if-true _ _ _ e

place_out : (n : ℕ) (t : Table) (w : Name) → (length (enter t (w ∷ [])) ≤? n) ≡ false → is_some (place_with n t w) ≡ false
unfolding place_with is_some
place_out n t w e = ap is_some (if-false _ _ _ e)

-- where there is a place for each
pub all_entered_lem : (n : ℕ) (t : Table) (ws : List Name) → length (enter t ws) ≤ n → table_after n t ws ≡ enter t ws
unfolding table_after
all_entered_lem n t [] h = sym (enter_nothing t)
all_entered_lem n t (w ∷ ws) h =
    let l = one_length t w ws in
    let k : length (enter (enter t (w ∷ [])) ws) ≤ n = subst (λ (u : Table). length u ≤ n) (enter_on t w ws) h in
    ap (λ (u : Table). table_after n u ws) (with_in n t w (≤?_in _ _ (omega arith)))
    ∙ all_entered_lem n (enter t (w ∷ [])) ws k ∙ sym (enter_on t w ws)

-- "the questions see the numbers that they would get": a word's place is its place in the table with all the words
pub place_stays : (n : ℕ) (t : Table) (w : Name) (ws : List Name) → length (enter t (w ∷ ws)) ≤ n
    → place_with n t w ≡ place (enter t (w ∷ ws)) w
place_stays n t w ws h =
    let l = one_length t w ws in let u = enter_longer (enter t (w ∷ [])) ws in
    place_in n t w (≤?_in _ _ (omega arith))
    ∙ sym (ap (λ (x : Table). place x w) (enter_on t w ws ∙ u.1) ∙ place_longer (enter t (w ∷ [])) u.0 w (has_one t w))

-- "is there a place for each new name?": each word found one just where the table with all of them fits
pub all_placed_lem : (n : ℕ) (t : Table) (ws : List Name) → length t ≤ n → all_placed n t ws ≡ (length (enter t ws) ≤? n)
unfolding all_placed
all_placed_lem n t [] h = sym (ap (λ (u : Table). length u ≤? n) (enter_nothing t) ∙ ≤?_in _ _ h)
all_placed_lem n t (w ∷ ws) h =
    elim (bool? (length (enter t (w ∷ [])) ≤? n)) [
      | inl e ↦ and-true _ _ (ap is_some (place_in n t w e) ∙ place_there (enter t (w ∷ [])) w (has_one t w))
          ∙ ap (λ (u : Table). all_placed n u ws) (with_in n t w e) ∙ all_placed_lem n (enter t (w ∷ [])) ws (≤?_out _ _ e)
          ∙ ap (λ (u : Table). length u ≤? n) (sym (enter_on t w ws))
      | inr e ↦ and-false _ _ (place_out n t w e)
          ∙ sym (fails _ (λ y. let o = ≤?_out _ _ y in let l = one_length t w ws in clash (≤?_in _ _ (omega arith)) e))
    ]
