-- Laws of the place of a word and of the lowest free place, in a table of any length.
use Rattle.std.specs.Prelude.{Bool, false, true, [], ◌∷◌, ◌≡◌, refl, ◌+◌, ◌<◌, ◌≤◌, suc, zero, ℕ, length}
use Rattle.std.proofs.Common.{inl, inr, ◌∙◌, ap, zero-le, le_of_suc-le-suc, le_refl, not-suc-le-zero}
use Rattle.std.proofs.Math.Option.{none, some}
use native.Mathlib.Omega.{arith}
use Rattle.model.specs.Lists.{every, first_from, non_empty}
use Rattle.model.specs.Maps.{else_try, only_if, option_map}
use Rattle.names.specs.Stored.{lowest_free}
use Rattle.sets.specs.TestLaws.{and_l, and_r, clash, fails, if-false, if-true, not_in, not_out, same?}
use Rattle.sets.specs.TestLaws.{≤?_out}
use Rattle.sets.specs.Tests.{~◌}
use Rattle.text.specs.Bytes.{same, short}
use Rattle.text.specs.Language.{Name}
use Rattle.text.specs.Tables.{Table, name_at, place}

pub same_nothing : (w : Name) → non_empty w ≡ true → same w [] ≡ false
unfolding same non_empty
same_nothing [] e = clash e refl
same_nothing (c ∷ cs) e = refl

-- the word stands at place k, and at none before it
pub place_at : (t : Table) (w : Name) (k : ℕ) → non_empty w ≡ true → ((i : ℕ) → i < k → same w (name_at t i) ≡ false)
    → same w (name_at t k) ≡ true → place t w ≡ some k
unfolding name_at place option_map
place_at [] w k e h s = clash s (same_nothing w e)
place_at (x ∷ xs) w zero e h s = if-true _ _ _ s
place_at (x ∷ xs) w (suc k) e h s =
    if-false _ _ _ (h 0 (omega arith)) ∙ ap (option_map suc) (place_at xs w k e (λ i l. h (suc i) (omega arith)) s)

-- the word stands nowhere
pub place_none : (t : Table) (w : Name) → ((i : ℕ) → i < length t → same w (name_at t i) ≡ false) → place t w ≡ none
unfolding name_at place option_map
place_none [] w h = refl
place_none (x ∷ xs) w h =
    if-false _ _ _ (h 0 (omega arith)) ∙ ap (option_map suc) (place_none xs w (λ i l. h (suc i) (omega arith)))

-- the first number that passes is k
pub first_at : (m i k : ℕ) (f : ℕ → Bool) → i ≤ k → k < i + m → ((j : ℕ) → j < k → f j ≡ false) → f k ≡ true
    → first_from m i (λ j. only_if (f j) j) ≡ some k
unfolding first_from else_try only_if
first_at zero i k f h l p q = absurd (omega arith)
first_at (suc m) i k f h l p q =
    elim (same? i k) [
      | inl e ↦ rw (e, q)
      | inr e ↦ rw (p i (omega arith)) (first_at m (suc i) k f (omega arith) (omega arith) p q)
    ]

pub first_none : (m i : ℕ) (f : ℕ → Bool) → ((j : ℕ) → j < i + m → f j ≡ false) → first_from m i (λ j. only_if (f j) j) ≡ none
unfolding first_from else_try only_if
first_none zero i f p = refl
first_none (suc m) i f p = rw (p i (omega arith)) (first_none m (suc i) f (λ j l. p j (omega arith)))

pub short_there : (w : Name) → short w ≡ true → non_empty w ≡ true
unfolding short
short_there w s = and_l _ _ s

pub short_length : (w : Name) → short w ≡ true → (0 < length w) × (length w ≤ 32)
unfolding short
short_length w s = (there w (and_l _ _ s), ≤?_out _ _ (and_r _ _ s))
  where
    there : (w : Name) → non_empty w ≡ true → 0 < length w
    there [] e = clash e (unfold non_empty in refl)
    there (c ∷ cs) e = omega arith

-- where no place before the last name is free, the lowest free place is the one behind it
every_at : (t : Table) (i : ℕ) → every non_empty t ≡ true → i < length t → non_empty (name_at t i) ≡ true
unfolding every name_at
every_at [] i e h = absurd (not-suc-le-zero h)
every_at (x ∷ xs) zero e h = and_l _ _ e
every_at (x ∷ xs) (suc i) e h = every_at xs i (and_r _ _ e) (le_of_suc-le-suc h)

not_free : {b : Bool} → b ≡ true → (~ b) ≡ false
not_free e = fails _ (λ y. clash e (not_out _ y))

behind : (t : Table) (i : ℕ) → length t ≤ i → name_at t i ≡ []
unfolding name_at
behind [] i h = refl
behind (x ∷ xs) zero h = absurd (omega arith)
behind (x ∷ xs) (suc i) h = behind xs i (omega arith)

pub lowest_behind : (n : ℕ) (t : Table) → every non_empty t ≡ true → length t < n → lowest_free n t ≡ some (length t)
unfolding lowest_free non_empty
lowest_behind n t e h =
    first_at n 0 (length t) (λ i. ~ non_empty (name_at t i)) zero-le (omega arith)
    (λ i l. not_free (every_at t i e l)) (ap (λ (x : Name). ~ non_empty x) (behind t (length t) (le_refl _)) ∙ not_in _ refl)

pub lowest_none : (n : ℕ) (t : Table) → every non_empty t ≡ true → n ≤ length t → lowest_free n t ≡ none
unfolding lowest_free
lowest_none n t e h =
    first_none n 0 (λ i. ~ non_empty (name_at t i)) (λ i l. not_free (every_at t i e (omega arith)))
