-- From one table's numbers to another's, for all four tables and every size.
use Rattle.std.specs.Prelude.{Bool, true, ◌≡◌, ◌<◌, ◌≤◌, ℕ, length}
use Rattle.std.proofs.Common.{inl, inr, ◌∙◌, subst, sym, le_trans, arith}
use Rattle.std.proofs.Math.Option.{Option, none, some}
use Rattle.std.proofs.Math.Path.{ap}
use Rattle.model.specs.Lists.{non_empty}
use Rattle.model.specs.Maps.{has, or_else}
use Rattle.sets.specs.TestLaws.{=?-in, =?-out, iff→≡}
use Rattle.sets.specs.Tests.{◌=?◌}
use Rattle.text.specs.Bytes.{among}
use Rattle.text.specs.Handed.{Once}
use Rattle.text.specs.Language.{Name}
use Rattle.text.specs.Tables.{Table, name_at, number, place}
use Rattle.text_laws.specs.Places.{apart, apart-once, number_at, place_name, place_of, place_there}
use Rattle.text_laws.specs.Renamed.{Renaming}
use Rattle.model_laws.specs.MapLaws.{has_in, has_out, is_some_out, option?}

-- the number in T of what is n in t
unfoldable pub new : Table → Table → ℕ → ℕ
new t T n = number T (name_at t n)

-- the number in t of what is m in T: L, which nothing has, where t has not its name
unfoldable pub old : Table → Table → ℕ → ℕ → ℕ
old t T L m = or_else (place t (name_at T m)) L

-- a number n of the table t, with its place in the table T
pub record InBoth (t T : Table) (L n : ℕ) : Type 0 where
  pub small : n < L
  pub named : non_empty (name_at t n) ≡ true
  pub there : among (name_at t n) T ≡ true

-- the numbers that are used have names in both tables, and no name stands twice
pub record TwoTables (t T : Table) (L : ℕ) (Use : ℕ → Type 0) : Type 0 where
  pub once : Once t
  pub different : apart T ≡ true
  pub short : length T ≤ L
  pub used : (n : ℕ) → Use n → InBoth t T L n

module _ {t T : Table} {L : ℕ} {Use : ℕ → Type 0} (two : TwoTables t T L Use) where
  at_new : (n : ℕ) → Use n → place T (name_at t n) ≡ some (new t T n)
  unfolding new
  at_new n u = let q = is_some_out _ (place_there T (name_at t n) (two.used n u).there) in q.1
      ∙ ap some (sym (number_at T (name_at t n) q.0 q.1))

  old_at : (m n : ℕ) → place t (name_at T m) ≡ some n → old t T L m ≡ n
  unfolding old or_else
  old_at m n e = ap (λ (o : Option ℕ). or_else o L) e

  old_no : (m : ℕ) → place t (name_at T m) ≡ none → old t T L m ≡ L
  unfolding old or_else
  old_no m e = ap (λ (o : Option ℕ). or_else o L) e

  new_old : (m n : ℕ) → place t (name_at T m) ≡ some n → non_empty (name_at t n) ≡ true → new t T n ≡ m
  unfolding new
  new_old m n e h =
      let q = (place_name t (name_at T m) n e).0 in
      number_at T (name_at t n) m (ap (place T) q
      ∙ place_of T (apart-once T two.different) m (subst (λ (z : Name). non_empty z ≡ true) q h))

  pub renaming : Renaming (old t T L) (new t T) L Use
  renaming = record {
    back = λ n u. old_at (new t T n) n (ap (place t) (place_name T (name_at t n) (new t T n) (at_new n u)).0
        ∙ place_of t two.once n (two.used n u).named);
    small = λ n u. le_trans (place_name T (name_at t n) (new t T n) (at_new n u)).1 two.short;
    forth = λ m u. elim (option? (place t (name_at T m))) [
      | inl e ↦ (let h = (two.used _ u).small in let z = old_no m e in absurd (omega arith))
      | inr q ↦ (let z = old_at m q.0 q.1 in ap (new t T) z
          ∙ new_old m q.0 q.1 (subst (λ (k : ℕ). non_empty (name_at t k) ≡ true) z (two.used _ u).named))
    ];
  }

  -- a test at a name's number, in T and in t
  pub at_through : (w : Name) (P P' : ℕ → Bool) → ((m : ℕ) → P' m ≡ P (old t T L m)) → ((n : ℕ) → P n ≡ true → Use n)
      → has (place T w) P' ≡ has (place t w) P
  at_through w P P' h u = iff→≡ _ _
      (λ e. let q = has_out _ _ e in let m = q.0 in let a = (place_name T w m q.1).0 in let k = sym (h m) ∙ q.2 in
      elim (option? (place t (name_at T m))) [
        | inl z ↦ (let b = (two.used _ (u _ k)).small in let c = old_no m z in absurd (omega arith))
        | inr z ↦ has_in _ _ z.0 (ap (place t) (sym a) ∙ z.1) (ap P (sym (old_at m z.0 z.1)) ∙ k)
      ])
      (λ e. let q = has_out _ _ e in let n = q.0 in let a = (place_name t w n q.1).0 in let k = u n q.2 in
      has_in _ _ (new t T n) (ap (place T) (sym a) ∙ at_new n k) (h _ ∙ ap P (renaming.back n k) ∙ q.2))

-- two numbers are equal, in either table
pub eq_through : {f g : ℕ → ℕ} {L : ℕ} {Use : ℕ → Type 0} → Renaming f g L Use → (m d : ℕ) → Use d → (m =? g d) ≡ (f m =? d)
eq_through {f} {g} {Use = Use} R m d u = iff→≡ _ _
    (λ e. =?-in _ _ (ap f (=?-out _ _ e) ∙ R.back d u))
    (λ e. =?-in _ _ (sym (R.forth m (subst Use (sym (=?-out _ _ e)) u)) ∙ ap g (=?-out _ _ e)))
