-- Laws of the first by name: how a loop finds it, and what is left without it.
use Rattle.std.specs.Prelude.{Bool, not, ◌≡◌, refl, ◌+◌, ◌-◌, ◌<◌, ◌≤◌, suc, zero, ℕ, length}
use Rattle.std.proofs.Math.Bool.{false, true}
use mathlib.Core.List.{List, [], ◌∷◌}
use Rattle.std.proofs.Math.Logic.{inl, inr}
use Rattle.std.proofs.Common.{◌∙◌}
use Rattle.std.proofs.Math.Path.{ap, ap₂, sym}
use Rattle.std.proofs.Math.Nat.{sub_self}
use native.Mathlib.Omega.{arith}
use borrow.Author.Tests.{not-false, not-true}
use Rattle.model.specs.Lists.{elem, from, keep, rising}
use Rattle.sets.specs.Sets.{Set, without}
use Rattle.sets.specs.TestLaws.{=?-in, =?-not, =?-out, =?-same, and-false, and_in, and_swap, and-true, bool?, clash, fails}
use Rattle.sets.specs.TestLaws.{if-false, if-true, not_in, or_l, or_out}
use Rattle.sets.specs.TestLaws.{not_out}
use Rattle.sets.specs.Tests.{◌&◌, ◌=?◌, if?◌then◌else◌, ~◌}
use Rattle.text.specs.Language.{Name}
use Rattle.text.specs.Tables.{Table, name_at}
use Rattle.text.specs.Written.{before, by_name, insert, sorted}
use Rattle.text_laws.specs.Listed.{sorted-elem}
use Rattle.model_laws.specs.ListLaws.{rising-elem}
use Rattle.model_laws.specs.MapLaws.{no_some}
use Rattle.std.proofs.Math.Option.{Option, none, some, some-injective}
use Rattle.write_bytes.specs.ByName.{first_by_name, first_in, first_of_two, first_with}

-- ---- one number more

module _ (t : Table) (test : Set) (k : ℕ) (best : Option ℕ) {r : Bool} (e : r ≡ test k) where
  pub not_in_set : not r ≡ true → best ≡ first_with t test k best
  unfolding first_with
  not_in_set h = sym (if-false _ _ _ (sym e ∙ not-true _ h))

  module _ (h : not r ≡ false) where
    here : (a : ℕ) → first_of_two t k best ≡ a → some a ≡ first_with t test k best
    unfolding first_with
    here a q = sym (if-true _ _ _ (sym e ∙ not-false _ h) ∙ ap some q)

    pub only_one : best ≡ none → some k ≡ first_with t test k best
    unfolding first_of_two
    only_one z = here k (ap (first_of_two t k) z)

    module _ (b : ℕ) (z : best ≡ some b) {x y : Name} (p : x ≡ name_at t k) (q : y ≡ name_at t b) {d : Bool} (f : d ≡ before x y) where
      pub comes_first : d ≡ true → some k ≡ first_with t test k best
      unfolding first_of_two
      comes_first w = here k (ap (first_of_two t k) z ∙ if-true _ _ _ (sym (f ∙ ap₂ before p q) ∙ w))

      pub stays_first : d ≡ false → best ≡ first_with t test k best
      unfolding first_of_two
      stays_first w = z ∙ here b (ap (first_of_two t k) z ∙ if-false _ _ _ (sym (f ∙ ap₂ before p q) ∙ w))

-- ---- the first is found from the highest number down

-- the first by name of the numbers from k up to n
unfoldable pub first_from : Table → ℕ → Set → ℕ → Option ℕ
first_from t n test k = first_in (sorted t (from (n - k) k test))

from_below : (j k : ℕ) (test : Set) (x : ℕ) → elem x (from j k test) ≡ true → (k ≤ x) × (x < k + j)
unfolding from
from_below zero k test x e = clash e (unfold elem in refl)
from_below (suc j) k test x e = kept (test k) (from_below j (suc k) test x) e
  where
    kept : (b : Bool) → (elem x (from j (suc k) test) ≡ true → (suc k ≤ x) × (x < suc k + j))
        → elem x (keep b k (from j (suc k) test)) ≡ true → (k ≤ x) × (x < k + suc j)
    kept true h q = unfold keep elem in elim (or_out (x =? k) (elem x (from j (suc k) test)) q) [
      | inl z ↦ (let y = =?-out _ _ z in (omega arith, omega arith))
      | inr z ↦ (let y = h z in (omega (arith, y.0), omega (arith, y.1)))
    ]
    kept false h q = unfold keep in (let z = h q in (omega (arith, z.0), omega (arith, z.1)))

-- k comes to the numbers of a list
inserted : (t : Table) (k : ℕ) (l : List ℕ) → some (first_of_two t k (first_in l)) ≡ first_in (insert t k l)
unfolding first_of_two first_in insert
inserted t k [] = refl
inserted t k (x ∷ xs) = elim (bool? (before (name_at t k) (name_at t x))) [
  | inl q ↦ ap some (if-true _ _ _ q) ∙ sym (ap first_in (if-true _ _ _ q))
  | inr q ↦ ap some (if-false _ _ _ q) ∙ sym (ap first_in (if-false _ _ _ q))
]

one_more_lem : (t : Table) (k : ℕ) (test : Set) (l : List ℕ)
    → first_with t test k (first_in (sorted t l)) ≡ first_in (sorted t (keep (test k) k l))
unfolding first_with keep sorted
one_more_lem t k test l = by (test k)
  where
    by : (c : Bool) → (if? c then some (first_of_two t k (first_in (sorted t l))) else first_in (sorted t l)) ≡ first_in (sorted t (keep c k l))
    by true = if-true _ _ _ refl ∙ inserted t k (sorted t l)
    by false = if-false _ _ _ refl

sorted_below : (t : Table) (j k : ℕ) (test : Set) (x : ℕ) → elem x (sorted t (from j k test)) ≡ true → (k ≤ x) × (x < k + j)
sorted_below t j k test x e = from_below j k test x (sym (sorted-elem t x (from j k test)) ∙ e)

-- the loop's laws
pub first_start : (t : Table) (n : ℕ) (test : Set) → none ≡ first_from t n test n
unfolding first_from first_in from sorted
first_start t n test = ap (λ (j : ℕ). first_in (sorted t (from j n test))) (sym (sub_self n))

pub first_turn : (t : Table) (n k : ℕ) (b : Option ℕ) (test : Set) → 0 < k → k ≤ n → b ≡ first_from t n test k
    → first_with t test (k - 1) b ≡ first_from t n test (k - 1)
unfolding first_from from
first_turn t n zero b test h l e = absurd (omega arith)
first_turn t n (suc k) b test h l e =
    let p : suc k - 1 ≡ k = omega arith in
    let d : suc (n - suc k) ≡ n - k = omega arith in
    ap₂ (λ (i : ℕ) (o : Option ℕ). first_with t test i o) p e
    ∙ one_more_lem t k test (from (n - suc k) (suc k) test)
    ∙ ap (λ (j : ℕ). first_in (sorted t (from j k test))) d
    ∙ ap (λ (i : ℕ). first_in (sorted t (from (n - i) i test))) (sym p)

pub first_end : (t : Table) (n k : ℕ) (b : Option ℕ) (test : Set) → k ≤ 0 → b ≡ first_from t n test k → b ≡ first_by_name t n test
unfolding first_from first_by_name by_name rising
first_end t n k b test h e = let z : k ≡ 0 = omega arith in
    e ∙ ap (λ (i : ℕ). first_in (sorted t (from (n - i) i test))) z
    ∙ ap (λ (j : ℕ). first_in (sorted t (from j 0 test))) (let d : n - 0 ≡ n = omega arith in d)

-- ---- what is left without the first

unfoldable first_or : ℕ → List ℕ → ℕ
first_or n [] = n
first_or n (x ∷ xs) = x

unfoldable rest : List ℕ → List ℕ
rest [] = []
rest (x ∷ xs) = xs

-- a number below the first of them is none of them
skip : (j i : ℕ) (test : Set) (h : ℕ) → h < i → from j i (without test h) ≡ from j i test
unfolding from without
skip zero i test h l = refl
skip (suc j) i test h l =
    ap₂ (λ (b : Bool) (m : List ℕ). keep b i m) (and-true _ _ (not_in _ (=?-not i h (λ e. absurd (omega arith)))))
    (skip j (suc i) test h (omega arith))

module _ (t : Table) (j i : ℕ) (test : Set) (h : ℕ) (m : List ℕ) where
  -- what is to be shown, of i kept or not
  unfoldable Left : Bool → Type 0
  Left c = sorted t (keep c i (from j (suc i) (without test h))) ≡ m

  is_first : i ≡ h → sorted t (from j (suc i) test) ≡ m → Left (without test h i)
  unfolding Left without keep
  is_first e f =
      let z : (~ (i =? h) & test i) ≡ false = and-false _ _ (fails _ (λ y. clash {A = ⊥} (=?-in i h e) (not_out _ y))) in
      ap (λ (c : Bool). sorted t (keep c i (from j (suc i) (without test h)))) z
      ∙ ap (sorted t) (skip j (suc i) test h (omega arith)) ∙ f

  comes_later : test i ≡ true → i < h → (xs : List ℕ) → sorted t (from j (suc i) (without test h)) ≡ xs → insert t i xs ≡ m
      → Left (without test h i)
  unfolding Left without keep sorted
  comes_later u l xs e f =
      let z : (~ (i =? h) & test i) ≡ true = and_in _ _ (not_in _ (=?-not i h (λ y. absurd (omega arith)))) u in
      ap (λ (c : Bool). sorted t (keep c i (from j (suc i) (without test h)))) z ∙ ap (insert t i) e ∙ f

  module _ (u : test i ≡ true)
      (again : (xs : List ℕ) → sorted t (from j (suc i) test) ≡ h ∷ xs → sorted t (from j (suc i) (without test h)) ≡ xs) where
    was_kept : (l : List ℕ) → sorted t (from j (suc i) test) ≡ l → insert t i l ≡ h ∷ m → Left (without test h i)
    unfolding insert first_or rest elem
    was_kept [] e q = is_first (ap (first_or 0) q) (e ∙ ap rest q)
    was_kept (x ∷ xs) e q = elim (bool? (before (name_at t i) (name_at t x))) [
      | inl z ↦ (let r = sym (if-true _ _ _ z) ∙ q in is_first (ap (first_or 0) r) (e ∙ ap rest r))
      | inr z ↦ (let r = sym (if-false _ _ _ z) ∙ q in
          let y : x ≡ h = ap (first_or 0) r in
          let w = sorted_below t j (suc i) test x (ap (elem x) e ∙ or_l _ _ (=?-same x)) in
          comes_later u (omega (arith, w.0)) xs (again xs (e ∙ ap (λ (k : ℕ). k ∷ xs) y)) (ap rest r))
    ]

without_first : (t : Table) (j i : ℕ) (test : Set) (h : ℕ) (m : List ℕ) → sorted t (from j i test) ≡ h ∷ m
    → sorted t (from j i (without test h)) ≡ m
unfolding from keep sorted Left
without_first t zero i test h m q = absurd (let z : 0 ≡ suc (length m) = ap length q in omega arith)
without_first t (suc j) i test h m q =
    by (test i) refl (λ xs e. without_first t j (suc i) test h xs e) (λ e. without_first t j (suc i) test h m e) q
  where
    by : (b : Bool) → test i ≡ b
        → ((xs : List ℕ) → sorted t (from j (suc i) test) ≡ h ∷ xs → sorted t (from j (suc i) (without test h)) ≡ xs)
        → (sorted t (from j (suc i) test) ≡ h ∷ m → sorted t (from j (suc i) (without test h)) ≡ m)
        → sorted t (keep b i (from j (suc i) test)) ≡ h ∷ m → Left t j i test h m (without test h i)
    by true e f g q = was_kept t j i test h m e f (sorted t (from j (suc i) test)) refl q
    by false e f g q = ap (λ (c : Bool). sorted t (keep c i (from j (suc i) (without test h)))) (not_there e) ∙ g q
      where
        not_there : test i ≡ false → without test h i ≡ false
        not_there e = unfold without in and_swap _ _ ∙ and-false _ _ e

module _ (t : Table) (n : ℕ) (test : Set) where
  pub head_below : (x : ℕ) (xs : List ℕ) → by_name t n test ≡ x ∷ xs → x < n
  unfolding by_name rising elem
  head_below x xs e = let z = sorted_below t n 0 test x (ap (elem x) e ∙ or_l _ _ (=?-same x)) in omega (arith, z.1)

  -- there is none
  pub first_none : first_by_name t n test ≡ none → by_name t n test ≡ []
  unfolding first_by_name first_in
  first_none h = by (by_name t n test) refl
    where
      by : (l : List ℕ) → by_name t n test ≡ l → by_name t n test ≡ []
      by [] e = e
      by (x ∷ xs) e = no_some (sym h ∙ ap first_in e)

  module _ (k : ℕ) (h : first_by_name t n test ≡ some k) where
    -- the first, and then those without it
    pub first_then : by_name t n test ≡ k ∷ by_name t n (without test k)
    unfolding first_by_name first_in by_name rising
    first_then = by (sorted t (from n 0 test)) refl
      where
        by : (l : List ℕ) → sorted t (from n 0 test) ≡ l → sorted t (from n 0 test) ≡ k ∷ sorted t (from n 0 (without test k))
        by [] e = no_some (sym (ap first_in e) ∙ h)
        by (x ∷ xs) e =
            let y : x ≡ k = some-injective _ _ (sym (ap first_in e) ∙ h) in
            let q : sorted t (from n 0 test) ≡ k ∷ xs = e ∙ ap (λ (a : ℕ). a ∷ xs) y in
            q ∙ ap (λ (l : List ℕ). k ∷ l) (sym (without_first t n 0 test k xs q))

    pub first_below : k < n
    first_below = head_below k _ first_then

    -- it passes the test
    pub first_passes : test k ≡ true
    unfolding by_name elem
    first_passes = ((rising-elem n k test).0 (sym (sorted-elem t k (rising n test)) ∙ ap (elem k) first_then ∙ or_l _ _ (=?-same k))).1

-- the next of some numbers is k
pub next_is : (t : Table) (n k : ℕ) (s s' : Set) → first_by_name t n s ≡ some k → s' ≡ without s k → by_name t n s ≡ k ∷ by_name t n s'
next_is t n k s s' e d = first_then t n s k e ∙ ap (λ (r : Set). k ∷ by_name t n r) (sym d)

pub listed_below : (t : Table) (n : ℕ) (s : Set) (x : ℕ) → elem x (by_name t n s) ≡ true → x < n
unfolding by_name rising
listed_below t n s x e = let z = sorted_below t n 0 s x e in omega (arith, z.1)

pub fewer : (t : Table) (n k : ℕ) (s s' : Set) → first_by_name t n s ≡ some k → s' ≡ without s k
    → length (by_name t n s') < length (by_name t n s)
fewer t n k s s' e d = let q = ap length (next_is t n k s s' e d) in omega arith
