-- Pairs as rows: the pairs that pass a test, by component, then version, are the rows that pass it, rising.
use Rattle.std.specs.Prelude.{Bool, false, true, ◌≡◌, ◌%◌, ◌*◌, ◌+◌, ◌-◌, ◌/◌, ◌<◌, suc, zero, ℕ, get_or, length}
use mathlib.Core.List.{List, [], ◌++◌, ◌∷◌, map, map-map}
use Rattle.std.proofs.Common.{◌∙◌, ap₂, length-append}
use Rattle.std.proofs.Math.Path.{ap, refl, sym}
use native.Mathlib.Omega.{arith}
use Rattle.std.proofs.lemmas.List.{length-map}
use Rattle.model.specs.Lists.{from, keep, rising}
use Rattle.model.specs.Queries.{pairs_from, rising_pairs}
use Rattle.query_replies.specs.Found.{flat, row_in}
use Rattle.query_replies.specs.Listed.{row_of}
use Rattle.sets.specs.Sets.{Set, bit}
use Rattle.sets.specs.Tests.{count}
use Rattle.model_laws.specs.RisingLaws.{from_split, rising-length}

map-keep : {A : Type 0} (g : ℕ → A) (b : Bool) (x : ℕ) (xs : List ℕ) → map g (keep b x xs) ≡ keep b (g x) (map g xs)
unfolding keep
map-keep g true x xs = refl
map-keep g false x xs = refl

pub map-append : {A B : Type 0} (g : A → B) (xs ys : List A) → map g (xs ++ ys) ≡ map g xs ++ map g ys
map-append g [] ys = refl
map-append g (x ∷ xs) ys = ap (λ zs. g x ∷ zs) (map-append g xs ys)

flat_at : (test : ℕ → ℕ → Bool) (c v : ℕ) → v < 64 → flat test (c * 64 + v) ≡ test c v
unfolding flat
flat_at test c v l =
    let e : (c * 64 + v) / 64 ≡ c = omega arith in let e' : (c * 64 + v) % 64 ≡ v = omega arith in ap₂ test e e'

shifted : (c j i : ℕ) (g f : ℕ → Bool) → ((v : ℕ) → v < i + j → f (c * 64 + v) ≡ g v) → map (λ v. c * 64 + v) (from j i g) ≡ from j (c * 64 + i) f
unfolding from
shifted c zero i g f h = refl
shifted c (suc j) i g f h =
    let e : c * 64 + suc i ≡ suc (c * 64 + i) = omega arith in
    map-keep (λ v. c * 64 + v) (g i) i (from j (suc i) g)
    ∙ ap₂ (λ (b : Bool) (xs : List ℕ). keep b (c * 64 + i) xs) (sym (h i (omega arith)))
    (shifted c j (suc i) g f (λ v l. h v (omega arith)) ∙ ap (λ (x : ℕ). from j x f) e)

one : (c : ℕ) (xs : List ℕ) → map row_of (map (λ v. (c, v)) xs) ≡ map (λ v. c * 64 + v) xs
unfolding row_of
one c xs = map-map row_of (λ v. (c, v)) xs

row_flat : (c : ℕ) (test : ℕ → ℕ → Bool) → map row_of (map (λ v. (c, v)) (rising 64 (test c))) ≡ from 64 (c * 64) (flat test)
unfolding rising
row_flat c test =
    let e : c * 64 + 0 ≡ c * 64 = omega arith in
    one c (from 64 0 (test c)) ∙ shifted c 64 0 (test c) (flat test) (λ v l. flat_at test c v (omega arith))
    ∙ ap (λ (x : ℕ). from 64 x (flat test)) e

pairs-flat : (k c : ℕ) (test : ℕ → ℕ → Bool) → map row_of (pairs_from k c test) ≡ from (k * 64) (c * 64) (flat test)
unfolding pairs_from
pairs-flat zero c test = unfold from in refl
pairs-flat (suc k) c test =
    let e₁ : k * 64 ≡ suc k * 64 - 64 = omega arith in
    let e₂ : suc c * 64 ≡ c * 64 + 64 = omega arith in
    map-append row_of (map (λ v. (c, v)) (rising 64 (test c))) (pairs_from k (suc c) test)
    ∙ ap₂ (λ (xs ys : List ℕ). xs ++ ys) (row_flat c test) (pairs-flat k (suc c) test ∙ ap₂ (λ (x y : ℕ). from x y (flat test)) e₁ e₂)
    ∙ sym (from_split 64 (suc k * 64) (c * 64) (flat test) (omega arith))

pub rows_flat : (test : ℕ → ℕ → Bool) → map row_of (rising_pairs test) ≡ rising 2048 (flat test)
unfolding rising_pairs rising
rows_flat test = pairs-flat 32 0 test

-- ---- component by component

module _ (t : List ℕ) (c : ℕ) where
  abbrev here : Set
  here = bit (get_or t c 0)

  -- the rows of the components below c, and those of c
  pub rows_more : rising ((c + 1) * 64) (row_in t) ≡ rising (c * 64) (row_in t) ++ map (λ v. row_of (c, v)) (rising 64 here)
  unfolding rising row_in
  rows_more =
      let e₁ : (c + 1) * 64 - c * 64 ≡ 64 = omega arith in
      let e₂ : 0 + c * 64 ≡ c * 64 = omega arith in
      from_split (c * 64) ((c + 1) * 64) 0 (row_in t) (omega arith)
      ∙ ap (λ (xs : List ℕ). from (c * 64) 0 (row_in t) ++ xs) (ap₂ (λ (x y : ℕ). from x y (row_in t)) e₁ e₂
      ∙ sym (row_flat c (λ d. bit (get_or t d 0))) ∙ map-map row_of (λ v. (c, v)) (rising 64 here))

  count_more : count ((c + 1) * 64) (row_in t) ≡ count (c * 64) (row_in t) + count 64 here
  count_more =
      sym (rising-length ((c + 1) * 64) (row_in t)) ∙ ap length rows_more ∙ length-append (rising (c * 64) (row_in t)) _
      ∙ ap₂ ◌+◌ (rising-length (c * 64) (row_in t)) (length-map (rising 64 here) (λ v. row_of (c, v)) ∙ rising-length 64 here)

  -- a loop that counts them in s
  pub rows_counted : (s n : ℕ) → s ≡ count (c * 64) (row_in t) → n ≡ count 64 here → s + n ≡ count ((c + 1) * 64) (row_in t)
  rows_counted s n e en = ap₂ ◌+◌ e en ∙ sym count_more
