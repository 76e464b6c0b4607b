-- Laws of one table of names, for all four and every size.
use Rattle.std.specs.Prelude.{Bool, false, true, List, [], ◌++◌, ◌∷◌, map, ◌⊎◌, ◌≡◌, refl, ◌<◌, ◌≤◌, suc, zero, ℕ, T, get_or, length}
use Rattle.std.proofs.Common.{append_assoc, append-nil, inl, inr, ◌∙◌, ap, subst, sym, zero-le, le_trans, arith}
use Rattle.std.proofs.Math.Option.{Option, some-injective, some}
use Rattle.model.specs.Lists.{elem, every, non_empty, once}
use Rattle.model.specs.Maps.{has, is_some, option_map, or_else}
use Rattle.sets.specs.TestLaws.{<?_out, =?-out, =?-same, and_in, and_l, and_r, bool?, clash, count_le, count_strict, fails}
use Rattle.sets.specs.TestLaws.{if-false, if-true, imp_in, imp_out, not_in, not_out, or-false, or_l, or_out, or_r}
use Rattle.sets.specs.Tests.{◌&◌, ◌<?◌, count, if?◌then◌else◌, ~◌}
use Rattle.text.specs.Bytes.{among, same}
use Rattle.text.specs.Handed.{Once, none_twice}
use Rattle.text.specs.Language.{Name}
use Rattle.text.specs.Tables.{Table, enter, name_at, number, place}
use Rattle.text_laws.specs.TextLaws.{every_append, length-map, same_out, same_refl, same_sym}
use Rattle.model_laws.specs.MapLaws.{has_out, is_some_in, is_some_out, no_some, option_map_out}

-- ---- the place of a name

pub place_name : (t : Table) (w : Name) (n : ℕ) → place t w ≡ some n → (name_at t n ≡ w) × (n < length t)
unfolding place name_at
place_name [] w n e = no_some e
place_name (x ∷ xs) w n e =
    elim (bool? (same w x)) [
      | inl q ↦ (let z : 0 ≡ n = some-injective _ _ (sym (if-true _ _ _ q) ∙ e) in
          subst (λ (k : ℕ). (get_or (x ∷ xs) k [] ≡ w) × (k < length (x ∷ xs))) z (sym (same_out w x q), omega arith))
      | inr q ↦ (let o = option_map_out suc (place xs w) n (sym (if-false _ _ _ q) ∙ e) in let i = place_name xs w o.0 o.1 in
          subst (λ (k : ℕ). (get_or (x ∷ xs) k [] ≡ w) × (k < length (x ∷ xs))) o.2 (i.0, omega arith))
    ]

pub place_there : (t : Table) (w : Name) → among w t ≡ true → is_some (place t w) ≡ true
unfolding place among option_map
place_there [] w a = clash a refl
place_there (x ∷ xs) w a =
    elim (bool? (same w x)) [
      | inl q ↦ is_some_in _ (if-true _ _ _ q)
      | inr q ↦ (let i = is_some_out _ (place_there xs w (sym (or-false _ _ q) ∙ a)) in
          is_some_in _ {x = suc i.0} (if-false _ _ _ q ∙ ap (option_map suc) i.1))
    ]

pub place-among : (t : Table) (w : Name) (n : ℕ) → place t w ≡ some n → among w t ≡ true
unfolding place among
place-among [] w n e = no_some e
place-among (x ∷ xs) w n e =
    elim (bool? (same w x)) [
      | inl q ↦ or_l _ _ q
      | inr q ↦ (let o = option_map_out suc (place xs w) n (sym (if-false _ _ _ q) ∙ e) in
          or_r _ _ (place-among xs w o.0 o.1))
    ]

pub name_among : (t : Table) (n : ℕ) → non_empty (name_at t n) ≡ true → among (name_at t n) t ≡ true
unfolding name_at among
name_among [] n e = clash e (unfold non_empty in refl)
name_among (x ∷ xs) zero e = or_l _ _ (same_refl x)
name_among (x ∷ xs) (suc n) e = or_r _ _ (name_among xs n e)

-- with no name twice, a name's place is its number
pub place_of : (t : Table) → Once t → (n : ℕ) → non_empty (name_at t n) ≡ true → place t (name_at t n) ≡ some n
place_of t o n e =
    let q = is_some_out _ (place_there t (name_at t n) (name_among t n e)) in
    q.1 ∙ ap some (sym (o n q.0 e (sym (place_name t (name_at t n) q.0 q.1).0)))

-- ---- a longer table

pub place_longer : (t u : Table) (w : Name) → among w t ≡ true → place (t ++ u) w ≡ place t w
unfolding place among
place_longer [] u w a = clash a refl
place_longer (x ∷ xs) u w a =
    elim (bool? (same w x)) [
      | inl q ↦ if-true _ _ _ q ∙ sym (if-true _ _ _ q)
      | inr q ↦ if-false _ _ _ q ∙ ap (option_map suc) (place_longer xs u w (sym (or-false _ _ q) ∙ a)) ∙ sym (if-false _ _ _ q)
    ]

pub number_longer : (t u : Table) (w : Name) → among w t ≡ true → number (t ++ u) w ≡ number t w
unfolding number
number_longer t u w a = ap (λ (o : Option ℕ). or_else o 0) (place_longer t u w a)

pub among_l : (w : Name) (t u : Table) → among w t ≡ true → among w (t ++ u) ≡ true
unfolding among
among_l w [] u a = clash a refl
among_l w (x ∷ xs) u a = elim (or_out _ _ a) [ inl q ↦ or_l _ _ q | inr q ↦ or_r _ _ (among_l w xs u q) ]

pub among_r : (w : Name) (t u : Table) → among w u ≡ true → among w (t ++ u) ≡ true
unfolding among
among_r w [] u a = a
among_r w (x ∷ xs) u a = or_r _ _ (among_r w xs u a)

pub among_out : (w : Name) (t u : Table) → among w (t ++ u) ≡ true → (among w t ≡ true) ⊎ (among w u ≡ true)
unfolding among
among_out w [] u a = inr a
among_out w (x ∷ xs) u a = elim (or_out _ _ a) [
  | inl q ↦ inl (or_l _ _ q)
  | inr q ↦ elim (among_out w xs u q) [ inl z ↦ inl (or_r _ _ z) | inr z ↦ inr z ]
]

-- ---- names put in

pub enter_longer : (t : Table) (ws : List Name) → (u : Table) × (enter t ws ≡ t ++ u)
unfolding enter
enter_longer t [] = ([], sym (append-nil t))
enter_longer t (w ∷ ws) =
    elim (bool? (among w t)) [
      | inl q ↦ (let i = enter_longer t ws in (i.0, ap (λ (z : Table). enter z ws) (if-true _ _ _ q) ∙ i.1))
      | inr q ↦ (let i = enter_longer (t ++ (w ∷ [])) ws in
          ((w ∷ []) ++ i.0, ap (λ (z : Table). enter z ws) (if-false _ _ _ q) ∙ i.1 ∙ append_assoc t (w ∷ []) i.0))
    ]

pub enter_keeps : (t : Table) (ws : List Name) (w : Name) → among w t ≡ true → among w (enter t ws) ≡ true
enter_keeps t ws w a = let i = enter_longer t ws in subst (λ (z : Table). among w z ≡ true) (sym i.1) (among_l w t i.0 a)

put_in : Table → Name → Table
put_in t w = if? among w t then t else (t ++ (w ∷ []))

put_in_has : (t : Table) (w : Name) → among w (put_in t w) ≡ true
unfolding put_in
put_in_has t w =
    elim (bool? (among w t)) [
      | inl q ↦ ap (among w) (if-true _ _ _ q) ∙ q
      | inr q ↦ ap (among w) (if-false _ _ _ q) ∙ among_r w t (w ∷ []) (unfold among in or_l _ _ (same_refl w))
    ]

pub enter_has : (t : Table) (ws : List Name) → every (λ w. among w (enter t ws)) ws ≡ true
unfolding enter every put_in
enter_has t [] = refl
enter_has t (w ∷ ws) = and_in _ _ (enter_keeps (put_in t w) ws w (put_in_has t w)) (enter_has (put_in t w) ws)

pub enter_every : (test : Name → Bool) (t : Table) (ws : List Name) → every test t ≡ true → every test ws ≡ true
    → every test (enter t ws) ≡ true
unfolding enter every
enter_every test t [] p q = p
enter_every test t (w ∷ ws) p q = enter_every test (if? among w t then t else (t ++ (w ∷ []))) ws
    (elim (bool? (among w t)) [
      | inl e ↦ ap (every test) (if-true _ _ _ e) ∙ p
      | inr e ↦ ap (every test) (if-false _ _ _ e)
          ∙ every_append test t (w ∷ []) p (unfold every in and_in _ _ (and_l _ _ q) refl)
    ]) (and_r _ _ q)

-- ---- no name twice

-- the names of a table are all different
unfoldable pub apart : Table → Bool
apart [] = true
apart (x ∷ xs) = ~ among x xs & apart xs

one_among : (x w : Name) → among x (w ∷ []) ≡ true → same x w ≡ true
unfolding among
one_among x w z = elim (or_out _ _ z) [ inl y ↦ y | inr y ↦ clash y refl ]

apart_more : (t : Table) (w : Name) → apart t ≡ true → among w t ≡ false → apart (t ++ (w ∷ [])) ≡ true
unfolding apart among
apart_more [] w p q = and_in _ _ (not_in _ refl) refl
apart_more (x ∷ xs) w p q =
    and_in _ _ (not_in _ (fails _ (λ a. elim (among_out x xs (w ∷ []) a) [
      | inl z ↦ clash {A = ⊥} z (not_out _ (and_l _ _ p))
      | inr z ↦ clash {A = ⊥} (or_l (same w x) (among w xs) (same_sym x w (one_among x w z))) q
    ])))
    (apart_more xs w (and_r _ _ p) (fails _ (λ a. clash {A = ⊥} (or_r (same w x) (among w xs) a) q)))

pub enter_apart : (t : Table) (ws : List Name) → apart t ≡ true → apart (enter t ws) ≡ true
unfolding enter
enter_apart t [] p = p
enter_apart t (w ∷ ws) p = enter_apart (if? among w t then t else (t ++ (w ∷ []))) ws
    (elim (bool? (among w t)) [
      | inl e ↦ ap apart (if-true _ _ _ e) ∙ p
      | inr e ↦ ap apart (if-false _ _ _ e) ∙ apart_more t w p e
    ])

pub none_twice_lem : (t : Table) → none_twice t ≡ true → Once t
unfolding none_twice name_at
none_twice_lem [] p i j e q = clash e (unfold non_empty in refl)
none_twice_lem (x ∷ xs) p zero zero e q = refl
none_twice_lem (x ∷ xs) p zero (suc j) e q =
    clash (ap (λ (z : Name). among z xs) q ∙ name_among xs j (subst (λ (z : Name). non_empty z ≡ true) q e))
    (not_out _ (imp_out _ _ (and_l _ _ p) e))
none_twice_lem (x ∷ xs) p (suc i) zero e q =
    clash (ap (λ (z : Name). among z xs) (sym q) ∙ name_among xs i e)
    (not_out _ (imp_out _ _ (and_l _ _ p) (subst (λ (z : Name). non_empty z ≡ true) q e)))
none_twice_lem (x ∷ xs) p (suc i) (suc j) e q = ap suc (none_twice_lem xs (and_r _ _ p) i j e q)

apart_none : (t : Table) → apart t ≡ true → none_twice t ≡ true
unfolding apart none_twice
apart_none [] p = refl
apart_none (x ∷ xs) p = and_in _ _ (imp_in _ _ (λ e. and_l _ _ p)) (apart_none xs (and_r _ _ p))

pub apart-once : (t : Table) → apart t ≡ true → Once t
apart-once t p = none_twice_lem t (apart_none t p)

-- ---- as many names as numbers

-- the name has a number below n
unfoldable pub known : Table → ℕ → Name → Bool
known t n w = has (place t w) (λ k. k <? n)

pub number_at : (t : Table) (w : Name) (n : ℕ) → place t w ≡ some n → number t w ≡ n
unfolding number or_else
number_at t w n e = ap (λ (o : Option ℕ). or_else o 0) e

number-apart : (t : Table) (w x : Name) → is_some (place t w) ≡ true → is_some (place t x) ≡ true → number t w ≡ number t x → w ≡ x
number-apart t w x p q e =
    let a = is_some_out _ p in let b = is_some_out _ q in
    sym (place_name t w a.0 a.1).0 ∙ ap (name_at t) (sym (number_at t w a.0 a.1) ∙ e ∙ number_at t x b.0 b.1)
    ∙ (place_name t x b.0 b.1).0

known_there : (t : Table) (L : ℕ) (w : Name) → known t L w ≡ true → is_some (place t w) ≡ true
unfolding known
known_there t L w k = let q = has_out _ _ k in is_some_in _ q.1

elem-map : (t : Table) (L : ℕ) (w : Name) (T : Table) → every (known t L) T ≡ true → known t L w ≡ true
    → elem (number t w) (map (number t) T) ≡ true → among w T ≡ true
unfolding elem among every
elem-map t L w [] p q e = clash e refl
elem-map t L w (x ∷ xs) p q e =
    elim (or_out _ _ e) [
      | inl z ↦ or_l _ _ (ap (λ (y : Name). same w y)
          (sym (number-apart t w x (known_there t L w q) (known_there t L x (and_l _ _ p)) (=?-out _ _ z))) ∙ same_refl w)
      | inr z ↦ or_r _ _ (elem-map t L w xs (and_r _ _ p) q z)
    ]

pub once-count : (L : ℕ) (xs : List ℕ) → once xs ≡ true → every (λ x. x <? L) xs ≡ true → length xs ≤ count L (λ i. elem i xs)
unfolding once every elem
once-count L [] o b = zero-le
once-count L (x ∷ xs) o b =
    le_trans (suc_le (once-count L xs (and_r _ _ o) (and_r _ _ b)))
    (count_strict L (λ i. elem i xs) (λ i. elem i (x ∷ xs)) (λ i l e. or_r _ _ e) x (<?_out _ _ (and_l _ _ b))
    (not_out _ (and_l _ _ o)) (or_l _ _ (=?-same x)))
  where
    suc_le : {m n : ℕ} → m ≤ n → suc m ≤ suc n
    suc_le h = omega arith

apart-numbers : (t : Table) (L : ℕ) (T : Table) → apart T ≡ true → every (known t L) T ≡ true → once (map (number t) T) ≡ true
unfolding apart every once
apart-numbers t L [] a k = refl
apart-numbers t L (x ∷ xs) a k =
    and_in _ _ (not_in _ (fails _ (λ e. clash {A = ⊥} (elem-map t L x xs (and_r _ _ k) (and_l _ _ k) e)
    (not_out _ (and_l _ _ a))))) (apart-numbers t L xs (and_r _ _ a) (and_r _ _ k))

pub small_numbers : (t : Table) (L : ℕ) (T : Table) → every (known t L) T ≡ true → every (λ x. x <? L) (map (number t) T) ≡ true
unfolding every known
small_numbers t L [] k = refl
small_numbers t L (x ∷ xs) k =
    let q = has_out _ _ (and_l _ _ k) in
    and_in _ _ (ap (λ (n : ℕ). n <? L) (number_at t x q.0 q.1) ∙ q.2) (small_numbers t L xs (and_r _ _ k))

-- a table of names that all have numbers below L in another has at most L names
pub known-fits : (t : Table) (L : ℕ) (T : Table) → apart T ≡ true → every (known t L) T ≡ true → length T ≤ L
known-fits t L T a k =
    subst (λ (n : ℕ). n ≤ L) (length-map (number t) T)
    (le_trans (once-count L (map (number t) T) (apart-numbers t L T a k) (small_numbers t L T k))
    (count_le L (λ i. elem i (map (number t) T))))
