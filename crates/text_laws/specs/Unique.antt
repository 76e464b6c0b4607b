-- Names in order are given by which names they are.
use Rattle.std.specs.Prelude.{Bool, false, true, List, [], ◌∷◌, map, ◌≢◌, ◌≡◌, ◌<◌, suc, ℕ, length}
use Rattle.std.proofs.Common.{inl, inr, ◌∙◌, ap, ap₂, subst, sym, arith}
use Rattle.std.proofs.Math.Path.{refl}
use Rattle.model.specs.Lists.{elem, every, non_empty, once}
use Rattle.model.specs.Maps.{has}
use Rattle.sets.specs.TestLaws.{<?_in, <?_no, <?_out, =?-in, =?-out, =?-same, and_in, and_l, and_r, bool?, clash, fails, if-false}
use Rattle.sets.specs.TestLaws.{if-true, iff→≡, not_out, or-false, or_l, or_out, or_r, same?}
use Rattle.sets.specs.Tests.{◌&◌, ◌<?◌, ◌=?◌}
use Rattle.text.specs.Bytes.{among, same}
use Rattle.text.specs.Handed.{Once}
use Rattle.text.specs.Language.{Name}
use Rattle.text.specs.Tables.{Table, name_at, place}
use Rattle.text.specs.Written.{before, by_name, insert, sorted}
use Rattle.text_laws.specs.Listed.{Lists, by_name_lists, every_of, insert-elem, rising-once, sorted-elem}
use Rattle.text_laws.specs.Places.{place_name, place_of}
use Rattle.text_laws.specs.TextLaws.{among_names_in, among_names_out, every-among, same_out, same_refl}
use Rattle.model_laws.specs.MapLaws.{has_in, has_out}

-- ---- the order of names

before_self : (w : Name) → before w w ≡ false
unfolding before
before_self [] = refl
before_self (c ∷ cs) = or-false _ _ (fails _ (λ e. let h = <?_out _ _ e in omega arith))
    ∙ fails _ (λ e. clash {A = ⊥} (and_r _ _ e) (before_self cs))

before_trans : (a b c : Name) → before a b ≡ true → before b c ≡ true → before a c ≡ true
unfolding before
before_trans [] [] c p q = clash p refl
before_trans [] (y ∷ ys) [] p q = clash q refl
before_trans [] (y ∷ ys) (z ∷ zs) p q = refl
before_trans (x ∷ xs) [] c p q = clash p refl
before_trans (x ∷ xs) (y ∷ ys) [] p q = clash q refl
before_trans (x ∷ xs) (y ∷ ys) (z ∷ zs) p q =
    elim (or_out _ _ p) [
      | inl a ↦ elim (or_out _ _ q) [
        | inl b ↦ (let h = <?_out _ _ a in let k = <?_out _ _ b in or_l _ _ (<?_in _ _ (omega arith)))
        | inr b ↦ (let h = <?_out _ _ a in let k = =?-out _ _ (and_l _ _ b) in or_l _ _ (<?_in _ _ (omega arith)))
      ]
      | inr a ↦ elim (or_out _ _ q) [
        | inl b ↦ (let h = =?-out _ _ (and_l _ _ a) in let k = <?_out _ _ b in or_l _ _ (<?_in _ _ (omega arith)))
        | inr b ↦ or_r _ _ (and_in _ _ (=?-in _ _ (=?-out _ _ (and_l _ _ a) ∙ =?-out _ _ (and_l _ _ b)))
            (before_trans xs ys zs (and_r _ _ a) (and_r _ _ b)))
      ]
    ]

before_total : (a b : Name) → before a b ≡ false → (a ≡ b → ⊥) → before b a ≡ true
unfolding before
before_total [] [] p n = absurd (n refl)
before_total [] (y ∷ ys) p n = clash refl p
before_total (x ∷ xs) [] p n = refl
before_total (x ∷ xs) (y ∷ ys) p n =
    elim (same? x y) [
      | inl e ↦ or_r _ _ (and_in _ _ (=?-in _ _ (sym e))
          (before_total xs ys (fails _ (λ z. clash {A = ⊥}
          (or_r (x <? y) (x =? y & before xs ys) (and_in _ _ (=?-in _ _ e) z)) p))
          (λ z. n (ap₂ (λ (a : ℕ) (l : Name). a ∷ l) e z))))
      | inr e ↦ or_l _ _ (<?_in _ _ (above x y e (λ h. clash {A = ⊥} (or_l (x <? y) (x =? y & before xs ys) (<?_in _ _ h)) p)))
    ]
  where
    above : (x y : ℕ) → x ≢ y → (x < y → ⊥) → y < x
    above x y e h = elim (bool? (y <? x)) [ inl k ↦ <?_out _ _ k | inr k ↦ absurd (h (omega (arith, <?_no y x k))) ]

-- each name stands before all that follow it
unfoldable pub rises : List Name → Bool
rises [] = true
rises (w ∷ ws) = every (before w) ws & rises ws

heads : (x y : Name) (xs ys : List Name) → rises (x ∷ xs) ≡ true → rises (y ∷ ys) ≡ true
    → ((w : Name) → among w (x ∷ xs) ≡ among w (y ∷ ys)) → x ≡ y
unfolding rises among
heads x y xs ys p q h =
    elim (or_out _ _ (sym (h x) ∙ or_l _ _ (same_refl x))) [
      | inl e ↦ same_out _ _ e
      | inr e ↦ elim (or_out _ _ (h y ∙ or_l _ _ (same_refl y))) [
        | inl k ↦ sym (same_out _ _ k)
        | inr k ↦ clash (before_trans x y x (every-among (before x) xs y (and_l _ _ p) k)
            (every-among (before y) ys x (and_l _ _ q) e)) (before_self x)
      ]
    ]

tails : (x y : Name) (xs ys : List Name) → x ≡ y → rises (x ∷ xs) ≡ true → ((w : Name) → among w (x ∷ xs) ≡ among w (y ∷ ys))
    → (w : Name) → among w xs ≡ true → among w ys ≡ true
unfolding rises among
tails x y xs ys z p h w e =
    elim (or_out _ _ (sym (h w) ∙ or_r _ _ e)) [
      | inl k ↦ clash (every-among (before x) xs x (and_l _ _ p)
          (subst (λ (a : Name). among a xs ≡ true) (same_out w y k ∙ sym z) e)) (before_self x)
      | inr k ↦ k
    ]

pub unique : (xs ys : List Name) → rises xs ≡ true → rises ys ≡ true → ((w : Name) → among w xs ≡ among w ys) → xs ≡ ys
unfolding among rises
unique [] [] p q h = refl
unique [] (y ∷ ys) p q h = clash (or_l (same y y) (among y ys) (same_refl y)) (sym (h y))
unique (x ∷ xs) [] p q h = clash (or_l (same x x) (among x xs) (same_refl x)) (h x)
unique (x ∷ xs) (y ∷ ys) p q h =
    let z = heads x y xs ys p q h in
    ap₂ (λ (a : Name) (l : List Name). a ∷ l) z
    (unique xs ys (and_r _ _ p) (and_r _ _ q)
    (λ w. iff→≡ _ _ (tails x y xs ys z p h w) (tails y x ys xs (sym z) q (λ v. sym (h v)) w)))

-- ---- sorted

every_more : (a b : Name) (ws : List Name) → before a b ≡ true → every (before b) ws ≡ true → every (before a) ws ≡ true
unfolding every
every_more a b [] h e = refl
every_more a b (w ∷ ws) h e = and_in _ _ (before_trans a b w h (and_l _ _ e)) (every_more a b ws h (and_r _ _ e))

every_names : (test : Name → Bool) (f : ℕ → Name) (l : List ℕ) → every test (map f l) ≡ true → (n : ℕ) → elem n l ≡ true
    → test (f n) ≡ true
unfolding every elem
every_names test f [] e n k = clash k refl
every_names test f (x ∷ xs) e n k = elim (or_out _ _ k) [
  | inl q ↦ ap (λ (z : ℕ). test (f z)) (=?-out _ _ q)
      ∙ and_l _ _ e
  | inr q ↦ every_names test f xs (and_r _ _ e) n q
]

insert-rises : (t : Table) → Once t → (n : ℕ) (l : List ℕ) → non_empty (name_at t n) ≡ true → elem n l ≡ false
    → rises (map (name_at t) l) ≡ true → rises (map (name_at t) (insert t n l)) ≡ true
unfolding rises insert elem
insert-rises t o n [] e k r = and_in _ _ (unfold every in refl) refl
insert-rises t o n (m ∷ ms) e k r =
    elim (bool? (before (name_at t n) (name_at t m))) [
      | inl q ↦ ap (λ (l : List ℕ). rises (map (name_at t) l)) (if-true _ _ _ q)
          ∙ and_in _ _ (cons q (every_more (name_at t n) (name_at t m) (map (name_at t) ms) q (and_l _ _ r))) r
      | inr q ↦ ap (λ (l : List ℕ). rises (map (name_at t) l)) (if-false _ _ _ q) ∙ and_in _ _
          (every_of (before (name_at t m)) (name_at t) (insert t n ms) (λ x y. elim (or_out _ _ (sym (insert-elem t n x ms) ∙ y)) [
            | inl z ↦ ap (λ (i : ℕ). before (name_at t m) (name_at t i)) (=?-out _ _ z)
                ∙ before_total (name_at t n) (name_at t m) q
                (λ a. clash {A = ⊥} (or_l (n =? m) (elem n ms) (=?-in _ _ (o n m e a))) k)
            | inr z ↦ every_names (before (name_at t m)) (name_at t) ms (and_l _ _ r) x z
          ]))
          (insert-rises t o n ms e (fails _ (λ z. clash {A = ⊥} (or_r (n =? m) (elem n ms) z) k)) (and_r _ _ r))
    ]
  where
    cons : before (name_at t n) (name_at t m) ≡ true → every (before (name_at t n)) (map (name_at t) ms) ≡ true
        → every (before (name_at t n)) (name_at t m ∷ map (name_at t) ms) ≡ true
    cons a b = unfold every in and_in _ _ a b

sorted_rises : (t : Table) → Once t → (l : List ℕ) → once l ≡ true → ((n : ℕ) → elem n l ≡ true → non_empty (name_at t n) ≡ true)
    → rises (map (name_at t) (sorted t l)) ≡ true
unfolding sorted once elem
sorted_rises t o [] k h = unfold rises in refl
sorted_rises t o (x ∷ xs) k h =
    insert-rises t o x (sorted t xs) (h x (or_l _ _ (=?-same x))) (sorted-elem t x xs ∙ not_out _ (and_l _ _ k))
    (sorted_rises t o xs (and_r _ _ k) (λ n e. h n (or_r _ _ e)))

-- the names of the numbers that pass a test
module _ (t : Table) (o : Once t) (L : ℕ) (test : ℕ → Bool) (small : (n : ℕ) → test n ≡ true → n < L) (full : (n : ℕ)
    → test n ≡ true
    → non_empty (name_at t n) ≡ true) where
  k : Lists (by_name t L test) test
  k = by_name_lists t L test small

  pub by_name-rises : rises (map (name_at t) (by_name t L test)) ≡ true
  unfolding by_name
  by_name-rises = sorted_rises t o _ (rising-once L test) (λ n e. full n (sym (k.each n) ∙ sorted-elem t n _ ∙ e))

  pub by_name-among : (w : Name) → among w (map (name_at t) (by_name t L test)) ≡ has (place t w) test
  by_name-among w = iff→≡ _ _
      (λ a. let r = among_names_out (name_at t) _ w a in let e = sym (k.each r.0) ∙ r.1 in
      has_in _ _ r.0 (ap (place t) r.2 ∙ place_of t o r.0 (full r.0 e)) e)
      (λ a. let q = has_out _ _ a in subst (λ (z : Name). among z (map (name_at t) (by_name t L test)) ≡ true)
      (place_name t w q.0 q.1).0 (among_names_in (name_at t) _ q.0 (k.each q.0 ∙ q.2)))

-- what goes with each name
pub map_along : {A : Type 0} (N N' : ℕ → Name) (h h' : ℕ → A) (l l' : List ℕ) → map N l ≡ map N' l'
    → ((n n' : ℕ) → elem n l ≡ true → elem n' l' ≡ true → N n ≡ N' n' → h n ≡ h' n') → map h l ≡ map h' l'
unfolding elem
map_along N N' h h' [] [] e k = refl
map_along N N' h h' [] (y ∷ ys) e k = absurd (let z : ◌≡◌ {A = ℕ} 0 (suc (length (map N' ys))) = ap length e in omega arith)
map_along N N' h h' (x ∷ xs) [] e k = absurd (let z : ◌≡◌ {A = ℕ} (suc (length (map N xs))) 0 = ap length e in omega arith)
map_along N N' h h' (x ∷ xs) (y ∷ ys) e k =
    let a : N x ≡ N' y = cc in let b : map N xs ≡ map N' ys = cc in
    ap₂ (λ (z : _) (r : List _). z ∷ r) (k x y (or_l _ _ (=?-same x)) (or_l _ _ (=?-same y)) a)
    (map_along N N' h h' xs ys b (λ n n' p q w. k n n' (or_r _ _ p) (or_r _ _ q) w))
