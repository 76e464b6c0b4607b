-- The order in which systems are written: each after its usable systems, and all of them.
use Rattle.std.specs.Prelude.{Bool, false, true, ◌≡◌}
use mathlib.Core.List.{List, [], ◌∷◌, map}
use Rattle.std.proofs.Math.Logic.{inl, inr}
use Rattle.std.proofs.Math.Option.{Option, some-injective, none, some}
use Rattle.std.proofs.Common.{◌∙◌, sym, le_refl, arith}
use Rattle.std.proofs.Math.Path.{ap, refl, subst}
use Prim.Native.Nat.{◌<◌, ◌≤◌, suc, zero, ℕ}
use Rattle.model.specs.Book.{Book, Systems, components, is_system, specified, usable}
use Rattle.model.specs.Lists.{elem, if_found}
use Rattle.sets.specs.TestLaws.{=?-in, =?-out, =?-same, all_no, all_out, and_in, and_l, and_r, bool?, clash, count_le, count_strict}
use Rattle.sets.specs.TestLaws.{fails, if-false, if-true, imp_no, imp_out, not_in, not_out, or_l, or_out, or_r}
use Rattle.sets.specs.Tests.{◌&◌, ◌=?◌, count, ~◌}
use Rattle.text.specs.Written.{first_of, ready, systems_from}
use Rattle.text_laws.specs.Listed.{Lists, elem-map_in, elem-map_out}
use Rattle.text_laws.specs.Renamed.{Renumbering}
use Rattle.model_laws.specs.Good.{Good}
use Rattle.model_laws.specs.Heights.{falls}
use Rattle.model_laws.specs.MapLaws.{no_some, option?}
use Rattle.model_laws.specs.Notions.{systems_below}
use Rattle.model_laws.specs.Parts.{good→sound}

first_none : (test : ℕ → Bool) (l : List ℕ) → first_of test l ≡ none → (n : ℕ) → elem n l ≡ true → test n ≡ false
unfolding first_of elem
first_none test [] e n k = clash k refl
first_none test (x ∷ xs) e n k =
    elim (bool? (test x)) [
      | inl q ↦ no_some (sym e ∙ if-true _ _ _ q)
      | inr q ↦ elim (or_out _ _ k) [
        | inl z ↦ ap test (=?-out _ _ z) ∙ q
        | inr z ↦ first_none test xs (sym (if-false _ _ _ q) ∙ e) n z
      ]
    ]

first_some : (test : ℕ → Bool) (l : List ℕ) (n : ℕ) → first_of test l ≡ some n → (elem n l ≡ true) × (test n ≡ true)
unfolding first_of elem
first_some test [] n e = no_some e
first_some test (x ∷ xs) n e =
    elim (bool? (test x)) [
      | inl q ↦ (let z : x ≡ n = some-injective _ _ (sym (if-true _ _ _ q) ∙ e) in
          (or_l _ _ (=?-in _ _ (sym z)), ap test (sym z) ∙ q))
      | inr q ↦ (let r = first_some test xs n (sym (if-false _ _ _ q) ∙ e) in (or_r _ _ r.0, r.1))
    ]

-- the next system, or none
pub from-none : (n : ℕ) (Y : Systems) (ss out : List ℕ) → first_of (λ s. ~ elem s out & ready Y out s) ss ≡ none
    → systems_from (suc n) Y ss out ≡ []
unfolding systems_from if_found
from-none n Y ss out e = ap (λ (o : Option ℕ). if_found o (λ s. s ∷ systems_from n Y ss (s ∷ out))) e

pub from_some : (n : ℕ) (Y : Systems) (ss out : List ℕ) (x : ℕ) → first_of (λ s. ~ elem s out & ready Y out s) ss ≡ some x
    → systems_from (suc n) Y ss out ≡ x ∷ systems_from n Y ss (x ∷ out)
unfolding systems_from if_found
from_some n Y ss out x e = ap (λ (o : Option ℕ). if_found o (λ s. s ∷ systems_from n Y ss (s ∷ out))) e

-- numbers that go in one after the other: each can, with those before it in
pub data InTurn (new_c : ℕ → ℕ) (Can : List ℕ → ℕ → Type 0) : List ℕ → List ℕ → Type 0 where
  none_left : {l : List ℕ} → InTurn new_c Can l []
  one_more_lem : {l : List ℕ} {c : ℕ} {cs : List ℕ} → Can l c → InTurn new_c Can (new_c c ∷ l) cs → InTurn new_c Can l (c ∷ cs)

module _ (b : Book) (g : Good b) (ss : List ℕ) (ks : Lists ss (is_system b.systems)) where
  abbrev Y : Systems
  Y = b.systems

  abbrev test : List ℕ → ℕ → Bool
  test out s = ~ elem s out & ready Y out s

  ready_in : (out : List ℕ) (s c : ℕ) → ready Y out s ≡ true → usable Y s c ≡ true → is_system Y c ≡ true → elem c out ≡ true
  unfolding ready
  ready_in out s c r u k = imp_out _ _ (imp_out _ _ (all_out _ _ r c (g.system_limits.usable< s c u)) u) k

  -- of the systems that are not out, one has its usable systems out
  lowest : (h : ℕ) (out : List ℕ) (s : ℕ) → systems_below Y s ≤ h → is_system Y s ≡ true → elem s out ≡ false
      → (x : ℕ) × (is_system Y x ≡ true) × (test out x ≡ true)
  unfolding ready
  lowest zero out s le k e =
      elim (bool? (ready Y out s)) [
        | inl r ↦ (s, k, and_in _ _ (not_in _ e) r)
        | inr r ↦ (let q = all_no _ _ r in let u = (imp_no _ _ q.2).0 in let f = falls Y (good→sound b g) s q.0 u in
            absurd (omega arith))
      ]
  lowest (suc h) out s le k e =
      elim (bool? (ready Y out s)) [
        | inl r ↦ (s, k, and_in _ _ (not_in _ e) r)
        | inr r ↦ (let q = all_no _ _ r in let u = (imp_no _ _ q.2).0 in let w = imp_no _ _ (imp_no _ _ q.2).1 in
            lowest h out q.0 (let f = falls Y (good→sound b g) s q.0 u in omega arith) w.0 w.1)
      ]

  left : List ℕ → ℕ
  left out = count components (λ s. is_system Y s & ~ elem s out)

  left_falls : (out : List ℕ) (x : ℕ) → is_system Y x ≡ true → elem x out ≡ false → left (x ∷ out) < left out
  unfolding left elem
  left_falls out x k e =
      count_strict components _ _ (λ i l t. and_in _ _ (and_l _ _ t)
      (not_in _ (fails _ (λ z. clash {A = ⊥} (or_r (i =? x) (elem i out) z) (not_out _ (and_r _ _ t))))))
      x (g.system_limits.component< x k)
      (fails _ (λ t. clash {A = ⊥} (or_l (x =? x) (elem x out) (=?-same x)) (not_out _ (and_r _ _ t))))
      (and_in _ _ k (not_in _ e))

  left_some : (out : List ℕ) (x : ℕ) → is_system Y x ≡ true → elem x out ≡ false → 0 < left out
  left_some out x k e = let h = left_falls out x k e in omega arith

  -- the next system to be written
  abbrev next_system : List ℕ → Option ℕ
  next_system out = first_of (test out) ss

  next_some : (out : List ℕ) (x : ℕ) → next_system out ≡ some x
      → (is_system Y x ≡ true) × (elem x out ≡ false) × (ready Y out x ≡ true)
  next_some out x e = let q = first_some (test out) ss x e in
      (sym (ks.each x) ∙ q.0, not_out _ (and_l _ _ q.1), and_r _ _ q.1)

  -- without one, every system is out
  next_none : (out : List ℕ) → next_system out ≡ none → (s : ℕ) → is_system Y s ≡ true → elem s out ≡ true
  next_none out e s k =
      elim (bool? (elem s out)) [
        | inl q ↦ q
        | inr q ↦ (let r = lowest (systems_below Y s) out s (le_refl _) k q in
            clash r.2 (first_none (test out) ss e r.0 (ks.each r.0 ∙ r.1)))
      ]

  -- all of them are written
  all_written : (n : ℕ) (out : List ℕ) → left out ≤ n → (s : ℕ) → is_system Y s ≡ true → elem s out ≡ false
      → elem s (systems_from n Y ss out) ≡ true
  unfolding elem
  all_written zero out h s k e = absurd (let z = left_some out s k e in omega arith)
  all_written (suc n) out h s k e =
      elim (option? (next_system out)) [
        | inl z ↦ clash (next_none out z s k) e
        | inr q ↦ (let x = q.0 in let r = next_some out x q.1 in
            ap (elem s) (from_some n Y ss out x q.1) ∙ elim (bool? (s =? x)) [
              | inl w ↦ or_l _ _ w
              | inr w ↦ or_r _ _ (all_written n (x ∷ out) (let f = left_falls out x r.0 r.1 in omega arith) s k
                  (fails _ (λ t. elim (or_out (s =? x)
                  (elem s out) t) [ inl a ↦ clash {A = ⊥} a w | inr a ↦ clash {A = ⊥} a e ])))
            ])
      ]

  pub systems_are : (n : ℕ) (out : List ℕ) (x : ℕ) → elem x (systems_from n Y ss out) ≡ true → is_system Y x ≡ true
  unfolding elem
  systems_are zero out x e = clash e (unfold systems_from elem in refl)
  systems_are (suc n) out x e =
      elim (option? (next_system out)) [
        | inl z ↦ clash (ap (elem x) (sym (from-none n Y ss out z)) ∙ e) refl
        | inr q ↦ elim (or_out _ _ (ap (elem x) (sym (from_some n Y ss out q.0 q.1)) ∙ e)) [
          | inl z ↦ ap (is_system Y) (=?-out _ _ z) ∙ (next_some out q.0 q.1).0
          | inr z ↦ systems_are n (q.0 ∷ out) x z
        ]
      ]

  -- the bound on systems bounds nothing
  pub systems_all : (s : ℕ) → is_system Y s ≡ true → elem s (systems_from components Y ss []) ≡ true
  unfolding left
  systems_all s k = all_written components [] (count_le components _) s k (unfold elem in refl)

  -- ---- under new numbers

  module _ (re : Renumbering b.specs b.modules) where
    abbrev old_c : ℕ → ℕ
    old_c = re.old_c

    abbrev new_c : ℕ → ℕ
    new_c = re.new_c

    abbrev pub Closed : List ℕ → Type 0
    Closed l = (s c : ℕ) → elem s l ≡ true → usable Y (old_c s) (old_c c) ≡ true → is_system Y (old_c c) ≡ true → elem c l ≡ true

    pub record Can (l : List ℕ) (s : ℕ) : Type 0 where
      pub is : is_system Y s ≡ true
      pub new : elem (new_c s) l ≡ false
      pub closed : Closed (new_c s ∷ l)

    record Out (out : List ℕ) : Type 0 where
      sys : (n : ℕ) → elem n out ≡ true → is_system Y n ≡ true
      shut : (s c : ℕ) → elem s out ≡ true → usable Y s c ≡ true → is_system Y c ≡ true → elem c out ≡ true

    spec : (s : ℕ) → is_system Y s ≡ true → specified b.specs s ≡ true
    spec s k = g.b2.sys_spec s k

    out_closed : (out : List ℕ) → Out out → Closed (map new_c out)
    out_closed out o s c e u k =
        let r = elem-map_out new_c out s e in
        let z : old_c s ≡ r.0 = ap old_c (sym r.2) ∙ re.of_c.back r.0 (spec r.0 (o.sys r.0 r.1)) in
        let i = o.shut r.0 (old_c c) r.1 (ap (λ (a : ℕ). usable Y a (old_c c)) (sym z) ∙ u) k in
        subst (λ (a : ℕ). elem a (map new_c out) ≡ true) (re.of_c.forth c (spec (old_c c) k)) (elem-map_in new_c out (old_c c) i)

    out_new : (out : List ℕ) → Out out → (x : ℕ) → is_system Y x ≡ true → elem x out ≡ false → elem (new_c x) (map new_c out) ≡ false
    out_new out o x k e = fails _ (λ t.
        let r = elem-map_out new_c out (new_c x) t in
        let z : r.0 ≡ x = sym (re.of_c.back r.0 (spec r.0 (o.sys r.0 r.1))) ∙ ap old_c r.2
        ∙ re.of_c.back x (spec x k) in
        clash {A = ⊥} (subst (λ (a : ℕ). elem a out ≡ true) z r.1) e)

    out_more : (out : List ℕ) → Out out → (x : ℕ) → is_system Y x ≡ true → ready Y out x ≡ true → Out (x ∷ out)
    unfolding elem
    out_more out o x k r = record {
      sys = λ n e. elim (or_out _ _ e) [ inl z ↦ ap (is_system Y) (=?-out _ _ z) ∙ k | inr z ↦ o.sys n z ];
      shut = λ s c e u w. elim (or_out _ _ e) [
        | inl z ↦ or_r _ _ (ready_in out x c r (ap (λ (a : ℕ). usable Y a c) (sym (=?-out _ _ z)) ∙ u) w)
        | inr z ↦ or_r _ _ (o.shut s c z u w)
      ];
    }

    in_turn_from : (n : ℕ) (out : List ℕ) → Out out → InTurn new_c Can (map new_c out) (systems_from n Y ss out)
    in_turn_from zero out o = unfold systems_from in none_left
    in_turn_from (suc n) out o =
        elim (option? (next_system out)) [
          | inl z ↦ subst (InTurn new_c Can (map new_c out)) (sym (from-none n Y ss out z)) none_left
          | inr q ↦ (let x = q.0 in let r = next_some out x q.1 in let o' = out_more out o x r.0 r.2 in
              subst (InTurn new_c Can (map new_c out)) (sym (from_some n Y ss out x q.1))
              (one_more_lem (record { is = r.0; new = out_new out o x r.0 r.1; closed = out_closed (x ∷ out) o' })
              (in_turn_from n (x ∷ out) o')))
        ]

    pub systems_in_turn : InTurn new_c Can [] (systems_from components Y ss [])
    systems_in_turn = in_turn_from components []
        (record { sys = λ n e. clash e (unfold elem in refl); shut = λ s c e u k. clash e (unfold elem in refl) })
