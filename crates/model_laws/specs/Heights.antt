-- What B4 gives: a number that falls at each step down through usable components.
use Rattle.std.specs.Prelude.{Bool, false, true, ◌≡◌}
use Rattle.std.proofs.Math.Logic.{inl, inr}
use Rattle.std.proofs.Math.Option.{Option, none, some}
use Rattle.std.proofs.Common.{◌∙◌, le_refl}
use Rattle.std.proofs.Math.Path.{ap, refl, sym}
use Prim.Native.Nat.{◌+◌, ◌<◌, ◌≤◌, suc, zero, zero-le, ℕ}
use native.Mathlib.Omega.{arith}
use Rattle.model.specs.Book.{Specs, Systems, components, is_system, member, requires, usable}
use Rattle.model.specs.Lists.{greatest}
use Rattle.model.specs.Maps.{has, option_map, or_else}
use Rattle.model.specs.PartsList.{chain_in, longest_chain}
use Rattle.model.specs.Rules.{B4, each_system, needs, needs_to, reaches}
use Rattle.sets.specs.TestLaws.{=?-out, =?-same, all_out, and_in, and_l, and_r, any_cong, clash, count_le, count_mono, count_strict}
use Rattle.sets.specs.TestLaws.{fails, if-false, if-true, imp_out, not_out, or_l, or_out, or_r}
use Rattle.sets.specs.Tests.{◌=?◌, ◌or◌, any, count, if?◌then◌else◌}
use Rattle.model_laws.specs.MapLaws.{has_cong, has_out, is_some_in}
use Rattle.model_laws.specs.Notions.{direct, is_below, systems_below, through}
use Rattle.model_laws.specs.Reach.{reaches_all, reaches_sound}

pub usable_system : (Y : Systems) (s c : ℕ) → usable Y s c ≡ true → is_system Y s ≡ true
unfolding usable is_system
usable_system Y s c u = is_some_in (Y s) (has_out _ _ u).1

pub systems_below_le : (Y : Systems) (c : ℕ) → systems_below Y c ≤ count components (is_system Y)
unfolding systems_below is_below
systems_below_le Y c = count_mono components _ _ (λ i l t. and_l _ _ t)

pub no_way_back : (Y : Systems) → B4 Y ≡ true → (s : ℕ) → s < components → is_system Y s ≡ true → reaches Y s s ≡ false
unfolding B4 each_system
no_way_back Y b4 s l y = not_out _ (imp_out _ _ (all_out _ _ b4 s l) y)

-- what is asked of a book here: its numbers are below the limits, B4, and members are usable (B5)
pub record Sound (Y : Systems) : Type 0 where
  pub usable< : (s c : ℕ) → usable Y s c ≡ true → (s < components) × (c < components)
  pub sys_lim : (s : ℕ) → is_system Y s ≡ true → s < components
  pub b4 : B4 Y ≡ true
  pub mem_usable : (s v c w : ℕ) → member Y s v c ≡ some w → usable Y s c ≡ true

module _ (Y : Systems) (ok : Sound Y) where
  step : (s c d : ℕ) → usable Y s c ≡ true → (c =? d or reaches Y c d) ≡ true → reaches Y s d ≡ true
  unfolding reaches
  step s c d u t =
      elim (or_out _ _ t) [
        | inl e ↦ reaches_all Y ok.usable< components (le_refl _) (direct (rw (=?-out _ _ e) at u))
        | inr h ↦ reaches_all Y ok.usable< components (le_refl _) (through u (reaches_sound components Y c d h))
      ]

  pub falls : (s c : ℕ) → usable Y s c ≡ true → systems_below Y c < systems_below Y s
  unfolding systems_below is_below
  falls s c u =
      let y = usable_system Y s c u in
      let l = (ok.usable< s c u).0 in
      count_strict components _ _
      (λ i k t. and_in _ _ (and_l _ _ t) (or_r _ _ (step s c i u (and_r _ _ t))))
      s l
      (fails _ (λ t. clash (step s c s u (and_r _ _ t)) (no_way_back Y ok.b4 s l y)))
      (and_in _ _ y (or_l _ _ (=?-same s)))

  pub high : (c : ℕ) → is_system Y c ≡ true → 0 < systems_below Y c
  unfolding systems_below is_below
  high c y = omega (arith, count_strict components (λ i. false) (is_below Y c) (λ i k t. clash t refl) c (ok.sys_lim c y) refl (and_in _ _ y (or_l _ _ (=?-same c))))

  needs_to_suc : (n : ℕ) (S : Specs) (c v f : ℕ)
      → needs_to (suc n) S Y c v f ≡ (if? is_system Y c then any components (λ d. has (member Y c v d) (λ w. needs_to n S Y d w f)) else requires S c v f)
  unfolding needs_to
  needs_to_suc n S c v f = refl

  low : (n : ℕ) (S : Specs) (c v f : ℕ) → is_system Y c ≡ false → needs_to n S Y c v f ≡ requires S c v f
  unfolding needs_to
  low zero S c v f e = refl
  low (suc n) S c v f e = if-false _ _ _ e

  -- any number of levels from the systems_below on gives the same needs
  pub needs_enough : (S : Specs) (n m c v f : ℕ) → systems_below Y c ≤ n → systems_below Y c ≤ m → needs_to n S Y c v f ≡ needs_to m S Y c v f
  unfolding needs_to
  needs_enough S zero zero c v f hn hm = refl
  needs_enough S zero (suc m) c v f hn hm = sym (low (suc m) S c v f (fails _ (λ y. omega (arith, high c y))))
  needs_enough S (suc n) zero c v f hn hm = low (suc n) S c v f (fails _ (λ y. omega (arith, high c y)))
  needs_enough S (suc n) (suc m) c v f hn hm =
      ap (λ (x : Bool). if? is_system Y c then x else requires S c v f) (any_cong components (λ d. has_cong (member Y c v d) (λ w e.
      let h = falls c d (ok.mem_usable c v d w e) in needs_enough S n m d w f (omega arith) (omega arith))))

  pub bound : (c : ℕ) → systems_below Y c ≤ components
  unfolding systems_below
  bound c = count_le components (is_below Y c)

  -- so the needs of the plain book are those of 2.47 to 2.52: an equation with no bound in it
  pub needs_system : (S : Specs) (c v f : ℕ) → is_system Y c ≡ true → needs S Y c v f ≡ any components (λ d. has (member Y c v d) (λ w. needs S Y d w f))
  unfolding needs
  needs_system S c v f y =
      needs_enough S components (suc components) c v f (bound c) (omega (arith, bound c))
      ∙ needs_to_suc components S c v f ∙ if-true _ _ _ y

  pub needs_other : (S : Specs) (c v f : ℕ) → is_system Y c ≡ false → needs S Y c v f ≡ requires S c v f
  unfolding needs
  needs_other S c v f e = low components S c v f e

  -- ---- chains

  greatest_le : (n k : ℕ) (g : ℕ → ℕ) → ((i : ℕ) → g i ≤ k) → greatest n g ≤ k
  unfolding greatest
  greatest_le zero k g h = zero-le
  greatest_le (suc n) k g h = omega (arith, h n, greatest_le n k g h)

  or-zero_le : {A : Type 0} (o : Option A) (g : A → ℕ) (k : ℕ) → ((x : A) → o ≡ some x → g x ≤ k) → or_else (option_map g o) 0 ≤ k
  unfolding or_else option_map
  or-zero_le none g k h = zero-le
  or-zero_le (some x) g k h = h x refl

  pub chain_le : (n c v : ℕ) → chain_in n Y c v ≤ suc (systems_below Y c)
  unfolding chain_in
  chain_le zero c v = omega arith
  chain_le (suc n) c v =
      let g : greatest components (λ d. or_else (option_map (λ w. chain_in n Y d w) (member Y c v d)) 0) ≤ systems_below Y c =
      greatest_le components (systems_below Y c) _ (λ d. or-zero_le (member Y c v d) _ _ (λ w e.
      omega (arith, chain_le n d w, falls c d (ok.mem_usable c v d w e)))) in
      omega arith

  -- no chain is longer than the number of systems plus one
  pub longest_chain_lem : (c v : ℕ) → longest_chain Y c v ≤ count components (is_system Y) + 1
  unfolding longest_chain
  longest_chain_lem c v = omega (arith, chain_le components c v, systems_below_le Y c)
