-- Reaching through usable components, with no bound on the steps; the bounded test finds as much.
use Rattle.std.specs.Prelude.{true, ◌⊎◌, ◌≡◌, refl}
use Rattle.std.proofs.Math.Logic.{inl, inr}
use Prim.Native.Nat.{◌<◌, ◌≤◌, suc, zero, zero-le, ℕ}
use Rattle.std.proofs.Common.{arith}
use Rattle.model.specs.Book.{Systems, components, usable}
use Rattle.model.specs.Rules.{reaches_in}
use Rattle.sets.specs.TestLaws.{all_no, all_out, and_in, and_l, and_r, any_in, any_out, bool?, count_le, count_strict, imp_no}
use Rattle.sets.specs.TestLaws.{imp_out, or_l, or_out, or_r}
use Rattle.sets.specs.Tests.{◌&◌, ◌or◌, ◌⇒◌, all, any, count}
use Rattle.model_laws.specs.Notions.{Reaches, direct, through}

reaches_in-suc : (n : ℕ) (Y : Systems) (s c : ℕ)
    → reaches_in (suc n) Y s c ≡ (usable Y s c or any components (λ d. usable Y s d & reaches_in n Y d c))
unfolding reaches_in
reaches_in-suc n Y s c = refl

pub reaches_sound : (n : ℕ) (Y : Systems) (s c : ℕ) → reaches_in n Y s c ≡ true → Reaches Y s c
unfolding reaches_in
reaches_sound zero Y s c t = direct t
reaches_sound (suc n) Y s c t =
    elim (or_out _ _ t) [
      | inl u ↦ direct u
      | inr a ↦ (let q = any_out _ _ a in through (and_l _ _ q.2) (reaches_sound n Y q.0 c (and_r _ _ q.2)))
    ]

module _ (Y : Systems) (usable< : (s c : ℕ) → usable Y s c ≡ true → (s < components) × (c < components)) where
  one_step : (n s c : ℕ) → usable Y s c ≡ true → reaches_in n Y s c ≡ true
  unfolding reaches_in
  one_step zero s c u = u
  one_step (suc n) s c u = or_l _ _ u

  more_step : (n s d c : ℕ) → usable Y s d ≡ true → reaches_in n Y d c ≡ true → reaches_in (suc n) Y s c ≡ true
  more_step n s d c u t = rw reaches_in-suc (or_r _ _ (any_in _ _ d (usable< s d u).1 (and_in _ _ u t)))

  -- with n + 1 steps no component reaches c that does not with n
  Stable : ℕ → ℕ → Type 0
  Stable c n = (d : ℕ) → d < components → reaches_in (suc n) Y d c ≡ true → reaches_in n Y d c ≡ true

  grows : (n s c : ℕ) → reaches_in n Y s c ≡ true → reaches_in (suc n) Y s c ≡ true
  grows zero s c t = one_step 1 s c (unfold reaches_in in t)
  grows (suc n) s c t =
      elim (or_out _ _ (rw reaches_in-suc at t)) [
        | inl u ↦ one_step (suc (suc n)) s c u
        | inr a ↦ (let q = any_out _ _ a in more_step (suc n) s q.0 c (and_l _ _ q.2) (grows n q.0 c (and_r _ _ q.2)))
      ]

  stays : (c n : ℕ) → Stable c n → Stable c (suc n)
  unfolding Stable
  stays c n st s l t =
      elim (or_out _ _ (rw reaches_in-suc at t)) [
        | inl u ↦ one_step (suc n) s c u
        | inr a ↦ (let q = any_out _ _ a in more_step n s q.0 c (and_l _ _ q.2) (st q.0 q.1 (and_r _ _ q.2)))
      ]

  progress : (c n : ℕ) → Stable c n ⊎ (count components (λ d. reaches_in n Y d c) < count components (λ d. reaches_in (suc n) Y d c))
  unfolding Stable
  progress c n =
      elim (bool? (all components (λ d. reaches_in (suc n) Y d c ⇒ reaches_in n Y d c))) [
        | inl t ↦ inl (λ d l h. imp_out _ _ (all_out _ _ t d l) h)
        | inr f ↦ inr (let q = all_no _ _ f in let z = imp_no _ _ q.2 in
            count_strict components _ _ (λ i l h. grows n i c h) q.0 q.1 z.1 z.0)
      ]

  counted : (c n : ℕ) → Stable c n ⊎ (n ≤ count components (λ d. reaches_in n Y d c))
  counted c zero = inr zero-le
  counted c (suc n) =
      elim (counted c n) [
        | inl st ↦ inl (stays c n st)
        | inr le ↦ elim (progress c n) [ inl st ↦ inl (stays c n st) | inr lt ↦ inr (omega arith) ]
      ]

  stable : (c n : ℕ) → components ≤ n → Stable c n
  stable c n h =
      elim (counted c n) [
        | inl st ↦ st
        | inr le ↦ elim (progress c n) [
          | inl st ↦ st
          | inr lt ↦ absurd (omega (arith, count_le components (λ d. reaches_in (suc n) Y d c)))
        ]
      ]

  -- more steps than components reach nothing new
  pub reaches_all : (n : ℕ) → components ≤ n → {s c : ℕ} → Reaches Y s c → reaches_in n Y s c ≡ true
  unfolding Stable
  reaches_all n h (direct {s = s} {c = c} u) = one_step n s c u
  reaches_all n h (through {s = s} {d = d} {c = c} u rest) = stable c n h s (usable< s d u).0 (more_step n s d c u (reaches_all n h rest))
