-- WHEREUSED is the formula of lines 21.2 to 21.6: part({c}) - {c}.
use Rattle.std.specs.Prelude.{true, ◌↔◌, ◌≢◌, ◌⊎◌, ◌≡◌, ◌<◌, ℕ}
use Rattle.std.proofs.Math.Logic.{inl, inr}
use Rattle.std.proofs.Common.{subst}
use Rattle.model.specs.Book.{Book, Systems, components, usable}
use Rattle.model.specs.Limits.{SystemLimits}
use Rattle.model.specs.Lists.{elem}
use Rattle.model.specs.Queries.{where_used}
use Rattle.model.specs.Rules.{p, r}
use Rattle.sets.specs.Sets.{Set, meet}
use Rattle.sets.specs.TestLaws.{=?-no, =?-not, =?-out, =?-same, and_in, and_l, and_r, any_in, any_out, not_in, not_out}
use Rattle.model_laws.specs.Heights.{usable_system}
use Rattle.model_laws.specs.ListLaws.{rising-elem}
use Rattle.model_laws.specs.Meaning.{reaches_means}
use Rattle.model_laws.specs.Notions.{InPart, Reaches, above, direct, here, only, through, users}

module _ (Y : Systems) (l : SystemLimits Y) where
  -- who may use a component of part(cs) is in part(cs)
  part_user : {cs : Set} {d : ℕ} (s : ℕ) → usable Y s d ≡ true → InPart Y cs d → InPart Y cs s
  unfolding users meet
  part_user {d = d} s u (here e) = above (here (and_in _ _ (usable_system Y s d u) (any_in _ _ d (l.usable< s d u) (and_in _ _ e u))))
  part_user s u (above r) = above (part_user s u r)

  reaches_part : {cs : Set} {s c : ℕ} → cs c ≡ true → Reaches Y s c → InPart Y cs s
  reaches_part e (direct {s = s} u) = part_user s u (here e)
  reaches_part e (through {s = s} u r) = part_user s u (reaches_part e r)

  one_more_lem : {s d c : ℕ} → Reaches Y s d → usable Y d c ≡ true → Reaches Y s c
  one_more_lem (direct u) k = through u (direct k)
  one_more_lem (through u r) k = through u (one_more_lem r k)

  part_reaches : {cs : Set} {s : ℕ} → InPart Y cs s → (cs s ≡ true) ⊎ ((c : ℕ) × (cs c ≡ true) × Reaches Y s c)
  unfolding users meet
  part_reaches (here e) = inl e
  part_reaches (above r) =
      elim (part_reaches r) [
        | inl u ↦ (let q = any_out _ _ (and_r _ _ u) in inr (q.0, and_l _ _ q.2, direct (and_r _ _ q.2)))
        | inr z ↦ (let q = any_out _ _ (and_r _ _ z.1) in inr (q.0, and_l _ _ q.2, one_more_lem z.2 (and_r _ _ q.2)))
      ]

pub whereused_means : (b : Book) → SystemLimits b.systems
    → (c s : ℕ) → (elem s (where_used b c) ≡ true) ↔ (InPart b.systems (only c) s × (s ≢ c))
unfolding where_used only
whereused_means b l c s = (
  λ t. (let z = ((rising-elem components s _).0 t).1 in
      (reaches_part b.systems l (=?-same c) ((reaches_means b.systems l s c).0 (and_r _ _ z)), =?-no s c (not_out _ (and_l _ _ z)))),
  λ p. elim (part_reaches b.systems l p.0) [
    | inl e ↦ absurd (p.1 (=?-out s c e))
    | inr z ↦ (let r : Reaches b.systems s c = subst (λ (k : ℕ). Reaches b.systems s k) (=?-out _ c z.1) z.2 in
        (rising-elem components s _).1 (system< r, and_in _ _ (not_in _ (=?-not s c p.1)) ((reaches_means b.systems l s c).1 r)))
  ],
)
  where
    system< : {s c : ℕ} → Reaches b.systems s c → s < components
    system< (direct {s = s} {c = c} u) = l.component< s (usable_system _ s c u)
    system< (through {s = s} {d = d} u r) = l.component< s (usable_system _ s d u)
