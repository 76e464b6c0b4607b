-- What is computed with a bound means what document 01 says without one.
use Rattle.std.specs.Prelude.{true, List, [], ◌∷◌, ◌↔◌, ◌⊎◌, ◌≡◌, refl}
use Rattle.std.proofs.Math.Logic.{inl, inr}
use Rattle.std.proofs.Math.Option.{some}
use Rattle.std.proofs.Common.{◌∙◌, sym, le_refl, arith}
use Prim.Native.Nat.{◌≤◌, suc, zero, ℕ}
use Rattle.model.specs.Book.{Book, Specs, Systems, components, has_version, is_system, member}
use Rattle.model.specs.Limits.{SystemLimits}
use Rattle.model.specs.PartsList.{is_part, part_in}
use Rattle.model.specs.Questions.{Question, first_no}
use Rattle.model.specs.Rules.{B4, needs, needs_to, r, reaches}
use Rattle.sets.specs.TestLaws.{=?-out, and_l, and_r, any_in, any_out, bool?, clash, fails, if-false, if-true, not_in, not_out}
use Rattle.sets.specs.TestLaws.{or_out}
use Rattle.sets.specs.Tests.{~◌}
use Rattle.model_laws.specs.Frame.{system_in, system_out}
use Rattle.model_laws.specs.Good.{Good}
use Rattle.model_laws.specs.Heights.{Sound, bound, falls, high, needs_other, needs_system, usable_system}
use Rattle.model_laws.specs.MapLaws.{has_in, has_out}
use Rattle.model_laws.specs.Notions.{AllYes, FirstNo, MadeFrom, Needs, Reaches, itself, member_of, no_here, none_left, of_member}
use Rattle.model_laws.specs.Notions.{own, systems_below, yes_all, yes_here}
use Rattle.model_laws.specs.Parts.{good→sound, part_closed, part_self}
use Rattle.model_laws.specs.Reach.{reaches_all, reaches_sound}

-- ---- B4

pub reaches_means : (Y : Systems) → SystemLimits Y → (s c : ℕ) → (reaches Y s c ≡ true) ↔ Reaches Y s c
unfolding reaches
reaches_means Y l s c = (
  reaches_sound components Y s c,
  reaches_all Y (λ s c u. (l.component< s (usable_system Y s c u), l.usable< s c u)) components (le_refl _),
)

-- "B4 No system reaches itself through usable components, in one step or more."
pub B4_means : (Y : Systems) → SystemLimits Y → (B4 Y ≡ true) ↔ ((s : ℕ) → is_system Y s ≡ true → Reaches Y s s → ⊥)
unfolding B4
B4_means Y l = (
  λ t s y r. clash {A = ⊥} ((reaches_means Y l s s).1 r) (not_out _ (system_out Y (λ s. ~ reaches Y s s) l t s y)),
  λ h. system_in Y _ (λ s y. not_in _ (fails _ (λ t. h s y ((reaches_means Y l s s).0 t)))),
)

-- ---- needs

module _ (S : Specs) (Y : Systems) where
  needs_sound : (n c v f : ℕ) → systems_below Y c ≤ n → Sound Y → needs_to n S Y c v f ≡ true → Needs S Y c v f
  unfolding needs_to
  needs_sound zero c v f h ok t = own (fails _ (λ y. omega (arith, high Y ok c y))) t
  needs_sound (suc n) c v f h ok t =
      elim (bool? (is_system Y c)) [
        | inl y ↦ (let q = any_out _ _ (sym (if-true _ _ _ y) ∙ t) in let m = has_out _ _ q.2 in
            of_member y m.1
            (needs_sound n q.0 m.0 f (omega (arith, falls Y ok c q.0 (ok.mem_usable c v q.0 m.0 m.1))) ok m.2))
        | inr y ↦ own y (sym (if-false _ _ _ y) ∙ t)
      ]

  needs_all : Sound Y → SystemLimits Y → {c v f : ℕ} → Needs S Y c v f → needs S Y c v f ≡ true
  needs_all ok l (own {c = c} {v = v} {f = f} y t) = needs_other Y ok S c v f y ∙ t
  needs_all ok l (of_member {c = c} {v = v} {d = d} {w = w} {f = f} y m n) =
      needs_system Y ok S c v f y ∙ any_in _ _ d (l.member< c v d w m).0 (has_in _ _ w m (needs_all ok l n))

pub needs_means : (b : Book) → Good b → (c v f : ℕ) → (needs b.specs b.systems c v f ≡ true) ↔ Needs b.specs b.systems c v f
unfolding needs
needs_means b g c v f = (
  needs_sound b.specs b.systems components c v f (bound b.systems (good→sound b g) c) (good→sound b g),
  needs_all b.specs b.systems (good→sound b g) g.system_limits,
)

-- ---- parts

made_trans : {Y : Systems} {c v d w e x : ℕ} → member Y c v d ≡ some w → MadeFrom Y d w e x → MadeFrom Y c v e x
made_trans m itself = member_of itself m
made_trans m (member_of q k) = member_of (made_trans m q) k

part_sound : (n : ℕ) (Y : Systems) (c v d w : ℕ) → part_in n Y c v d w ≡ true → MadeFrom Y c v d w
unfolding part_in
part_sound zero Y c v d w t = rw (sym (=?-out _ _ (and_l _ _ t)), sym (=?-out _ _ (and_r _ _ t))) itself
part_sound (suc n) Y c v d w t =
    elim (or_out _ _ t) [
      | inl e ↦ rw (sym (=?-out _ _ (and_l _ _ e)), sym (=?-out _ _ (and_r _ _ e))) itself
      | inr a ↦ (let q = any_out _ _ a in let m = has_out _ _ q.2 in made_trans m.1 (part_sound n Y q.0 m.0 d w m.2))
    ]

part_all : (b : Book) (g : Good b) (c v : ℕ) (h : has_version b.specs c v ≡ true) {d w : ℕ}
    → MadeFrom b.systems c v d w → is_part b.systems c v d w ≡ true
unfolding is_part
part_all b g c v h itself = part_self b.systems components c v
part_all b g c v h (member_of {d = d} {w = w} {e = e} {x = x} q m) = part_closed b g c v h d w e x (part_all b g c v h q) m

pub part_means : (b : Book) → Good b → (c v : ℕ) → has_version b.specs c v ≡ true
    → (d w : ℕ) → (is_part b.systems c v d w ≡ true) ↔ MadeFrom b.systems c v d w
unfolding is_part
part_means b g c v h d w = (part_sound components b.systems c v d w, part_all b g c v h)

-- ---- the first no

pub first_no_lem : {qs : List Question} {n : ℕ} → FirstNo qs n → first_no qs ≡ n
unfolding first_no
first_no_lem (no_here e) = if-false _ _ _ e
first_no_lem (yes_here e r) = if-true _ _ _ e ∙ first_no_lem r

pub no_no : {qs : List Question} → AllYes qs → first_no qs ≡ 0
unfolding first_no
no_no none_left = refl
no_no (yes_all e r) = if-true _ _ _ e ∙ no_no r

-- one or the other holds of every list of questions
pub first_or_none : (qs : List Question) → AllYes qs ⊎ ((n : ℕ) × FirstNo qs n)
first_or_none [] = inl none_left
first_or_none (q ∷ qs) =
    elim (bool? q.1) [
      | inl y ↦ elim (first_or_none qs) [ inl r ↦ inl (yes_all y r) | inr r ↦ inr (r.0, yes_here y r.1) ]
      | inr n ↦ inr (q.0, no_here n)
    ]
