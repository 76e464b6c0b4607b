-- One version of a component put in or taken out: what is kept of its specification.
use Rattle.std.specs.Prelude.{false, true, ◌≢◌, ◌≡◌, refl, ◌<◌, ◌≤◌, ℕ}
use Rattle.std.proofs.Common.{inl, inr, ◌∙◌, ap₂, sym, le_trans, arith}
use Rattle.std.proofs.Math.Option.{Option, none, some}
use Rattle.std.proofs.Math.Path.{ap, fun_ext}
use Rattle.model.specs.Book.{Book, Specs, facilities, has_version, member, provides, requires, specified, standard, versions}
use Rattle.model.specs.Commands.{with_version}
use Rattle.model.specs.Limits.{SpecLimits}
use Rattle.model.specs.Maps.{change, has, is_some}
use Rattle.model.specs.Questions.{held_by_none}
use Rattle.model.specs.Rules.{r}
use Rattle.sets.specs.Sets.{Set}
use Rattle.sets.specs.TestLaws.{=?-in, all_out, clash, count_mono, not_out, or_l, or_r, same?}
use Rattle.sets.specs.Tests.{◌=?◌, ◌or◌, count}
use Rattle.model_laws.specs.Alike.{pair?, spec_at_lem, spec_provides, spec_requires, spec_specified, spec_standard, spec_version_lem}
use Rattle.model_laws.specs.Frame.{composed_system, member_composed}
use Rattle.model_laws.specs.Good.{B1Facts, Good}
use Rattle.model_laws.specs.ListLaws.{count_one_more}
use Rattle.model_laws.specs.MapLaws.{has_in}

pub record VarFit (S : Specs) (c v : ℕ) (q : Option Set) : Type 0 where
  pub version< : is_some q ≡ true → v < versions
  pub provided< : (f : ℕ) → has q (λ r. r f) ≡ true → f < facilities
  pub apart : (f : ℕ) → has q (λ r. r f) ≡ true → provides S c f ≡ false
  pub std : standard S c ≡ v → is_some q ≡ true
  pub few : count versions (has_version (change c (with_version v q) S) c) ≤ 8

module _ (b : Book) (g : Good b) (c v : ℕ) (q : Option Set) (there : specified b.specs c ≡ true) (fit : VarFit b.specs c v q) where
  abbrev pub S₁ : Specs
  S₁ = change c (with_version v q) b.specs

  pub version_at_lem : has_version S₁ c v ≡ is_some q
  unfolding has_version
  version_at_lem = ap is_some (spec_at_lem b.specs c v q there)

  pub requires_at₁ : (f : ℕ) → requires S₁ c v f ≡ has q (λ r. r f)
  unfolding requires
  requires_at₁ f = ap (λ (o : Option Set). has o (λ r. r f)) (spec_at_lem b.specs c v q there)

  pub var_slim : SpecLimits S₁
  var_slim = record {
    component< = λ d t. g.spec_limits.component< d (sym (spec_specified _ c v q there d) ∙ t);
    provided< = λ d f t. g.spec_limits.provided< d f (sym (spec_provides _ c v q there d f) ∙ t);
    version< = λ d w t. elim (pair? c v d w) [
      | inl e ↦ rw e.1 (fit.version< (sym version_at_lem ∙ rw (e.0, e.1) at t))
      | inr n ↦ g.spec_limits.version< d w (sym (spec_version_lem _ c v q there d w n) ∙ t)
    ];
    required< = λ d w f t. elim (pair? c v d w) [
      | inl e ↦ fit.provided< f (sym (requires_at₁ f) ∙ rw (e.0, e.1) at t)
      | inr n ↦ g.spec_limits.required< d w f (sym (spec_requires _ c v q there d w f n) ∙ t)
    ];
  }

  pub var_one : B1Facts S₁
  var_one = record {
    apart = λ d w f t. spec_provides _ c v q there d f ∙ elim (pair? c v d w) [
      | inl e ↦ rw e.0 (fit.apart f (sym (requires_at₁ f) ∙ rw (e.0, e.1) at t))
      | inr n ↦ g.b1.apart d w f (sym (spec_requires _ c v q there d w f n) ∙ t)
    ];
    std_in = λ d t. ap (has_version S₁ d) (spec_standard _ c v q there d) ∙ elim (pair? c v d (standard b.specs d)) [
      | inl e ↦ ap₂ (has_version S₁) e.0 e.1 ∙ version_at_lem ∙ fit.std (ap (standard b.specs) (sym e.0) ∙ e.1)
      | inr n ↦ spec_version_lem _ c v q there d _ n ∙ g.b1.std_in d (sym (spec_specified _ c v q there d) ∙ t)
    ];
    few = λ d. elim (same? d c) [
      | inl e ↦ rw e fit.few
      | inr n ↦ rw (fun_ext (λ w. spec_version_lem b.specs c v q there d w (λ e. absurd (n e)))) (g.b1.few d)
    ];
  }

-- the count of versions
pub add_few : (S : Specs) (c v : ℕ) (r : Set) → specified S c ≡ true → count versions (has_version S c) < 8 → count versions (has_version (change c (with_version v (some r)) S) c) ≤ 8
add_few S c v r there h =
    le_trans (count_mono versions _ (λ w. (w =? v) or has_version S c w) (λ w k t. elim (same? w v) [
      | inl e ↦ or_l _ _ (=?-in w v e)
      | inr n ↦ or_r _ _ (sym (spec_version_lem S c v (some r) there c w (λ e. n)) ∙ t)
    ]))
    (omega (arith, count_one_more versions v (has_version S c), h))

pub del_few : (b : Book) → Good b → (c v : ℕ) → specified b.specs c ≡ true → count versions (has_version (change c (with_version v none) b.specs) c) ≤ 8
unfolding is_some has_version
del_few b g c v there =
    le_trans (count_mono versions (has_version (change c (with_version v none) b.specs) c) (has_version b.specs c) (λ w k t. elim (same? w v) [
      | inl e ↦ clash (rw e at t) (ap is_some (spec_at_lem b.specs c v none there))
      | inr n ↦ sym (spec_version_lem b.specs c v none there c w (λ e. n)) ∙ t
    ]))
    (g.b1.few c)

pub not_held : (b : Book) → Good b → (c v : ℕ) → held_by_none b c v ≡ true → (s w d x : ℕ) → member b.systems s w d ≡ some x → d ≡ c → x ≢ v
unfolding held_by_none
not_held b g c v t s w d x e k z =
    let m = member_composed _ s w d x e in let y = composed_system _ s w m in
    clash {A = ⊥} (has_in _ _ x (ap (member b.systems s w) (sym k) ∙ e) (=?-in x v z))
    (not_out _ (all_out _ _ (all_out _ _ t s (g.system_limits.component< s y)) w (g.system_limits.version< s w m)))

-- what a version that is taken out leaves
pub del_fit : (b : Book) → Good b → (c v : ℕ) → specified b.specs c ≡ true → v ≢ standard b.specs c → VarFit b.specs c v none
unfolding has is_some
del_fit b g c v there n = record {
  version< = λ t. clash t refl;
  provided< = λ f t. clash t refl;
  apart = λ f t. clash t refl;
  std = λ e. absurd (n (sym e));
  few = del_few b g c v there;
}
