-- ADD-SYSVAR and DEL-SYSVAR keep a book good.
use Rattle.std.specs.Prelude.{false, true, ◌≢◌, ◌≡◌, refl, ◌<◌, ℕ}
use Rattle.std.proofs.Common.{inl, inr, ◌∙◌, sym, arith}
use Rattle.std.proofs.Math.Option.{Option, none, some}
use Rattle.std.proofs.Math.Path.{ap}
use Rattle.model.specs.Book.{Book, Specs, Systems, components, composed, is_module, is_system, member, specified, usable, versions}
use Rattle.model.specs.Commands.{ADD-SYSVAR, DEL-SYSVAR, Members, after, no_facility, stored, with_composition, with_version}
use Rattle.model.specs.Limits.{SystemLimits, how_many}
use Rattle.model.specs.Maps.{Map, and_then, change, has, is_some}
use Rattle.model.specs.PlainBook.{answer}
use Rattle.model.specs.Questions.{in_limits, questions}
use Rattle.model.specs.Rules.{B3, B4, r}
use Rattle.sets.specs.Sets.{Set}
use Rattle.sets.specs.TestLaws.{<?_out, =?-in, and_l, and_r, clash, not_out}
use Rattle.model_laws.specs.Accepted.{all_yes, from_21, kept}
use Rattle.model_laws.specs.Alike.{pair?, spec_provides, spec_requires, spec_specified, spec_version_lem, sys_at, sys_composed}
use Rattle.model_laws.specs.Alike.{sys_is, sys_member, sys_usable}
use Rattle.model_laws.specs.Frame.{B4_kept, member_composed}
use Rattle.model_laws.specs.Good.{B2Facts, Good}
use Rattle.model_laws.specs.KeepSystems.{B3_same, stored_lim}
use Rattle.model_laws.specs.KeepVersions.{VarFit, add_few, del_fit, not_held, requires_at₁, var_one, var_slim, version_at_lem}
use Rattle.model_laws.specs.MapLaws.{no_some}
use Rattle.model_laws.specs.Notions.{own}

module _ (b : Book) (g : Good b) (c v : ℕ) (q : Option Set) (m : Option (Map ℕ)) (agree : is_some m ≡ is_some q) (bare : (f : ℕ) → has q (λ r. r f) ≡ false)
    (member< : (d w : ℕ) → and_then m (λ k. k d) ≡ some w → (d < components) × (w < versions))
    (sys : is_system b.systems c ≡ true) (fit : VarFit b.specs c v q) where
  there₂ : specified b.specs c ≡ true
  there₂ = g.b2.sys_spec c sys

  abbrev S₂ : Specs
  S₂ = change c (with_version v q) b.specs

  abbrev Y₂ : Systems
  Y₂ = change c (with_composition v m) b.systems

  composed_at : composed Y₂ c v ≡ is_some m
  unfolding composed
  composed_at = ap is_some (sys_at b.systems c v m sys)

  member_at : (d : ℕ) → member Y₂ c v d ≡ and_then m (λ k. k d)
  unfolding member
  member_at d = ap (λ (o : Option (Map ℕ)). and_then o (λ k. k d)) (sys_at b.systems c v m sys)

  is : (s : ℕ) → is_system Y₂ s ≡ true → is_system b.systems s ≡ true
  is s t = sym (sys_is b.systems c v m sys s) ∙ t

  uses₂ : (s d : ℕ) → usable Y₂ s d ≡ true → usable b.systems s d ≡ true
  uses₂ s d t = sym (sys_usable b.systems c v m sys s d) ∙ t

  sysvar_lim : SystemLimits Y₂
  sysvar_lim = record {
    component< = λ s t. g.system_limits.component< s (is s t);
    usable< = λ s d t. g.system_limits.usable< s d (uses₂ s d t);
    version< = λ s w t. elim (pair? c v s w) [
      | inl k ↦ rw k.1 (fit.version< (sym agree ∙ sym composed_at ∙ rw (k.0, k.1) at t))
      | inr k ↦ g.system_limits.version< s w (sym (sys_composed b.systems c v m sys s w k) ∙ t)
    ];
    member< = λ s w d x e. elim (pair? c v s w) [
      | inl k ↦ member< d x (sym (member_at d) ∙ rw (k.0, k.1) at e)
      | inr k ↦ g.system_limits.member< s w d x (sym (sys_member b.systems c v m sys s w d k) ∙ e)
    ];
  }

  sysvar_two : B2Facts S₂ b.modules Y₂
  sysvar_two =
      let S = b.specs in let Y = b.systems in
      let n : (d w : ℕ) → is_module b.modules d ≡ true → d ≡ c → w ≢ v = λ d w t e. clash sys (rw e at (g.b2.mod_sys d t)) in
      record {
        mod_spec = λ d t. spec_specified S c v q there₂ d ∙ g.b2.mod_spec d t;
        mod_sys = λ d t. sys_is Y c v m sys d ∙ g.b2.mod_sys d t;
        mod_covers = λ d w t. g.b2.mod_covers d w t ∙ sym (spec_version_lem S c v q there₂ d w (n d w t));
        sys_spec = λ s t. spec_specified S c v q there₂ s ∙ g.b2.sys_spec s (is s t);
        use_spec = λ s d t. spec_specified S c v q there₂ d ∙ g.b2.use_spec s d (uses₂ s d t);
        sys_covers = λ s w t. elim (pair? c v s w) [
          | inl k ↦ rw (k.0, k.1) (composed_at ∙ agree ∙ sym (version_at_lem b g c v q there₂ fit))
          | inr k ↦ sys_composed Y c v m sys s w k ∙ g.b2.sys_covers s w (is s t) ∙ sym (spec_version_lem S c v q there₂ s w k)
        ];
        sys_bare = λ s w f t. elim (pair? c v s w) [
          | inl k ↦ rw (k.0, k.1) (requires_at₁ b g c v q there₂ fit f ∙ bare f)
          | inr k ↦ spec_requires S c v q there₂ s w f k ∙ g.b2.sys_bare s w f (is s t)
        ];
      }

  sysvar_B3 : B3 S₂ Y₂ ≡ true
  sysvar_B3 = B3_same _ _ _ _ g.system_limits (spec_provides b.specs c v q there₂) is (λ s d t. sys_usable b.systems c v m sys s d) g.b3

  sysvar_B4 : B4 Y₂ ≡ true
  sysvar_B4 = B4_kept b.systems Y₂ g.system_limits uses₂ is g.b4

pub add_sysvar : (b : Book) (c v : ℕ) (ms : Members) → Good b → answer b (ADD-SYSVAR c v ms) ≡ 0 → Good (after b (ADD-SYSVAR c v ms))
unfolding answer questions after in_limits how_many has is_some and_then no_facility
add_sysvar b c v ms g h =
    let y = all_yes (questions b (ADD-SYSVAR c v ms)) (omega arith) h in
    let l = y.0 in
    let version< = <?_out _ _ (and_l _ _ (and_r _ _ l)) in
    let ys = y.1.1.1 in
    let q : Option Set = some no_facility in
    let m : Option (Map ℕ) = some (stored b.specs ms) in
    let bare : (f : ℕ) → has q (λ r. r f) ≡ false = λ f. refl in
    let module_limits = stored_lim b g ms (and_r _ _ (and_r _ _ l)) in
    let fit : VarFit b.specs c v q = record {
      version< = λ t. version<;
      provided< = λ f t. clash t refl;
      apart = λ f t. clash t refl;
      std = λ e. refl;
      few = add_few b.specs c v no_facility (g.b2.sys_spec c ys.0) (<?_out _ _ ys.1.1.0);
    } in
    from_21 (after b (ADD-SYSVAR c v ms)) ys.1.1.1.0
    (var_slim b g c v q (g.b2.sys_spec c ys.0) fit) g.module_limits
    (sysvar_lim b g c v q m refl bare module_limits ys.0 fit)
    (var_one b g c v q (g.b2.sys_spec c ys.0) fit)
    (sysvar_two b g c v q m refl bare module_limits ys.0 fit)
    (sysvar_B3 b g c v q m refl bare module_limits ys.0 fit)
    (sysvar_B4 b g c v q m refl bare module_limits ys.0 fit)

pub del_sysvar : (b : Book) (c v : ℕ) → Good b → answer b (DEL-SYSVAR c v) ≡ 0 → Good (after b (DEL-SYSVAR c v))
unfolding answer questions after has is_some and_then
del_sysvar b c v g h =
    let y = all_yes (questions b (DEL-SYSVAR c v)) (omega arith) h in
    let sys = y.1.0 in
    let S = b.specs in let Y = b.systems in
    let there = g.b2.sys_spec c sys in
    let fit = del_fit b g c v there (λ e. clash (=?-in _ _ e) (not_out _ y.1.1.1.0)) in
    let free_of = not_held b g c v y.1.1.1.1.0 in
    let q : Option Set = none in
    let m : Option (Map ℕ) = none in
    let bare : (f : ℕ) → has q (λ r. r f) ≡ false = λ f. refl in
    let module_limits : (d w : ℕ) → and_then m (λ k. k d) ≡ some w → (d < components) × (w < versions) = λ d w e. no_some e in
    -- a pair that is still composed is another one
    let left : (s w : ℕ) → composed (change c (with_composition v m) Y) s w ≡ true → s ≡ c → w ≢ v =
    λ s w t e k. clash {A = ⊥} (rw (e, k) at t) (composed_at b g c v q m refl bare module_limits sys fit) in
    let was : (s w d x : ℕ) → member (change c (with_composition v m) Y) s w d ≡ some x → member Y s w d ≡ some x =
    λ s w d x e. sym (sys_member Y c v m sys s w d (left s w (member_composed _ s w d x e))) ∙ e in
    kept b _ _ _ g
    (record {
      sys = is b g c v q m refl bare module_limits sys fit;
      uses = λ s d y. sys_usable Y c v m sys s d;
      comps = λ s w t. sym (sys_composed Y c v m sys s w (left s w t)) ∙ t;
      members = λ s w d t. sys_member Y c v m sys s w d (left s w t);
      own = λ s f y. spec_provides S c v q there s f;
      prov = λ s d f u. spec_provides S c v q there d f;
      held = λ s w d x e. spec_version_lem S c v q there d x (free_of s w d x (was s w d x e));
      req = λ s w d x f e. spec_requires S c v q there d x f (free_of s w d x (was s w d x e));
      kind = λ s w d x e. sys_is Y c v m sys d;
      same = λ s w d x k e. sys_member Y c v m sys d x k (free_of s w d x (was s w d x e));
    })
    (var_slim b g c v q there fit) g.module_limits
    (sysvar_lim b g c v q m refl bare module_limits sys fit)
    (var_one b g c v q there fit)
    (sysvar_two b g c v q m refl bare module_limits sys fit)
    (sysvar_B4 b g c v q m refl bare module_limits sys fit)
