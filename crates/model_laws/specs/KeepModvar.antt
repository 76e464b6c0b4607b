-- ADD-MODVAR and DEL-MODVAR keep a book good.
use Rattle.std.specs.Prelude.{true, List, ◌≢◌, ◌≡◌, refl, ◌<◌, ℕ}
use Rattle.std.proofs.Common.{inl, inr, ◌∙◌, ap, ap₂, sym, arith}
use Rattle.std.proofs.Math.Option.{Option, some-injective, none, some}
use Rattle.model.specs.Book.{Book, facilities, has_version, implementations, is_module, is_system, member, specified, versions}
use Rattle.model.specs.Commands.{ADD-MODVAR, DEL-MODVAR, after}
use Rattle.model.specs.Limits.{how_many}
use Rattle.model.specs.Lists.{set_of}
use Rattle.model.specs.Maps.{change, has, is_some, put}
use Rattle.model.specs.PlainBook.{answer}
use Rattle.model.specs.Questions.{free, in_limits, questions}
use Rattle.sets.specs.Sets.{Set}
use Rattle.sets.specs.TestLaws.{<?_out, =?-in, and_l, and_r, clash, not_out}
use Rattle.model_laws.specs.Accepted.{all_yes, below_elem, kept, member_version_lem}
use Rattle.model_laws.specs.Alike.{mod_at, mod_is, mod_off, pair?, spec_provides, spec_requires, spec_specified, spec_version_lem}
use Rattle.model_laws.specs.Good.{Good}
use Rattle.model_laws.specs.KeepVersions.{S₁, VarFit, add_few, del_fit, not_held, var_one, var_slim, version_at_lem}
use Rattle.model_laws.specs.ListLaws.{every-elem}
use Rattle.model_laws.specs.MapLaws.{no_some}
use Rattle.model_laws.specs.Notions.{own}

-- a version of a module changes, and no composition holds this pair
module _ (b : Book) (g : Good b) (c v : ℕ) (q : Option Set) (i : Option ℕ) (agree : is_some i ≡ is_some q) (implementation< : (n : ℕ) → i ≡ some n → (v < versions) × (n < implementations))
    (is_m : is_module b.modules c ≡ true) (fit : VarFit b.specs c v q)
    (free_of : (s w d x : ℕ) → member b.systems s w d ≡ some x → d ≡ c → x ≢ v) where
  there : specified b.specs c ≡ true
  there = g.b2.mod_spec c is_m

  -- a system is another component
  other : (s w : ℕ) → is_system b.systems s ≡ true → s ≡ c → w ≢ v
  other s w y e = clash (rw e at y) (g.b2.mod_sys c is_m)

  modvar : Good (record { specs = S₁ b g c v q there fit; modules = change c (put v i) b.modules; systems = b.systems })
  modvar =
      let S = b.specs in let M = b.modules in
      kept b _ _ _ g
      (record {
        sys = λ s y. y;
        uses = λ s d y. refl;
        comps = λ s w k. k;
        members = λ s w d k. refl;
        own = λ s f y. spec_provides S c v q there s f;
        prov = λ s d f u. spec_provides S c v q there d f;
        held = λ s w d x e. spec_version_lem S c v q there d x (free_of s w d x e);
        req = λ s w d x f e. spec_requires S c v q there d x f (free_of s w d x e);
        kind = λ s w d x e. refl;
        same = λ s w d x k e. refl;
      })
      (var_slim b g c v q there fit)
      (record {
        component< = λ d t. g.module_limits.component< d (sym (mod_is M c v i is_m d) ∙ t);
        implementation< = λ d w n e. elim (pair? c v d w) [
          | inl k ↦ rw k.1 (implementation< n (sym (mod_at M c v i is_m) ∙ rw (k.0, k.1) at e))
          | inr k ↦ g.module_limits.implementation< d w n (sym (mod_off M c v i is_m d w k) ∙ e)
        ];
      })
      g.system_limits (var_one b g c v q there fit)
      (record {
        mod_spec = λ d t. spec_specified S c v q there d ∙ g.b2.mod_spec d (sym (mod_is M c v i is_m d) ∙ t);
        mod_sys = λ d t. g.b2.mod_sys d (sym (mod_is M c v i is_m d) ∙ t);
        mod_covers = λ d w t. elim (pair? c v d w) [
          | inl k ↦ rw (k.0, k.1) (ap is_some (mod_at M c v i is_m) ∙ agree ∙ sym (version_at_lem b g c v q there fit))
          | inr k ↦ ap is_some (mod_off M c v i is_m d w k) ∙ g.b2.mod_covers d w (sym (mod_is M c v i is_m d) ∙ t) ∙ sym (spec_version_lem S c v q there d w k)
        ];
        sys_spec = λ s y. spec_specified S c v q there s ∙ g.b2.sys_spec s y;
        use_spec = λ s d u. spec_specified S c v q there d ∙ g.b2.use_spec s d u;
        sys_covers = λ s w y. g.b2.sys_covers s w y ∙ sym (spec_version_lem S c v q there s w (other s w y));
        sys_bare = λ s w f y. spec_requires S c v q there s w f (other s w y) ∙ g.b2.sys_bare s w f y;
      })
      g.b4

pub add_modvar : (b : Book) (c v : ℕ) (rs : List ℕ) (i : ℕ) → Good b → answer b (ADD-MODVAR c v rs i) ≡ 0 → Good (after b (ADD-MODVAR c v rs i))
unfolding answer questions after in_limits free how_many set_of has is_some
add_modvar b c v rs i g h =
    let y = all_yes (questions b (ADD-MODVAR c v rs i)) (omega arith) h in
    let l = y.0 in
    let new = not_out _ y.1.1.0 in
    let version< = <?_out _ _ (and_l _ _ (and_r _ _ l)) in
    modvar b g c v (some (set_of rs)) (some i) refl
    (λ n e. (version<, rw (sym (some-injective _ _ e)) (<?_out _ _ (and_r _ _ (and_r _ _ (and_r _ _ l))))))
    y.1.0
    (record {
      version< = λ t. version<;
      provided< = λ f t. below_elem facilities rs (and_l _ _ (and_r _ _ (and_r _ _ l))) f t;
      apart = λ f t. not_out _ (every-elem _ rs y.1.1.1.1.0 f t);
      std = λ e. refl;
      few = add_few b.specs c v (set_of rs) (g.b2.mod_spec c y.1.0) (<?_out _ _ y.1.1.1.0);
    })
    (λ s w d x e k z. clash (ap₂ (has_version b.specs) (sym k) (sym z) ∙ member_version_lem b g s w d x e) new)

pub del_modvar : (b : Book) (c v : ℕ) → Good b → answer b (DEL-MODVAR c v) ≡ 0 → Good (after b (DEL-MODVAR c v))
unfolding answer questions after is_some
del_modvar b c v g h =
    let y = all_yes (questions b (DEL-MODVAR c v)) (omega arith) h in
    modvar b g c v none none refl (λ n e. no_some e) y.1.0
    (del_fit b g c v (g.b2.mod_spec c y.1.0) (λ e. clash (=?-in _ _ e) (not_out _ y.1.1.1.0)))
    (not_held b g c v y.1.1.1.1.0)
