-- DEL-SPEC keeps a book good.
use Rattle.std.specs.Prelude.{true, ◌≢◌, ◌≡◌, ℕ}
use Rattle.std.proofs.Math.Option.{Option, none, some}
use Rattle.std.proofs.Common.{◌∙◌, ap, sym, le_trans, arith}
use Rattle.model.specs.Book.{Book, Spec, Specs, has_version, member, provides, specified, usable, versions}
use Rattle.model.specs.Commands.{DEL-SPEC, after}
use Rattle.model.specs.Maps.{has, is_some, put}
use Rattle.model.specs.PlainBook.{answer}
use Rattle.model.specs.Queries.{unused}
use Rattle.model.specs.Questions.{questions, usable_in_none}
use Rattle.sets.specs.TestLaws.{all_out, clash, count_mono, not_out}
use Rattle.model_laws.specs.Accepted.{all_yes, kept}
use Rattle.model_laws.specs.Alike.{composed_same, has_version_same, is_system_same, member_same, provides_same, requires_same}
use Rattle.model_laws.specs.Alike.{specified_same, standard_same, usable_same}
use Rattle.model_laws.specs.Frame.{Frame, mem_usable}
use Rattle.model_laws.specs.Good.{Good, requires_version, version_specified}
use Rattle.model_laws.specs.Heights.{usable_system}
use Rattle.model_laws.specs.KeepModules.{gone, implementation_off, less_modules, module_off}
use Rattle.model_laws.specs.KeepSystems.{Y₀, comp_was, comp≢, less_B4, less_systems, mem_was, not_system, sys_was, system_off}
use Rattle.model_laws.specs.KeepSystems.{sys≢, use_was}
use Rattle.model_laws.specs.MapLaws.{put_other, put_same}
use Rattle.model_laws.specs.Notions.{own}

module _ (b : Book) (g : Good b) (c : ℕ) (unused : (s : ℕ) → usable b.systems s c ≡ true → ⊥) where
  abbrev S₀ : Specs
  S₀ = put c none b.specs

  spec_off₀ : (d : ℕ) → d ≢ c → S₀ d ≡ b.specs d
  spec_off₀ d n = put_other c none b.specs d n

  spec≢ : (d : ℕ) → specified S₀ d ≡ true → d ≢ c
  unfolding specified is_some
  spec≢ d t e = clash {A = ⊥} (rw e at t) (ap is_some (put_same c none b.specs))

  used≢ : (s d : ℕ) → usable b.systems s d ≡ true → d ≢ c
  used≢ s d u e = unused s (rw e at u)

  held≢ : (s v d w : ℕ) → member (Y₀ b g c) s v d ≡ some w → d ≢ c
  held≢ s v d w e = used≢ s d (mem_usable _ _ g.system_limits g.b5 s v d w (mem_was b g c s v d w e)).0

  spec_was : (d : ℕ) → specified S₀ d ≡ true → specified b.specs d ≡ true
  spec_was d t = sym (specified_same _ S₀ d (spec_off₀ d (spec≢ d t))) ∙ t

  spec_is : (d : ℕ) → d ≢ c → specified b.specs d ≡ true → specified S₀ d ≡ true
  spec_is d n t = specified_same _ S₀ d (spec_off₀ d n) ∙ t

  prov≢ : (d f : ℕ) → provides S₀ d f ≡ true → d ≢ c
  unfolding provides has
  prov≢ d f t e = clash {A = ⊥} (rw e at t) (ap (λ (o : Option Spec). has o (λ x. x.prov f)) (put_same c none b.specs))

  ver≢ : (d v : ℕ) → has_version S₀ d v ≡ true → d ≢ c
  ver≢ d v t = spec≢ d (version_specified S₀ d v t)

  frame₀ : Frame b.specs S₀ b.systems (Y₀ b g c)
  frame₀ = record {
    sys = sys_was b g c;
    uses = λ s d y. usable_same _ _ s (system_off _ c none s (sys≢ b g c s y)) d;
    comps = comp_was b g c;
    members = λ s v d k. member_same _ _ s (system_off _ c none s (comp≢ b g c s v k)) v d;
    own = λ s f y. provides_same _ S₀ s (spec_off₀ s (sys≢ b g c s y)) f;
    prov = λ s d f u. provides_same _ S₀ d (spec_off₀ d (used≢ s d (use_was b g c s d u))) f;
    held = λ s v d w e. has_version_same _ S₀ d (spec_off₀ d (held≢ s v d w e)) w;
    req = λ s v d w f e. requires_same _ S₀ d (spec_off₀ d (held≢ s v d w e)) w f;
    kind = λ s v d w e. is_system_same _ _ d (system_off _ c none d (held≢ s v d w e));
    same = λ s v d w k e. member_same _ _ d (system_off _ c none d (held≢ s v d w e)) w k;
  }

  without : Good (record { specs = S₀; modules = put c none b.modules; systems = Y₀ b g c })
  without = kept b S₀ (put c none b.modules) (Y₀ b g c) g frame₀
      (record {
        component< = λ d t. g.spec_limits.component< d (spec_was d t);
        provided< = λ d f t. g.spec_limits.provided< d f (sym (provides_same _ S₀ d (spec_off₀ d (prov≢ d f t)) f) ∙ t);
        version< = λ d v t. g.spec_limits.version< d v (sym (has_version_same _ S₀ d (spec_off₀ d (ver≢ d v t)) v) ∙ t);
        required< = λ d v f t. g.spec_limits.required< d v f (sym (requires_same _ S₀ d (spec_off₀ d (ver≢ d v (requires_version S₀ d v f t))) v f) ∙ t);
      })
      (less_modules b g c) (less_systems b g c)
      (record {
        apart = λ d v f t. (let n = spec_off₀ d (ver≢ d v (requires_version S₀ d v f t)) in
            provides_same _ S₀ d n f ∙ g.b1.apart d v f (sym (requires_same _ S₀ d n v f) ∙ t));
        std_in = λ d t. (let n = spec_off₀ d (spec≢ d t) in
            has_version_same _ S₀ d n _ ∙ ap (has_version b.specs d) (standard_same _ S₀ d n) ∙ g.b1.std_in d (spec_was d t));
        few = λ d. le_trans (count_mono versions _ _ (λ v k t. sym (has_version_same _ S₀ d (spec_off₀ d (ver≢ d v t)) v) ∙ t)) (g.b1.few d);
      })
      (record {
        mod_spec = λ d t. (let n = gone b g c d t in spec_is d n (g.b2.mod_spec d (sym (module_off _ c none d n) ∙ t)));
        mod_sys = λ d t. (let n = gone b g c d t in not_system b g c d (g.b2.mod_sys d (sym (module_off _ c none d n) ∙ t)));
        mod_covers = λ d v t. (let n = gone b g c d t in
            ap is_some (implementation_off _ c none d v n) ∙ g.b2.mod_covers d v (sym (module_off _ c none d n) ∙ t) ∙ sym (has_version_same _ S₀ d (spec_off₀ d n) v));
        sys_spec = λ s t. spec_is s (sys≢ b g c s t) (g.b2.sys_spec s (sys_was b g c s t));
        use_spec = λ s d t. (let u = use_was b g c s d t in spec_is d (used≢ s d u) (g.b2.use_spec s d u));
        sys_covers = λ s v t. (let n = sys≢ b g c s t in
            composed_same _ _ s (system_off _ c none s n) v ∙ g.b2.sys_covers s v (sys_was b g c s t) ∙ sym (has_version_same _ S₀ s (spec_off₀ s n) v));
        sys_bare = λ s v f t. requires_same _ S₀ s (spec_off₀ s (sys≢ b g c s t)) v f ∙ g.b2.sys_bare s v f (sys_was b g c s t);
      })
      (less_B4 b g c)

pub del_spec : (b : Book) (c : ℕ) → Good b → answer b (DEL-SPEC c) ≡ 0 → Good (after b (DEL-SPEC c))
unfolding answer questions after usable_in_none
del_spec b c g h =
    let y = all_yes (questions b (DEL-SPEC c)) (omega arith) h in
    without b g c (λ s u. clash u (not_out _ (all_out _ _ y.1.1.0 s (g.system_limits.component< s (usable_system _ s c u)))))
