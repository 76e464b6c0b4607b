-- ADD-SPEC keeps a book good.
use Rattle.std.specs.Prelude.{false, true, List, ◌≢◌, ◌≡◌, refl, ◌<◌, ◌≤◌, ℕ}
use Rattle.std.proofs.Common.{inl, inr, ◌∙◌, ap, sym, le_trans, arith}
use Rattle.std.proofs.Math.Option.{some}
use Rattle.std.proofs.Math.Path.{fun_ext}
use Rattle.model.specs.Book.{Book, Spec, Specs, components, facilities, has_version, member, specified, versions}
use Rattle.model.specs.Commands.{ADD-SPEC, after}
use Rattle.model.specs.Limits.{SpecLimits}
use Rattle.model.specs.Lists.{beside, firsts, set_of}
use Rattle.model.specs.Maps.{is_some, option_map, put}
use Rattle.model.specs.PlainBook.{answer}
use Rattle.model.specs.Questions.{each_below, free, in_limits, questions}
use Rattle.model.specs.Rules.{r}
use Rattle.sets.specs.Sets.{Set}
use Rattle.sets.specs.TestLaws.{<?_out, and_l, and_r, clash, not_out, same?, ≤?_out}
use Rattle.sets.specs.Tests.{count}
use Rattle.model_laws.specs.Accepted.{all_yes, below_elem, kept, length-firsts, member_version_lem}
use Rattle.model_laws.specs.Alike.{has_version_at, has_version_same, provides_at_lem, provides_same, requires_at_lem, requires_same}
use Rattle.model_laws.specs.Alike.{specified_same, standard_at_lem, standard_same}
use Rattle.model_laws.specs.Frame.{Frame}
use Rattle.model_laws.specs.Good.{B1Facts, B2Facts, Good, version_specified}
use Rattle.model_laws.specs.ListLaws.{beside_elem, beside_second, count_list, every-elem}
use Rattle.model_laws.specs.MapLaws.{has_out, is_some_in, is_some_out, option_map_out, option_map-some, put_other, put_same}
use Rattle.model_laws.specs.Notions.{own}

-- what must hold of a specification that is put in
record Fit (x : Spec) : Type 0 where
  prov< : (f : ℕ) → x.prov f ≡ true → f < facilities
  req< : (v : ℕ) (q : Set) → x.req v ≡ some q → v < versions
  fac< : (v f : ℕ) (q : Set) → x.req v ≡ some q → q f ≡ true → f < facilities
  apart : (v f : ℕ) (q : Set) → x.req v ≡ some q → q f ≡ true → x.prov f ≡ false
  std_in : is_some (x.req x.std) ≡ true
  few : count versions (λ v. is_some (x.req v)) ≤ 8

module _ (b : Book) (g : Good b) (c : ℕ) (x : Spec) (component< : c < components) (fit : Fit x) (fresh : specified b.specs c ≡ false) where
  abbrev S' : Specs
  S' = put c (some x) b.specs

  at : S' c ≡ some x
  at = put_same c (some x) b.specs

  off : (d : ℕ) → d ≢ c → S' d ≡ b.specs d
  off d q = put_other c (some x) b.specs d q

  -- a component that was specified is another one
  old : (d : ℕ) → specified b.specs d ≡ true → S' d ≡ b.specs d
  old d t = off d (λ e. clash t (rw e fresh))

  of_member_lem : (s v d w : ℕ) → member b.systems s v d ≡ some w → S' d ≡ b.specs d
  of_member_lem s v d w e = old d (version_specified _ d w (member_version_lem b g s v d w e))

  keeps_slim : SpecLimits S'
  keeps_slim = record {
    component< = λ d t. elim (same? d c) [ inl q ↦ rw q component< | inr n ↦ g.spec_limits.component< d (sym (specified_same _ S' d (off d n)) ∙ t) ];
    provided< = λ d f t. elim (same? d c) [ inl q ↦ fit.prov< f (sym (provides_at_lem S' c x at f) ∙ rw q at t) | inr n ↦ g.spec_limits.provided< d f (sym (provides_same _ S' d (off d n) f) ∙ t) ];
    version< = λ d v t. elim (same? d c) [
      | inl q ↦ (let k = is_some_out _ (sym (has_version_at S' c x at v) ∙ rw q at t) in fit.req< v k.0 k.1)
      | inr n ↦ g.spec_limits.version< d v (sym (has_version_same _ S' d (off d n) v) ∙ t)
    ];
    required< = λ d v f t. elim (same? d c) [
      | inl q ↦ (let k = has_out _ _ (sym (requires_at_lem S' c x at v f) ∙ rw q at t) in fit.fac< v f k.0 k.1 k.2)
      | inr n ↦ g.spec_limits.required< d v f (sym (requires_same _ S' d (off d n) v f) ∙ t)
    ];
  }

  keeps_one : B1Facts S'
  keeps_one = record {
    apart = λ d v f t. elim (same? d c) [
      | inl q ↦ (let r = has_out _ _ (sym (requires_at_lem S' c x at v f) ∙ rw q at t) in
          rw q (provides_at_lem S' c x at f ∙ fit.apart v f r.0 r.1 r.2))
      | inr n ↦ provides_same _ S' d (off d n) f ∙ g.b1.apart d v f (sym (requires_same _ S' d (off d n) v f) ∙ t)
    ];
    std_in = λ d t. elim (same? d c) [
      | inl q ↦ rw q (has_version_at S' c x at _ ∙ ap (λ (v : ℕ). is_some (x.req v)) (standard_at_lem S' c x at) ∙ fit.std_in)
      | inr n ↦ has_version_same _ S' d (off d n) _ ∙ ap (has_version b.specs d) (standard_same _ S' d (off d n))
          ∙ g.b1.std_in d (sym (specified_same _ S' d (off d n)) ∙ t)
    ];
    few = λ d. elim (same? d c) [
      | inl q ↦ rw (q, fun_ext (has_version_at S' c x at)) fit.few
      | inr n ↦ rw (fun_ext (has_version_same b.specs S' d (off d n))) (g.b1.few d)
    ];
  }

  specified' : (d : ℕ) → specified b.specs d ≡ true → specified S' d ≡ true
  specified' d t = specified_same _ S' d (old d t) ∙ t

  keeps_two : B2Facts S' b.modules b.systems
  keeps_two =
      let t = g.b2 in
      record {
        mod_spec = λ d y. specified' d (t.mod_spec d y);
        mod_sys = t.mod_sys;
        mod_covers = λ d v y. t.mod_covers d v y ∙ sym (has_version_same _ S' d (old d (t.mod_spec d y)) v);
        sys_spec = λ s y. specified' s (t.sys_spec s y);
        use_spec = λ s d u. specified' d (t.use_spec s d u);
        sys_covers = λ s v y. t.sys_covers s v y ∙ sym (has_version_same _ S' s (old s (t.sys_spec s y)) v);
        sys_bare = λ s v f y. requires_same _ S' s (old s (t.sys_spec s y)) v f ∙ t.sys_bare s v f y;
      }

  frame : Frame b.specs S' b.systems b.systems
  frame = record {
    sys = λ s y. y;
    uses = λ s d y. refl;
    comps = λ s v k. k;
    members = λ s v d k. refl;
    own = λ s f y. provides_same _ S' s (old s (g.b2.sys_spec s y)) f;
    prov = λ s d f u. provides_same _ S' d (old d (g.b2.use_spec s d u)) f;
    held = λ s v d w e. has_version_same _ S' d (of_member_lem s v d w e) w;
    req = λ s v d w f e. requires_same _ S' d (of_member_lem s v d w e) w f;
    kind = λ s v d w e. refl;
    same = λ s v d w k e. refl;
  }

  put_spec : Good (record { specs = S'; modules = b.modules; systems = b.systems })
  put_spec = kept b S' _ _ g frame keeps_slim g.module_limits g.system_limits keeps_one keeps_two g.b4

pub add_spec : (b : Book) (c : ℕ) (ps : List ℕ) (vs : List (ℕ × List ℕ)) (s : ℕ) → Good b → answer b (ADD-SPEC c ps vs s) ≡ 0 → Good (after b (ADD-SPEC c ps vs s))
unfolding answer questions after in_limits free set_of
add_spec b c ps vs s g h =
    let y = all_yes (questions b (ADD-SPEC c ps vs s)) (omega arith) h in
    let l = y.0 in
    let vs< = and_l _ _ (and_r _ _ (and_r _ _ l)) in
    let fs< = and_l _ _ (and_r _ _ (and_r _ _ (and_r _ _ l))) in
    let spec : Spec = record { prov = set_of ps; req = λ v. option_map set_of (beside vs v); std = s } in
    let fit : Fit spec = record {
      prov< = λ f t. below_elem facilities ps (and_l _ _ (and_r _ _ l)) f t;
      req< = λ v q e. below_elem versions (firsts vs) vs< v (sym (beside_elem vs v) ∙ is_some_in _ (option_map_out set_of _ q e).1);
      fac< = λ v f q e t. (let o = option_map_out set_of _ q e in
          below_elem facilities o.0 (beside_second (each_below facilities) vs fs< v o.0 o.1) f (ap (λ (z : Set). z f) o.2 ∙ t));
      apart = λ v f q e t. (let o = option_map_out set_of _ q e in
          not_out _ (every-elem _ o.0 (beside_second (free (set_of ps)) vs y.1.1.1.1.1.0 v o.0 o.1) f (ap (λ (z : Set). z f) o.2 ∙ t)));
      std_in = option_map-some set_of _ ∙ beside_elem vs s ∙ y.1.1.1.1.1.1.0;
      few = rw (fun_ext (λ v. option_map-some set_of (beside vs v) ∙ beside_elem vs v))
          (le_trans (count_list versions (firsts vs)) (rw length-firsts (≤?_out _ _ y.1.1.1.1.0)));
    } in
    put_spec b g c spec (<?_out _ _ (and_l _ _ l)) fit (not_out _ y.1.1.1.0)
