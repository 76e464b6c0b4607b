-- ADD-SYS and DEL-SYS keep a book good.
use Rattle.std.specs.Prelude.{false, true, List, ◌≢◌, ◌≡◌, refl, ◌<◌, ℕ}
use Rattle.std.proofs.Common.{inl, inr, ◌∙◌, ap₂, sym, arith}
use Rattle.std.proofs.Math.Option.{Option, none, some}
use Rattle.std.proofs.Math.Path.{ap, fun_ext}
use Rattle.model.specs.Book.{Book, Spec, Specs, System, Systems, components, composed, composition, facilities, is_system, member}
use Rattle.model.specs.Book.{provides, specified, standard, usable, versions}
use Rattle.model.specs.Commands.{ADD-SYS, DEL-SYS, Members, after, stored}
use Rattle.model.specs.Limits.{SystemLimits}
use Rattle.model.specs.Lists.{beside, elem, every, firsts, set_of}
use Rattle.model.specs.Maps.{Map, and_then, has, if_there, is_some, option_map, or_else, put}
use Rattle.model.specs.PlainBook.{answer}
use Rattle.model.specs.Questions.{in_limits, member_below, no_requirements, questions}
use Rattle.model.specs.Rules.{B3, B3_at, B4, offered}
use Rattle.sets.specs.Sets.{subset}
use Rattle.sets.specs.TestLaws.{<?_out, all_out, and_l, and_r, any_cong, bool?, clash, fails, not_out, same?}
use Rattle.sets.specs.Tests.{◌&◌, ◌<?◌}
use Rattle.model_laws.specs.Accepted.{all_yes, below_elem, beside_pair, exactly-all, from_21, not_defined}
use Rattle.model_laws.specs.Alike.{composed_same, is_system_same, member_same, usable_same}
use Rattle.model_laws.specs.Frame.{B4_kept, composed_system, member_composed, system_in, system_out}
use Rattle.model_laws.specs.Good.{Good, requires_version}
use Rattle.model_laws.specs.Heights.{usable_system}
use Rattle.model_laws.specs.ListLaws.{beside_elem, beside_second, every-elem}
use Rattle.model_laws.specs.MapLaws.{and_then_out, is_some_no, option_map_out, option_map-some, put_other, put_same}

pub standard_lim : (b : Book) → Good b → (d : ℕ) → standard b.specs d < versions
standard_lim b g d =
    elim (bool? (specified b.specs d)) [ inl t ↦ g.spec_limits.version< d _ (g.b1.std_in d t) | inr n ↦ none-standard b.specs d n ]
  where
    none-standard : (S : Specs) (d : ℕ) → specified S d ≡ false → standard S d < versions
    none-standard S d n = rw (zero_standard S d n) (omega arith)
      where
        zero_standard : (S : Specs) (d : ℕ) → specified S d ≡ false → standard S d ≡ 0
        zero_standard S d n = unfold specified standard or_else option_map in ap (λ (o : Option Spec). or_else (option_map (λ x. x.std) o) 0) (is_some_no (S d) n)

-- the numbers that a composition stores
pub stored_lim : (b : Book) → Good b → (ms : Members) → every member_below ms ≡ true → (d w : ℕ) → stored b.specs ms d ≡ some w → (d < components) × (w < versions)
unfolding stored member_below
stored_lim b g ms t d w e =
    let o = option_map_out _ _ w e in
    let k = beside_pair _ ms t d o.0 o.1 in
    (<?_out _ _ (and_l _ _ k), version o.0 o.2 (and_r _ _ k))
  where
    version : (o : Option ℕ) → or_else o (standard b.specs d) ≡ w → if_there o (λ v. v <? versions) ≡ true → w < versions
    version none q k = rw (sym q) (unfold or_else in standard_lim b g d)
    version (some v) q k = rw (sym q) (unfold or_else if_there in <?_out v versions k)

pub member_out : (Y : Systems) (s v c w : ℕ) → member Y s v c ≡ some w → (m : Map ℕ) × (composition Y s v ≡ some m) × (m c ≡ some w)
unfolding member
member_out Y s v c w e = and_then_out _ _ w e

-- B3 where what systems provide and use is as it was
pub B3_same : (S S' : Specs) (Y Y' : Systems) → SystemLimits Y → ((d f : ℕ) → provides S' d f ≡ provides S d f)
    → ((s : ℕ) → is_system Y' s ≡ true → is_system Y s ≡ true)
    → ((s c : ℕ) → is_system Y' s ≡ true → usable Y' s c ≡ usable Y s c) → B3 S Y ≡ true → B3 S' Y' ≡ true
unfolding B3 B3_at offered
B3_same S S' Y Y' l q y u b = system_in Y' _ (λ s t.
    ap₂ (subset facilities) (fun_ext (q s)) (fun_ext (λ f. any_cong components (λ c. ap₂ ◌&◌ (u s c t) (q c f))))
    ∙ system_out Y (B3_at S Y) l b s (y s t))

module _ (Y : Systems) (c : ℕ) (y : Option System) where
  pub system_off : (d : ℕ) → d ≢ c → put c y Y d ≡ Y d
  system_off d n = put_other c y Y d n

  pub system_at_lem : is_system (put c y Y) c ≡ is_some y
  unfolding is_system
  system_at_lem = ap is_some (put_same c y Y)

  pub usable_at_lem : (d : ℕ) → usable (put c y Y) c d ≡ has y (λ y. y.uses d)
  unfolding usable
  usable_at_lem d = ap (λ (o : Option System). has o (λ y. y.uses d)) (put_same c y Y)

  pub composition_at_lem : (v : ℕ) → composition (put c y Y) c v ≡ and_then y (λ y. y.comp v)
  unfolding composition
  composition_at_lem v = ap (λ (o : Option System). and_then o (λ y. y.comp v)) (put_same c y Y)

pub add_sys : (b : Book) (c : ℕ) (us : List ℕ) (ks : List (ℕ × Members)) → Good b → answer b (ADD-SYS c us ks) ≡ 0 → Good (after b (ADD-SYS c us ks))
unfolding answer questions after in_limits set_of has is_some and_then composed no_requirements
add_sys b c us ks g h =
    let y = all_yes (questions b (ADD-SYS c us ks)) (omega arith) h in
    let l = y.0 in
    let Y = b.systems in let S = b.specs in
    let new : Option System = some (record { uses = set_of us; comp = λ v. option_map (stored S) (beside ks v) }) in
    let us< = and_l _ _ (and_r _ _ l) in
    let vs< = and_l _ _ (and_r _ _ (and_r _ _ l)) in
    let ms< = and_r _ _ (and_r _ _ (and_r _ _ l)) in
    let un = not_defined _ _ c y.1.1.1.1.0 in
    let ex = exactly-all b c (firsts ks) g.spec_limits vs< y.1.1.1.1.1.0 in
    let rest = y.1.1.1.1.1.1 in
    let same = system_off Y c new in
    let at_comp = composition_at_lem Y c new in
    from_21 (after b (ADD-SYS c us ks)) rest.1.1.1.1.0 g.spec_limits g.module_limits
    (record {
      component< = λ d t. elim (same? d c) [ inl q ↦ rw q (<?_out _ _ (and_l _ _ l)) | inr n ↦ g.system_limits.component< d (sym (is_system_same Y _ d (same d n)) ∙ t) ];
      usable< = λ s d t. elim (same? s c) [
        | inl q ↦ below_elem components us us< d (sym (usable_at_lem Y c new d) ∙ rw q at t)
        | inr n ↦ g.system_limits.usable< s d (sym (usable_same Y _ s (same s n) d) ∙ t)
      ];
      version< = λ s v t. elim (same? s c) [
        | inl q ↦ below_elem versions (firsts ks) vs< v (sym (comp_elem ks S v) ∙ sym (ap is_some (at_comp v)) ∙ (rw q at t))
        | inr n ↦ g.system_limits.version< s v (sym (composed_same Y _ s (same s n) v) ∙ t)
      ];
      member< = λ s v d w e. elim (same? s c) [
        | inl q ↦ (let k = member_out _ c v d w (rw q at e) in
            let o = option_map_out _ _ k.0 (sym (at_comp v) ∙ k.1) in
            stored_lim b g o.0 (beside_second (every member_below) ks ms< v o.0 o.1) d w (ap (λ (m : Map ℕ). m d) o.2 ∙ k.2))
        | inr n ↦ g.system_limits.member< s v d w (sym (member_same Y _ s (same s n) v d) ∙ e)
      ];
    })
    g.b1
    (record {
      mod_spec = g.b2.mod_spec;
      mod_sys = λ d t. is_system_same Y _ d (same d (λ e. clash (rw e at t) un.0)) ∙ g.b2.mod_sys d t;
      mod_covers = g.b2.mod_covers;
      sys_spec = λ s t. elim (same? s c) [ inl q ↦ rw q y.1.1.1.0 | inr n ↦ g.b2.sys_spec s (sym (is_system_same Y _ s (same s n)) ∙ t) ];
      use_spec = λ s d t. elim (same? s c) [
        | inl q ↦ every-elem _ us rest.1.0 d (sym (usable_at_lem Y c new d) ∙ rw q at t)
        | inr n ↦ g.b2.use_spec s d (sym (usable_same Y _ s (same s n) d) ∙ t)
      ];
      sys_covers = λ s v t. elim (same? s c) [
        | inl q ↦ rw q (ap is_some (at_comp v) ∙ comp_elem ks S v ∙ ex v)
        | inr n ↦ composed_same Y _ s (same s n) v ∙ g.b2.sys_covers s v (sym (is_system_same Y _ s (same s n)) ∙ t)
      ];
      sys_bare = λ s v f t. elim (same? s c) [
        | inl q ↦ rw q (fails _ (λ k. clash k (not_out _ (all_out _ _ (all_out _ _ rest.0 v (g.spec_limits.version< c v (requires_version S c v f k))) f (g.spec_limits.required< c v f k)))))
        | inr n ↦ g.b2.sys_bare s v f (sym (is_system_same Y _ s (same s n)) ∙ t)
      ];
    })
    rest.1.1.0 rest.1.1.1.0
  where
    comp_elem : (ks : List (ℕ × Members)) (S : Specs) (v : ℕ) → is_some (option_map (stored S) (beside ks v)) ≡ elem v (firsts ks)
    comp_elem ks S v = option_map-some (stored S) (beside ks v) ∙ beside_elem ks v

-- ---- systems without c

module _ (b : Book) (g : Good b) (c : ℕ) where
  abbrev pub Y₀ : Systems
  Y₀ = put c none b.systems

  pub sys≢ : (s : ℕ) → is_system Y₀ s ≡ true → s ≢ c
  unfolding is_some
  sys≢ s t e = clash {A = ⊥} (rw e at t) (system_at_lem b.systems c none)

  pub sys_was : (s : ℕ) → is_system Y₀ s ≡ true → is_system b.systems s ≡ true
  sys_was s t = sym (is_system_same _ Y₀ s (system_off _ c none s (sys≢ s t))) ∙ t

  pub use≢ : (s d : ℕ) → usable Y₀ s d ≡ true → s ≢ c
  use≢ s d t = sys≢ s (usable_system Y₀ s d t)

  pub use_was : (s d : ℕ) → usable Y₀ s d ≡ true → usable b.systems s d ≡ true
  use_was s d t = sym (usable_same _ Y₀ s (system_off _ c none s (use≢ s d t)) d) ∙ t

  pub comp≢ : (s v : ℕ) → composed Y₀ s v ≡ true → s ≢ c
  comp≢ s v t = sys≢ s (composed_system Y₀ s v t)

  pub comp_was : (s v : ℕ) → composed Y₀ s v ≡ true → composed b.systems s v ≡ true
  comp_was s v t = sym (composed_same _ Y₀ s (system_off _ c none s (comp≢ s v t)) v) ∙ t

  pub mem_was : (s v d w : ℕ) → member Y₀ s v d ≡ some w → member b.systems s v d ≡ some w
  mem_was s v d w e = sym (member_same _ Y₀ s (system_off _ c none s (comp≢ s v (member_composed Y₀ s v d w e))) v d) ∙ e

  pub less_systems : SystemLimits Y₀
  less_systems = record {
    component< = λ s t. g.system_limits.component< s (sys_was s t);
    usable< = λ s d t. g.system_limits.usable< s d (use_was s d t);
    version< = λ s v t. g.system_limits.version< s v (comp_was s v t);
    member< = λ s v d w e. g.system_limits.member< s v d w (mem_was s v d w e);
  }

  pub less_B4 : B4 Y₀ ≡ true
  less_B4 = B4_kept b.systems Y₀ g.system_limits use_was sys_was g.b4

  -- a component that is no system after all
  pub not_system : (d : ℕ) → is_system b.systems d ≡ false → is_system Y₀ d ≡ false
  not_system d n = fails _ (λ t. clash (sys_was d t) n)

pub del_sys : (b : Book) (c : ℕ) → Good b → answer b (DEL-SYS c) ≡ 0 → Good (after b (DEL-SYS c))
unfolding answer questions after
del_sys b c g h =
    let y = all_yes (questions b (DEL-SYS c)) (omega arith) h in
    let t = g.b2 in
    from_21 (after b (DEL-SYS c)) y.1.1.0 g.spec_limits g.module_limits (less_systems b g c) g.b1
    (record {
      mod_spec = t.mod_spec;
      mod_sys = λ d k. not_system b g c d (t.mod_sys d k);
      mod_covers = t.mod_covers;
      sys_spec = λ s k. t.sys_spec s (sys_was b g c s k);
      use_spec = λ s d k. t.use_spec s d (use_was b g c s d k);
      sys_covers = λ s v k. composed_same _ _ s (system_off _ c none s (sys≢ b g c s k)) v ∙ t.sys_covers s v (sys_was b g c s k);
      sys_bare = λ s v f k. t.sys_bare s v f (sys_was b g c s k);
    })
    (B3_same _ _ _ _ g.system_limits (λ d f. refl) (sys_was b g c) (λ s d k. usable_same _ _ s (system_off _ c none s (sys≢ b g c s k)) d) g.b3)
    (less_B4 b g c)
