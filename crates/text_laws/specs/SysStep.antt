-- A system under other numbers goes into the book, after its usable systems: its command is accepted.
use Rattle.std.specs.Prelude.{false, true, List, ◌∷◌, map, ◌≡◌, refl, ℕ}
use Rattle.std.proofs.Math.Logic.{inl, inr}
use Rattle.std.proofs.Math.Option.{Option, some}
use Rattle.std.proofs.Common.{◌∙◌}
use Rattle.std.proofs.Math.Path.{ap, fun_ext, sym}
use Rattle.model.specs.Book.{Book, Modules, Specs, System, Systems, composed, composition, has_version, is_member, is_module, is_system}
use Rattle.model.specs.Book.{member, requires, specified, standard, usable, versions}
use Rattle.model.specs.Commands.{ADD-SYS, Command, Members, after, stored}
use Rattle.model.specs.Lists.{beside, elem, every, firsts, non_empty, once, set_of}
use Rattle.model.specs.Maps.{Map, has, if_there, is_some, option_map, or_else}
use Rattle.model.specs.PlainBook.{answer}
use Rattle.model.specs.Questions.{each_below, exactly, in_limits, member_below, no_requirements, questions}
use Rattle.model.specs.Rules.{B3, B4, B5, B5_to_B9, B5_at}
use Rattle.sets.specs.TestLaws.{<?_in, all_in, and_in, and_l, any_out, bool?, clash, fails, iff_in, not_in}
use Rattle.sets.specs.Tests.{◌<?◌}
use Rattle.text_laws.specs.Listed.{Lists, every_of, firsts-map, lists_non_empty, new_beside, new_beside_no, new_each}
use Rattle.text_laws.specs.Listed.{new_once, new_small, seconds-map}
use Rattle.text_laws.specs.ModStep.{is_undefined_lem}
use Rattle.text_laws.specs.Renamed.{B3_like, B4_like, B5_like, B6_like, B7_like, B8_like, B9_like, Like, Renumbering}
use Rattle.text_laws.specs.Renamed.{UsedC, UsedV, version_of}
use Rattle.text_laws.specs.Renumbered.{composed', has_version', is_module', is_system', member', new_modules, new_specs}
use Rattle.text_laws.specs.Renumbered.{new_systems, only, only_in, only_out, provides', put_only, renumber_system}
use Rattle.text_laws.specs.Renumbered.{requires', specified', usable'}
use Rattle.text_laws.specs.TextLaws.{non_empty-map}
use Rattle.model_laws.specs.Alike.{composed_same, is_system_same, member_same, usable_same}
use Rattle.model_laws.specs.Frame.{composition_out, mem_usable}
use Rattle.model_laws.specs.Good.{Good}
use Rattle.model_laws.specs.MapLaws.{and_then_in, is_some_no, is_some_out}
use Rattle.model_laws.specs.Meaning.{no_no}
use Rattle.model_laws.specs.Notions.{none_left, yes_all}

-- lists of what a system may use, of its versions and of the members of each, with the version of each member
pub record SysLists (Y : Systems) (s : ℕ) : Type 0 where
  pub uses : List ℕ
  pub vers : List ℕ
  pub mems : ℕ → List ℕ
  pub held : ℕ → ℕ → ℕ
  pub uses_all : Lists uses (usable Y s)
  pub vers_all : Lists vers (composed Y s)
  pub mems_all : (v : ℕ) → Lists (mems v) (is_member Y s v)
  pub held_is : (v c w : ℕ) → member Y s v c ≡ some w → held v c ≡ w

module _ (b : Book) (g : Good b) (re : Renumbering b.specs b.modules) where
  abbrev S : Specs
  S = b.specs

  abbrev M : Modules
  M = b.modules

  abbrev Y : Systems
  Y = b.systems

  abbrev S' : Specs
  S' = new_specs b re

  abbrev M' : Modules
  M' = new_modules b re

  abbrev Y' : Systems
  Y' = new_systems b re

  abbrev old_c : ℕ → ℕ
  old_c = re.old_c

  abbrev new_c : ℕ → ℕ
  new_c = re.new_c

  abbrev old_v : ℕ → ℕ
  old_v = re.old_v

  abbrev new_v : ℕ → ℕ
  new_v = re.new_v

  abbrev old_f : ℕ → ℕ
  old_f = re.old_f

  -- specs and modules are in, and the systems at the new numbers of l
  unfoldable pub with_systems : List ℕ → Book
  with_systems l = record { specs = S'; modules = M'; systems = only l Y' }

  none_yet : (l : List ℕ) (s : ℕ) → elem s l ≡ false → is_system (only l Y') s ≡ false
  unfolding is_system is_some
  none_yet l s q = ap is_some (only_out l Y' s q)

  -- the usable systems of each system in the list are in the list
  abbrev pub Closed : List ℕ → Type 0
  Closed l = (s c : ℕ) → elem s l ≡ true → usable Y (old_c s) (old_c c) ≡ true → is_system Y (old_c c) ≡ true → elem c l ≡ true

  module _ (l : List ℕ) (closed : Closed l) where
    listed : (s : ℕ) → is_system (only l Y') s ≡ true → elem s l ≡ true
    unfolding is_system
    listed s e = elim (bool? (elem s l)) [ inl q ↦ q | inr q ↦ clash e (ap is_some (only_out l Y' s q) ∙ (unfold is_some in refl)) ]

    same_at : (s : ℕ) → is_system (only l Y') s ≡ true → only l Y' s ≡ Y' s
    same_at s e = only_in l Y' s (listed s e)

    pub like : Like S S' M Y (only l Y') re
    like = record {
      prov = provides' b re;
      vers = has_version' b re;
      req = requires' b re;
      sys = λ s y. sym (is_system_same Y' (only l Y') s (same_at s y) ∙ is_system' b re s) ∙ y;
      uses = λ s c y. usable_same Y' (only l Y') s (same_at s y) c ∙ usable' b re s c;
      comps = λ s v y. composed_same Y' (only l Y') s (same_at s y) v ∙ composed' b re s v;
      members = λ s v c y. member_same Y' (only l Y') s (same_at s y) v c ∙ member' b re s v c;
      kind = λ s c y u. elim (bool? (elem c l)) [
        | inl q ↦ is_system_same Y' (only l Y') c (only_in l Y' c q) ∙ is_system' b re c
        | inr q ↦ none_yet l c q ∙ sym (fails _ (λ k. clash {A = ⊥} (closed s c (listed s y) u k) q))
      ];
    }

    pub keeps3 : B3 S' (only l Y') ≡ true
    keeps3 = B3_like b g S' (only l Y') re like

    pub keeps4 : B4 (only l Y') ≡ true
    keeps4 = B4_like b g S' (only l Y') re like

    pub keeps5_9 : B5_to_B9 (with_systems l) ≡ true
    unfolding B5_to_B9 with_systems
    keeps5_9 =
        and_in _ _ (B5_like b g S' (only l Y') re like)
        (and_in _ _ (B6_like b g S' (only l Y') re like)
        (and_in _ _ (B7_like b g S' (only l Y') re like)
        (and_in _ _ (B8_like b g S' (only l Y') re like)
        (B9_like b g S' (only l Y') re like))))

  unfoldable pub sys_members : (s : ℕ) → SysLists Y s → ℕ → Members
  sys_members s ls v = map (λ c. (new_c c, some (new_v (ls.held v c)))) (ls.mems v)

  unfoldable pub sys_command : (s : ℕ) → SysLists Y s → Command
  sys_command s ls = ADD-SYS (new_c s) (map new_c ls.uses) (map (λ v. (new_v v, sys_members s ls v)) ls.vers)

  system_new : (s : ℕ) (y : System) → specified S s ≡ true → Y s ≡ some y → Y' (new_c s) ≡ some (renumber_system old_c old_v new_v y)
  unfolding new_systems option_map
  system_new s y there e = ap (λ (k : ℕ). option_map (renumber_system old_c old_v new_v) (Y k)) (re.of_c.back s there)
      ∙ ap (option_map (renumber_system old_c old_v new_v)) e

  module _ (s : ℕ) (ls : SysLists Y s) (l : List ℕ) (there : is_system Y s ≡ true) (fresh : elem (new_c s) l ≡ false)
      (closed : Closed (new_c s ∷ l)) where
    abbrev lu : List ℕ
    lu = ls.uses

    abbrev lv : List ℕ
    lv = ls.vers

    abbrev lm : ℕ → List ℕ
    lm = ls.mems

    abbrev mv : ℕ → ℕ → ℕ
    mv = ls.held

    ku : Lists lu (usable Y s)
    ku = ls.uses_all

    kv : Lists lv (composed Y s)
    kv = ls.vers_all

    km : (v : ℕ) → Lists (lm v) (is_member Y s v)
    km = ls.mems_all

    kw : (v c w : ℕ) → member Y s v c ≡ some w → mv v c ≡ w
    kw = ls.held_is

    sys_spec : specified S s ≡ true
    sys_spec = g.b2.sys_spec s there

    back_s : old_c (new_c s) ≡ s
    back_s = re.of_c.back s sys_spec

    sys_u : (c : ℕ) → usable Y s c ≡ true → UsedC S c
    sys_u c u = g.b2.use_spec s c u

    sys_v : (v : ℕ) → composed Y s v ≡ true → UsedV S v
    sys_v v e = version_of s (sym (g.b2.sys_covers s v there) ∙ e)

    mem_c : (v c : ℕ) → is_member Y s v c ≡ true → UsedC S c
    unfolding is_member
    mem_c v c e = let q = is_some_out _ e in sys_u c (mem_usable S Y g.system_limits g.b5 s v c q.0 q.1).0

    mem_v : (v c : ℕ) → is_member Y s v c ≡ true → UsedV S (mv v c)
    unfolding is_member
    mem_v v c e = let q = is_some_out _ e in
        version_of c (ap (has_version S c) (kw v c q.0 q.1) ∙ (mem_usable S Y g.system_limits g.b5 s v c q.0 q.1).1)

    has_member : (v : ℕ) → composed Y s v ≡ true → non_empty (lm v) ≡ true
    unfolding B5 B5_at
    has_member v e = let q = any_out _ _ (and_l _ _ (composition_out Y (B5_at S Y) g.system_limits g.b5 s v e)) in
        lists_non_empty (lm v) _ (km v) q.0 q.2

    member_small : (v : ℕ) → every member_below (sys_members s ls v) ≡ true
    unfolding sys_members member_below if_there
    member_small v = every_of _ _ (lm v) (λ c e.
        let h = sym ((km v).each c) ∙ e in
        and_in _ _ (<?_in _ _ (re.of_c.small c (mem_c v c h))) (<?_in _ _ (re.of_v.small (mv v c) (mem_v v c h))))

    member_once : (v : ℕ) → once (firsts (sys_members s ls v)) ≡ true
    unfolding sys_members
    member_once v = ap once (firsts-map new_c _ (lm v)) ∙ new_once re.of_c (lm v) (km v) (mem_c v)

    member_some : (v : ℕ) → composed Y s v ≡ true → non_empty (sys_members s ls v) ≡ true
    unfolding sys_members
    member_some v e = non_empty-map _ (lm v) (has_member v e)

    -- a composition
    comp_at : (v : ℕ) (m : Map ℕ) → composition Y s v ≡ some m
        → stored S' (sys_members s ls v) ≡ (λ c. option_map new_v (m (old_c c)))
    unfolding stored sys_members option_map or_else is_member
    comp_at v m e = fun_ext (λ c.
        let at : member Y s v (old_c c) ≡ m (old_c c) = unfold member in and_then_in _ _ m e in
        elim (bool? (is_member Y s v (old_c c))) [
          | inl h ↦ (let q = is_some_out (member Y s v (old_c c)) h in
              ap (option_map (λ (w : Option ℕ). or_else w (standard S' c)))
              (new_beside re.of_c (lm v) (km v) (mem_c v) (λ c. some (new_v (mv v c))) c h)
              ∙ ap (λ (z : ℕ). some (new_v z)) (kw v (old_c c) q.0 q.1) ∙ sym (ap (option_map new_v) (sym at ∙ q.1)))
          | inr h ↦ ap (option_map (λ (w : Option ℕ). or_else w (standard S' c)))
              (new_beside_no re.of_c (lm v) (km v) (mem_c v) (λ c. some (new_v (mv v c))) c h)
              ∙ sym (ap (option_map new_v) (sym at ∙ is_some_no (member Y s v (old_c c)) h))
        ])

    comp_new : (y : System) → Y s ≡ some y → (v : ℕ)
        → option_map (stored S') (beside (map (λ v. (new_v v, sys_members s ls v)) lv) v)
        ≡ option_map (λ m c. option_map new_v (m (old_c c))) (y.comp (old_v v))
    unfolding option_map composed
    comp_new y e v =
        let at : composition Y s (old_v v) ≡ y.comp (old_v v) = unfold composition in and_then_in _ _ y e in
        elim (bool? (composed Y s (old_v v))) [
          | inl h ↦ (let q = is_some_out (composition Y s (old_v v)) h in
              ap (option_map (stored S')) (new_beside re.of_v lv kv sys_v (sys_members s ls) v h)
              ∙ ap some (comp_at (old_v v) q.0 q.1)
              ∙ sym (ap (option_map {B = Map ℕ} (λ m c. option_map new_v (m (old_c c)))) (sym at ∙ q.1)))
          | inr h ↦ ap (option_map (stored S'))
              (new_beside_no re.of_v lv kv sys_v (sys_members s ls) v h)
              ∙ sym (ap (option_map {B = Map ℕ} (λ m c. option_map new_v (m (old_c c)))) (sym at
              ∙ is_some_no (composition Y s (old_v v)) h))
        ]

    uses_at_lem : (y : System) → Y s ≡ some y → (c : ℕ) → usable Y s c ≡ y.uses c
    unfolding usable has
    uses_at_lem y e c = ap (λ (o : Option System). has o (λ y. y.uses c)) e

    pub sys_after_lem : after (with_systems l) (sys_command s ls) ≡ with_systems (new_c s ∷ l)
    unfolding after sys_command with_systems renumber_system set_of
    sys_after_lem =
        let q = is_some_out (Y s) (unfold is_system in there) in
        let y : System = record {
          uses = set_of (map new_c lu);
          comp = λ v. option_map (stored S') (beside (map (λ v. (new_v v, sys_members s ls v)) lv) v);
        } in
        let z : y ≡ renumber_system old_c old_v new_v q.0 = λ i. record {
          uses = λ c. (new_each re.of_c lu ku sys_u c ∙ uses_at_lem q.0 q.1 (old_c c)) i;
          comp = λ v. comp_new q.0 q.1 v i;
        } in
        let w : Y' (new_c s) ≡ some y = system_new s q.0 sys_spec q.1 ∙ ap {A = System} {B = Option System} some (sym z) in
        λ i. record { specs = S'; modules = M'; systems = put_only l Y' (new_c s) y w i }

    system_after : (after (with_systems l) (sys_command s ls)).systems ≡ only (new_c s ∷ l) Y'
    system_after = unfold with_systems in ap (λ (x : Book). x.systems) sys_after_lem

    specs_after : (after (with_systems l) (sys_command s ls)).specs ≡ S'
    specs_after = unfold with_systems in ap (λ (x : Book). x.specs) sys_after_lem

    sys_small : in_limits (sys_command s ls) ≡ true
    unfolding in_limits sys_command each_below
    sys_small =
        and_in _ _ (<?_in _ _ (re.of_c.small s sys_spec))
        (and_in _ _ (new_small re.of_c lu ku sys_u)
        (and_in _ _ (ap (every (λ x. x <? versions)) (firsts-map new_v _ lv) ∙ new_small re.of_v lv kv sys_v)
        (ap (every (every member_below)) (seconds-map new_v _ lv) ∙ every_of _ _ lv (λ v e. member_small v))))

    no_module : is_module M s ≡ false
    no_module = fails _ (λ m. clash {A = ⊥} there (g.b2.mod_sys s m))

    pub sys_yes : answer (with_systems l) (sys_command s ls) ≡ 0
    unfolding answer questions sys_command with_systems exactly no_requirements
    sys_yes = no_no
        (yes_all sys_small
        (yes_all (and_in _ _ (non_empty-map _ lv
        (lists_non_empty lv _ kv (standard S s) (g.b2.sys_covers s (standard S s) there ∙ g.b1.std_in s sys_spec)))
        (ap (every non_empty) (seconds-map new_v _ lv) ∙ every_of _ _ lv (λ v e. member_some v (sym (kv.each v) ∙ e))))
        (yes_all (and_in _ _ (ap once (firsts-map new_v _ lv) ∙ new_once re.of_v lv kv sys_v)
        (and_in _ _ (new_once re.of_c lu ku sys_u)
        (ap (every (λ ms. once (firsts ms))) (seconds-map new_v _ lv) ∙ every_of _ _ lv (λ v e. member_once v))))
        (yes_all (specified' b re (new_c s) ∙ ap (specified S) back_s ∙ sys_spec)
        (yes_all (is_undefined_lem M' (only l Y') (new_c s) (is_module' b re (new_c s) ∙ ap (is_module M) back_s ∙ no_module)
        (none_yet l (new_c s) fresh))
        (yes_all (all_in _ _ (λ v k. iff_in _ _ (ap (elem v) (firsts-map new_v _ lv)
        ∙ new_each re.of_v lv kv sys_v v ∙ g.b2.sys_covers s (old_v v) there
        ∙ ap (λ (z : ℕ). has_version S z (old_v v)) (sym back_s) ∙ sym (has_version' b re (new_c s) v))))
        (yes_all (all_in _ _ (λ v k. all_in _ _
        (λ f j. not_in _ (requires' b re (new_c s) v f ∙ ap (λ (z : ℕ). requires S z (old_v v) (old_f f)) back_s
        ∙ g.b2.sys_bare s (old_v v) (old_f f) there))))
        (yes_all (every_of _ new_c lu (λ c e. let u = sys_u c (sym (ku.each c) ∙ e) in specified' b re (new_c c)
        ∙ ap (specified S) (re.of_c.back c u) ∙ u))
        (yes_all (ap (B3 S') system_after ∙ keeps3 (new_c s ∷ l) closed)
        (yes_all (ap B4 system_after ∙ keeps4 (new_c s ∷ l) closed)
        (yes_all (ap B5_to_B9 sys_after_lem ∙ keeps5_9 (new_c s ∷ l) closed)
        none_left)))))))))))
