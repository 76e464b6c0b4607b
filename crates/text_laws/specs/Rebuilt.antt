-- A book written as text and read into an empty session.
use Rattle.std.specs.Prelude.{Bool, false, true, ◌≡◌, length}
use mathlib.Core.List.{List, [], map, map-map}
use Rattle.std.proofs.Math.Option.{Option, none, some}
use Rattle.std.proofs.Common.{◌∙◌, subst}
use Rattle.std.proofs.Math.Path.{ap, refl, sym}
use Prim.Native.Nat.{ℕ}
use Rattle.model.specs.Book.{Book, Modules, Specs, Systems, components, composed, empty, facilities, has_version, implementation}
use Rattle.model.specs.Book.{is_member, is_module, is_system, member, provides, requires, specified, standard, usable, versions}
use Rattle.model.specs.Commands.{ADD-MOD, ADD-SPEC, ADD-SYS, Command, after}
use Rattle.model.specs.Lists.{elem}
use Rattle.model.specs.Maps.{has, is_some, option_map, or_else}
use Rattle.model.specs.PlainBook.{answer}
use Rattle.model.specs.Rules.{B5, B5_at}
use Rattle.sets.specs.TestLaws.{and_in, and_l, any_out}
use Rattle.text.specs.Bytes.{valid_implementation, valid_name}
use Rattle.text.specs.Handed.{Named}
use Rattle.text.specs.Language.{Name, NamedMembers}
use Rattle.text.specs.SameByNames.{accepted}
use Rattle.text.specs.Session.{State, session}
use Rattle.text.specs.Tables.{Tables, mod_numbered, name_at, no_names, number, numbered_members, numbers, spec_numbered, sys_numbered}
use Rattle.text.specs.Written.{as_commands, by_name, facility_names, members_of, mod_of, spec_of, sys_of, systems_from, systems_in_order}
use Rattle.text.specs.Written.{written}
use Rattle.text_laws.specs.Listed.{every_of, lists_non_empty}
use Rattle.text_laws.specs.Mentions.{cs_lists, li_lists, lk_lists, lm_lists, lp_lists, lq_lists, lu_lists, lv_lists}
use Rattle.text_laws.specs.Mentions.{ms_lists, valid-some, ys_lists}
use Rattle.text_laws.specs.ModStep.{ModLists, mod_after_lem, mod_yes, mod_command, with_modules}
use Rattle.text_laws.specs.NamedGood.{NamedGood}
use Rattle.text_laws.specs.NewNumbers.{reached_fits, reached_tables, renumbering}
use Rattle.text_laws.specs.NewPlaces.{new}
use Rattle.text_laws.specs.Numbered.{n_mod, n_spec, n_sys}
use Rattle.text_laws.specs.Order.{Can, systems_all, systems_in_turn}
use Rattle.text_laws.specs.Phases.{Step, list_in_turn, one_mark, phase, pushed, pushed_in}
use Rattle.text_laws.specs.ReadsBack.{Writable, a_mod, a_spec, a_sys, ok_member, ok_mod, ok_sys, ok_version}
use Rattle.text_laws.specs.Renamed.{Renumbering}
use Rattle.text_laws.specs.Renumbered.{is_module', is_system', new_modules, new_specs, new_systems, only_all, only_none}
use Rattle.text_laws.specs.Renumbered.{specified'}
use Rattle.text_laws.specs.Runs.{Accepts, accepts_append, accepts_runs, runs_length, runs_text}
use Rattle.text_laws.specs.SpecStep.{SpecLists, spec_after_lem, spec_yes, spec_command, with_specs}
use Rattle.text_laws.specs.SysStep.{SysLists, sys_after_lem, sys_yes, sys_command, sys_members, with_systems}
use Rattle.text_laws.specs.TextLaws.{non_empty-map, or_at, same_out}
use Rattle.model_laws.specs.Frame.{composition_out, mem_usable}
use Rattle.model_laws.specs.Good.{Good}
use Rattle.model_laws.specs.MapLaws.{is_some_out}
use contract.Running.{tables}

module _ (st : State) (ok : NamedGood st) where
  abbrev b : Book
  b = st.book

  abbrev t : Tables
  t = st.tables

  abbrev g : Good b
  g = ok.good

  abbrev nm : Named st
  nm = ok.named

  abbrev S : Specs
  S = b.specs

  abbrev M : Modules
  M = b.modules

  abbrev Y : Systems
  Y = b.systems

  abbrev reached : Tables
  reached = reached_tables st ok

  abbrev re : Renumbering S M
  re = renumbering st ok

  abbrev old_c : ℕ → ℕ
  old_c = re.old_c

  abbrev new_c : ℕ → ℕ
  new_c = re.new_c

  abbrev lp : ℕ → List ℕ
  lp c = by_name t.facs facilities (provides S c)

  abbrev lv : ℕ → List ℕ
  lv c = by_name t.vers versions (has_version S c)

  abbrev lq : ℕ → ℕ → List ℕ
  lq c v = by_name t.facs facilities (requires S c v)

  abbrev li : ℕ → List ℕ
  li c = by_name t.vers versions (λ v. is_some (implementation M c v))

  abbrev im : ℕ → ℕ → ℕ
  im c v = or_else (implementation M c v) 0

  abbrev lu : ℕ → List ℕ
  lu s = by_name t.comps components (usable Y s)

  abbrev lk : ℕ → List ℕ
  lk s = by_name t.vers versions (composed Y s)

  abbrev lm : ℕ → ℕ → List ℕ
  lm s v = by_name t.comps components (is_member Y s v)

  abbrev mv : ℕ → ℕ → ℕ → ℕ
  mv s v c = or_else (member Y s v c) 0

  abbrev spec_lists : (c : ℕ) → SpecLists S c
  spec_lists c = record {
    facs = lp c;
    vers = lv c;
    reqs = lq c;
    facs_all = lp_lists st ok c;
    vers_all = lv_lists st ok c;
    reqs_all = lq_lists st ok c;
  }

  abbrev mod_lists : (c : ℕ) → ModLists M c
  mod_lists c = record { vers = li c; impl = im c; vers_all = li_lists st ok c; impl_is = λ v i e. or_at _ i e }

  abbrev sys_lists : (s : ℕ) → SysLists Y s
  sys_lists s = record {
    uses = lu s;
    vers = lk s;
    mems = lm s;
    held = mv s;
    uses_all = lu_lists st ok s;
    vers_all = lk_lists st ok s;
    mems_all = lm_lists st ok s;
    held_is = λ v c w e. or_at _ w e;
  }

  -- ---- specs

  spec_writable : (c : ℕ) → specified S c ≡ true → Writable (spec_of b t c)
  unfolding spec_of facility_names ok_version
  spec_writable c e = a_spec (nm.component c e)
      (every_of valid_name (name_at t.facs) (lp c) (λ f k. nm.provided c f (sym ((lp_lists st ok c).each f) ∙ k)))
      (every_of ok_version _ (lv c) (λ v k. and_in _ _ (nm.version c v (sym ((lv_lists st ok c).each v) ∙ k))
      (every_of valid_name (name_at t.facs) (lq c v) (λ f j. nm.required c v f (sym ((lq_lists st ok c v).each f) ∙ j)))))
      (non_empty-map _ (lv c) (lists_non_empty (lv c) _ (lv_lists st ok c) _ (g.b1.std_in c e)))
      (one_mark (name_at t.vers) _ (standard S c) (lv c) (lv_lists st ok c).once ((lv_lists st ok c).each (standard S c)
      ∙ g.b1.std_in c e)
      (λ n k z. nm.vers_once n (standard S c) (valid-some _ (nm.version c n (sym ((lv_lists st ok c).each n) ∙ k)))
      (same_out _ _ z)))

  abbrev specs_in : List ℕ → Book
  specs_in = with_specs b g re

  abbrev modules_in : List ℕ → Book
  modules_in = with_modules b g re

  abbrev systems_in : List ℕ → Book
  systems_in = with_systems b g re

  abbrev spec_put : ℕ → Command
  spec_put c = spec_command b g re c (spec_lists c)

  abbrev mod_put : ℕ → Command
  mod_put c = mod_command b g re c (mod_lists c)

  abbrev sys_put : ℕ → Command
  sys_put s = sys_command b g re s (sys_lists s)

  numbered_spec : Name × List Name → ℕ × List ℕ
  numbered_spec x = (number reached.vers x.0, map (number reached.facs) x.1)

  spec_numbers : (c : ℕ) → spec_numbered reached (name_at t.comps c) (facility_names t (provides S c))
      (map (λ v. (name_at t.vers v, facility_names t (requires S c v))) (lv c)) (name_at t.vers (standard S c)) ≡ spec_put c
  unfolding spec_numbered spec_command facility_names numbers new numbered_spec
  spec_numbers c =
      let e₁ = map-map (number reached.facs) (name_at t.facs) (lp c) in
      let e₂ = map-map numbered_spec (λ v. (name_at t.vers v, map (name_at t.facs) (lq c v))) (lv c) in
      let e₃ = ap {A = ℕ → ℕ × List ℕ} (λ f. map f (lv c))
      (λ i v. (number reached.vers (name_at t.vers v), map-map (number reached.facs) (name_at t.facs) (lq c v) i)) in
      λ i. ADD-SPEC (number reached.comps (name_at t.comps c)) (e₁ i) ((e₂ ∙ e₃) i)
      (number reached.vers (name_at t.vers (standard S c)))

  spec_step : (l : List ℕ) (c : ℕ) → (specified S c ≡ true) × (elem (new_c c) l ≡ false)
      → Step reached new_c specs_in (spec_of b t) l c
  unfolding spec_of
  spec_step l c h = record {
    K = _;
    writable = spec_writable c h.0;
    numbered = n_spec;
    yes' = ap (answer (specs_in l)) (spec_numbers c) ∙ spec_yes b g re c (spec_lists c) l h.0 h.1;
    gives = ap (after (specs_in l)) (spec_numbers c) ∙ spec_after_lem b g re c (spec_lists c) l h.0 h.1;
  }

  -- ---- modules

  mod_writable : (c : ℕ) → is_module M c ≡ true → Writable (mod_of b t c)
  unfolding mod_of ok_mod
  mod_writable c e = a_mod (nm.component c (g.b2.mod_spec c e)) (every_of ok_mod _ (li c) (λ v k.
      let j = sym ((li_lists st ok c).each v) ∙ k in let q = is_some_out _ j in
      and_in _ _ (nm.version c v (sym (g.b2.mod_covers c v e) ∙ j))
      (ap (λ (n : ℕ). valid_implementation (name_at t.impls n)) (or_at _ q.0 q.1)
      ∙ nm.implemented c v q.0 q.1)))
      (non_empty-map _ (li c) (lists_non_empty (li c) _ (li_lists st ok c) (standard S c) (g.b2.mod_covers c (standard S c) e
      ∙ g.b1.std_in c (g.b2.mod_spec c e))))

  numbered_mod : Name × Name → ℕ × ℕ
  numbered_mod x = (number reached.vers x.0, number reached.impls x.1)

  mod_numbers : (c : ℕ) → mod_numbered reached (name_at t.comps c)
      (map (λ v. (name_at t.vers v, name_at t.impls (im c v))) (li c)) ≡ mod_put c
  unfolding mod_numbered mod_command new numbered_mod
  mod_numbers c = ap (ADD-MOD (number reached.comps (name_at t.comps c)))
      (map-map numbered_mod (λ v. (name_at t.vers v, name_at t.impls (im c v))) (li c))

  mod_step : (l : List ℕ) (c : ℕ) → (is_module M c ≡ true) × (elem (new_c c) l ≡ false)
      → Step reached new_c modules_in (mod_of b t) l c
  unfolding mod_of
  mod_step l c h = record {
    K = _;
    writable = mod_writable c h.0;
    numbered = n_mod;
    yes' = ap (answer (modules_in l)) (mod_numbers c) ∙ mod_yes b g re c (mod_lists c) l h.0 h.1;
    gives = ap (after (modules_in l)) (mod_numbers c) ∙ mod_after_lem b g re c (mod_lists c) l h.0 h.1;
  }

  -- ---- systems

  in_member : (s v c : ℕ) → elem c (lm s v) ≡ true → (w : ℕ) × (member Y s v c ≡ some w)
  unfolding is_member
  in_member s v c k = is_some_out (member Y s v c) (sym ((lm_lists st ok s v).each c) ∙ k)

  a_member : (s v : ℕ) → composed Y s v ≡ true → (c : ℕ) × (is_member Y s v c ≡ true)
  unfolding B5 B5_at
  a_member s v e = let q = any_out _ _ (and_l _ _ (composition_out Y (B5_at S Y) g.system_limits g.b5 s v e)) in (q.0, q.2)

  a_usable : (s : ℕ) → is_system Y s ≡ true → (c : ℕ) × (usable Y s c ≡ true)
  unfolding is_member
  a_usable s e =
      let v = standard S s in
      let k = a_member s v (g.b2.sys_covers s v e ∙ g.b1.std_in s (g.b2.sys_spec s e)) in
      let q = is_some_out (member Y s v k.0) k.1 in
      (k.0, (mem_usable S Y g.system_limits g.b5 s v k.0 q.0 q.1).0)

  sys_writable : (s : ℕ) → is_system Y s ≡ true → Writable (sys_of b t s)
  unfolding sys_of ok_sys ok_member members_of has
  sys_writable s e = a_sys (nm.component s (g.b2.sys_spec s e)) (every_of valid_name (name_at t.comps) (lu s)
      (λ c k. nm.component c (g.b2.use_spec s c (sym ((lu_lists st ok s).each c) ∙ k))))
      (let q = a_usable s e in non_empty-map _ (lu s) (lists_non_empty (lu s) _ (lu_lists st ok s) q.0 q.1))
      (every_of ok_sys _ (lk s) (λ v k.
      let j = sym ((lk_lists st ok s).each v) ∙ k in let a = a_member s v j in
      and_in _ _ (nm.version s v (sym (g.b2.sys_covers s v e) ∙ j)) (and_in _ _
      (non_empty-map _ (lm s v) (lists_non_empty (lm s v) _ (lm_lists st ok s v) a.0 a.1))
      (every_of ok_member _ (lm s v) (λ c w. let q = in_member s v c w in
      let u = mem_usable S Y g.system_limits g.b5 s v c q.0 q.1 in
      and_in _ _ (nm.component c (g.b2.use_spec s c u.0))
      (ap (λ (n : ℕ). valid_name (name_at t.vers n)) (or_at _ q.0 q.1) ∙ nm.version c q.0 u.1))))))
      (non_empty-map _ (lk s) (lists_non_empty (lk s) _ (lk_lists st ok s) (standard S s) (g.b2.sys_covers s (standard S s) e
      ∙ g.b1.std_in s (g.b2.sys_spec s e))))

  numbered_member : Name × Option Name → ℕ × Option ℕ
  numbered_member m = (number reached.comps m.0, option_map (number reached.vers) m.1)

  numbered_sys : Name × NamedMembers → ℕ × List (ℕ × Option ℕ)
  numbered_sys x = (number reached.vers x.0, numbered_members reached x.1)

  members-numbers : (s v : ℕ) → numbered_members reached (members_of b t s v) ≡ sys_members b g re s (sys_lists s) v
  unfolding numbered_members members_of sys_members new numbered_member option_map
  members-numbers s v = map-map numbered_member (λ c. (name_at t.comps c, some (name_at t.vers (mv s v c)))) (lm s v)

  sys_numbers : (s : ℕ) → sys_numbered reached (name_at t.comps s) (map (name_at t.comps) (lu s))
      (map (λ v. (name_at t.vers v, members_of b t s v)) (lk s)) ≡ sys_put s
  unfolding sys_numbered sys_command numbers new numbered_sys
  sys_numbers s =
      let e₁ = map-map (number reached.comps) (name_at t.comps) (lu s) in
      let e₂ = map-map numbered_sys (λ v. (name_at t.vers v, members_of b t s v)) (lk s) in
      let e₃ = ap {A = ℕ → ℕ × List (ℕ × Option ℕ)} (λ f. map f (lk s))
      (λ i v. (number reached.vers (name_at t.vers v), members-numbers s v i)) in
      λ i. ADD-SYS (number reached.comps (name_at t.comps s)) (e₁ i) ((e₂ ∙ e₃) i)

  abbrev CanGo : List ℕ → ℕ → Type 0
  CanGo = Can b g (by_name t.comps components (is_system Y)) (ys_lists st ok) re

  sys_step : (l : List ℕ) (s : ℕ) → CanGo l s → Step reached new_c systems_in (sys_of b t) l s
  unfolding sys_of
  sys_step l s h = record {
    K = _;
    writable = sys_writable s h.is;
    numbered = n_sys;
    yes' = ap (answer (systems_in l)) (sys_numbers s) ∙ sys_yes b g re s (sys_lists s) l h.is h.new h.closed;
    gives = ap (after (systems_in l)) (sys_numbers s) ∙ sys_after_lem b g re s (sys_lists s) l h.is h.new h.closed;
  }

  -- ---- all of it

  abbrev cs : List ℕ
  cs = by_name t.comps components (specified S)

  abbrev ms : List ℕ
  ms = by_name t.comps components (is_module M)

  abbrev ss : List ℕ
  ss = systems_from components Y (by_name t.comps components (is_system Y)) []

  abbrev specs' : Specs
  specs' = new_specs b re

  abbrev modules' : Modules
  modules' = new_modules b re

  abbrev systems' : Systems
  systems' = new_systems b re

  -- the book that is reached: the same under the new numbers
  abbrev pub rebuilt : Book
  rebuilt = record { specs = specs'; modules = modules'; systems = systems' }

  back_in : (test : ℕ → Bool) → ((n : ℕ) → test n ≡ true → specified S n ≡ true) → (l : List ℕ)
      → ((n : ℕ) → test n ≡ true → elem n l ≡ true) → (m : ℕ) → test (old_c m) ≡ true → elem m (pushed new_c l []) ≡ true
  back_in test u l h m e = subst (λ (k : ℕ). elem k (pushed new_c l []) ≡ true) (re.of_c.forth m (u _ e))
      (pushed_in new_c l [] (old_c m) (h _ e))

  start : specs_in [] ≡ empty
  unfolding with_specs
  start = λ i. record { specs = only_none specs' i; modules = λ c. none; systems = λ c. none }

  specs_done : specs_in (pushed new_c cs []) ≡ modules_in []
  unfolding with_specs with_modules
  specs_done =
      let e = only_all (pushed new_c cs []) specs'
      (λ m k. back_in (specified S) (λ n z. z) cs (λ n z. (cs_lists st ok).each n ∙ z) m (sym (specified' b re m)
      ∙ (unfold specified in k))) in
      λ i. record { specs = e i; modules = sym (only_none modules') i; systems = λ c. none }

  modules_done : modules_in (pushed new_c ms []) ≡ systems_in []
  unfolding with_modules with_systems
  modules_done =
      let e = only_all (pushed new_c ms []) modules'
      (λ m k. back_in (is_module M) (λ n z. g.b2.mod_spec n z) ms (λ n z. (ms_lists st ok).each n ∙ z) m
      (sym (is_module' b re m) ∙ (unfold is_module in k))) in
      λ i. record { specs = specs'; modules = e i; systems = sym (only_none systems') i }

  systems_done : systems_in (pushed new_c ss []) ≡ rebuilt
  unfolding with_systems
  systems_done =
      let e = only_all (pushed new_c ss []) systems' (λ m k. back_in (is_system Y) (λ n z. g.b2.sys_spec n z) ss
      (λ n z. systems_all b g (by_name t.comps components (is_system Y)) (ys_lists st ok) n z) m
      (sym (is_system' b re m) ∙ (unfold is_system in k))) in
      λ i. record { specs = specs'; modules = modules'; systems = e i }

  specs_accepted : Accepts reached empty (map (spec_of b t) cs) (modules_in [])
  specs_accepted = subst (λ (x : Book). Accepts reached x (map (spec_of b t) cs) (modules_in [])) start
      (subst (Accepts reached (specs_in []) (map (spec_of b t) cs)) specs_done
      (phase reached new_c specs_in (spec_of b t) _ spec_step
      (list_in_turn re.of_c (specified S) (λ n e. e) cs [] (cs_lists st ok).once
      (λ n e. (sym ((cs_lists st ok).each n) ∙ e, (unfold elem in refl))))))

  modules_accepted : Accepts reached (modules_in []) (map (mod_of b t) ms) (systems_in [])
  modules_accepted = subst (Accepts reached (modules_in []) (map (mod_of b t) ms)) modules_done
      (phase reached new_c modules_in (mod_of b t) _ mod_step
      (list_in_turn re.of_c (is_module M) (λ n e. g.b2.mod_spec n e) ms [] (ms_lists st ok).once
      (λ n e. (sym ((ms_lists st ok).each n) ∙ e, (unfold elem in refl)))))

  systems_accepted : Accepts reached (systems_in []) (map (sys_of b t) ss) rebuilt
  systems_accepted = subst (Accepts reached (systems_in []) (map (sys_of b t) ss)) systems_done
      (phase reached new_c systems_in (sys_of b t) CanGo sys_step
      (systems_in_turn b g (by_name t.comps components (is_system Y)) (ys_lists st ok) re))

  all_accepted : Accepts reached empty (as_commands b t) rebuilt
  unfolding as_commands systems_in_order
  all_accepted = accepts_append specs_accepted (accepts_append modules_accepted systems_accepted)

  -- every command is accepted, and the book under the new numbers is reached
  pub text_read : session (written b t) ≡ (accepted 1 (length (as_commands b t)), record { book = rebuilt; tables = reached })
  unfolding session written reached_tables
  text_read =
      let r = accepts_runs reached (reached_fits st ok) all_accepted no_names refl in
      runs_text r _ 1 (runs_length r)
