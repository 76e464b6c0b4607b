-- The names that the text of a book mentions: each is the name of a number in the book.
use Rattle.std.specs.Prelude.{Bool, true, ◌≡◌, refl}
use mathlib.Core.List.{List, [], ◌++◌, ◌∷◌, map, map-map}
use Rattle.std.proofs.Common.{inl, inr, ◌∙◌, subst}
use Rattle.std.proofs.Math.Option.{Option, some}
use Rattle.std.proofs.Math.Path.{ap, sym}
use Prim.Native.Nat.{ℕ}
use Rattle.model.specs.Book.{Book, Modules, Specs, Systems, components, composed, facilities, has_version, implementation, is_member}
use Rattle.model.specs.Book.{is_module, is_system, member, provides, requires, specified, usable, versions}
use Rattle.model.specs.Lists.{elem, every, non_empty}
use Rattle.model.specs.Maps.{is_some, or_else}
use Rattle.sets.specs.TestLaws.{=?-out, and_l, clash, or_out}
use Rattle.sets.specs.Tests.{if?◌then◌else◌}
use Rattle.text.specs.Bytes.{Text, among, short, valid_implementation, valid_name}
use Rattle.text.specs.Handed.{Named}
use Rattle.text.specs.Language.{Name, NamedMembers, Said}
use Rattle.text.specs.Session.{State}
use Rattle.text.specs.Tables.{Table, Tables, enter, entered, given, joined, member_names, member_versions, mod_names, name_at}
use Rattle.text.specs.Tables.{spec_names, sys_names}
use Rattle.text.specs.Written.{as_commands, by_name, facility_names, members_of, mod_of, spec_of, sys_of, systems_in_order}
use Rattle.text_laws.specs.FourTables.{Kind, a_component, a_facility, a_version, an_implementation, by_kind, entered_table}
use Rattle.text_laws.specs.FourTables.{table}
use Rattle.text_laws.specs.Listed.{Lists, by_name_lists, every_of}
use Rattle.text_laws.specs.NamedGood.{NamedGood}
use Rattle.text_laws.specs.Numbered.{mentioned}
use Rattle.text_laws.specs.Order.{systems_are}
use Rattle.text_laws.specs.Places.{among_l, among_out, among_r}
use Rattle.text_laws.specs.Runs.{all_entered}
use Rattle.text_laws.specs.TextLaws.{among_names_in, every_append, every_cons, every_joined, every-none}
use Rattle.model_laws.specs.Frame.{mem_usable}
use Rattle.model_laws.specs.Good.{Good}
use Rattle.model_laws.specs.MapLaws.{is_some_out}

-- ---- the tables that are reached, as names put in

enter_append : (t : Table) (xs ys : List Name) → enter t (xs ++ ys) ≡ enter (enter t xs) ys
unfolding enter
enter_append t [] ys = refl
enter_append t (x ∷ xs) ys = enter_append (if? among x t then t else (t ++ (x ∷ []))) xs ys

pub entered_all : (k : Kind) (t : Tables) (ks : List Said)
    → table k (all_entered t ks) ≡ enter (table k t) (joined (map (λ c. table k (mentioned c)) ks))
unfolding all_entered joined enter
entered_all k t [] = refl
entered_all k t (c ∷ cs) =
    entered_all k (entered t (mentioned c)) cs
    ∙ ap (λ (z : Table). enter z (joined (map (λ c. table k (mentioned c)) cs))) (entered_table k t (mentioned c))
    ∙ sym (enter_append (table k t) (table k (mentioned c)) _)

-- ---- lists of lists

pub among_seg1 : (w : Name) (sel : Said → List Name) (xs ys : List Said) → among w (joined (map sel xs)) ≡ true
    → among w (joined (map sel (xs ++ ys))) ≡ true
unfolding joined among
among_seg1 w sel [] ys a = clash a refl
among_seg1 w sel (x ∷ xs) ys a = elim (among_out w (sel x) _ a) [
  | inl q ↦ among_l w (sel x) _ q
  | inr q ↦ among_r w (sel x) _ (among_seg1 w sel xs ys q)
]

pub among_seg2 : (w : Name) (sel : Said → List Name) (xs ys : List Said) → among w (joined (map sel ys)) ≡ true
    → among w (joined (map sel (xs ++ ys))) ≡ true
unfolding joined
among_seg2 w sel [] ys a = a
among_seg2 w sel (x ∷ xs) ys a = among_r w (sel x) _ (among_seg2 w sel xs ys a)

pub among_of : {A : Type 0} (w : Name) (sel : A → List Name) (h : ℕ → A) (l : List ℕ) (n : ℕ) → elem n l ≡ true
    → among w (sel (h n)) ≡ true → among w (joined (map sel (map h l))) ≡ true
unfolding joined elem
among_of w sel h [] n e a = clash e refl
among_of w sel h (x ∷ xs) n e a =
    elim (or_out _ _ e) [
      | inl q ↦ among_l w (sel (h x)) _ (subst (λ (z : ℕ). among w (sel (h z)) ≡ true) (=?-out _ _ q) a)
      | inr q ↦ among_r w (sel (h x)) _ (among_of w sel h xs n q a)
    ]

pub among-map : {A : Type 0} (f : A → Name) (h : ℕ → A) (l : List ℕ) (n : ℕ) → elem n l ≡ true
    → among (f (h n)) (map f (map h l)) ≡ true
among-map f h l n e = ap (among (f (h n))) (map-map f h l) ∙ among_names_in (λ n. f (h n)) l n e

every-firsts : {A : Type 0} (test : Name → Bool) (f : ℕ → Name) (h : ℕ → A) (l : List ℕ)
    → ((n : ℕ) → elem n l ≡ true → test (f n) ≡ true) → every test (map (λ (x : Name × A). x.0) (map (λ v. (f v, h v)) l)) ≡ true
every-firsts test f h l k = ap (every test) (map-map _ _ l) ∙ every_of test f l k

every-seconds : (test : Name → Bool) (f h : ℕ → Name) (l : List ℕ) → ((n : ℕ) → elem n l ≡ true → test (h n) ≡ true)
    → every test (map (λ (x : Name × Name). x.1) (map (λ v. (f v, h v)) l)) ≡ true
every-seconds test f h l k = ap (every test) (map-map _ _ l) ∙ every_of test h l k

every_lists : {A : Type 0} (test : Name → Bool) (sel : A → List Name) (h : ℕ → A) (l : List ℕ)
    → ((n : ℕ) → elem n l ≡ true → every test (sel (h n)) ≡ true) → every test (joined (map sel (map h l))) ≡ true
every_lists test sel h l k = every_joined test sel (map h l) (every_of _ h l k)

given_some : (h : ℕ → Name) (f : ℕ → Name) (l : List ℕ)
    → given (map (λ (m : Name × Option Name). m.1) (map (λ c. (f c, some (h c))) l)) ≡ map h l
unfolding given
given_some h f [] = refl
given_some h f (x ∷ xs) = ap (λ (r : List Name). h x ∷ r) (given_some h f xs)

pub valid-some : (w : Text) → valid_name w ≡ true → non_empty w ≡ true
unfolding valid_name non_empty
valid-some [] v = v
valid-some (c ∷ cs) v = refl

pub impl_some : (w : Text) → valid_implementation w ≡ true → non_empty w ≡ true
unfolding valid_implementation short
impl_some w v = and_l _ _ (and_l _ _ v)

-- ---- a book

module _ (st : State) (ok : NamedGood st) where
  abbrev b : Book
  b = st.book

  abbrev t : Tables
  t = st.tables

  abbrev g : Good b
  g = ok.good

  abbrev nm : Named st
  nm = ok.named

  abbrev S : Specs
  S = b.specs

  abbrev M : Modules
  M = b.modules

  abbrev Y : Systems
  Y = b.systems

  -- ---- the lists

  pub cs_lists : Lists (by_name t.comps components (specified S)) (specified S)
  cs_lists = by_name_lists _ _ _ (λ n e. g.spec_limits.component< n e)

  pub ms_lists : Lists (by_name t.comps components (is_module M)) (is_module M)
  ms_lists = by_name_lists _ _ _ (λ n e. g.module_limits.component< n e)

  pub ys_lists : Lists (by_name t.comps components (is_system Y)) (is_system Y)
  ys_lists = by_name_lists _ _ _ (λ n e. g.system_limits.component< n e)

  pub lp_lists : (c : ℕ) → Lists (by_name t.facs facilities (provides S c)) (provides S c)
  lp_lists c = by_name_lists _ _ _ (λ n e. g.spec_limits.provided< c n e)

  pub lv_lists : (c : ℕ) → Lists (by_name t.vers versions (has_version S c)) (has_version S c)
  lv_lists c = by_name_lists _ _ _ (λ n e. g.spec_limits.version< c n e)

  pub lq_lists : (c v : ℕ) → Lists (by_name t.facs facilities (requires S c v)) (requires S c v)
  lq_lists c v = by_name_lists _ _ _ (λ n e. g.spec_limits.required< c v n e)

  pub li_lists : (c : ℕ) → Lists (by_name t.vers versions (λ v. is_some (implementation M c v)))
      (λ v. is_some (implementation M c v))
  li_lists c = by_name_lists _ _ _ (λ n e. let q = is_some_out _ e in (g.module_limits.implementation< c n q.0 q.1).0)

  pub lu_lists : (s : ℕ) → Lists (by_name t.comps components (usable Y s)) (usable Y s)
  lu_lists s = by_name_lists _ _ _ (λ n e. g.system_limits.usable< s n e)

  pub lk_lists : (s : ℕ) → Lists (by_name t.vers versions (composed Y s)) (composed Y s)
  lk_lists s = by_name_lists _ _ _ (λ n e. g.system_limits.version< s n e)

  pub lm_lists : (s v : ℕ) → Lists (by_name t.comps components (is_member Y s v)) (is_member Y s v)
  unfolding is_member
  lm_lists s v = by_name_lists _ _ _ (λ n e. let q = is_some_out (member Y s v n) e in
      (g.system_limits.member< s v n q.0 q.1).0)

  -- ---- what a command mentions passes a test that each name in the book passes

  -- each name in the book passes the test of its table
  pub record EachName (test : Kind → Name → Bool) : Type 0 where
    pub component : (c : ℕ) → specified S c ≡ true → test a_component (name_at t.comps c) ≡ true
    pub version : (c v : ℕ) → has_version S c v ≡ true → test a_version (name_at t.vers v) ≡ true
    pub provided : (c f : ℕ) → provides S c f ≡ true → test a_facility (name_at t.facs f) ≡ true
    pub required : (c v f : ℕ) → requires S c v f ≡ true → test a_facility (name_at t.facs f) ≡ true
    pub implemented : (c v i : ℕ) → implementation M c v ≡ some i → test an_implementation (name_at t.impls i) ≡ true

  module _ (test : Kind → Name → Bool) (h : EachName test) where
    abbrev tc : Name → Bool
    tc = test a_component

    abbrev tv : Name → Bool
    tv = test a_version

    abbrev tf : Name → Bool
    tf = test a_facility

    abbrev ti : Name → Bool
    ti = test an_implementation

    -- each name that a command mentions passes the test of its table
    abbrev AllPass : Said → Type 0
    AllPass c = (k : Kind) → every (test k) (table k (mentioned c)) ≡ true

    spec_passes : (c : ℕ) → specified S c ≡ true → AllPass (spec_of b t c)
    unfolding mentioned spec_of spec_names facility_names
    spec_passes c e = by_kind _
        (every_cons tc _ _ (h.component c e) (every-none tc))
        (every-firsts tv (name_at t.vers) (λ v. facility_names t (requires S c v))
        (by_name t.vers versions (has_version S c)) (λ v k. h.version c v (sym ((lv_lists c).each v) ∙ k)))
        (every_append tf (facility_names t (provides S c)) _
        (every_of tf (name_at t.facs) (by_name t.facs facilities (provides S c))
        (λ f k. h.provided c f (sym ((lp_lists c).each f) ∙ k)))
        (every_lists tf (λ x. x.1) (λ v. (name_at t.vers v, facility_names t (requires S c v)))
        (by_name t.vers versions (has_version S c))
        (λ v j. every_of tf (name_at t.facs) (by_name t.facs facilities (requires S c v))
        (λ f k. h.required c v f (sym ((lq_lists c v).each f) ∙ k)))))
        (every-none ti)

    mod_passes : (c : ℕ) → is_module M c ≡ true → AllPass (mod_of b t c)
    unfolding mentioned mod_of mod_names or_else
    mod_passes c e =
        let l = by_name t.vers versions (λ v. is_some (implementation M c v)) in
        let at : ℕ → Name = λ v. name_at t.impls (or_else (implementation M c v) 0) in
        by_kind _
        (every_cons tc _ _ (h.component c (g.b2.mod_spec c e)) (every-none tc))
        (every-firsts tv (name_at t.vers) at l
        (λ v k. h.version c v (sym (g.b2.mod_covers c v e) ∙ sym ((li_lists c).each v) ∙ k)))
        (every-none tf)
        (every-seconds ti (name_at t.vers) at l (λ v k. let q = is_some_out _ (sym ((li_lists c).each v) ∙ k) in
        ap (λ (o : Option ℕ). ti (name_at t.impls (or_else o 0))) q.1 ∙ h.implemented c v q.0 q.1))

    member_names_lem : (s v : ℕ)
        → member_names (members_of b t s v) ≡ map (name_at t.comps) (by_name t.comps components (is_member Y s v))
    unfolding member_names members_of
    member_names_lem s v = map-map _ _ (by_name t.comps components (is_member Y s v))

    member_versions_lem : (s v : ℕ) → member_versions (members_of b t s v)
        ≡ map (λ c. name_at t.vers (or_else (member Y s v c) 0)) (by_name t.comps components (is_member Y s v))
    unfolding member_versions members_of
    member_versions_lem s v = given_some _ _ (by_name t.comps components (is_member Y s v))

    at_member : (s v c : ℕ) → elem c (by_name t.comps components (is_member Y s v)) ≡ true → (w : ℕ) × (member Y s v c ≡ some w)
    unfolding is_member
    at_member s v c k = is_some_out (member Y s v c) (sym ((lm_lists s v).each c) ∙ k)

    sys_passes : (s : ℕ) → is_system Y s ≡ true → AllPass (sys_of b t s)
    unfolding mentioned sys_of sys_names or_else
    sys_passes s e =
        let at : ℕ → Name × NamedMembers = λ v. (name_at t.vers v, members_of b t s v) in
        let l = by_name t.vers versions (composed Y s) in
        by_kind _
        (every_cons tc _ _ (h.component s (g.b2.sys_spec s e))
        (every_append tc (map (name_at t.comps) (by_name t.comps components (usable Y s))) _
        (every_of tc (name_at t.comps) (by_name t.comps components (usable Y s))
        (λ c k. h.component c (g.b2.use_spec s c (sym ((lu_lists s).each c) ∙ k))))
        (every_lists tc (λ x. member_names x.1) at l (λ v j. ap (every tc) (member_names_lem s v)
        ∙ every_of tc (name_at t.comps) (by_name t.comps components (is_member Y s v))
        (λ c k. let q = at_member s v c k in
        h.component c (g.b2.use_spec s c (mem_usable S Y g.system_limits g.b5 s v c q.0 q.1).0))))))
        (every_lists tv (λ x. x.0 ∷ member_versions x.1) at l
        (λ v j. every_cons tv _ _ (h.version s v (sym (g.b2.sys_covers s v e) ∙ sym ((lk_lists s).each v) ∙ j))
        (ap (every tv) (member_versions_lem s v)
        ∙ every_of tv (λ c. name_at t.vers (or_else (member Y s v c) 0)) (by_name t.comps components (is_member Y s v))
        (λ c k. let q = at_member s v c k in ap (λ (o : Option ℕ). tv (name_at t.vers (or_else o 0))) q.1
        ∙ h.version c q.0 (mem_usable S Y g.system_limits g.b5 s v c q.0 q.1).1))))
        (every-none tf) (every-none ti)

    pub all_pass : (k : Kind) → every (test k) (joined (map (λ c. table k (mentioned c)) (as_commands b t))) ≡ true
    unfolding as_commands systems_in_order
    all_pass k = every_joined (test k) (λ c. table k (mentioned c)) _
        (every_append _ (map (spec_of b t) (by_name t.comps components (specified S))) _
        (every_of _ (spec_of b t) _ (λ c e. spec_passes c (sym (cs_lists.each c) ∙ e) k))
        (every_append _ (map (mod_of b t) (by_name t.comps components (is_module M))) _
        (every_of _ (mod_of b t) _ (λ c e. mod_passes c (sym (ms_lists.each c) ∙ e) k))
        (every_of _ (sys_of b t) _ (λ s e. sys_passes s (systems_are b g _ ys_lists components [] s e) k))))
