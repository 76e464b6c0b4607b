-- "sys": usable components, and versions with their compositions.
use Rattle.std.specs.Prelude.{Bool, List, None, Option as Found, Some, [], ◌∷◌, ◌≡◌, is_some, map, option_map, refl, true, ℕ}
use Rattle.std.proofs.Common.{◌∙◌, ap, ap₂, subst, sym}
use Rattle.std.proofs.Math.Option.{Option}
use Rattle.model.specs.Book.{components, versions}
use Rattle.model.specs.Commands.{ADD-SYS, Members}
use Rattle.model.specs.Maps as there
use Rattle.model.specs.Maps.{Map}
use Rattle.names.specs.Stored.{Rows, table_of, tables_of}
use Rattle.command_lists.specs.Gathered.{Gathered, gather, mapped, nothing}
use Rattle.command_lists.specs.Said.{alone, always, compositions_from, compositions_of, compositions_step, itself, members_of, usable_of, usable_step}
use Rattle.command_lists.specs.Views.{composition_of, compositions_view, usable_view, view}
use Rattle.command_lists.specs.declared.gathered.Gathered.{Gathered as Kept}
use Rattle.sets.specs.TestLaws.{and_l, and_r}
use Rattle.sets.specs.Tests.{◌&◌}
use Rattle.text.specs.Bytes.{Text, bytes, keywords}
use Rattle.text.specs.Language.{Name, NamedMembers, Reader as Production, SYS, ◌>>◌, key, name, want}
use Rattle.text.specs.Tables.{Table, Tables, joined, member_names, member_versions, name_at, number}
use Rattle.text.specs.Tables.{numbered_members, numbers, sys_names, sys_numbered}
use Rattle.read_tokens.specs.BothLaws.{both_out, both_there, map_there, none_some, some_out, some_same}
use Rattle.read_tokens.specs.Entering.{Enters, both, four}
use Rattle.read_tokens.specs.Growth.{Grows, Longer, NumberedAll, fold_on, joint, mentioned}
use Rattle.read_tokens.specs.GrowthLaws.{enters_longer, enters_number, grows_comp, grows_each, grows_on, grows_room, grows_tables, grows_then}
use Rattle.read_tokens.specs.GrowthLaws.{grows_ver, longer_none, longer_same, longer_then, numbered_all, tables_within}
use Rattle.read_tokens.specs.Readers.{Any, Got, key_at}
use Rattle.read_tokens.specs.Requested.{SysAsked, SysAsks}
use Rattle.read_tokens.specs.SequenceLaws.{Lacks, Read, as_named, behind_lacks, lacking, not_named}
use Rattle.read_tokens.specs.Steps.{Each}
use Rattle.read_tokens.specs.declared.PairTables.{PairTables}
use Rattle.read_tokens.specs.declared.reader.Reader.{Reader}
use Rattle.read_tokens.specs.declared.SysRequest.{SysRequest}
use Rattle.read_sys.specs.MemberLaws.{members_are, members_grow}
use Rattle.read_sys.specs.MemberSteps.{MemberState, member_start}
use Rattle.read_sys.specs.SysSteps.{SysState, SysStep, SysWith, UsableStep, Usables, add_usable, sys_made}
use Rattle.read_sys.specs.SysSteps.{sys_start, sys_state, usable_start, usable_state}

use_key : key_at 19 ≡ key "use"
unfolding key_at key name_at keywords bytes
use_key = refl

pub use_read : (r s : Reader) → Read (want (key_at 19)) Any r s → Read (want (key "use")) Any r s
use_read r s g = as_named use_key r s g

pub use_lacks : (r : Reader) → Lacks (want (key_at 19)) r → Lacks (want (key "use")) r
use_lacks r n = not_named use_key r n

pub behind_use : {B : Type 0} (q : Production B) (r s : Reader) → Read (want (key_at 19)) Any r s → Lacks q s → Lacks (want (key "use") >> q) r
behind_use q r s g n = behind_lacks r s (use_read r s g) q n

pub ruleset lacking_use = (lacking, use_lacks, behind_use)

-- ---- usable components

pub usable_taken : (t : Text) (at e : ℕ) (u u' : Table) (o : Found ℕ) (g g' : Found (Gathered (Unit {0})))
    → Got name (Enters components u u' o) t at e → g' ≡ both add_usable g o → Got name (UsableStep (u, g) (u', g')) t at e
usable_taken t at e u u' o g g' n q = record {
  value = n.value;
  is = n.is;
  took = record { place = o; enters = n.took; usable = q };
  from = n.from;
  inside = n.inside;
}

abbrev only_comps : List Name → Tables
only_comps ws = record { comps = ws; vers = []; facs = []; impls = [] }

abbrev with_comps : Tables → Table → Tables
with_comps t c = record { comps = c; vers = t.vers; facs = t.facs; impls = t.impls }

usables_one_by_one : (ws : List Name) → mentioned (λ w. only_comps (w ∷ [])) ws ≡ only_comps ws
unfolding mentioned joint
usables_one_by_one [] = refl
usables_one_by_one (w ∷ ws) = ap (λ m. joint (only_comps (w ∷ [])) m) (usables_one_by_one ws)

usables_grow : (t : Tables) (s s' : Usables) (ws : List Name) → Each UsableStep s s' ws
    → Grows (with_comps t s.0) (with_comps t s'.0) (is_some s.1) (is_some s'.1) (only_comps ws)
usables_grow t s s' ws e =
    subst (Grows (with_comps t s.0) (with_comps t s'.0) (is_some s.1) (is_some s'.1)) (usables_one_by_one ws)
    (grows_each UsableStep (λ s. with_comps t s.0) (λ s. is_some s.1) (λ w. only_comps (w ∷ []))
    (λ s s' w f. subst (λ (r : Bool). Grows (with_comps t s.0) (with_comps t s'.0) (is_some s.1) r (only_comps (w ∷ [])))
    (sym (ap is_some f.usable ∙ both_there add_usable s.1 f.place))
    (grows_comp (with_comps t s.0) (is_some s.1) s'.0 f.place w f.enters)) s s' ws e)

abbrev usable_tables : Table → Tables
usable_tables t = only_comps t

usables_numbered : (s s' : Usables) (ws : List Name) (g : Gathered (Unit {0})) → Each UsableStep s s' ws → s'.1 ≡ Some g
    → NumberedAll (λ (s : Usables). usable_tables s.0) (λ (s : Usables). s.1) (λ u w. number u.comps w) add_usable (λ k. true) s s' ws g
usables_numbered s s' ws g e y = numbered_all UsableStep _ _ _ _ _ (λ s s' w h f o.
    (let b = both_out add_usable s.1 f.place (sym f.usable ∙ o) in record {
      before = b.0;
      was = b.2;
      value = b.1;
      is = λ u l. enters_number components s.0 s'.0 f.place w f.enters b.1 b.3 u.comps l.comps;
      passes = refl;
      adds = sym b.4;
      later = record {
        comps = enters_longer components s.0 s'.0 f.place w f.enters;
        vers = longer_none _;
        facs = longer_none _;
        impls = longer_none _;
      };
    })) s s' ws g e y

usable_fold : (g : Gathered (Unit {0})) (ks : List ℕ) → fold_on add_usable g ks ≡ gather components always always always itself g (map alone ks)
unfolding fold_on gather usable_step add_usable
usable_fold g [] = refl
usable_fold g (k ∷ ks) = usable_fold (add_usable g k) ks

-- the usable components that were read, by their numbers in all later tables
record UsablesAre (t t' : Table) (g : Gathered (Unit {0})) (ws : List Name) : Type 0 where
  values : List ℕ
  are : (u : Table) → Longer t' u → numbers u ws ≡ values
  is : g ≡ usable_of values
  longer : Longer t t'

usables_are : (t : Table) (s : Usables) (g : Gathered (Unit {0})) (ws : List Name) → Each UsableStep (usable_start t) s ws → s.1 ≡ Some g
    → UsablesAre t s.0 g ws
unfolding usable_start usable_of numbers
usables_are t s g ws e y =
    let all = usables_numbered (usable_start t) s ws g e y in
    record {
      values = all.values;
      are = λ u l. all.are (usable_tables u) (record { comps = l; vers = longer_none _; facs = longer_none _; impls = longer_none _ });
      is = all.add ∙ ap (λ (z : Gathered (Unit {0})). fold_on add_usable z all.values) (sym (some_same all.was)) ∙ usable_fold nothing all.values;
      longer = all.later.comps;
    }

-- ---- versions with their compositions

-- there is none where one of the three is missing
pub without_versions : (v : Found ℕ) (m : Found (Gathered (Option ℕ))) → SysWith None v m None
unfolding both ◌&◌
without_versions v m = record { room = refl; is = λ ms q. refl }

pub without_place : (g : Gathered (Map (Option ℕ))) (m : Found (Gathered (Option ℕ))) → SysWith (Some g) None m None
unfolding both ◌&◌
without_place g m = record { room = refl; is = λ ms q. refl }

pub without_members : (g : Gathered (Map (Option ℕ))) (k : ℕ) → SysWith (Some g) (Some k) None None
unfolding both ◌&◌
without_members g k = record { room = refl; is = λ ms q. none_some q }

pub with_all : (g : Gathered (Map (Option ℕ))) (k : ℕ) (m : Gathered (Option ℕ)) (r : Gathered (Map (Option ℕ)))
    → ((ms : Members) → m ≡ members_of ms → r ≡ compositions_step g (k, ms)) → SysWith (Some g) (Some k) (Some m) (Some r)
unfolding both ◌&◌
with_all g k m r h = record { room = refl; is = λ ms q. ap (λ (z : Gathered (Map (Option ℕ))). Some z) (h ms (some_same q)) }

-- an entry's names
abbrev sys_mentions : Name × NamedMembers → Tables
sys_mentions x = record { comps = member_names x.1; vers = x.0 ∷ member_versions x.1; facs = []; impls = [] }

abbrev all_mentions : List (Name × NamedMembers) → Tables
all_mentions ks = record {
  comps = joined (map (λ x. member_names x.1) ks);
  vers = joined (map (λ x. x.0 ∷ member_versions x.1) ks);
  facs = [];
  impls = [];
}

versions_one_by_one : (ks : List (Name × NamedMembers)) → mentioned sys_mentions ks ≡ all_mentions ks
unfolding mentioned joint joined
versions_one_by_one [] = refl
versions_one_by_one (x ∷ xs) = ap (λ m. joint (sys_mentions x) m) (versions_one_by_one xs)

module _ (f i : Table) where
  -- the tables of a state, with those that no entry changes
  abbrev sys_world : SysState → Tables
  sys_world s = record { comps = s.comps; vers = s.vers; facs = f; impls = i }

  version_grows : (s s' : SysState) (x : Name × NamedMembers) → SysStep s s' x
      → Grows (sys_world s) (sys_world s') (is_some s.compositions) (is_some s'.compositions) (sys_mentions x)
  unfolding joint ◌&◌ member_start
  version_grows s s' x p =
      let a = grows_ver (sys_world s) true p.between p.place x.0 p.enters in
      let last : MemberState = record { comps = s'.comps; vers = s'.vers; members = p.gathered } in
      let b = grows_on _ _ (is_some p.place) true _ _ refl (members_grow f i (member_start s.comps p.between) last x.1 p.members) in
      let g = grows_on _ _ (is_some s.compositions) true _ _ refl (grows_then _ _ _ _ _ _ _ _ a b) in
      subst (λ (r : Bool). Grows (sys_world s) (sys_world s') (is_some s.compositions) r (sys_mentions x)) (sym p.with.room) g

  versions_grow : (s s' : SysState) (ks : List (Name × NamedMembers)) → Each SysStep s s' ks
      → Grows (sys_world s) (sys_world s') (is_some s.compositions) (is_some s'.compositions) (all_mentions ks)
  versions_grow s s' ks e =
      subst (Grows (sys_world s) (sys_world s') (is_some s.compositions) (is_some s'.compositions)) (versions_one_by_one ks)
      (grows_each SysStep sys_world (λ s. is_some s.compositions) sys_mentions version_grows s s' ks e)

abbrev sys_tables : SysState → Tables
sys_tables s = sys_world [] [] s

abbrev sys_num : Tables → Name × NamedMembers → ℕ × Members
sys_num u x = (number u.vers x.0, numbered_members u x.1)

-- what is gathered with one version more
with_added : (c : Found (Gathered (Map (Option ℕ)))) (v : Found ℕ) (m : Found (Gathered (Option ℕ))) (r : Found (Gathered (Map (Option ℕ))))
    → SysWith c v m r → (ms : Members) (g : Gathered (Map (Option ℕ))) (k : ℕ) (l : Gathered (Option ℕ)) (h : Gathered (Map (Option ℕ)))
    → c ≡ Some g → v ≡ Some k → m ≡ Some l → l ≡ members_of ms → r ≡ Some h → h ≡ compositions_step g (k, ms)
unfolding both
with_added c v m r w ms g k l h p q e y o =
    some_same (sym o ∙ w.is ms (e ∙ ap (λ (z : Gathered (Option ℕ)). Some z) y) ∙ ap₂ (both (λ c k. compositions_step c (k, ms))) p q)

versions_numbered : (s s' : SysState) (ks : List (Name × NamedMembers)) (g : Gathered (Map (Option ℕ))) → Each SysStep s s' ks
    → s'.compositions ≡ Some g → NumberedAll sys_tables (λ s. s.compositions) sys_num compositions_step (λ y. true) s s' ks g
unfolding numbered_members
versions_numbered s s' ks g e y = numbered_all SysStep sys_tables (λ s. s.compositions) sys_num compositions_step (λ y. true) (λ s s' x h f o.
    (let all = sym f.with.room ∙ ap is_some o in
    let a = some_out s.compositions (and_l _ _ all) in
    let b = some_out f.place (and_l _ _ (and_r _ _ all)) in
    let d = some_out f.gathered (and_r _ _ (and_r _ _ all)) in
    let last : MemberState = record { comps = s'.comps; vers = s'.vers; members = f.gathered } in
    let m = members_are s.comps f.between last d.0 x.1 f.members d.1 in
    record {
      before = a.0;
      was = a.1;
      value = (b.0, m.values);
      is = λ u l. ap₂ (λ (k : ℕ) (ms : Members). (k, ms))
          (enters_number versions s.vers f.between f.place x.0 f.enters b.0 b.1 u.vers (longer_then _ _ _ m.vers l.vers))
          (m.are u l.comps l.vers);
      passes = refl;
      adds = with_added s.compositions f.place f.gathered s'.compositions f.with m.values a.0 b.0 d.0 h a.1 b.1 d.1 m.is o;
      later = record {
        comps = m.comps;
        vers = longer_then _ _ _ (enters_longer versions s.vers f.between f.place x.0 f.enters) m.vers;
        facs = longer_none _;
        impls = longer_none _;
      };
    })) s s' ks g e y

compositions_fold : (g : Gathered (Map (Option ℕ))) (xs : List (ℕ × Members)) → fold_on compositions_step g xs ≡ compositions_from g xs
unfolding fold_on gather compositions_step compositions_from
compositions_fold g [] = refl
compositions_fold g (x ∷ xs) = compositions_fold (compositions_step g x) xs

-- ---- what it asks for

module _ (t : Tables) (c₁ : Table) (us' : Usables) (s : SysState) (o : Found ℕ) (c : Name) (us : List Name) (ks : List (Name × NamedMembers))
    (n : Enters components t.comps c₁ o c) (p : Each UsableStep (usable_start c₁) us' us) (b : Each SysStep (sys_start us'.0 t.vers) s ks) where
  abbrev after : Tables
  after = record { comps = s.comps; vers = s.vers; facs = t.facs; impls = t.impls }

  sys_grows : Grows t after true (is_some o & (is_some us'.1 & is_some s.compositions)) (sys_names c us ks)
  unfolding sys_names usable_start sys_start joint ◌&◌
  sys_grows =
      let a = grows_comp t true c₁ o c n in
      let d = usables_grow (with_comps t c₁) (usable_start c₁) us' us p in
      let e = versions_grow t.facs t.impls (sys_start us'.0 t.vers) s ks b in
      grows_then _ _ _ _ _ _ _ _ a
      (grows_on _ _ (is_some o) true _ _ refl (grows_then _ _ _ _ _ _ _ _ d (grows_on _ _ (is_some us'.1) true _ _ refl e)))

  sys_asks : (u : Found (Kept (Unit {0}) 32)) (v : Found (Kept (Kept (Found ℕ) 32) 64)) (q : SysRequest) → us'.1 ≡ option_map usable_view u
      → s.compositions ≡ option_map compositions_view v → sys_made o u v ≡ Some q → SysAsks (sys_numbered after c us ks) q
  unfolding sys_made sys_numbered sys_start compositions_of
  sys_asks u v q i j y =
      let m = both_out _ o (both (λ us g. (us, g)) u v) y in
      let w = both_out (λ us g. (us, g)) u v m.3 in
      let has = usables_are c₁ us' (usable_view w.0) us p (i ∙ ap (option_map usable_view) w.2) in
      let all = versions_numbered (sys_start us'.0 t.vers) s ks (compositions_view w.1) b (j ∙ ap (option_map compositions_view) w.3) in
      record {
        usables = has.values;
        list = all.values;
        is = numbered _ _ _ _ _ _
            (enters_number components t.comps c₁ o c n m.0 m.2 s.comps (longer_then _ _ _ has.longer all.later.comps)
            ∙ ap (λ (r : SysRequest). r.component) m.4)
            (has.are s.comps all.later.comps)
            (all.are after (record { comps = longer_same _; vers = longer_same _; facs = longer_none _; impls = longer_none _ }));
        usable = ap usable_view (sym (ap (λ (x : Kept (Unit {0}) 32 × Kept (Kept (Found ℕ) 32) 64). x.0) w.4
            ∙ ap (λ (r : SysRequest). r.usable) m.4)) ∙ has.is;
        versions = ap compositions_view (sym (ap (λ (x : Kept (Unit {0}) 32 × Kept (Kept (Found ℕ) 32) 64). x.1) w.4
            ∙ ap (λ (r : SysRequest). r.versions) m.4)) ∙ all.add
            ∙ ap (λ (z : Gathered (Map (Option ℕ))). fold_on compositions_step z all.values) (sym (some_same all.was))
            ∙ compositions_fold nothing all.values;
      }
    where
      numbered : (c c' : ℕ) (u u' : List ℕ) (l l' : List (ℕ × Members)) → c ≡ c' → u ≡ u' → l ≡ l' → ADD-SYS c u l ≡ ADD-SYS c' u' l'
      numbered c c' u u' l l' d e f = rw (d, e, f)

made_there : (o : Found ℕ) (u : Found (Kept (Unit {0}) 32)) (v : Found (Kept (Kept (Found ℕ) 32) 64))
    → is_some (sys_made o u v) ≡ (is_some o & (is_some u & is_some v))
unfolding sys_made
made_there o u v =
    both_there _ o (both (λ us g. (us, g)) u v) ∙ ap (λ (z : Bool). is_some o & z) (both_there (λ us g. (us, g)) u v)

-- no component, no version yet
pub usables_start : (rows : Rows) (g : Kept (Unit {0}) 32) → view g ≡ nothing → usable_state rows (Some g) ≡ usable_start (table_of components rows)
unfolding usable_state usable_start usable_view
usables_start rows g e = ap (λ (z : Gathered (Unit {0})). (table_of components rows, Some z)) e

pub versions_start : (t : PairTables) (g : Kept (Kept (Found ℕ) 32) 64) → view g ≡ nothing
    → sys_state t (Some g) ≡ sys_start (table_of components t.comps.table.rows) (table_of versions t.vers.table.rows)
unfolding sys_state sys_start compositions_view mapped there.option_map
versions_start t g e =
    ap (λ (z : Gathered (Kept (Found ℕ) 32)). record {
      comps = table_of components t.comps.table.rows;
      vers = table_of versions t.vers.table.rows;
      compositions = Some (mapped composition_of z);
    }) e

pub sys_asked : (T T' : PairTables) (C C₁ : Rows) (u : Found (Kept (Unit {0}) 32)) (v : Found (Kept (Kept (Found ℕ) 32) 64)) (r : Found SysRequest)
    {o : Found ℕ} {c : Name} {us : List Name} {ks : List (Name × NamedMembers)} (f i : Rows)
    → Enters components (table_of components T.comps.table.rows) (table_of components C) o c
    → Each UsableStep (usable_start (table_of components C)) (usable_state C₁ u) us
    → Each SysStep (sys_start (table_of components C₁) (table_of versions T.vers.table.rows)) (sys_state T' v) ks → r ≡ sys_made o u v
    → SysAsked (four T f i) (four T' f i) r (SYS c us ks)
unfolding tables_of sys_state usable_state
sys_asked T T' C C₁ u v r {o} {c} {us} {ks} f i n p b d =
    let g = sys_grows (four T f i) (table_of components C) (usable_state C₁ u) (sys_state T' v) o c us ks n p b in
    let j = ap is_some d ∙ made_there o u v
    ∙ ap (λ (z : Bool). is_some o & z) (ap₂ ◌&◌ (sym (map_there usable_view u)) (sym (map_there compositions_view v))) in
    record {
      c = c;
      us = us;
      ks = ks;
      said = refl;
      room = j ∙ grows_room _ _ _ _ (tables_within _ _ _ _) g;
      tables = λ y. grows_tables _ _ _ _ (tables_within _ _ _ _) g (sym j ∙ y);
      asks = λ q y. sys_asks (four T f i) (table_of components C) (usable_state C₁ u) (sys_state T' v) o c us ks n p b u v q refl refl (sym d ∙ y);
    }
