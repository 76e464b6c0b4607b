-- "spec" read whole.
use Rattle.std.specs.Prelude.{Bool, List, [], Option, Some, ◌∷◌, map, ◌≡◌, ℕ, drop, is_some, option_map}
use Rattle.std.proofs.Math.Bool.{true}
use mathlib.Core.List.{map-map}
use Rattle.std.proofs.Common.{◌∙◌, ap₂}
use Rattle.std.proofs.Math.Path.{ap, refl, subst, sym}
use Rattle.model.specs.Book.{components, facilities, versions}
use Rattle.model.specs.Commands.{ADD-SPEC}
use Rattle.model.specs.Lists.{set_of}
use Rattle.model.specs.Questions.{each_below}
use Rattle.names.specs.Stored.{Rows, table_of, tables_of}
use Rattle.command_lists.specs.Gathered.{Gathered, gather, nothing}
use Rattle.command_lists.specs.Said.{always, sets_of, sets_step}
use Rattle.command_lists.specs.Views.{sets_view}
use Rattle.sets.specs.Sets.{Set, bit}
use Rattle.sets.specs.TestLaws.{and_absorb}
use Rattle.sets.specs.Tests.{◌&◌}
use Rattle.text.specs.Bytes.{bytes, keywords}
use Rattle.text.specs.Language.{Name, Reader as Production, SPEC, Said, ◌>>=◌, ◌>>◌, give, key, list_of, semicolon, spec_version}
use Rattle.text.specs.Language.{standards, the_one, want}
use Rattle.text.specs.Tables.{Table, Tables, name_at, number, numbers, spec_names, spec_numbered}
use Rattle.read_tokens.specs.BothLaws.{both_out, both_there, map_there, some_same, zip_out, zip_there}
use Rattle.read_tokens.specs.Entering.{Enters, both}
use Rattle.read_tokens.specs.FacilityLaws.{facilities_are, facilities_grow, only_facs}
use Rattle.read_tokens.specs.Growth.{Grows, Within, fold_on, joint}
use Rattle.read_tokens.specs.GrowthLaws.{enters_number, grows_comp, grows_on, grows_room, grows_tables, grows_then, longer_none, longer_same}
use Rattle.read_tokens.specs.GrowthLaws.{tables_within}
use Rattle.read_tokens.specs.Readers.{Any, key_at}
use Rattle.read_tokens.specs.Requested.{SpecAsked, SpecAsks}
use Rattle.read_tokens.specs.SequenceLaws.{Lacks, Read, as_named, lacking, not_named}
use Rattle.read_tokens.specs.Steps.{Each, FacilityStep, facility_start, facility_state}
use Rattle.read_tokens.specs.declared.SpecRequest.{SpecRequest}
use Rattle.read_tokens.specs.declared.reader.Reader.{Reader}
use Rattle.read_spec.specs.Asked.{BodyRead, Sets, SpecState, made, spec_body, spec_start, spec_state}
use Rattle.read_spec.specs.ReaderLaws.{bind_bind, bind_same, give_bind, then_bind, then_same}
use Rattle.read_spec.specs.SpecLaws.{Version, spec_all, spec_grows, spec_mentions}
use Rattle.read_spec.specs.StandardLaws.{Carries, StandardIs, once_same, standard_is}

-- ---- what is read

provides_key : key_at 12 ≡ key "provides"
unfolding key_at key name_at keywords bytes
provides_key = refl

pub provides_read : (r s : Reader) → Read (want (key_at 12)) Any r s → Read (want (key "provides")) Any r s
provides_read r s g = as_named provides_key r s g

pub provides_lacks : (r : Reader) → Lacks (want (key_at 12)) r → Lacks (want (key "provides")) r
provides_lacks r n = not_named provides_key r n

-- nothing is given where one of the productions lacks
pub ruleset lacking_provides = (lacking, provides_read, provides_lacks)

-- the rest of the production, given by the reader of the versions
abbrev pub rest : Name → List Name → Production Said
rest c ps = list_of semicolon spec_version
    >>= (λ vs. want (key "end") >> (the_one (standards vs) >>= (λ s. give (SPEC c ps (map (λ v. v.1) vs) s))))

abbrev pub by_body : Name → List Name → Production Said
by_body c ps = spec_body >>= (λ x. give (SPEC c ps (map (λ v. v.1) x.0) x.1))

rest_body : (c : Name) (ps : List Name) (u : List ℕ) → rest c ps u ≡ by_body c ps u
unfolding spec_body
rest_body c ps u = sym (bind_bind (list_of semicolon spec_version) _ _ u ∙ bind_same (list_of semicolon spec_version) _ _ (λ vs v.
    then_bind (want (key "end")) _ _ v ∙ then_same (want (key "end")) _ _ (λ w.
    bind_bind (the_one (standards vs)) _ _ w ∙ bind_same (the_one (standards vs)) _ _ (λ s x. give_bind (vs, s) _ x) w) v) u)

module _ (c : Name) (ps : List Name) (r : Reader) where
  pub rest_lacks : Lacks (by_body c ps) r → Lacks (rest c ps) r
  rest_lacks n = rest_body c ps (drop r.at r.text.now) ∙ n

  pub rest_read : (z : Reader) {Q : Said → Type 0} → Read (by_body c ps) Q r z → Read (rest c ps) Q r z
  rest_read z g = (
    record {
      value = g.0.value;
      is = rest_body c ps (drop r.at r.text.now) ∙ g.0.is;
      took = g.0.took;
      from = g.0.from;
      inside = g.0.inside;
    },
    g.1,
  )

-- ---- what it asks for

gather_fold : (g : Gathered Set) (xs : List (ℕ × List ℕ)) → fold_on sets_step g xs ≡ gather versions (each_below facilities) always always set_of g xs
unfolding fold_on gather sets_step
gather_fold g [] = refl
gather_fold g (x ∷ xs) = gather_fold (sets_step g x) xs

-- the tables t; the component c, the facilities ps, and the versions xs with the standard version w, read one after the other
module _ (t : Tables) (k : Within t) (comps' facs₁ : Table) (v f : Rows) (oc op : Option ℕ) (ob : Option (Sets × ℕ))
    (c : Name) (ps : List Name) (xs : List Version) (w : Name) (n : Enters components t.comps comps' oc c)
    (p : Each FacilityStep (facility_start t.facs) (facs₁, option_map bit op) ps)
    (b : BodyRead (spec_start t.vers facs₁) v f ob (xs, w)) where
  abbrev vs : List (Name × List Name)
  vs = map (λ x. x.1) xs

  abbrev s' : SpecState
  s' = spec_state v f b.last

  abbrev after : Tables
  after = record { comps = comps'; vers = table_of versions v; facs = table_of facilities f; impls = t.impls }

  carries : Carries s' b.standard w
  carries =
      let is = standard_is (spec_start t.vers facs₁) s' xs b.steps (unfold spec_start in refl) in
      let s : (o : Option ℕ) × Carries s' o w = subst (StandardIs s') b.one is in
      subst (λ (o : Option ℕ). Carries s' o w) (once_same (sym s.1.once ∙ (unfold spec_state in b.once))) s.1

  -- the request is there where each name found a place
  there : (r : Option SpecRequest) → r ≡ made oc op ob → is_some r ≡ ((is_some oc & is_some (option_map bit op)) & is_some s'.sets)
  unfolding made spec_state
  there r q =
      ap is_some q ∙ both_there _ (both _ oc op) ob
      ∙ ap₂ ◌&◌ (both_there _ oc op ∙ ap (λ (x : Bool). is_some oc & x) (sym (map_there bit op)))
      (ap is_some b.body ∙ zip_there b.last.sets b.standard
      ∙ ap (λ (x : Bool). x & is_some b.standard) (sym (map_there sets_view b.last.sets))
      ∙ and_absorb (is_some s'.sets) (is_some b.standard) carries.there)

  grow : Grows t after true ((is_some oc & is_some (option_map bit op)) & is_some s'.sets) (spec_names c ps vs)
  unfolding ◌&◌ joint spec_names facility_start spec_start spec_state
  grow =
      let t₁ : Tables = record { comps = comps'; vers = t.vers; facs = t.facs; impls = t.impls } in
      let t₂ : Tables = record { comps = comps'; vers = t.vers; facs = facs₁; impls = t.impls } in
      let a : Bool = is_some oc in let d : Bool = a & is_some (option_map bit op) in
      let one : Tables = record { comps = c ∷ []; vers = []; facs = []; impls = [] } in
      grows_then t t₂ after true d (d & is_some s'.sets) (joint one (only_facs ps)) (spec_mentions vs)
      (grows_then t t₁ t₂ true a d one (only_facs ps) (grows_comp t true comps' oc c n)
      (grows_on t₁ t₂ a _ _ (only_facs ps) refl (facilities_grow t₁ (facility_start t.facs) (facs₁, option_map bit op) ps p)))
      (grows_on t₂ after d _ _ (spec_mentions vs) refl (spec_grows t₂ (spec_start t.vers facs₁) s' xs b.steps))

  asks : (r : Option SpecRequest) → r ≡ made oc op ob → (q : SpecRequest) → r ≡ Some q → SpecAsks (spec_numbered after c ps vs w) q
  unfolding made
  asks r e q y =
      let m = both_out _ (both _ oc op) ob (sym e ∙ y) in
      let h = both_out _ oc op m.2 in
      let g = zip_out b.last.sets b.standard (sym b.body ∙ m.3) in
      subst (SpecAsks (spec_numbered after c ps vs w))
      (ap₂ (λ (x : ℕ × ℕ) (z : Sets × ℕ). record { component = x.0; provided = x.1; versions = z.0; standard = z.1 }) h.4 g.4 ∙ m.4)
      (asked h.0 h.1 g.0 g.1 h.2 h.3 g.2 g.3)
    where
      numbered : (k k' : ℕ) (l l' : List ℕ) (m m' : List (ℕ × List ℕ)) (j j' : ℕ) → k ≡ k' → l ≡ l' → m ≡ m' → j ≡ j'
          → ADD-SPEC k l m j ≡ ADD-SPEC k' l' m' j'
      numbered k k' l l' m m' j j' e f g h = rw (e, f, g, h)

      asked : (k set : ℕ) (a : Sets) (j : ℕ) → oc ≡ Some k → op ≡ Some set → b.last.sets ≡ Some a → b.standard ≡ Some j
          → SpecAsks (spec_numbered after c ps vs w) (record { component = k; provided = set; versions = a; standard = j })
      asked k set a j ek es ea ej =
          unfold spec_numbered spec_start spec_state sets_of numbers in
          let all = spec_all (spec_start t.vers facs₁) s' xs (sets_view a) b.steps (ap (option_map sets_view) ea) in
          let fs = facilities_are t.facs (facs₁, option_map bit op) (bit set) ps p (ap (option_map bit) es) in
          record {
            facs = fs.values;
            list = all.values;
            is = numbered _ _ _ _ _ _ _ _
                (enters_number components t.comps comps' oc c n k ek comps' (longer_same comps'))
                (fs.are s'.facs all.later.facs)
                (map-map (λ (x : Name × List Name). (number s'.vers x.0, numbers s'.facs x.1)) (λ (x : Version). x.1) xs
                ∙ all.are after (record { comps = longer_none _; vers = longer_same _; facs = longer_same _; impls = longer_none _ }))
                (carries.number_is j ej s'.vers (longer_same s'.vers));
            below = fs.below;
            provided = fs.set_is;
            versions = all.add ∙ ap (λ (z : Gathered Set). fold_on sets_step z all.values) (sym (some_same all.was)) ∙ gather_fold nothing all.values;
          }

pub spec_asked : (C C' W F F₁ v f : Rows) (oc op : Option ℕ) (ob : Option (Sets × ℕ)) (r : Option SpecRequest) {c : Name} {ps : List Name}
    {x : List Version × Name} → Enters components (table_of components C) (table_of components C') oc c
    → Each FacilityStep (facility_start (table_of facilities F)) (facility_state F₁ op) ps
    → BodyRead (spec_start (table_of versions W) (table_of facilities F₁)) v f ob x → r ≡ made oc op ob
    → (i : Rows) → SpecAsked (tables_of C W F i) (tables_of C' v f i) r (SPEC c ps (map (λ v. v.1) x.0) x.1)
unfolding tables_of facility_state
spec_asked C C' W F F₁ v f oc op ob r {c = c} {ps = ps} {x = x} n p b e i =
    let t : Tables = tables_of C W F i in
    let C'' : Table = table_of components C' in let F'' : Table = table_of facilities F₁ in
    let q = there t (tables_within C W F i) C'' F'' v f oc op ob c ps x.0 x.1 n p b r e in
    let g = grow t (tables_within C W F i) C'' F'' v f oc op ob c ps x.0 x.1 n p b in
    record {
      c = c;
      ps = ps;
      vs = map (λ z. z.1) x.0;
      s = x.1;
      is = refl;
      room = q ∙ grows_room t _ _ _ (tables_within C W F i) g;
      tables = λ y. grows_tables t _ _ _ (tables_within C W F i) g (sym q ∙ y);
      asks = asks t (tables_within C W F i) C'' F'' v f oc op ob c ps x.0 x.1 n p b r e;
    }
