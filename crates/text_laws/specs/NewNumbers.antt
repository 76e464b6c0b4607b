-- The tables that a session reaches on the text of a book, and the numbers in them: a place for each number of the book.
use Rattle.std.specs.Prelude.{Bool, true, ◌≡◌, refl, ◌≤◌, ℕ, length}
use mathlib.Core.List.{List, [], map}
use Rattle.std.proofs.Math.Option.{Option, some}
use Rattle.std.proofs.Common.{◌∙◌}
use Rattle.std.proofs.Math.Path.{ap, subst}
use Rattle.model.specs.Book.{Book, Modules, Specs, components, facilities, has_version, implementation, is_module, provides, requires}
use Rattle.model.specs.Book.{specified, versions}
use Rattle.model.specs.Lists.{every}
use Rattle.model.specs.Maps.{has, is_some, or_else}
use Rattle.sets.specs.TestLaws.{<?_in, or_l}
use Rattle.text.specs.Bytes.{among}
use Rattle.text.specs.Handed.{Named, Once}
use Rattle.text.specs.Language.{Name}
use Rattle.text.specs.Session.{State}
use Rattle.text.specs.Tables.{Table, Tables, enter, fits, joined, mod_names, name_at, no_names, place, spec_names}
use Rattle.text.specs.Written.{as_commands, by_name, facility_names, mod_of, spec_of}
use Rattle.text_laws.specs.BookLaws.{implementation_module, provides_specified}
use Rattle.text_laws.specs.FourTables.{Kind, a_component, a_facility, a_version, all_fit, an_implementation, limit}
use Rattle.text_laws.specs.FourTables.{none_named, table}
use Rattle.text_laws.specs.Mentions.{EachName, all_pass, among-map, among_of, among_seg1, among_seg2, cs_lists}
use Rattle.text_laws.specs.Mentions.{entered_all, impl_some, li_lists, lp_lists, lq_lists, lv_lists, ms_lists, valid-some}
use Rattle.text_laws.specs.NamedGood.{NamedGood}
use Rattle.text_laws.specs.NewPlaces.{InBoth, TwoTables, at_through, new, old, renaming}
use Rattle.text_laws.specs.Numbered.{mentioned}
use Rattle.text_laws.specs.Places.{among_l, among_r, apart, enter_apart, enter_every, enter_has, known, known-fits}
use Rattle.text_laws.specs.Places.{place_of}
use Rattle.text_laws.specs.Renamed.{Renumbering, UsedC, UsedF, UsedI, UsedV, implementation_of, provided_by, required_by}
use Rattle.text_laws.specs.Renamed.{version_of}
use Rattle.text_laws.specs.Runs.{all_entered}
use Rattle.text_laws.specs.TextLaws.{among_names_in, every-among, every-none, same_refl}
use Rattle.model_laws.specs.Good.{Good, requires_version, version_specified}
use Rattle.model_laws.specs.MapLaws.{has_in, is_some_in}

module _ (st : State) (ok : NamedGood st) where
  abbrev b : Book
  b = st.book

  abbrev t : Tables
  t = st.tables

  abbrev g : Good b
  g = ok.good

  abbrev nm : Named st
  nm = ok.named

  abbrev S : Specs
  S = b.specs

  abbrev M : Modules
  M = b.modules

  -- each name in the book has a number below its limit
  known_names : EachName st ok (λ k. known (table k t) (limit k))
  unfolding known
  known_names = record {
    component = λ c e. has_in _ _ c (place_of _ nm.comps_once c (valid-some _ (nm.component c e)))
        (<?_in _ _ (g.spec_limits.component< c e));
    version = λ c v e. has_in _ _ v (place_of _ nm.vers_once v (valid-some _ (nm.version c v e)))
        (<?_in _ _ (g.spec_limits.version< c v e));
    provided = λ c f e. has_in _ _ f (place_of _ nm.facs_once f (valid-some _ (nm.provided c f e)))
        (<?_in _ _ (g.spec_limits.provided< c f e));
    required = λ c v f e. has_in _ _ f (place_of _ nm.facs_once f (valid-some _ (nm.required c v f e)))
        (<?_in _ _ (g.spec_limits.required< c v f e));
    implemented = λ c v i e. has_in _ _ i (place_of _ nm.impls_once i (impl_some _ (nm.implemented c v i e)))
        (<?_in _ _ (g.module_limits.implementation< c v i e).1);
  }

  unfoldable pub reached_tables : Tables
  reached_tables = all_entered no_names (as_commands b t)

  -- the names that the text mentions, of one kind
  abbrev names_of : Kind → List Name
  names_of k = joined (map (λ c. table k (mentioned c)) (as_commands b t))

  reached_at : (k : Kind) → table k reached_tables ≡ enter [] (names_of k)
  unfolding reached_tables
  reached_at k = entered_all k no_names (as_commands b t) ∙ ap (λ (z : Table). enter z (names_of k)) (none_named k)

  -- each name that is reached is known in the book's table, and no name twice
  all_known : (k : Kind) → every (known (table k t) (limit k)) (table k reached_tables) ≡ true
  all_known k = ap (every (known (table k t) (limit k))) (reached_at k)
      ∙ enter_every _ [] _ (every-none _) (all_pass st ok _ known_names k)

  all_apart : (k : Kind) → apart (table k reached_tables) ≡ true
  all_apart k = ap apart (reached_at k) ∙ enter_apart [] _ (unfold apart in refl)

  few : (k : Kind) → length (table k reached_tables) ≤ limit k
  few k = known-fits (table k t) (limit k) (table k reached_tables) (all_apart k) (all_known k)

  -- there is a place for each name
  pub reached_fits : fits reached_tables ≡ true
  reached_fits = all_fit reached_tables few

  -- ---- each number of the book has its name there

  into : (k : Kind) (w : Name) → among w (names_of k) ≡ true → among w (table k reached_tables) ≡ true
  into k w a = ap (among w) (reached_at k)
      ∙ every-among (λ x. among x (enter [] (names_of k))) (names_of k) w (enter_has [] (names_of k)) a

  mention_spec : (k : Kind) (w : Name) (c : ℕ) → specified S c ≡ true → among w (table k (mentioned (spec_of b t c))) ≡ true
      → among w (table k reached_tables) ≡ true
  unfolding as_commands
  mention_spec k w c e a = into k w (among_seg1 w (λ c. table k (mentioned c))
      (map (spec_of b t) (by_name t.comps components (specified S))) _
      (among_of w (λ c. table k (mentioned c)) (spec_of b t) _ c ((cs_lists st ok).each c ∙ e) a))

  mention_mod : (k : Kind) (w : Name) (c : ℕ) → is_module M c ≡ true → among w (table k (mentioned (mod_of b t c))) ≡ true
      → among w (table k reached_tables) ≡ true
  unfolding as_commands
  mention_mod k w c e a = into k w (among_seg2 w (λ c. table k (mentioned c))
      (map (spec_of b t) (by_name t.comps components (specified S))) _
      (among_seg1 w (λ c. table k (mentioned c)) (map (mod_of b t) (by_name t.comps components (is_module M))) _
      (among_of w (λ c. table k (mentioned c)) (mod_of b t) _ c ((ms_lists st ok).each c ∙ e) a)))

  has_c : (c : ℕ) → specified S c ≡ true → among (name_at t.comps c) reached_tables.comps ≡ true
  has_c c e = mention_spec a_component _ c e (here c)
    where
      here : (c : ℕ) → among (name_at t.comps c) (mentioned (spec_of b t c)).comps ≡ true
      here c = unfold mentioned spec_of spec_names among in or_l _ _ (same_refl (name_at t.comps c))

  has_v : (c v : ℕ) → has_version S c v ≡ true → among (name_at t.vers v) reached_tables.vers ≡ true
  has_v c v e = mention_spec a_version _ c (version_specified S c v e) here
    where
      here : among (name_at t.vers v) (mentioned (spec_of b t c)).vers ≡ true
      here = unfold mentioned spec_of spec_names in
          among-map (λ (x : Name × List Name). x.0) (λ v. (name_at t.vers v, facility_names t (requires S c v)))
          (by_name t.vers versions (has_version S c)) v ((lv_lists st ok c).each v ∙ e)

  has_p : (c f : ℕ) → provides S c f ≡ true → specified S c ≡ true → among (name_at t.facs f) reached_tables.facs ≡ true
  has_p c f e k = mention_spec a_facility _ c k here
    where
      here : among (name_at t.facs f) (mentioned (spec_of b t c)).facs ≡ true
      here = unfold mentioned spec_of spec_names in
          among_l _ (facility_names t (provides S c)) _ (unfold facility_names in
          among_names_in (name_at t.facs) (by_name t.facs facilities (provides S c)) f ((lp_lists st ok c).each f ∙ e))

  has_q : (c v f : ℕ) → requires S c v f ≡ true → has_version S c v ≡ true → among (name_at t.facs f) reached_tables.facs ≡ true
  has_q c v f e k = mention_spec a_facility _ c (version_specified S c v k) here
    where
      inner : among (name_at t.facs f) (facility_names t (requires S c v)) ≡ true
      inner = unfold facility_names in among_names_in (name_at t.facs) (by_name t.facs facilities (requires S c v)) f
          ((lq_lists st ok c v).each f ∙ e)

      here : among (name_at t.facs f) (mentioned (spec_of b t c)).facs ≡ true
      here = unfold mentioned spec_of spec_names in among_r _ (facility_names t (provides S c)) _
          (among_of _ (λ (x : Name × List Name). x.1) (λ v. (name_at t.vers v, facility_names t (requires S c v)))
          (by_name t.vers versions (has_version S c)) v ((lv_lists st ok c).each v ∙ k) inner)

  has_i : (c v i : ℕ) → implementation M c v ≡ some i → among (name_at t.impls i) reached_tables.impls ≡ true
  has_i c v i e = mention_mod an_implementation _ c (implementation_module M c v i e) here
    where
      h : ℕ → Name
      h v = name_at t.impls (or_else (implementation M c v) 0)

      at : h v ≡ name_at t.impls i
      at = unfold or_else in ap (λ (o : Option ℕ). name_at t.impls (or_else o 0)) e

      here : among (name_at t.impls i) (mentioned (mod_of b t c)).impls ≡ true
      here = unfold mentioned mod_of mod_names in
          subst (λ (w : Name). among w (map (λ (x : Name × Name). x.1)
          (map (λ v. (name_at t.vers v, h v)) (by_name t.vers versions (λ v. is_some (implementation M c v))))) ≡ true) at
          (among-map (λ (x : Name × Name). x.1) (λ v. (name_at t.vers v, h v))
          (by_name t.vers versions (λ v. is_some (implementation M c v))) v ((li_lists st ok c).each v ∙ is_some_in _ e))

  -- ---- from the book's numbers to the session's

  -- what is used, of one kind
  abbrev Used : Kind → ℕ → Type 0
  Used a_component = UsedC S
  Used a_version = UsedV S
  Used a_facility = UsedF S
  Used an_implementation = UsedI M

  once_at : (k : Kind) → Once (table k t)
  once_at a_component = nm.comps_once
  once_at a_version = nm.vers_once
  once_at a_facility = nm.facs_once
  once_at an_implementation = nm.impls_once

  used_at : (k : Kind) (n : ℕ) → Used k n → InBoth (table k t) (table k reached_tables) (limit k) n
  used_at a_component c e = record {
    small = g.spec_limits.component< c e;
    named = valid-some _ (nm.component c e);
    there = has_c c e;
  }
  used_at a_version v (version_of c e) = record {
    small = g.spec_limits.version< c v e;
    named = valid-some _ (nm.version c v e);
    there = has_v c v e;
  }
  used_at a_facility f (provided_by c e) = record {
    small = g.spec_limits.provided< c f e;
    named = valid-some _ (nm.provided c f e);
    there = has_p c f e (provides_specified S c f e);
  }
  used_at a_facility f (required_by c v e) = record {
    small = g.spec_limits.required< c v f e;
    named = valid-some _ (nm.required c v f e);
    there = has_q c v f e (requires_version S c v f e);
  }
  used_at an_implementation i (implementation_of c v e) = record {
    small = (g.module_limits.implementation< c v i e).1;
    named = impl_some _ (nm.implemented c v i e);
    there = has_i c v i e;
  }

  pub two : (k : Kind) → TwoTables (table k t) (table k reached_tables) (limit k) (Used k)
  two k = record { once = once_at k; different = all_apart k; short = few k; used = used_at k }

  -- from new numbers to old, and from old to new
  abbrev pub old_of : Kind → ℕ → ℕ
  old_of k = old (table k t) (table k reached_tables) (limit k)

  abbrev pub new_of : Kind → ℕ → ℕ
  new_of k = new (table k t) (table k reached_tables)

  abbrev pub renumbering : Renumbering S M
  renumbering = record {
    old_c = old_of a_component;
    new_c = new_of a_component;
    old_v = old_of a_version;
    new_v = new_of a_version;
    old_f = old_of a_facility;
    new_f = new_of a_facility;
    old_i = old_of an_implementation;
    new_i = new_of an_implementation;
    of_c = renaming (two a_component);
    of_v = renaming (two a_version);
    of_f = renaming (two a_facility);
    of_i = renaming (two an_implementation);
  }

  -- a test at a name's number, in the session and in the book
  pub at_kind : (k : Kind) (w : Name) (P P' : ℕ → Bool) → ((m : ℕ) → P' m ≡ P (old_of k m)) → ((n : ℕ) → P n ≡ true → Used k n)
      → has (place (table k reached_tables) w) P' ≡ has (place (table k t) w) P
  at_kind k = at_through (two k)
