-- "mod": versions with their implementations.
use Rattle.std.specs.Prelude.{Bool, List, Option, Some, [], ◌∷◌, ◌≡◌, is_some, map, option_map, refl, true, ℕ}
use Rattle.std.proofs.Common.{◌∙◌, ap, ap₂, subst, sym}
use Rattle.model.specs.Book.{components, implementations, versions}
use Rattle.model.specs.Commands.{ADD-MOD}
use Rattle.model.specs.Maps as there
use Rattle.book.specs.Plain.{byte}
use Rattle.names.specs.Stored.{Rows, table_of, tables_of}
use Rattle.command_lists.specs.Gathered.{Gathered, gather, mapped, nothing}
use Rattle.command_lists.specs.Said.{always, is_implementation, itself, numbers_of, numbers_step}
use Rattle.command_lists.specs.Views.{numbers_view, view}
use Rattle.command_lists.specs.declared.gathered.Gathered.{Gathered as Kept}
use Rattle.sets.specs.Tests.{◌&◌}
use Rattle.text.specs.Bytes.{bytes, keywords}
use Rattle.text.specs.Language.{MOD, Name, Reader as Production, ◌>>◌, key, want}
use Rattle.text.specs.Tables.{Table, Tables, mod_names, mod_numbered, name_at, number}
use Rattle.read_tokens.specs.BothLaws.{both_out, both_there, map_there, some_same}
use Rattle.read_tokens.specs.Entering.{Enters, both}
use Rattle.read_tokens.specs.Growth.{Grows, NumberedAll, fold_on, joint, mentioned}
use Rattle.read_tokens.specs.GrowthLaws.{enters_longer, enters_number, grows_comp, grows_each, grows_impl, grows_on, grows_room, grows_tables}
use Rattle.read_tokens.specs.GrowthLaws.{grows_then, grows_ver, longer_none, longer_same, numbered_all, tables_within}
use Rattle.read_tokens.specs.Readers.{Any, key_at}
use Rattle.read_tokens.specs.Requested.{ModAsked, ModAsks}
use Rattle.read_tokens.specs.SequenceLaws.{Lacks, Read, as_named, behind_lacks, lacking, not_named}
use Rattle.read_tokens.specs.Steps.{Each}
use Rattle.read_tokens.specs.declared.ModRequest.{ModRequest}
use Rattle.read_tokens.specs.declared.reader.Reader.{Reader}
use Rattle.read_mod.specs.ModSteps.{ModState, ModStep, add_number, mod_made, mod_start, mod_state}

impl_key : key_at 17 ≡ key "impl"
unfolding key_at key name_at keywords bytes
impl_key = refl

pub impl_read : (r s : Reader) → Read (want (key_at 17)) Any r s → Read (want (key "impl")) Any r s
impl_read r s g = as_named impl_key r s g

pub behind_impl : {B : Type 0} (q : Production B) (r s : Reader) → Read (want (key_at 17)) Any r s → Lacks q s → Lacks (want (key "impl") >> q) r
behind_impl q r s g n = behind_lacks r s (impl_read r s g) q n

pub impl_lacks : (r : Reader) → Lacks (want (key_at 17)) r → Lacks (want (key "impl")) r
impl_lacks r n = not_named impl_key r n

pub ruleset lacking_impl = (lacking, impl_lacks, behind_impl)

-- ---- the tables, and whether each name found a place

-- an entry's names
abbrev mod_mentions : Name × Name → Tables
mod_mentions x = record { comps = []; vers = x.0 ∷ []; facs = []; impls = x.1 ∷ [] }

one_by_one : (xs : List (Name × Name)) → mentioned mod_mentions xs
    ≡ record { comps = []; vers = map (λ x. x.0) xs; facs = []; impls = map (λ x. x.1) xs }
unfolding mentioned joint
one_by_one [] = refl
one_by_one (x ∷ xs) = ap (λ m. joint (mod_mentions x) m) (one_by_one xs)

module _ (c f : Table) where
  -- the tables of a state, with those that no entry changes
  abbrev world : ModState → Tables
  world s = record { comps = c; vers = s.vers; facs = f; impls = s.impls }

  step_grows : (s s' : ModState) (x : Name × Name) → ModStep s s' x
      → Grows (world s) (world s') (is_some s.numbers) (is_some s'.numbers) (mod_mentions x)
  unfolding joint ◌&◌ add_number
  step_grows s s' x p =
      let a = grows_ver (world s) true s'.vers p.place x.0 p.enters in
      let b = grows_impl (record { comps = c; vers = s'.vers; facs = f; impls = s.impls }) (is_some p.place) s'.impls p.impl x.1 p.impl_enters in
      let g = grows_on _ _ (is_some s.numbers) true _ _ refl (grows_then _ _ _ _ _ _ _ _ a b) in
      let e = ap is_some p.numbers ∙ both_there numbers_step s.numbers (both (λ k j. (k, j)) p.place p.impl)
      ∙ ap (λ (z : Bool). is_some s.numbers & z) (both_there (λ k j. (k, j)) p.place p.impl) in
      subst (λ (r : Bool). Grows (world s) (world s') (is_some s.numbers) r (mod_mentions x)) (sym e) g

  pub versions_grow : (s s' : ModState) (xs : List (Name × Name)) → Each ModStep s s' xs
      → Grows (world s) (world s') (is_some s.numbers) (is_some s'.numbers)
      (record { comps = []; vers = map (λ x. x.0) xs; facs = []; impls = map (λ x. x.1) xs })
  versions_grow s s' xs e =
      subst (Grows (world s) (world s') (is_some s.numbers) (is_some s'.numbers)) (one_by_one xs)
      (grows_each ModStep world (λ s. is_some s.numbers) mod_mentions step_grows s s' xs e)

-- ---- the numbers

abbrev mod_tables : ModState → Tables
mod_tables s = world [] [] s

abbrev mod_num : Tables → Name × Name → ℕ × ℕ
mod_num u x = (number u.vers x.0, number u.impls x.1)

versions_numbered : (s s' : ModState) (xs : List (Name × Name)) (g : Gathered ℕ) → Each ModStep s s' xs → s'.numbers ≡ Some g
    → NumberedAll mod_tables (λ s. s.numbers) mod_num numbers_step (λ y. true) s s' xs g
unfolding add_number
versions_numbered s s' xs g e y = numbered_all ModStep mod_tables (λ s. s.numbers) mod_num numbers_step (λ y. true) (λ s s' x h f o.
    (let a = both_out numbers_step s.numbers (both (λ k j. (k, j)) f.place f.impl) (sym f.numbers ∙ o) in
    let b = both_out (λ k j. (k, j)) f.place f.impl a.3 in
    record {
      before = a.0;
      was = a.2;
      value = (b.0, b.1);
      is = λ u l. ap₂ (λ (k j : ℕ). (k, j)) (enters_number versions s.vers s'.vers f.place x.0 f.enters b.0 b.2 u.vers l.vers)
          (enters_number implementations s.impls s'.impls f.impl x.1 f.impl_enters b.1 b.3 u.impls l.impls);
      passes = refl;
      adds = sym a.4 ∙ ap (numbers_step a.0) (sym b.4);
      later = record {
        comps = longer_none _;
        vers = enters_longer versions s.vers s'.vers f.place x.0 f.enters;
        facs = longer_none _;
        impls = enters_longer implementations s.impls s'.impls f.impl x.1 f.impl_enters;
      };
    })) s s' xs g e y

gather_fold : (g : Gathered ℕ) (xs : List (ℕ × ℕ)) → fold_on numbers_step g xs ≡ gather versions is_implementation always always itself g xs
unfolding fold_on gather numbers_step
gather_fold g [] = refl
gather_fold g (x ∷ xs) = gather_fold (numbers_step g x) xs

-- ---- what it asks for

module _ (t : Tables) (comps' : Table) (s' : ModState) (o : Option ℕ) (c : Name) (xs : List (Name × Name))
    (n : Enters components t.comps comps' o c) (b : Each ModStep (mod_start t.vers t.impls) s' xs) where
  abbrev after : Tables
  after = record { comps = comps'; vers = s'.vers; facs = t.facs; impls = s'.impls }

  mod_grows : Grows t after true (is_some o & is_some s'.numbers) (mod_names c xs)
  unfolding mod_names mod_start joint ◌&◌
  mod_grows =
      let a = grows_comp t true comps' o c n in
      let v = versions_grow comps' t.facs (mod_start t.vers t.impls) s' xs b in
      grows_then _ _ _ _ _ _ _ _ a (grows_on _ _ (is_some o) true _ _ refl v)

  mod_asks : (v : Option (Kept ℕ 64)) (q : ModRequest) → s'.numbers ≡ option_map numbers_view v → mod_made o v ≡ Some q
      → ModAsks (mod_numbered after c xs) q
  unfolding mod_made mod_numbered numbers_of mod_start
  mod_asks v q i e =
      let m = both_out (λ k g. record { component = k; versions = g }) o v e in
      let all = versions_numbered (mod_start t.vers t.impls) s' xs (numbers_view m.1) b (i ∙ ap (option_map numbers_view) m.3) in
      record {
        list = all.values;
        is = ap₂ ADD-MOD
            (enters_number components t.comps comps' o c n m.0 m.2 comps' (longer_same comps') ∙ ap (λ (r : ModRequest). r.component) m.4)
            (all.are after (record { comps = longer_none _; vers = longer_same _; facs = longer_none _; impls = longer_same _ }));
        versions = ap (λ (r : ModRequest). numbers_view r.versions) (sym m.4) ∙ all.add
            ∙ ap (λ (g : Gathered ℕ). fold_on numbers_step g all.values) (sym (some_same all.was)) ∙ gather_fold nothing all.values;
      }

made_there : (o : Option ℕ) (v : Option (Kept ℕ 64)) → is_some (mod_made o v) ≡ (is_some o & is_some v)
unfolding mod_made
made_there o v = both_there (λ k g. record { component = k; versions = g }) o v

none_yet : (g : Kept ℕ 64) → view g ≡ nothing → numbers_view g ≡ nothing
unfolding numbers_view mapped there.option_map
none_yet g e = ap (mapped byte) e

pub mod_asked : (C C' W W' I I' : Rows) (start : Kept ℕ 64) (v : Option (Kept ℕ 64)) (r : Option ModRequest) {o : Option ℕ} {c : Name}
    {xs : List (Name × Name)} (f : Rows) → view start ≡ nothing → Enters components (table_of components C) (table_of components C') o c
    → Each ModStep (mod_state W I (Some start)) (mod_state W' I' v) xs → r ≡ mod_made o v
    → ModAsked (tables_of C W f I) (tables_of C' W' f I') r (MOD c xs)
unfolding mod_state mod_start tables_of
mod_asked C C' W W' I I' start v r {o} {c} {xs} f b n h d =
    let s = mod_state W' I' v in
    let begun : Gathered ℕ → ModState = λ z. record { vers = table_of versions W; impls = table_of implementations I; numbers = Some z } in
    let h' = subst (λ (z : Gathered ℕ). Each ModStep (begun z) s xs) (none_yet start b) h in
    let g = mod_grows (tables_of C W f I) (table_of components C') s o c xs n h' in
    let e = ap is_some d ∙ made_there o v ∙ ap (λ (z : Bool). is_some o & z) (sym (map_there numbers_view v)) in
    record {
      c = c;
      is = xs;
      said = refl;
      room = e ∙ grows_room _ _ _ _ (tables_within _ _ _ _) g;
      tables = λ y. grows_tables _ _ _ _ (tables_within _ _ _ _) g (sym e ∙ y);
      asks = λ q y. mod_asks (tables_of C W f I) (table_of components C') s o c xs n h' v q refl (sym d ∙ y);
    }
