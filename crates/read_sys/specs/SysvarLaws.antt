-- "sysvar" read whole.
use Rattle.std.specs.Prelude.{Bool, Option as Found, Some, ◌≡◌, is_some, option_map, refl, true, ℕ}
use Rattle.std.proofs.Common.{◌∙◌, ap, sym}
use Rattle.model.specs.Book.{components, versions}
use Rattle.model.specs.Commands.{ADD-SYSVAR, Members}
use Rattle.model.specs.Maps as there
use Rattle.names.specs.Stored.{Rows, table_of, tables_of}
use Rattle.command_lists.specs.Gathered.{Gathered, mapped, nothing}
use Rattle.command_lists.specs.Views.{composition_view, view}
use Rattle.command_lists.specs.declared.gathered.Gathered.{Gathered as Kept}
use Rattle.sets.specs.Answered.{answered}
use Rattle.sets.specs.Tests.{◌&◌}
use Rattle.text.specs.Language.{Name, NamedMembers, SYSVAR}
use Rattle.text.specs.Tables.{Table, Tables, numbered_members, sysvar_names, sysvar_numbered}
use Rattle.read_tokens.specs.BothLaws.{both_out, both_there, map_there}
use Rattle.read_tokens.specs.Entering.{four}
use Rattle.read_tokens.specs.Growth.{Grows, joint}
use Rattle.read_tokens.specs.GrowthLaws.{grows_on, grows_room, grows_tables, grows_then, longer_same, tables_within}
use Rattle.read_tokens.specs.Requested.{PairEnters, SysvarAsked, SysvarAsks}
use Rattle.read_tokens.specs.Steps.{Each}
use Rattle.read_tokens.specs.declared.Pair.{Pair}
use Rattle.read_tokens.specs.declared.PairTables.{PairTables}
use Rattle.read_tokens.specs.declared.SysvarRequest.{SysvarRequest}
use Rattle.read_mod.specs.PairLaws.{pair_grows, pair_numbers}
use Rattle.read_sys.specs.MemberLaws.{members_are, members_grow}
use Rattle.read_sys.specs.MemberSteps.{MemberState, MemberStep, member_start, member_state, sysvar_made}

-- no member yet
pub members_start : (t : PairTables) (g : Kept (Found ℕ) 32) → view g ≡ nothing
    → member_state t (Some g) ≡ member_start (table_of components t.comps.table.rows) (table_of versions t.vers.table.rows)
unfolding member_state member_start composition_view mapped there.option_map
members_start t g e =
    ap (λ (z : Gathered (Found ℕ)). record {
      comps = table_of components t.comps.table.rows;
      vers = table_of versions t.vers.table.rows;
      members = Some (mapped answered z);
    }) e

module _ (t : Tables) (c v : Table) (s : MemberState) (p : Found Pair) (x : Name × Name) (ms : NamedMembers)
    (e : PairEnters t.comps c t.vers v p x) (b : Each MemberStep (member_start c v) s ms) where
  abbrev after : Tables
  after = record { comps = s.comps; vers = s.vers; facs = t.facs; impls = t.impls }

  sysvar_grows : Grows t after true (is_some p & is_some s.members) (sysvar_names x.0 x.1 ms)
  unfolding sysvar_names member_start joint ◌&◌
  sysvar_grows =
      grows_then _ _ _ _ _ _ _ _ (pair_grows t c v p x e)
      (grows_on _ _ (is_some p) true _ _ refl (members_grow t.facs t.impls (member_start c v) s ms b))

  sysvar_asks : (m : Found (Kept (Found ℕ) 32)) (q : SysvarRequest) → s.members ≡ option_map composition_view m → sysvar_made p m ≡ Some q
      → SysvarAsks (sysvar_numbered after x.0 x.1 ms) q
  unfolding sysvar_made sysvar_numbered numbered_members
  sysvar_asks m q i y =
      let o = both_out _ p m y in
      let d = pair_numbers t.comps c t.vers v p o.0 x e o.2 in
      let all = members_are c v s (composition_view o.1) ms b (i ∙ ap (option_map composition_view) o.3) in
      record {
        list = all.values;
        is = numbered _ _ _ _ _ _
            (d.0 s.comps all.comps ∙ ap (λ (r : SysvarRequest). r.component) o.4)
            (d.1 s.vers all.vers ∙ ap (λ (r : SysvarRequest). r.version) o.4)
            (all.are after (longer_same _) (longer_same _));
        composition = ap (λ (r : SysvarRequest). composition_view r.composition) (sym o.4) ∙ all.is;
      }
    where
      numbered : (c c' v v' : ℕ) (l l' : Members) → c ≡ c' → v ≡ v' → l ≡ l' → ADD-SYSVAR c v l ≡ ADD-SYSVAR c' v' l'
      numbered c c' v v' l l' d e f = rw (d, e, f)

made_there : (p : Found Pair) (m : Found (Kept (Found ℕ) 32)) → is_some (sysvar_made p m) ≡ (is_some p & is_some m)
unfolding sysvar_made
made_there p m = both_there _ p m

pub sysvar_asked : (T T₁ T' : PairTables) (p : Found Pair) (m : Found (Kept (Found ℕ) 32)) (r : Found SysvarRequest)
    {x : Name × Name} {ms : NamedMembers} (f i : Rows)
    → PairEnters (table_of components T.comps.table.rows) (table_of components T₁.comps.table.rows) (table_of versions T.vers.table.rows)
    (table_of versions T₁.vers.table.rows) p x
    → Each MemberStep (member_start (table_of components T₁.comps.table.rows) (table_of versions T₁.vers.table.rows)) (member_state T' m) ms
    → r ≡ sysvar_made p m → SysvarAsked (four T f i) (four T' f i) r (SYSVAR x.0 x.1 ms)
unfolding tables_of member_state
sysvar_asked T T₁ T' p m r {x} {ms} f i e b d =
    let c = table_of components T₁.comps.table.rows in let v = table_of versions T₁.vers.table.rows in
    let g = sysvar_grows (four T f i) c v (member_state T' m) p x ms e b in
    let j = ap is_some d ∙ made_there p m ∙ ap (λ (z : Bool). is_some p & z) (sym (map_there composition_view m)) in
    record {
      c = x.0;
      v = x.1;
      ms = ms;
      said = refl;
      room = j ∙ grows_room _ _ _ _ (tables_within _ _ _ _) g;
      tables = λ y. grows_tables _ _ _ _ (tables_within _ _ _ _) g (sym j ∙ y);
      asks = λ q y. sysvar_asks (four T f i) c v (member_state T' m) p x ms e b m q refl (sym d ∙ y);
    }
