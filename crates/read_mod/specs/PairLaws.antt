-- "modvar": a component with a version, the facilities that it requires, and its implementation.
use Rattle.std.specs.Prelude.{Bool, List, Option, Some, [], ◌∷◌, ◌≡◌, is_some, option_map, refl, true, ℕ}
use Rattle.std.proofs.Common.{◌∙◌, ap, subst, sym}
use Rattle.model.specs.Book.{components, facilities, implementations, versions}
use Rattle.model.specs.Commands.{ADD-MODVAR}
use Rattle.names.specs.Stored.{Rows, table_of, tables_of}
use Rattle.sets.specs.Sets.{bit}
use Rattle.sets.specs.Tests.{◌&◌}
use Rattle.text.specs.Language.{MODVAR, Name}
use Rattle.text.specs.Tables.{Table, Tables, modvar_names, modvar_numbered, number}
use Rattle.read_tokens.specs.BothLaws.{both_out, both_there, map_there}
use Rattle.read_tokens.specs.Entering.{Enters, both}
use Rattle.read_tokens.specs.FacilityLaws.{facilities_are, facilities_grow}
use Rattle.read_tokens.specs.Growth.{Grows, Longer, joint}
use Rattle.read_tokens.specs.GrowthLaws.{enters_number, grows_comp, grows_impl, grows_on, grows_room, grows_tables, grows_then, grows_ver}
use Rattle.read_tokens.specs.GrowthLaws.{longer_same, tables_within}
use Rattle.read_tokens.specs.Requested.{ModvarAsked, ModvarAsks, PairEnters}
use Rattle.read_tokens.specs.Steps.{Each, Facilities, FacilityStep, facility_start, facility_state}
use Rattle.read_tokens.specs.declared.ModvarRequest.{ModvarRequest}
use Rattle.read_tokens.specs.declared.Pair.{Pair}
use Rattle.read_mod.specs.ModSteps.{modvar_made, pair_made}

-- ---- cn "." vn

pub pair_entered : {c c' v v' : Table} {k j : Option ℕ} {x y : Name} {p : Option Pair} → Enters components c c' k x → Enters versions v v' j y
    → p ≡ pair_made k j → PairEnters c c' v v' p (x, y)
unfolding pair_made
pair_entered {k = k} {j = j} e f q = record { component = k; comps = e; version = j; vers = f; pair = q }

-- a pair's names put into the tables
pub pair_grows : (t : Tables) (c v : Table) (p : Option Pair) (x : Name × Name) → PairEnters t.comps c t.vers v p x
    → Grows t (record { comps = c; vers = v; facs = t.facs; impls = t.impls }) true (is_some p)
    (record { comps = x.0 ∷ []; vers = x.1 ∷ []; facs = []; impls = [] })
unfolding joint ◌&◌
pair_grows t c v p x e =
    let a = grows_comp t true c e.component x.0 e.comps in
    let b = grows_ver (record { comps = c; vers = t.vers; facs = t.facs; impls = t.impls }) (is_some e.component) v e.version x.1 e.vers in
    let g = grows_then _ _ _ _ _ _ _ _ a b in
    record { tables = g.tables; room = ap is_some e.pair ∙ both_there _ e.component e.version ∙ g.room }

-- its numbers in all later tables
pub pair_numbers : (c c' v v' : Table) (p : Option Pair) (m : Pair) (x : Name × Name) → PairEnters c c' v v' p x → p ≡ Some m
    → ((u : Table) → Longer c' u → number u x.0 ≡ m.component) × ((u : Table) → Longer v' u → number u x.1 ≡ m.version)
pair_numbers c c' v v' p m x e y =
    let d = both_out (λ k j. record { component = k; version = j }) e.component e.version (sym e.pair ∙ y) in (
      λ u l. enters_number components c c' e.component x.0 e.comps d.0 d.2 u l ∙ ap (λ (r : Pair). r.component) d.4,
      λ u l. enters_number versions v v' e.version x.1 e.vers d.1 d.3 u l ∙ ap (λ (r : Pair). r.version) d.4,
    )

-- ---- "modvar"

module _ (t t' : Tables) (p : Option Pair) (s : Facilities) (i : Option ℕ) (x : Name × Name) (rs : List Name) (w : Name)
    (e : PairEnters t.comps t'.comps t.vers t'.vers p x) (f : Each FacilityStep (facility_start t.facs) s rs) (y : s.0 ≡ t'.facs)
    (h : Enters implementations t.impls t'.impls i w) where
  modvar_grows : Grows t t' true (is_some p & (is_some i & is_some s.1)) (modvar_names x.0 x.1 rs w)
  unfolding modvar_names facility_start joint ◌&◌
  modvar_grows =
      let a = pair_grows t t'.comps t'.vers p x e in
      let b = grows_impl (record { comps = t'.comps; vers = t'.vers; facs = t.facs; impls = t.impls }) true t'.impls i w h in
      let c = facilities_grow (record { comps = t'.comps; vers = t'.vers; facs = t.facs; impls = t'.impls }) (facility_start t.facs) s rs f in
      let d = grows_then _ _ _ _ _ _ _ _ b (grows_on _ _ (is_some i) true _ _ refl c) in
      subst (λ (z : Table). Grows t (record t' { facs = z }) true (is_some p & (is_some i & is_some s.1)) (modvar_names x.0 x.1 rs w)) y
      (grows_then _ _ _ _ _ _ _ _ a (grows_on _ _ (is_some p) true _ _ refl d))

  modvar_asks : (o : Option ℕ) (q : ModvarRequest) → s.1 ≡ option_map bit o → modvar_made p o i ≡ Some q
      → ModvarAsks (modvar_numbered t' x.0 x.1 rs w) q
  unfolding modvar_made modvar_numbered
  modvar_asks o q z u =
      let m = both_out _ p (both (λ j s. (j, s)) i o) u in
      let n = both_out (λ j s. (j, s)) i o m.3 in
      let d = pair_numbers t.comps t'.comps t.vers t'.vers p m.0 x e m.2 in
      let g = facilities_are t.facs s (bit n.1) rs f (z ∙ ap (option_map bit) n.3) in
      record {
        facs = g.values;
        is = numbered _ _ _ _ _ _ _ _
            (d.0 t'.comps (longer_same _) ∙ ap (λ (r : ModvarRequest). r.component) m.4)
            (d.1 t'.vers (longer_same _) ∙ ap (λ (r : ModvarRequest). r.version) m.4)
            (g.are t'.facs (subst (Longer s.0) y (longer_same s.0)))
            (enters_number implementations t.impls t'.impls i w h n.0 n.2 t'.impls (longer_same _)
            ∙ ap (λ (r : ℕ × ℕ). r.0) n.4 ∙ ap (λ (r : ModvarRequest). r.implementation) m.4);
        below = g.below;
        required = g.set_is ∙ ap bit (ap (λ (r : ℕ × ℕ). r.1) n.4 ∙ ap (λ (r : ModvarRequest). r.required) m.4);
      }
    where
      numbered : (c c' v v' : ℕ) (f f' : List ℕ) (j j' : ℕ) → c ≡ c' → v ≡ v' → f ≡ f' → j ≡ j' → ADD-MODVAR c v f j ≡ ADD-MODVAR c' v' f' j'
      numbered c c' v v' f f' j j' a b d e = rw (a, b, d, e)

made_there : (p : Option Pair) (o i : Option ℕ) → is_some (modvar_made p o i) ≡ (is_some p & (is_some i & is_some o))
unfolding modvar_made
made_there p o i =
    both_there _ p (both (λ j s. (j, s)) i o) ∙ ap (λ (z : Bool). is_some p & z) (both_there (λ j s. (j, s)) i o)

pub modvar_asked : (C C' W W' F F' I I' : Rows) (p : Option Pair) (o : Option ℕ) (r : Option ModvarRequest) {i : Option ℕ} {x : Name × Name}
    {rs : List Name} {w : Name}
    → PairEnters (table_of components C) (table_of components C') (table_of versions W) (table_of versions W') p x
    → Each FacilityStep (facility_start (table_of facilities F)) (facility_state F' o) rs
    → Enters implementations (table_of implementations I) (table_of implementations I') i w → r ≡ modvar_made p o i
    → ModvarAsked (tables_of C W F I) (tables_of C' W' F' I') r (MODVAR x.0 x.1 rs w)
unfolding facility_state tables_of
modvar_asked C C' W W' F F' I I' p o r {i} {x} {rs} {w} e f h d =
    let g = modvar_grows (tables_of C W F I) (tables_of C' W' F' I') p (facility_state F' o) i x rs w e f refl h in
    let j = ap is_some d ∙ made_there p o i ∙ ap (λ (z : Bool). is_some p & (is_some i & z)) (sym (map_there bit o)) in
    record {
      c = x.0;
      v = x.1;
      rs = rs;
      i = w;
      said = refl;
      room = j ∙ grows_room _ _ _ _ (tables_within _ _ _ _) g;
      tables = λ y. grows_tables _ _ _ _ (tables_within _ _ _ _) g (sym j ∙ y);
      asks = λ q y. modvar_asks (tables_of C W F I) (tables_of C' W' F' I') p (facility_state F' o) i x rs w e f refl h o q refl (sym d ∙ y);
    }
