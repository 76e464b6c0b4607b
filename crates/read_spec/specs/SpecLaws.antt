-- The versions of a specification read one after the other: tables, room and request are those of the whole list.
use Rattle.std.specs.Prelude.{Bool, true, List, [], None, Option, Some, ◌∷◌, map, ◌≡◌, ℕ, is_some, option_map}
use Rattle.std.proofs.Common.{◌∙◌, ap₂}
use Rattle.std.proofs.Math.Path.{ap, refl, subst, sym}
use Rattle.command_lists.specs.Gathered.{Gathered}
use Rattle.command_lists.specs.Said.{sets_step}
use Rattle.model.specs.Book.{versions}
use Rattle.sets.specs.Sets.{Set}
use Rattle.sets.specs.TestLaws.{and_l, and_r, and_swap, and-true}
use Rattle.sets.specs.Tests.{◌&◌}
use Rattle.text.specs.Language.{Name}
use Rattle.text.specs.Tables.{Tables, joined, number, numbers}
use Rattle.read_tokens.specs.BothLaws.{both_out, both_there, map_out, map_there, none_some}
use Rattle.read_tokens.specs.FacilityLaws.{FacilitiesAre, facilities_are, facilities_grow, only_facs}
use Rattle.read_tokens.specs.Growth.{Grows, NumberedAll, NumberedOne, joint, mentioned}
use Rattle.read_tokens.specs.GrowthLaws.{enters_longer, enters_number, grows_each, grows_on, grows_then, grows_ver, longer_none, numbered_all}
use Rattle.read_tokens.specs.Steps.{Each, facility_start}
use Rattle.read_spec.specs.Asked.{SpecState, SpecStep}

abbrev pub Version : Type 0
Version = Bool × (Name × List Name)

-- ---- tables and room

-- the tables of a state, beside those of t
abbrev pub spec_world : Tables → SpecState → Tables
spec_world t s = record { comps = t.comps; vers = s.vers; facs = s.facs; impls = t.impls }

abbrev pub spec_mention : Version → Tables
spec_mention x = record { comps = []; vers = x.1.0 ∷ []; facs = x.1.1; impls = [] }

-- the requirements by their numbers
requires_are : (s s' : SpecState) (x : Version) (f : SpecStep s s' x) (set : Set) → f.required ≡ Some set
    → FacilitiesAre s.facs s'.facs set x.1.1
requires_are s s' x f set q = facilities_are s.facs (s'.facs, f.required) set x.1.1 f.requires q

room_is : (s s' : SpecState) (x : Version) (f : SpecStep s s' x) (o : Option Set) → f.required ≡ o
    → is_some s'.sets ≡ ((is_some s.sets & is_some f.place) & is_some o)
room_is s s' x f None q = ap is_some (f.none q) ∙ sym (and_swap (is_some s.sets & is_some f.place) _ ∙ (unfold ◌&◌ in refl))
room_is s s' x f (Some set) q =
    let a = requires_are s s' x f set q in
    ap is_some (f.sets a.values a.below (q ∙ ap (λ (z : Set). Some z) (sym a.set_is)))
    ∙ both_there sets_step s.sets (option_map (λ k. (k, a.values)) f.place)
    ∙ ap (λ (b : Bool). is_some s.sets & b) (map_there (λ (k : ℕ). (k, a.values)) f.place)
    ∙ sym (and_swap (is_some s.sets & is_some f.place) true ∙ and-true _ _ refl)

pub step_room : (s s' : SpecState) (x : Version) (f : SpecStep s s' x) → is_some s'.sets ≡ true
    → (is_some s.sets ≡ true) × (is_some f.place ≡ true)
step_room s s' x f y = let b = and_l _ _ (sym (room_is s s' x f f.required refl) ∙ y) in (and_l _ _ b, and_r _ _ b)

pub sets_before : (s s' : SpecState) (xs : List Version) → Each SpecStep s s' xs → is_some s'.sets ≡ true → is_some s.sets ≡ true
unfolding Each
sets_before s s' [] e y = ap (λ (z : SpecState). is_some z.sets) e ∙ y
sets_before s s' (x ∷ xs) e y = (step_room s e.0 x e.1 (sets_before e.0 s' xs e.2 y)).0

step_grows : (t : Tables) (s s' : SpecState) (x : Version) → SpecStep s s' x
    → Grows (spec_world t s) (spec_world t s') (is_some s.sets) (is_some s'.sets) (spec_mention x)
unfolding joint facility_start
step_grows t s s' x f =
    let ver : Tables = record { comps = []; vers = x.1.0 ∷ []; facs = []; impls = [] } in
    let mid : Tables = record { comps = t.comps; vers = s'.vers; facs = s.facs; impls = t.impls } in
    let before : Bool = is_some s.sets & is_some f.place in
    let a = grows_ver (spec_world t s) (is_some s.sets) s'.vers f.place x.1.0 f.enters in
    let b = facilities_grow mid (facility_start s.facs) (s'.facs, f.required) x.1.1 f.requires in
    subst (λ (r : Bool). Grows (spec_world t s) (spec_world t s') (is_some s.sets) r (joint ver (only_facs x.1.1)))
    (sym (room_is s s' x f f.required refl))
    (grows_then (spec_world t s) mid (spec_world t s') (is_some s.sets) before (before & is_some f.required) ver (only_facs x.1.1) a
    (grows_on mid (spec_world t s') before _ _ (only_facs x.1.1) refl b))

mentions_are : (xs : List Version) → mentioned spec_mention xs ≡ record {
  comps = [];
  vers = map (λ (x : Name × List Name). x.0) (map (λ (v : Version). v.1) xs);
  facs = joined (map (λ (x : Name × List Name). x.1) (map (λ (v : Version). v.1) xs));
  impls = [];
}
unfolding mentioned joint joined
mentions_are [] = refl
mentions_are (x ∷ xs) = ap (joint (spec_mention x)) (mentions_are xs)

-- the names of the versions, in order
abbrev pub spec_mentions : List (Name × List Name) → Tables
spec_mentions vs = record { comps = []; vers = map (λ x. x.0) vs; facs = joined (map (λ x. x.1) vs); impls = [] }

pub spec_grows : (t : Tables) (s s' : SpecState) (xs : List Version) → Each SpecStep s s' xs
    → Grows (spec_world t s) (spec_world t s') (is_some s.sets) (is_some s'.sets) (spec_mentions (map (λ v. v.1) xs))
spec_grows t s s' xs e =
    subst (Grows (spec_world t s) (spec_world t s') (is_some s.sets) (is_some s'.sets)) (mentions_are xs)
    (grows_each SpecStep (spec_world t) (λ s. is_some s.sets) spec_mention (step_grows t) s s' xs e)

-- ---- numbers

abbrev pub spec_tables : SpecState → Tables
spec_tables s = record { comps = []; vers = s.vers; facs = s.facs; impls = [] }

abbrev spec_num : Tables → Version → ℕ × List ℕ
spec_num u x = (number u.vers x.1.0, numbers u.facs x.1.1)

abbrev One : SpecState → SpecState → Version → Gathered Set → Type 0
One = NumberedOne spec_tables (λ s. s.sets) spec_num sets_step (λ y. true)

numbered : (s s' : SpecState) (x : Version) (g' : Gathered Set) (f : SpecStep s s' x) → s'.sets ≡ Some g' → (o : Option Set)
    → f.required ≡ o → One s s' x g'
numbered s s' x g' f y None q = none_some (sym (f.none q) ∙ y)
numbered s s' x g' f y (Some set) q =
    let a = requires_are s s' x f set q in
    let b = both_out sets_step s.sets (option_map (λ (k : ℕ). (k, a.values)) f.place)
    (sym (f.sets a.values a.below (q ∙ ap (λ (z : Set). Some z) (sym a.set_is))) ∙ y) in
    let k = map_out (λ (k : ℕ). (k, a.values)) f.place b.3 in
    record {
      before = b.0;
      was = b.2;
      value = (k.0, a.values);
      is = λ u l. ap₂ (λ (k : ℕ) (ks : List ℕ). (k, ks)) (enters_number versions s.vers s'.vers f.place x.1.0 f.enters k.0 k.1 u.vers l.vers)
          (a.are u.facs l.facs);
      passes = refl;
      adds = sym b.4 ∙ ap (sets_step b.0) (sym k.2);
      later = record {
        comps = longer_none _;
        vers = enters_longer versions s.vers s'.vers f.place x.1.0 f.enters;
        facs = a.longer;
        impls = longer_none _;
      };
    }

pub spec_all : (s s' : SpecState) (xs : List Version) (g' : Gathered Set) → Each SpecStep s s' xs → s'.sets ≡ Some g'
    → NumberedAll spec_tables (λ s. s.sets) spec_num sets_step (λ y. true) s s' xs g'
spec_all s s' xs g' e y =
    numbered_all SpecStep spec_tables (λ s. s.sets) spec_num sets_step (λ y. true) (λ s s' x g' f o. numbered s s' x g' f o f.required refl)
    s s' xs g' e y
