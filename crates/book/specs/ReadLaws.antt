-- What is read of the plain book that two arrays mean.
use Rattle.std.specs.Prelude.{Bool, List, ◌≢◌, ◌≡◌, ◌<◌, ℕ}
use Rattle.std.proofs.Math.Bool.{false, true}
use Rattle.std.proofs.Math.Logic.{inl, inr}
use Rattle.std.proofs.Math.Option.{Option, none, some}
use Rattle.std.proofs.Common.{◌∙◌, zero-lt-suc}
use Rattle.std.proofs.Math.Path.{ap, refl, sym}
use Rattle.std.proofs.Math.Nat.{mod-lt}
use Rattle.book.specs.Layout.{implementation_at, provides_at, requires_at, standard_at, usable_at}
use Rattle.book.specs.Plain.{byte, component_set, composition_at, facility_set, kind_is, module_at, modules_of, place_of, spec_at}
use Rattle.book.specs.Plain.{specified_at, specs_of, system_at, systems_of}
use Rattle.book.specs.SlotLaws.{slot-some}
use Rattle.model.specs.Book.{Book, Modules, Specs, Systems, components, composed, composition, facilities, has_version}
use Rattle.model.specs.Book.{implementation, is_module, is_system, member, provides, required, requires, specified, standard, usable}
use Rattle.model.specs.Book.{versions}
use Rattle.model.specs.Limits.{ModuleLimits, SpecLimits, SystemLimits}
use Rattle.model.specs.Maps.{Map, and_then, has, is_some, only_if, option_map, or_else}
use Rattle.model.specs.Rules.{B5, B5_at, each_composition, p, r}
use Rattle.sets.specs.Sets.{Set}
use Rattle.sets.specs.TestLaws.{<?_out, =?-not, =?-out, all_out, and_in, and_l, and_r, bool?, if-false, if-true, imp_out, not_in}
use Rattle.sets.specs.Tests.{◌&◌, if?◌then◌else◌}
use Rattle.model_laws.specs.Frame.{composed_system, member_composed}
use Rattle.model_laws.specs.ListLaws.{only_some}
use Rattle.model_laws.specs.MapLaws.{and_then_out, has-map, has_out, if_there_out, is_some_out, no_some, option_map_out, option_map-some}
use Rattle.model_laws.specs.MapLaws.{then_map}
use Rattle.sets.specs.Sets as sets

pub is_some_only : {A : Type 0} (t : Bool) (x : A) → is_some (only_if t x) ≡ t
unfolding only_if is_some
is_some_only true x = refl
is_some_only false x = refl

has_only : {A : Type 0} (t : Bool) (x : A) (f : A → Bool) → has (only_if t x) f ≡ (t & f x)
unfolding only_if has ◌&◌
has_only true x f = refl
has_only false x f = refl

and_then_only : {A B : Type 0} (t : Bool) (x : A) (g : A → Option B) → and_then (only_if t x) g ≡ (if? t then g x else none)
unfolding only_if and_then if?◌then◌else◌
and_then_only true x g = refl
and_then_only false x g = refl

-- a kind that is not 0 is that of a specified component
pub kind_specified : (n : List ℕ) (k c : ℕ) → kind_is n k c ≡ true → k ≢ 0 → specified_at n c ≡ true
unfolding kind_is specified_at
kind_specified n k c t ne =
    and_in _ _ (and_l _ _ t) (not_in _ (=?-not _ _ (λ q. ne (sym (=?-out _ _ (and_r _ _ t)) ∙ q))))

pub no_place : (n : List ℕ) (c v : ℕ) → specified_at n c ≡ false → place_of n c v ≡ none
unfolding place_of
no_place n c v t = if-false _ _ _ t

pub map_at : {A B : Type 0} (g : A → B) (o : Option A) (x : A) → o ≡ some x → option_map g o ≡ some (g x)
unfolding option_map
map_at g o x e = ap (option_map g) e

pub map-none : {A B : Type 0} (g : A → B) (o : Option A) → o ≡ none → option_map g o ≡ none
unfolding option_map
map-none g none e = refl
map-none g (some x) e = no_some (sym e)

module _ (s n : List ℕ) where
  pub specified_plain : (c : ℕ) → specified (specs_of s n) c ≡ specified_at n c
  unfolding specified specs_of
  specified_plain c = is_some_only _ _

  pub provides_plain : (c f : ℕ) → provides (specs_of s n) c f ≡ (specified_at n c & facility_set (provides_at s c) f)
  unfolding provides specs_of spec_at
  provides_plain c f = has_only _ _ _

  pub required_plain : (c v : ℕ) → required (specs_of s n) c v ≡ option_map (λ i. facility_set (requires_at s i)) (place_of n c v)
  unfolding required specs_of spec_at
  required_plain c v = and_then_only _ _ _ ∙ elim (bool? (specified_at n c)) [
    | inl t ↦ if-true _ _ _ t
    | inr t ↦ if-false _ _ _ t ∙ sym (map-none _ _ (no_place n c v t))
  ]

  pub has_version_plain : (c v : ℕ) → has_version (specs_of s n) c v ≡ is_some (place_of n c v)
  unfolding has_version
  has_version_plain c v = ap is_some (required_plain c v) ∙ option_map-some _ _

  pub requires_plain : (c v f : ℕ) → requires (specs_of s n) c v f ≡ has (place_of n c v) (λ i. facility_set (requires_at s i) f)
  unfolding requires
  requires_plain c v f = ap (λ (o : Option Set). has o (λ q. q f)) (required_plain c v) ∙ has-map _ _ _

  pub standard_plain : (c : ℕ) → specified_at n c ≡ true → standard (specs_of s n) c ≡ standard_at n c
  unfolding standard specs_of spec_at or_else option_map only_if
  standard_plain c t = ap (λ (b : Bool). or_else (option_map (λ x. x.std) (only_if b (spec_at s n c))) 0) t

  pub is_module_plain : (c : ℕ) → is_module (modules_of n) c ≡ kind_is n 2 c
  unfolding is_module modules_of
  is_module_plain c = is_some_only _ _

  pub implementation_plain : (c v : ℕ)
      → implementation (modules_of n) c v ≡ (if? kind_is n 2 c then option_map (λ i. byte (implementation_at n i)) (place_of n c v) else none)
  unfolding implementation modules_of module_at
  implementation_plain c v = and_then_only _ _ _

  pub is_system_plain : (c : ℕ) → is_system (systems_of s n) c ≡ kind_is n 3 c
  unfolding is_system systems_of
  is_system_plain c = is_some_only _ _

  pub usable_plain : (c d : ℕ) → usable (systems_of s n) c d ≡ (kind_is n 3 c & component_set (usable_at s c) d)
  unfolding usable systems_of system_at
  usable_plain c d = has_only _ _ _

  pub composition_plain : (c v : ℕ)
      → composition (systems_of s n) c v ≡ (if? kind_is n 3 c then option_map (composition_at s n) (place_of n c v) else none)
  unfolding composition systems_of system_at
  composition_plain c v = and_then_only _ _ _

  pub member_plain : (c v m : ℕ) → member (systems_of s n) c v m ≡ (if? kind_is n 3 c then and_then (place_of n c v) (λ i. composition_at s n i m) else none)
  unfolding member
  member_plain c v m = ap (λ (o : Option (Map ℕ)). and_then o (λ k. k m)) (composition_plain c v) ∙ by (kind_is n 3 c)
    where
      by : (t : Bool) → and_then (if? t then option_map (composition_at s n) (place_of n c v) else none) (λ k. k m)
          ≡ (if? t then and_then (place_of n c v) (λ i. composition_at s n i m) else none)
      by true = unfold if?◌then◌else◌ in then_map _ _ _
      by false = unfold if?◌then◌else◌ and_then in refl

-- ---- the numbers of a plain book that two arrays mean are below their limits, whatever stands in them

facility_limit : (x f : ℕ) → facility_set x f ≡ true → f < facilities
unfolding facility_set sets.below
facility_limit x f t = <?_out f _ (and_l _ _ t)

pub component_limit : (x c : ℕ) → component_set x c ≡ true → c < components
unfolding component_set sets.below
component_limit x c t = <?_out c _ (and_l _ _ t)

-- a member of the composition at a place
at_limit : (s n : List ℕ) (i m w : ℕ) → composition_at s n i m ≡ some w → m < components
unfolding composition_at
at_limit s n i m w e = component_limit _ m (only_some _ _ w e).0

pub specified_at-limit : (n : List ℕ) (c : ℕ) → specified_at n c ≡ true → c < components
unfolding specified_at
specified_at-limit n c t = <?_out _ _ (and_l _ _ t)

pub kind_is-limit : (n : List ℕ) (k c : ℕ) → kind_is n k c ≡ true → c < components
unfolding kind_is
kind_is-limit n k c t = <?_out _ _ (and_l _ _ t)

pub place-limit : (n : List ℕ) (c v i : ℕ) → place_of n c v ≡ some i → (specified_at n c ≡ true) × (v < versions)
unfolding place_of
place-limit n c v i e = elim (bool? (specified_at n c)) [
  | inl t ↦ (let z = option_map_out _ _ i (sym (if-true _ _ _ t) ∙ e) in (t, (slot-some _ v z.0 z.1).2))
  | inr t ↦ no_some (sym (if-false _ _ _ t) ∙ e)
]

pub if_none : {A : Type 0} (t : Bool) (o : Option A) → o ≡ none → (if? t then o else none) ≡ none
unfolding if?◌then◌else◌
if_none true o e = e
if_none false o e = refl

-- two plain books are equal when their maps are
pub book_ext : {S S' : Specs} {M M' : Modules} {Y Y' : Systems} → S ≡ S' → M ≡ M' → Y ≡ Y'
    → ◌≡◌ {A = Book} (record { specs = S; modules = M; systems = Y }) (record { specs = S'; modules = M'; systems = Y' })
book_ext p q r = cc

pub if_some : {A : Type 0} (t : Bool) (o : Option A) (x : A) → (if? t then o else none) ≡ some x → (t ≡ true) × (o ≡ some x)
unfolding if?◌then◌else◌
if_some true o x e = (refl, e)
if_some false o x e = no_some e

pub spec_limits_lem : (s n : List ℕ) → SpecLimits (specs_of s n)
spec_limits_lem s n = record {
  component< = λ c t. specified_at-limit n c (sym (specified_plain s n c) ∙ t);
  provided< = λ c f t. facility_limit _ f (and_r _ _ (sym (provides_plain s n c f) ∙ t));
  version< = λ c v t. (let o = is_some_out _ (sym (has_version_plain s n c v) ∙ t) in (place-limit n c v o.0 o.1).1);
  required< = λ c v f t. (let o = has_out _ _ (sym (requires_plain s n c v f) ∙ t) in facility_limit _ f o.2);
}

pub module_limits_lem : (n : List ℕ) → ModuleLimits (modules_of n)
module_limits_lem n = record {
  component< = λ c t. kind_is-limit n 2 c (sym (is_module_plain n n c) ∙ t);
  implementation< = λ c v i e.
      (let o = if_some _ _ i (sym (implementation_plain n n c v) ∙ e) in
      let z = option_map_out _ _ i o.1 in
      ((place-limit n c v z.0 z.1).1, rw (sym z.2) (unfold byte in mod-lt _ (zero-lt-suc 255))));
}

pub usable_limit : (s n : List ℕ) (c d : ℕ) → usable (systems_of s n) c d ≡ true → d < components
usable_limit s n c d t = component_limit _ d (and_r _ _ (sym (usable_plain s n c d) ∙ t))

module _ (s n : List ℕ) where
  pub composed-limit : (c v : ℕ) → composed (systems_of s n) c v ≡ true → v < versions
  unfolding composed
  composed-limit c v t =
      let o = is_some_out _ t in
      let z = if_some _ _ o.0 (sym (composition_plain s n c v) ∙ o.1) in
      let y = option_map_out _ _ o.0 z.1 in
      (place-limit n c v y.0 y.1).1

  pub system_limit : (c : ℕ) → is_system (systems_of s n) c ≡ true → c < components
  system_limit c t = kind_is-limit n 3 c (sym (is_system_plain s n c) ∙ t)

  pub member_limit : (c v m w : ℕ) → member (systems_of s n) c v m ≡ some w → m < components
  member_limit c v m w e =
      let z = if_some _ _ w (sym (member_plain s n c v m) ∙ e) in
      let y = and_then_out _ _ w z.1 in
      at_limit s n y.0 m w y.2

  -- a member's version is below 64 where B5 holds
  member_version_lem : B5 (specs_of s n) (systems_of s n) ≡ true → (c v m w : ℕ) → member (systems_of s n) c v m ≡ some w → w < versions
  unfolding B5 B5_at each_composition
  member_version_lem b5 c v m w e =
      let k = member_composed _ c v m w e in
      let at = imp_out _ _ (all_out _ _ (all_out _ _ b5 c (system_limit c (composed_system _ c v k))) v (composed-limit c v k)) k in
      (spec_limits_lem s n).version< m w (and_r _ _ (if_there_out _ _ (all_out _ _ (and_r _ _ at) m (member_limit c v m w e)) w e))

  pub system_limits_lem : B5 (specs_of s n) (systems_of s n) ≡ true → SystemLimits (systems_of s n)
  system_limits_lem b5 = record {
    component< = system_limit;
    usable< = λ c d t. usable_limit s n c d t;
    version< = composed-limit;
    member< = λ c v m w e. (member_limit c v m w e, member_version_lem b5 c v m w e);
  }
