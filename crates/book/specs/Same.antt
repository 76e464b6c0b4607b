-- Two Books that agree on a component mean the same by it. A write says where it is confined; the rest follows by arithmetic.
use Rattle.std.specs.Prelude.{Bool, false, true, List, ◌≢◌, ◌≡◌, ◌*◌, ◌+◌, ◌<◌, ◌^◌, ◌≤◌, ℕ, get_or}
use Rattle.std.proofs.Math.Logic.{inl, inr}
use Rattle.std.proofs.Math.Option.{Option, none, some}
use Rattle.std.proofs.Common.{◌∙◌, arith}
use Rattle.std.proofs.Math.Path.{ap, ap₂, fun_ext, refl, sym}
use Rattle.book.specs.Layout.{implementation_at, kind_at, member_version_at, members_at, provides_at, requires_at, slots_of}
use Rattle.book.specs.Layout.{standard_at, usable_at, version_at}
use Rattle.book.specs.Plain.{byte, component_set, composition_at, facility_set, kind_is, members_low, module_at, modules_of, place_of}
use Rattle.book.specs.Plain.{proper, proper_at, proper_if, sets_low, slot_apart, slot_low, slots_apart, spec_at, specified_at}
use Rattle.book.specs.Plain.{specs_of, system_at, systems_of}
use Rattle.book.specs.ReadLaws.{component_limit, place-limit}
use Rattle.book.specs.SlotLaws.{only_no, only_yes, slot_same, slot-some}
use Rattle.model.specs.Book.{Spec, System, components, versions}
use Rattle.model.specs.Maps.{Map, only_if, option_map}
use Rattle.model.specs.Rules.{p}
use Rattle.sets.specs.Sets.{Set}
use Rattle.sets.specs.TestLaws.{<?_no, <?_out, =?-no, all_in, all_out, all_same, and-false, bool?, fails, if-true, imp_in, imp_out}
use Rattle.sets.specs.TestLaws.{not_out, same?}
use Rattle.sets.specs.Tests.{◌&◌, ◌<?◌, ◌=?◌, ◌⇒◌, ◌≤?◌, if?◌then◌else◌, ~◌}
use Rattle.model_laws.specs.MapLaws.{option_map_out}

-- what stands in the head of a component
pub record SameHead (s n s' n' : List ℕ) (c : ℕ) : Type 0 where
  pub kind : kind_at n' c ≡ kind_at n c
  pub provides : provides_at s' c ≡ provides_at s c
  pub standard : standard_at n' c ≡ standard_at n c
  pub usable : usable_at s' c ≡ usable_at s c

-- what stands at a place, but for the version
pub record SamePlace (s n s' n' : List ℕ) (i : ℕ) : Type 0 where
  pub requires : requires_at s' i ≡ requires_at s i
  pub implementation : implementation_at n' i ≡ implementation_at n i
  pub members : members_at s' i ≡ members_at s i
  pub member_version : (m : ℕ) → m < 32 → member_version_at n' i m ≡ member_version_at n i m

pub record SameComponent (s n s' n' : List ℕ) (c : ℕ) : Type 0 where
  pub head : SameHead s n s' n' c
  pub slots : (j : ℕ) → j < 8 → slots_of n' c j ≡ slots_of n c j
  pub places : (j : ℕ) → j < 8 → SamePlace s n s' n' (c * 8 + j)

-- ---- what agrees, means the same

pub specs_ext : {p p' : Set} {q q' : Map Set} {t t' : ℕ} → p ≡ p' → q ≡ q' → t ≡ t'
    → ◌≡◌ {A = Spec} (record { prov = p; req = q; std = t }) (record { prov = p'; req = q'; std = t' })
specs_ext a b d = cc

pub system_ext : {u u' : Set} {k k' : Map (Map ℕ)} → u ≡ u' → k ≡ k' → ◌≡◌ {A = System} (record { uses = u; comp = k }) (record { uses = u'; comp = k' })
system_ext a b = cc

-- maps of places that agree, of things that agree at them
pub map_same : {A : Type 0} (P P' : ℕ → Option ℕ) (g g' : ℕ → A) → ((v : ℕ) → P' v ≡ P v) → ((v i : ℕ) → P v ≡ some i → g' i ≡ g i)
    → (v : ℕ) → option_map g' (P' v) ≡ option_map g (P v)
map_same P P' g g' hp hg v = ap (option_map g') (hp v) ∙ at (P v) (λ i e. hg v i e)
  where
    at : (o : Option ℕ) → ((i : ℕ) → o ≡ some i → g' i ≡ g i) → option_map g' o ≡ option_map g o
    at none h = unfold option_map in refl
    at (some i) h = unfold option_map in ap some (h i refl)

pub composition_same : (s n s' n' : List ℕ) (i : ℕ) → SamePlace s n s' n' i → composition_at s' n' i ≡ composition_at s n i
composition_same s n s' n' i p = fun_ext (λ m. elim (bool? (component_set (members_at s i) m)) [
  | inl t ↦ unfold composition_at in
      only_yes _ _ (ap (λ (x : ℕ). component_set x m) p.members ∙ t) ∙ ap some (p.member_version m (component_limit _ m t)) ∙ sym (only_yes _ _ t)
  | inr t ↦ unfold composition_at in only_no _ _ (ap (λ (x : ℕ). component_set x m) p.members ∙ t) ∙ sym (only_no _ _ t)
])

-- a place of c stands in one of its slots
pub place-slot : (n : List ℕ) (c v i : ℕ) → place_of n c v ≡ some i → (j : ℕ) × (j < 8) × (i ≡ c * 8 + j) × (slots_of n c j ≡ v)
unfolding place_of
place-slot n c v i e =
    let z = option_map_out _ _ i (sym (if-true _ _ _ (place-limit n c v i e).0) ∙ e) in
    let o = slot-some _ v z.0 z.1 in
    (z.0, o.0, sym z.2, o.1)

pub specified_same : (n n' : List ℕ) (c : ℕ) → kind_at n' c ≡ kind_at n c → specified_at n' c ≡ specified_at n c
unfolding specified_at
specified_same n n' c e = ap (λ (k : ℕ). c <? components & ~ (k =? 0)) e

pub kind_same : (n n' : List ℕ) (k c : ℕ) → kind_at n' c ≡ kind_at n c → kind_is n' k c ≡ kind_is n k c
unfolding kind_is
kind_same n n' k c e = ap (λ (x : ℕ). c <? components & x =? k) e

module _ (s n s' n' : List ℕ) (c : ℕ) (same : SameComponent s n s' n' c) where
  place_same : (v : ℕ) → place_of n' c v ≡ place_of n c v
  unfolding place_of
  place_same v = ap₂ (λ (t : Bool) (o : Option ℕ). if? t then option_map (λ j. c * 8 + j) o else none)
      (specified_same n n' c same.head.kind) (slot_same _ _ v (λ j l. ap (λ (x : ℕ). x =? v) (same.slots j l)))

  at_place : {A : Type 0} (g g' : ℕ → A) → ((j : ℕ) → j < 8 → g' (c * 8 + j) ≡ g (c * 8 + j)) → (v i : ℕ) → place_of n c v ≡ some i → g' i ≡ g i
  at_place g g' h v i e = let z = place-slot n c v i e in rw z.2 (h z.0 z.1)

  pub same_specs : specs_of s' n' c ≡ specs_of s n c
  unfolding specs_of spec_at
  same_specs = ap₂ only_if (specified_same n n' c same.head.kind) (specs_ext (ap facility_set same.head.provides)
      (fun_ext (map_same _ _ _ _ place_same (at_place _ _ (λ j l. ap facility_set (same.places j l).requires)))) same.head.standard)

  pub same_modules : modules_of n' c ≡ modules_of n c
  unfolding modules_of module_at
  same_modules = ap₂ only_if (kind_same n n' 2 c same.head.kind)
      (fun_ext (map_same _ _ _ _ place_same (at_place _ _ (λ j l. ap byte (same.places j l).implementation))))

  pub same_systems : systems_of s' n' c ≡ systems_of s n c
  unfolding systems_of system_at
  same_systems = ap₂ only_if (kind_same n n' 3 c same.head.kind) (system_ext (ap component_set same.head.usable)
      (fun_ext (map_same _ _ _ _ place_same (at_place _ _ (λ j l. composition_same s n s' n' _ (same.places j l))))))

  pub same_proper : proper_at s' n' c ≡ proper_at s n c
  unfolding proper_at slot_low slots_apart slot_apart members_low sets_low
  same_proper =
      let slots = same.slots in
      ap₂ ◌&◌ (ap (λ (k : ℕ). k ≤? 3) same.head.kind)
      (ap₂ ◌&◌ (all_same 8 _ _ (λ j l. ap (λ (x : ℕ). x ≤? versions) (slots j l)))
      (ap₂ ◌&◌ (all_same 8 _ _ (λ j l. all_same 8 _ _ (λ k h.
      ap₂ (λ (x y : ℕ). x <? versions ⇒ x =? y ⇒ j =? k) (slots j l) (slots k h))))
      (ap₂ (λ (k : ℕ) (t : Bool). k =? 3 ⇒ t) same.head.kind
      (ap₂ (λ (x : ℕ) (t : Bool). x <? 2 ^ 32 & t) same.head.usable
      (all_same 8 _ _ (λ j l. ap₂ (λ (x y : ℕ). x <? versions ⇒ y <? 2 ^ 32) (slots j l) (same.places j l).members))))))

-- ---- where a write is confined

-- to the place i
pub record AtPlace (s n s' n' : List ℕ) (i : ℕ) : Type 0 where
  pub sets : (x : ℕ) → x ≢ 64 + i → x ≢ 320 + i → get_or s' x 0 ≡ get_or s x 0
  pub numbers : (x : ℕ) → x ≢ 64 + i → x ≢ 320 + i → ((m : ℕ) → m < 32 → x ≢ 576 + (i * 32 + m)) → get_or n' x 0 ≡ get_or n x 0

module _ (s n s' n' : List ℕ) (i : ℕ) (i< : i < 256) (k : AtPlace s n s' n' i) where
  pub heads : (d : ℕ) → d < 32 → SameHead s n s' n' d
  heads d l = record {
    kind = k.numbers d (omega arith) (omega arith) (λ m h. omega arith);
    provides = k.sets d (omega arith) (omega arith);
    standard = k.numbers (32 + d) (omega arith) (omega arith) (λ m h. omega arith);
    usable = k.sets (32 + d) (omega arith) (omega arith);
  }

  pub other_versions : (a : ℕ) → a < 256 → a ≢ i → version_at n' a ≡ version_at n a
  other_versions a l ne = k.numbers (64 + a) (omega arith) (omega arith) (λ m h. omega arith)

  pub other_places : (a : ℕ) → a < 256 → a ≢ i → SamePlace s n s' n' a
  other_places a l ne = record {
    requires = k.sets (64 + a) (omega arith) (omega arith);
    implementation = k.numbers (320 + a) (omega arith) (omega arith) (λ m h. omega arith);
    members = k.sets (320 + a) (omega arith) (omega arith);
    member_version = λ m h. k.numbers (576 + (a * 32 + m)) (omega arith) (omega arith) (λ o g. omega arith);
  }

  pub other_components : (c j d : ℕ) → j < 8 → i ≡ c * 8 + j → d < 32 → d ≢ c → SameComponent s n s' n' d
  other_components c j d j< e d< ne = record {
    head = heads d d<;
    slots = λ a l. other_versions (d * 8 + a) (omega arith) (omega arith);
    places = λ a l. other_places (d * 8 + a) (omega arith) (omega arith);
  }

-- to the component c
pub record AtComponent (s n s' n' : List ℕ) (c : ℕ) : Type 0 where
  pub sets : (x : ℕ) → x ≢ c → x ≢ 32 + c → ((j : ℕ) → j < 8 → x ≢ 64 + (c * 8 + j)) → ((j : ℕ) → j < 8 → x ≢ 320 + (c * 8 + j))
      → get_or s' x 0 ≡ get_or s x 0
  pub numbers : (x : ℕ) → x ≢ c → x ≢ 32 + c → ((j : ℕ) → j < 8 → x ≢ 64 + (c * 8 + j)) → ((j : ℕ) → j < 8 → x ≢ 320 + (c * 8 + j))
      → ((j m : ℕ) → j < 8 → m < 32 → x ≢ 576 + ((c * 8 + j) * 32 + m)) → get_or n' x 0 ≡ get_or n x 0

pub others : (s n s' n' : List ℕ) (c : ℕ) → c < 32 → AtComponent s n s' n' c → (d : ℕ) → d < 32 → d ≢ c → SameComponent s n s' n' d
others s n s' n' c c< k d d< ne = record {
  head = record {
    kind = k.numbers d ne (omega arith) (λ j l. omega arith) (λ j l. omega arith) (λ j m l h. omega arith);
    provides = k.sets d ne (omega arith) (λ j l. omega arith) (λ j l. omega arith);
    standard = k.numbers (32 + d) (omega arith) (omega arith) (λ j l. omega arith) (λ j l. omega arith) (λ j m l h. omega arith);
    usable = k.sets (32 + d) (omega arith) (omega arith) (λ j l. omega arith) (λ j l. omega arith);
  };
  slots = λ a l. k.numbers (64 + (d * 8 + a)) (omega arith) (omega arith) (λ j h. omega arith) (λ j h. omega arith) (λ j m h g. omega arith);
  places = λ a l. record {
    requires = k.sets (64 + (d * 8 + a)) (omega arith) (omega arith) (λ j h. omega arith) (λ j h. omega arith);
    implementation = k.numbers (320 + (d * 8 + a)) (omega arith) (omega arith) (λ j h. omega arith) (λ j h. omega arith) (λ j m h g. omega arith);
    members = k.sets (320 + (d * 8 + a)) (omega arith) (omega arith) (λ j h. omega arith) (λ j h. omega arith);
    member_version = λ m h. k.numbers (576 + ((d * 8 + a) * 32 + m)) (omega arith) (omega arith) (λ j g. omega arith) (λ j g. omega arith) (λ j o g q. omega arith);
  };
}

-- ---- all components but one mean the same

module _ (s n s' n' : List ℕ) (c : ℕ) (same : (d : ℕ) → d < 32 → d ≢ c → SameComponent s n s' n' d) where
  elsewhere : {A : Type 0} (m m' : Map A) → ((d : ℕ) → d < 32 → d ≢ c → m' d ≡ m d) → ((d : ℕ) → 32 ≤ d → (m d ≡ none) × (m' d ≡ none))
      → (d : ℕ) → d ≢ c → m' d ≡ m d
  elsewhere m m' h z d ne = elim (bool? (d <? 32)) [
    | inl t ↦ h d (<?_out _ _ t) ne
    | inr t ↦ (z d (<?_no _ _ t)).1 ∙ sym (z d (<?_no _ _ t)).0
  ]

  past : (k d : ℕ) (n : List ℕ) → 32 ≤ d → kind_is n k d ≡ false
  past k d n h = unfold kind_is in and-false _ _ (fails _ (λ t. omega (arith, <?_out _ _ t, h)))

  past_specified : (d : ℕ) (n : List ℕ) → 32 ≤ d → specified_at n d ≡ false
  past_specified d n h = unfold specified_at in and-false _ _ (fails _ (λ t. omega (arith, <?_out _ _ t, h)))

  pub other_specs : (d : ℕ) → d ≢ c → specs_of s' n' d ≡ specs_of s n d
  unfolding specs_of
  other_specs = elsewhere _ _ (λ d l ne. same_specs s n s' n' d (same d l ne))
      (λ d h. (only_no _ _ (past_specified d n h), only_no _ _ (past_specified d n' h)))

  pub other_modules : (d : ℕ) → d ≢ c → modules_of n' d ≡ modules_of n d
  unfolding modules_of
  other_modules = elsewhere _ _ (λ d l ne. same_modules s n s' n' d (same d l ne)) (λ d h. (only_no _ _ (past 2 d n h), only_no _ _ (past 2 d n' h)))

  pub other_systems : (d : ℕ) → d ≢ c → systems_of s' n' d ≡ systems_of s n d
  unfolding systems_of
  other_systems = elsewhere _ _ (λ d l ne. same_systems s n s' n' d (same d l ne)) (λ d h. (only_no _ _ (past 3 d n h), only_no _ _ (past 3 d n' h)))

  pub proper_rest : proper s n ≡ true → (kind_at n' c ≢ 0 → proper_at s' n' c ≡ true) → proper s' n' ≡ true
  unfolding proper proper_if
  proper_rest p h = all_in 32 _ (λ d l. imp_in _ _ (λ t. elim (same? d c) [
    | inl e ↦ rw e (h (λ z. =?-no _ _ (not_out _ t) (ap (kind_at n') e ∙ z)))
    | inr ne ↦ same_proper s n s' n' d (same d l ne)
        ∙ imp_out _ _ (all_out 32 _ p d l) (ap (λ (k : ℕ). ~ (k =? 0)) (sym (same d l ne).head.kind) ∙ t)
  ]))
