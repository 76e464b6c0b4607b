-- One law for each way out of a reader.
use Rattle.std.specs.Prelude.{Bool, IsSome, None, Option as Found, Some, is_some as is_found, not, true, List, ◌≡◌, ◌≢◌, ◌*◌, ◌+◌, ◌<◌, ◌≤◌, ℕ}
use Rattle.std.specs.Prelude.{get_or, length, position}
use Rattle.std.specs.List.{position_or_len}
use Rattle.std.specs.Int.{w64, w8}
use Rattle.std.proofs.Math.Bool.{false}
use Rattle.std.proofs.Math.Logic.{inl, inr}
use Rattle.std.proofs.Math.Option.{Option, none, some}
use Rattle.std.proofs.Common.{◌∙◌, Fits, mod-eq_of_lt, arith, nat_eq, rules}
use Rattle.std.proofs.Math.Path.{ap, fun_ext, refl, sym}
use Rattle.std.proofs.lemmas.Bool.{not-false, not-true}
use Rattle.std.proofs.lemmas.List.{places}
use Rattle.std.proofs.lemmas.List.Quantifiers.{position-Some}
use Rattle.std.proofs.lemmas.List.Sums.{fails_before_first, passes_at_first}
use Rattle.book.specs.declared.Kind.{Kind}
use Rattle.book.specs.KindLaws.{absent, present}
use Rattle.book.specs.Kinds.{kind_of}
use Rattle.book.specs.Layout.{implementation_at, kind_at, member_version_at, members_at, provides_at, requires_at, slot_list, slots_of}
use Rattle.book.specs.Layout.{standard_at, usable_at}
use Rattle.book.specs.Plain.{among_first, byte, component_set, composition_at, facility_set, kind_is, modules_of, place_of, plain_of, slot}
use Rattle.book.specs.Plain.{spec_at, specified_at, specs_of, systems_of}
use Rattle.book.specs.ReadLaws.{book_ext, has_version_plain, if_none, if_some, implementation_plain, is_module_plain}
use Rattle.book.specs.ReadLaws.{is_some_only, is_system_plain, kind_is-limit, map-none, member_limit, member_plain}
use Rattle.book.specs.ReadLaws.{no_place, place-limit, provides_plain}
use Rattle.book.specs.ReadLaws.{requires_plain, specified_at-limit, standard_plain, usable_plain}
use Rattle.book.specs.SlotLaws.{among_same, only_no, slot_absent, slot_found, slot_high, slot-some}
use Rattle.model.specs.Book.{components, empty, has_version, implementation, is_member, is_module, is_system, member, provides}
use Rattle.model.specs.Book.{requires, standard, usable, versions}
use Rattle.model.specs.Maps.{and_then, has, is_some, only_if, option_map, or_else}
use Rattle.sets.specs.Answered.{answered}
use Rattle.sets.specs.SetLaws.{bit_below, bit_zero}
use Rattle.sets.specs.Sets.{Set, bit}
use Rattle.sets.specs.TestLaws.{<?_no, <?_out, =?-no, =?-not, =?-out, clash, and-false, and_no, and-true, bool?, fails, if-false, if-true, not_out}
use Rattle.sets.specs.Tests.{◌<?◌, ◌=?◌}
use Rattle.model_laws.specs.ListLaws.{only_some}
use Rattle.model_laws.specs.MapLaws.{and_then_out, is_some_in, is_some_out, option_map_out, option_map-some}
use Rattle.sets.specs.Sets as sets

no_version : (n : List ℕ) (c v : ℕ) → slot (slots_of n c) v ≡ none → place_of n c v ≡ none
unfolding place_of option_map
no_version n c v e = elim (bool? (specified_at n c)) [
  | inl t ↦ if-true _ _ _ t ∙ ap (option_map (λ j. c * 8 + j)) e
  | inr t ↦ if-false _ _ _ t
]

-- ---- the search for a place

-- what stands in the list of the slots
pub slot_listed : (n : List ℕ) (c k : ℕ) → length (slot_list n c) ≡ 8 → k < 8 → get_or (slot_list n c) k 0 ≡ slots_of n c k
slot_listed n c k e h =
    let same : 64 + c * 8 + k ≡ 64 + (c * 8 + k) = omega arith in
    let listed : get_or (slot_list n c) k 0 ≡ get_or n (64 + c * 8 + k) 0 = search (rules, places) in
    listed ∙ ap (λ (i : ℕ). get_or n i 0) same

module _ (n : List ℕ) (c v : ℕ) where
  first : ℕ
  first = position_or_len (λ w. nat_eq w v) (slot_list n c)

  -- the first of the slots that holds v, as the search in their list finds it
  pub slot_position : {r : Found ℕ} → v < versions → length (slot_list n c) ≡ 8 → r ≡ position (λ w. nat_eq w v) (slot_list n c)
      → answered r ≡ slot (slots_of n c) v
  unfolding answered ◌<?◌ ◌=?◌ first
  slot_position h l e = ap answered e ∙ elim (bool? (first <? length (slot_list n c))) [
    | inl t ↦
        let low = <?_out _ _ t in
        let at : slots_of n c first ≡ v = sym (slot_listed n c first l (omega (arith, low, l))) ∙ =?-out _ _ (passes_at_first {X = ℕ} _ _ 0 low) in
        rw t (sym (slot_found (slots_of n c) v first h (omega (arith, low, l)) at (λ k b. other k b (omega (arith, b, low, l)))))
    | inr f ↦ rw f (sym (slot_absent (slots_of n c) v (λ k b. other k (omega (arith, b, <?_no _ _ f, l)) b)))
  ]
    where
      other : (k : ℕ) → k < first → k < 8 → slots_of n c k ≢ v
      other k b low z = =?-no _ _ (fails_before_first (λ w. nat_eq w v) (slot_list n c) k 0 b) (slot_listed n c k l low ∙ z)

  -- what the search tells, of a version or of a number that is none
  module _ (l : length (slot_list n c) ≡ 8) {r : Found ℕ} (e : r ≡ position (λ w. nat_eq w v) (slot_list n c)) where
    pub position_there : (j : ℕ) → r ≡ Some j → (j < 8) × (slots_of n c j ≡ v)
    unfolding ◌=?◌
    position_there j q =
        let z = position-Some (λ w. nat_eq w v) (slot_list n c) j 0 (sym e ∙ q) in
        (omega (arith, z.0, l), sym (slot_listed n c j l (omega (arith, z.0, l))) ∙ =?-out _ _ z.1)

    pub position_lost : r ≡ None → (k : ℕ) → k < 8 → slots_of n c k ≢ v
    unfolding ◌<?◌ ◌=?◌ first
    position_lost q k h z = elim (bool? (first <? length (slot_list n c))) [
      | inl t ↦ clash refl (ap is_found (sym (rw t at (sym q ∙ e))))
      | inr f ↦ =?-no _ _ (fails_before_first (λ w. nat_eq w v) (slot_list n c) k 0 (omega (arith, <?_no _ _ f, h, l))) (slot_listed n c k l h ∙ z)
    ]

  module _ {k : Found Kind} (e : k ≡ kind_of n c) where
    pub place_unspecified : k ≡ None → answered None ≡ place_of n c v
    unfolding answered place_of
    place_unspecified q = sym (if-false _ _ _ (absent n c e q))

    pub place_high : versions ≤ v → answered None ≡ place_of n c v
    unfolding answered
    place_high h = sym (no_version n c v (slot_high _ v h))

    module _ (v< : v < versions) (l : length (slot_list n c) ≡ 8) {r : Found ℕ} (p : r ≡ position (λ w. nat_eq w v) (slot_list n c)) where
      pub place_found : (x : Kind) (j : ℕ) → k ≡ Some x → r ≡ Some j → answered (Some (c * 8 + j)) ≡ place_of n c v
      unfolding answered place_of option_map
      place_found x j q z =
          sym (if-true _ _ _ (present n c e x q) ∙ ap (option_map (λ j. c * 8 + j)) (sym (slot_position v< l p) ∙ ap answered z))

      pub place_lost : r ≡ None → answered None ≡ place_of n c v
      unfolding answered
      place_lost z = sym (no_version n c v (sym (slot_position v< l p) ∙ ap answered z))

-- what a place that was searched for tells
pub place_below : (n : List ℕ) (c v i : ℕ) → place_of n c v ≡ some i → i < 256
unfolding place_of
place_below n c v i e =
    let t = (place-limit n c v i e).0 in
    let z = option_map_out _ _ i (sym (if-true _ _ _ t) ∙ e) in
    omega (arith, (slot-some _ v z.0 z.1).0, specified_at-limit n c t, z.2)

module _ (n : List ℕ) (c v : ℕ) (r : Found ℕ) (e : answered r ≡ place_of n c v) where
  pub place_there : (i : ℕ) → r ≡ Some i → place_of n c v ≡ some i
  unfolding answered
  place_there i q = sym e ∙ ap answered q

  pub place_none : r ≡ None → place_of n c v ≡ none
  unfolding answered
  place_none q = sym e ∙ ap answered q

some_answered : (r : Found ℕ) → is_found r ≡ is_some (answered r)
unfolding answered is_some
some_answered (Some i) = refl
some_answered None = refl

-- ---- components

pub fresh_plain : (s n : List ℕ) → ((c : ℕ) → c < components → kind_at n c ≡ 0) → plain_of s n ≡ empty
fresh_plain s n zero_kind =
    book_ext (fun_ext (λ c. unfold specs_of in only_no _ _ (unspecified c)))
    (fun_ext (λ c. unfold modules_of in only_no _ _ (no_kind 2 c (omega arith))))
    (fun_ext (λ c. unfold systems_of in only_no _ _ (no_kind 3 c (omega arith))))
  where
    unspecified : (c : ℕ) → specified_at n c ≡ false
    unspecified c = unfold specified_at in and_no _ _ (λ t. fails _ (λ q. =?-no _ _ (not_out _ q) (zero_kind c (<?_out _ _ t))))

    no_kind : (k c : ℕ) → 0 < k → kind_is n k c ≡ false
    no_kind k c h = unfold kind_is in and_no _ _ (λ t. =?-not _ _ (λ q. omega (arith, h, zero_kind c (<?_out _ _ t), q)))

pub byte_small : (x : ℕ) → x < 256 → x ≡ byte x
unfolding byte
byte_small x h = sym (mod-eq_of_lt h)

module _ (s n : List ℕ) (c : ℕ) {k : Found Kind} (e : k ≡ kind_of n c) where
  pub provides_none : k ≡ None → bit 0 ≡ provides (specs_of s n) c
  provides_none q = fun_ext (λ f. bit_zero f ∙ sym (provides_plain s n c f ∙ and-false _ _ (absent n c e q)))

  pub provides_some : (x : Kind) → k ≡ Some x → Fits w64 (provides_at s c) → bit (provides_at s c) ≡ provides (specs_of s n) c
  unfolding facility_set
  provides_some x q h = fun_ext (λ f. ap (λ (a : Set). a f) (bit_below 64 _ h.fits)
      ∙ sym (provides_plain s n c f ∙ and-true _ _ (present n c e x q)))

  pub standard_none : k ≡ None → 0 ≡ standard (specs_of s n) c
  unfolding standard specs_of or_else option_map only_if
  standard_none q = sym (ap (λ (b : Bool). or_else (option_map (λ x. x.std) (only_if b (spec_at s n c))) 0) (absent n c e q))

  pub standard_some : (x : Kind) (v : ℕ) → k ≡ Some x → v ≡ standard_at n c → v ≡ standard (specs_of s n) c
  standard_some x v q ev = ev ∙ sym (standard_plain s n c (present n c e x q))

  pub versions_none : k ≡ None → bit 0 ≡ has_version (specs_of s n) c
  unfolding is_some
  versions_none q = fun_ext (λ v. bit_zero v ∙ sym (has_version_plain s n c v ∙ ap is_some (no_place n c v (absent n c e q))))

  pub versions_are : (x : Kind) (a : ℕ) {xs : List ℕ} → k ≡ Some x → xs ≡ slot_list n c → length xs ≡ 8
      → bit a ≡ among_first (length xs) (λ j. get_or xs j 0) → bit a ≡ has_version (specs_of s n) c
  unfolding place_of
  versions_are x a {xs} q exs l ea = fun_ext (λ v. ap (λ (z : Set). z v) ea ∙ ap (λ (j : ℕ). among_first j (λ j. get_or xs j 0) v) l
      ∙ among_same _ (slots_of n c) v (λ j h. ap (λ (ys : List ℕ). get_or ys j 0) exs ∙ slot_listed n c j (ap length (sym exs) ∙ l) h)
      ∙ sym (has_version_plain s n c v ∙ ap is_some (if-true _ _ _ (present n c e x q)) ∙ option_map-some _ _))

module _ (s n : List ℕ) (c : ℕ) {r : Bool} (e : r ≡ is_system (systems_of s n) c) where
  system_there : not r ≡ false → kind_is n 3 c ≡ true
  system_there t = sym (sym (not-false r t) ∙ e ∙ is_system_plain s n c)

  system_absent : not r ≡ true → kind_is n 3 c ≡ false
  system_absent t = sym (sym (not-true r t) ∙ e ∙ is_system_plain s n c)

  pub system_below : not r ≡ false → c < components
  system_below t = kind_is-limit n 3 c (system_there t)

  pub usable_none : not r ≡ true → bit 0 ≡ usable (systems_of s n) c
  usable_none t = fun_ext (λ d. bit_zero d ∙ sym (usable_plain s n c d ∙ and-false _ _ (system_absent t)))

  pub usable_some : (x : ℕ) → not r ≡ false → bit x ≡ sets.below 32 (bit (usable_at s c)) → bit x ≡ usable (systems_of s n) c
  unfolding component_set
  usable_some x t ex = fun_ext (λ d. ap (λ (a : Set). a d) ex ∙ sym (usable_plain s n c d ∙ and-true _ _ (system_there t)))

-- ---- versions

module _ (s n : List ℕ) (c v : ℕ) (r : Found ℕ) (e : answered r ≡ place_of n c v) where
  pub version_is : is_found r ≡ has_version (specs_of s n) c v
  version_is = some_answered r ∙ ap is_some e ∙ sym (has_version_plain s n c v)

  pub required_none : r ≡ None → bit 0 ≡ requires (specs_of s n) c v
  unfolding has
  required_none q = fun_ext (λ f. bit_zero f
      ∙ sym (requires_plain s n c v f ∙ ap (λ (o : Option ℕ). has o (λ i. facility_set (requires_at s i) f)) (place_none n c v r e q)))

  pub required_some : (i : ℕ) → r ≡ Some i → Fits w64 (requires_at s i) → bit (requires_at s i) ≡ requires (specs_of s n) c v
  unfolding has facility_set
  required_some i q h = fun_ext (λ f. ap (λ (a : Set). a f) (bit_below 64 _ h.fits)
      ∙ sym (requires_plain s n c v f ∙ ap (λ (o : Option ℕ). has o (λ i. sets.below 64 (bit (requires_at s i)) f)) (place_there n c v r e i q)))

  pub implementation_none : r ≡ None → answered None ≡ implementation (modules_of n) c v
  unfolding answered
  implementation_none q = sym (implementation_plain s n c v ∙ if_none _ _ (map-none _ _ (place_none n c v r e q)))

  pub implementation_some : {y : Bool} (i : ℕ) → y ≡ is_module (modules_of n) c → not y ≡ false → r ≡ Some i → Fits w8 (implementation_at n i)
      → answered (Some (implementation_at n i)) ≡ implementation (modules_of n) c v
  unfolding answered option_map
  implementation_some {y} i ey t q h =
      ap some (byte_small _ h.fits) ∙ sym (implementation_plain s n c v ∙ if-true _ _ _ (sym (sym (not-false y t) ∙ ey ∙ is_module_plain s n c))
      ∙ ap (option_map (λ i. byte (implementation_at n i))) (place_there n c v r e i q))

  pub members_none : r ≡ None → bit 0 ≡ is_member (systems_of s n) c v
  unfolding is_member is_some and_then
  members_none q = fun_ext (λ m. bit_zero m
      ∙ sym (ap is_some (member_plain s n c v m
      ∙ if_none _ _ (ap (λ (o : Option ℕ). and_then o (λ i. composition_at s n i m)) (place_none n c v r e q)))))

  pub members_some : {y : Bool} (x i : ℕ) → y ≡ is_system (systems_of s n) c → not y ≡ false → r ≡ Some i
      → bit x ≡ sets.below 32 (bit (members_at s i)) → bit x ≡ is_member (systems_of s n) c v
  unfolding is_member composition_at component_set and_then
  members_some x i ey t q ex = fun_ext (λ m. ap (λ (a : Set). a m) ex
      ∙ sym (ap is_some (member_plain s n c v m ∙ if-true _ _ _ (system_there s n c ey t)
      ∙ ap (λ (o : Option ℕ). and_then o (λ i. composition_at s n i m)) (place_there n c v r e i q)) ∙ is_some_only _ _))

  module _ (m : ℕ) (t : is_member (systems_of s n) c v m ≡ true) where
    found : (w : ℕ) × (kind_is n 3 c ≡ true) × (and_then (place_of n c v) (λ i. composition_at s n i m) ≡ some w)
    unfolding is_member
    found =
        let o = is_some_out _ t in
        let z = if_some _ _ o.0 (sym (member_plain s n c v m) ∙ o.1) in
        (o.0, z.0, z.1)

    -- the version of which it is a member has a place
    pub member_place : IsSome r
    member_place = (let z = and_then_out _ _ found.0 found.2 in some_answered r ∙ is_some_in _ (e ∙ z.1))

    pub member_below : m < components
    unfolding is_member
    member_below = (let o = is_some_out _ t in member_limit s n c v m o.0 o.1)

    pub member_found : (x i : ℕ) → r ≡ Some i → x ≡ member_version_at n i m → member (systems_of s n) c v m ≡ some x
    unfolding composition_at and_then
    member_found x i q ex =
        let at = sym (ap (λ (o : Option ℕ). and_then o (λ i. composition_at s n i m)) (place_there n c v r e i q)) ∙ found.2 in
        let z = only_some (component_set (members_at s i) m) (member_version_at n i m) found.0 at in
        member_plain s n c v m ∙ if-true _ _ _ found.1 ∙ found.2 ∙ ap some (sym z.1 ∙ sym ex)

-- what is no module has no implementation, and what is no system no members
pub implementation_absent : (s n : List ℕ) (c v : ℕ) {y : Bool} → y ≡ is_module (modules_of n) c → not y ≡ true
    → answered None ≡ implementation (modules_of n) c v
unfolding answered
implementation_absent s n c v {y} e t =
    sym (implementation_plain s n c v ∙ if-false _ _ _ (sym (sym (not-true y t) ∙ e ∙ is_module_plain s n c)))

pub members_absent : (s n : List ℕ) (c v : ℕ) {y : Bool} → y ≡ is_system (systems_of s n) c → not y ≡ true → bit 0 ≡ is_member (systems_of s n) c v
unfolding is_member is_some
members_absent s n c v e t = fun_ext (λ m. bit_zero m ∙ sym (ap is_some (member_plain s n c v m ∙ if-false _ _ _ (system_absent s n c e t))))

-- there is no version from 64 on
pub member_high : (s n : List ℕ) (c v m : ℕ) → versions ≤ v → member (systems_of s n) c v m ≡ none
unfolding and_then
member_high s n c v m h = member_plain s n c v m
    ∙ if_none _ _ (ap (λ (o : Option ℕ). and_then o (λ i. composition_at s n i m)) (no_version n c v (slot_high _ v h)))

-- the laws that one function uses
pub ruleset place_ways = (place_unspecified, place_high, place_lost, place_found)

pub ruleset implementation_ways = (implementation_absent, implementation_none, implementation_some)

pub ruleset usable_ways = (system_below, usable_none, usable_some)

pub ruleset members_ways = (members_absent, members_none, members_some)

pub ruleset member_version_ways = (member_place, member_below, member_found)
