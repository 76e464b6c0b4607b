-- A version put in, or taken out.
use Rattle.std.specs.Prelude.{IsSome, Option as Found, Some}
use Rattle.std.specs.Prelude.{false, true, List, ◌≢◌, ◌≡◌, refl, ◌*◌, ◌+◌, ◌-◌, ◌<◌, ◌^◌, ◌≤◌, ℕ, get_or, length, set}
use Rattle.std.proofs.Common.{inl, inr, ◌∙◌, le_refl, arith, pow_pos, get_or-set_other, Fits}
use Rattle.std.proofs.Math.Option.{none, some}
use Rattle.std.proofs.Math.Path.{ap, fun_ext, sym}
use Rattle.std.proofs.Math.ListN.{length-set}
use Rattle.std.proofs.Math.Seq.{get_or-set_same}
use Rattle.std.proofs.Common.{rules}
use lib.Seq.{paste}
use Rattle.std.specs.List.{between}
use Rattle.std.proofs.lemmas.List.{places}
use Rattle.std.proofs.lemmas.List.Edits.{length-paste}
use Rattle.book.specs.Changes.{Holds, HoldsVersion, TakesVersion, row_of, with_modvar, with_sysvar, with_undefined}
use Rattle.book.specs.Layout.{implementation_at, kind_at, member_version_at, members_at, requires_at, row_in, slots_of, version_at}
use Rattle.book.specs.Plain.{byte, component_set, composition_at, facility_set, kind_is, modules_of, place_of, plain_of, proper}
use Rattle.book.specs.Plain.{slot, specified_at, specs_of, systems_of}
use Rattle.book.specs.Proper.{FreePlace, ProperFacts, facts_proper, proper_component, specified_kind}
use Rattle.book.specs.ReadLaws.{book_ext, has_version_plain, is_module_plain, is_system_plain, place-limit, specified_plain}
use Rattle.book.specs.KindLaws.{kind_at_lem}
use Rattle.book.specs.Readers.{byte_small, place_below, place_there, version_is}
use Rattle.book.specs.Same.{AtPlace, heads, other_components, other_places, other_versions, place-slot, proper_rest}
use Rattle.book.specs.SlotLaws.{distinct_put, distinct-take, only_no, slot_put, slot-take}
use Rattle.book.specs.Writers.{change_none, pair_modules, pair_specs, pair_systems}
use Rattle.model.specs.Book.{components, is_defined, is_module, is_system, versions}
use Rattle.model.specs.Commands.{DEL-MODVAR, DEL-SYSVAR, after, no_facility, with_composition, with_version}
use Rattle.model.specs.Maps.{Map, change, is_some, only_if, option_map, put}
use Rattle.sets.specs.Answered.{answered}
use Rattle.sets.specs.SetLaws.{bit_below, bit_limit, bit_zero}
use Rattle.sets.specs.Sets.{Set, bit}
use Rattle.sets.specs.Tests.{◌<?◌}
use Rattle.sets.specs.TestLaws.{<?_no, <?_out, =?-not, =?-out, and_no, and_r, bool?, clash, fails, if-true, not_in, same?}
use Rattle.model_laws.specs.Accepted.{not_defined}
use Rattle.model_laws.specs.MapLaws.{is_some_no, option_map-some}
use Rattle.std.specs.Int.{w64, w8}
use Rattle.sets.specs.Sets as sets

-- ---- the row of a composition

-- k numbers that are written from a on
module _ (n zs : List ℕ) (a k x : ℕ) (h : a ≤ length n) (e : length zs ≡ k) where
  paste_before : x < a → get_or (paste n a zs k) x 0 ≡ get_or n x 0
  paste_before l = search (rules, places)

  pub paste_within : (m : ℕ) → m < k → x ≡ a + m → get_or (paste n a zs k) x 0 ≡ get_or zs m 0
  paste_within m l ex = search (rules, places)

  paste_after : a + k ≤ x → get_or (paste n a zs k) x 0 ≡ get_or n x 0
  paste_after l = search (rules, places)

  pub paste_other : ((m : ℕ) → m < k → x ≢ a + m) → get_or (paste n a zs k) x 0 ≡ get_or n x 0
  paste_other ne = elim (bool? (x <? a)) [
    | inl t ↦ paste_before (<?_out _ _ t)
    | inr f ↦ elim (bool? (x <? a + k)) [
      | inl u ↦ absurd (ne (x - a) (omega (arith, <?_out _ _ u, <?_no _ _ f)) (omega (arith, <?_no _ _ f)))
      | inr u ↦ paste_after (<?_no _ _ u)
    ]
  ]

module _ (n : List ℕ) (i : ℕ) (rows : List ℕ) (v : ℕ) (ln : length n ≡ 8768) (hi : i < 256) (lr : length rows ≡ 2048) (hv : v < 64) where
  start : ℕ
  start = 576 + i * 32

  row : List ℕ
  row = between (v * 32) (v * 32 + 32) rows

  start< : start + 32 ≤ length n
  unfolding start
  start< = omega (arith, ln, hi)

  row_size : length row ≡ 32
  unfolding row
  row_size = search (rules, places)

  row_holds : (m : ℕ) → m < 32 → get_or row m 0 ≡ get_or rows (v * 32 + m) 0
  unfolding row
  row_holds m l = search (rules, places)

  pub row_length : length (row_in n i rows v) ≡ length n
  unfolding row_in start row
  row_length = length-paste n start row 32 start< (omega (arith, row_size))

  pub row_other : (x : ℕ) → ((m : ℕ) → m < 32 → x ≢ 576 + (i * 32 + m)) → get_or (row_in n i rows v) x 0 ≡ get_or n x 0
  unfolding row_in start row
  row_other x ne = paste_other n row start 32 x (omega (arith, start<)) row_size (λ m l q. ne m l (omega (arith, q)))

  pub row_same : (m : ℕ) → m < 32 → member_version_at (row_in n i rows v) i m ≡ get_or rows (v * 32 + m) 0
  unfolding row_in start row
  row_same m l = paste_within n row start 32 (576 + (i * 32 + m)) (omega (arith, start<)) row_size m l (omega arith) ∙ row_holds m l

-- a row that is stored at the place i with its members
pub row_composition : (s n : List ℕ) (i ms : ℕ) (rows : List ℕ) (v : ℕ) → length n ≡ 8768 → i < 256 → length rows ≡ 2048 → v < 64
    → members_at s i ≡ ms → ms < 2 ^ 32 → composition_at s (row_in n i rows v) i ≡ row_of ms rows v
unfolding composition_at row_of component_set
row_composition s n i ms rows v ln hi lr hv e h = fun_ext (λ m.
    ap (λ (x : ℕ). only_if (sets.below 32 (bit x) m) (member_version_at (row_in n i rows v) i m)) e
    ∙ ap (λ (a : Set). only_if (a m) (member_version_at (row_in n i rows v) i m)) (sym (bit_below 32 ms h))
    ∙ elim (bool? (bit ms m)) [
      | inl t ↦ ap (only_if (bit ms m)) (row_same n i rows v ln hi lr hv m (bit_limit 32 ms m h t))
      | inr t ↦ only_no _ _ t ∙ sym (only_no _ _ t)
    ])

-- ---- a version put into a free place

module _ (s n s' n' : List ℕ) (c v i : ℕ) (t : TakesVersion s n c v) (f : FreePlace n c i) (k : AtPlace s n s' n' i) (here : version_at n' i ≡ v) where
  c< : c < components
  c< = t.room.component<

  spec : specified_at n c ≡ true
  spec = sym (specified_plain s n c) ∙ t.room.is_specified

  facts : ProperFacts s n c
  facts = proper_component s n c t.room.is_proper c< (specified_kind n c spec)

  absent : slot (slots_of n c) v ≡ none
  unfolding place_of
  absent = is_some_no _ (sym (option_map-some (λ j. c * 8 + j) _) ∙ ap is_some (sym (if-true _ _ _ spec)) ∙ sym (has_version_plain s n c v) ∙ t.is_new)

  here' : slots_of n' c f.slot ≡ v
  here' = rw f.is at here

  k' : AtPlace s n s' n' (c * 8 + f.slot)
  k' = rw f.is at k

  rest : (a : ℕ) → a < 8 → a ≢ f.slot → slots_of n' c a ≡ slots_of n c a
  rest a l ne = other_versions s n s' n' i f.place< k (c * 8 + a) (omega arith) (λ q. ne (omega (arith, f.is, q)))

  slots : slot (slots_of n' c) ≡ put v (some f.slot) (slot (slots_of n c))
  slots = slot_put (slots_of n c) (slots_of n' c) f.slot v f.slot< t.version< rest f.free absent here'

  apart : (u : ℕ) → u ≢ v → u < versions → slots_of n c f.slot ≢ u
  apart u ne l q = omega (arith, f.free, l, q)

  pub put_specs : specs_of s' n' ≡ change c (with_version v (some (facility_set (requires_at s' i)))) (specs_of s n)
  unfolding option_map
  put_specs = rw f.is (pair_specs s n s' n' c f.slot v (some f.slot) c< f.slot< spec k' slots apart)

  pub put_modules : modules_of n' ≡ change c (put v (some (byte (implementation_at n' i)))) (modules_of n)
  unfolding option_map
  put_modules = rw f.is (pair_modules s n s' n' c f.slot v (some f.slot) c< f.slot< spec k' slots apart)

  pub put_systems : systems_of s' n' ≡ change c (with_composition v (some (composition_at s' n' i))) (systems_of s n)
  unfolding option_map
  put_systems = rw f.is (pair_systems s n s' n' c f.slot v (some f.slot) c< f.slot< spec k' slots apart)

  pub put_proper : (kind_at n c ≡ 3 → members_at s' i < 2 ^ 32) → proper s' n' ≡ true
  put_proper low =
      let h = heads s n s' n' i f.place< k c c< in
      proper_rest s n s' n' c (λ d d< ne. other_components s n s' n' i f.place< k c f.slot d f.slot< f.is d< ne) t.room.is_proper
      (λ ne. facts_proper s' n' c (record {
        kind = rw h.kind facts.kind;
        low = λ j l. elim (same? j f.slot) [ inl e ↦ rw e (rw here' (omega (arith, t.version<))) | inr q ↦ rw (rest j l q) (facts.low j l) ];
        distinct = distinct_put (slots_of n c) (slots_of n' c) f.slot v f.slot< t.version< rest f.free absent here' facts.distinct;
        uses = λ e. rw h.usable (facts.uses (sym h.kind ∙ e));
        members = λ e j l lo. elim (same? j f.slot) [
          | inl q ↦ rw q (rw f.is at (low (sym h.kind ∙ e)))
          | inr q ↦ rw (other_places s n s' n' i f.place< k (c * 8 + j) (omega arith) (λ z. q (omega (arith, f.is, z)))).members
              (facts.members (sym h.kind ∙ e) j l (rw (rest j l q) at lo))
        ];
      }))

-- ---- the writers that put in a version

-- a set of 64 facilities is all that its number says
pub facilities-all : (q : ℕ) → q < 2 ^ 64 → facility_set q ≡ bit q
unfolding facility_set
facilities-all q h = sym (bit_below 64 q h)

pub no_module : (s n : List ℕ) (c : ℕ) → is_module (modules_of n) c ≡ false → modules_of n c ≡ none
unfolding is_module
no_module s n c e = is_some_no _ e

pub no_system : (s n : List ℕ) (c : ℕ) → is_system (systems_of s n) c ≡ false → systems_of s n c ≡ none
unfolding is_system
no_system s n c e = is_some_no _ e

-- what is a module is no system, and the other way round
pub module_or_system : (s n : List ℕ) (c : ℕ) → is_module (modules_of n) c ≡ true → is_system (systems_of s n) c ≡ false
unfolding kind_is
module_or_system s n c t = is_system_plain s n c ∙ and_no _ _ (λ l. =?-not _ _ (λ q.
    omega (arith, q, =?-out _ _ (and_r _ _ (sym (is_module_plain s n c) ∙ t)))))

pub kind_of_module : (s n : List ℕ) (c : ℕ) → is_module (modules_of n) c ≡ true → kind_at n c ≡ 2
unfolding kind_is
kind_of_module s n c t = =?-out _ _ (and_r _ _ (sym (is_module_plain s n c) ∙ t))

module _ (s n : List ℕ) (c v i : ℕ) (ls : length s ≡ 576) (ln : length n ≡ 8768) (t : TakesVersion s n c v) (f : FreePlace n c i) where
  i< : i < 256
  i< = f.place<

  -- the version alone, of a component that is not defined
  module _ (q : ℕ) (q< : Fits w64 q) (undefined : is_defined (modules_of n) (systems_of s n) c ≡ false) where
    abbrev s₁ : List ℕ
    s₁ = set s (64 + i) q

    abbrev n₁ : List ℕ
    n₁ = set n (64 + i) v

    version_confined : AtPlace s n s₁ n₁ i
    version_confined = record {
      sets = λ x a b. get_or-set_other s (64 + i) x q 0 a;
      numbers = λ x a b m. get_or-set_other n (64 + i) x v 0 a;
    }

    version_here : version_at n₁ i ≡ v
    version_here = let l = f.place< in get_or-set_same n (64 + i) v 0 (omega arith)

    neither : (is_module (modules_of n) c ≡ false) × (is_system (systems_of s n) c ≡ false)
    neither = not_defined (modules_of n) (systems_of s n) c (not_in _ undefined)

    pub version_put : Holds s₁ n₁ (with_undefined (plain_of s n) c v (bit q))
    unfolding with_undefined
    version_put = let l = f.place< in record {
      is = book_ext
          (put_specs s n s₁ n₁ c v i t f version_confined version_here
          ∙ ap (λ (a : Set). change c (with_version v (some a)) (specs_of s n)) (ap facility_set (get_or-set_same s (64 + i) q 0 (omega arith)) ∙ facilities-all q q<.fits))
          (put_modules s n s₁ n₁ c v i t f version_confined version_here ∙ change_none _ c _ (no_module s n c neither.0))
          (put_systems s n s₁ n₁ c v i t f version_confined version_here ∙ change_none _ c _ (no_system s n c neither.1));
      is_proper = put_proper s n s₁ n₁ c v i t f version_confined version_here
          (λ e. clash (is_system_plain s n c ∙ kind_at_lem n c t.room.component< 3 e) neither.1);
    }

  -- with an implementation, of a module
  module _ (q x : ℕ) (q< : Fits w64 q) (x< : Fits w8 x) (is_m : is_module (modules_of n) c ≡ true) where
    abbrev s₂ : List ℕ
    s₂ = set s (64 + i) q

    abbrev n₂ : List ℕ
    n₂ = set (set n (64 + i) v) (320 + i) x

    modvar_confined : AtPlace s n s₂ n₂ i
    modvar_confined = record {
      sets = λ y a b. get_or-set_other s (64 + i) y q 0 a;
      numbers = λ y a b m. get_or-set_other (set n (64 + i) v) (320 + i) y x 0 b ∙ get_or-set_other n (64 + i) y v 0 a;
    }

    modvar_here : version_at n₂ i ≡ v
    modvar_here = let l = f.place< in
        get_or-set_other (set n (64 + i) v) (320 + i) (64 + i) x 0 (omega arith) ∙ get_or-set_same n (64 + i) v 0 (omega arith)

    pub modvar_put : Holds s₂ n₂ (with_modvar (plain_of s n) c v (bit q) x)
    unfolding with_modvar
    modvar_put = let l = f.place< in record {
      is = book_ext
          (put_specs s n s₂ n₂ c v i t f modvar_confined modvar_here
          ∙ ap (λ (a : Set). change c (with_version v (some a)) (specs_of s n)) (ap facility_set (get_or-set_same s (64 + i) q 0 (omega arith)) ∙ facilities-all q q<.fits))
          (put_modules s n s₂ n₂ c v i t f modvar_confined modvar_here
          ∙ ap (λ (y : ℕ). change c (put v (some y)) (modules_of n))
          (ap byte (get_or-set_same (set n (64 + i) v) (320 + i) x 0 (omega (arith, length-set n (64 + i) v))) ∙ sym (byte_small x x<.fits)))
          (put_systems s n s₂ n₂ c v i t f modvar_confined modvar_here ∙ change_none _ c _ (no_system s n c (module_or_system s n c is_m)));
      is_proper = put_proper s n s₂ n₂ c v i t f modvar_confined modvar_here (λ e. absurd (omega (arith, e, kind_of_module s n c is_m)));
    }

  -- with a composition and empty requirements, of a system
  module _ (ms : ℕ) (rows : List ℕ) {n₄ : List ℕ} (lr : length rows ≡ 2048) (ms< : ms < 2 ^ 32)
      (isY : is_system (systems_of s n) c ≡ true) (e₄ : n₄ ≡ row_in (set n (64 + i) v) i rows v) where
    abbrev s₃ : List ℕ
    s₃ = set (set s (64 + i) 0) (320 + i) ms

    abbrev n₃ : List ℕ
    n₃ = row_in (set n (64 + i) v) i rows v

    sized : length (set n (64 + i) v) ≡ 8768
    sized = length-set n (64 + i) v ∙ ln

    sysvar_confined : AtPlace s n s₃ n₃ i
    sysvar_confined = record {
      sets = λ y a b. get_or-set_other (set s (64 + i) 0) (320 + i) y ms 0 b ∙ get_or-set_other s (64 + i) y 0 0 a;
      numbers = λ y a b m. row_other (set n (64 + i) v) i rows v sized f.place< lr t.version< y m ∙ get_or-set_other n (64 + i) y v 0 a;
    }

    sysvar_here : version_at n₃ i ≡ v
    sysvar_here = let l = f.place< in
        row_other (set n (64 + i) v) i rows v sized f.place< lr t.version< (64 + i) (λ m h. omega arith) ∙ get_or-set_same n (64 + i) v 0 (omega arith)

    members_here : members_at s₃ i ≡ ms
    members_here = let l = f.place< in get_or-set_same (set s (64 + i) 0) (320 + i) ms 0 (omega (arith, length-set s (64 + i) 0))

    required_here : facility_set (requires_at s₃ i) ≡ no_facility
    unfolding no_facility
    required_here = let l = f.place< in
        ap facility_set (get_or-set_other (set s (64 + i) 0) (320 + i) (64 + i) ms 0 (omega arith) ∙ get_or-set_same s (64 + i) 0 0 (omega arith))
        ∙ facilities-all 0 (pow_pos 64) ∙ fun_ext bit_zero

    sysvar_at : Holds s₃ n₃ (with_sysvar (plain_of s n) c v (row_of ms rows v))
    unfolding with_sysvar
    sysvar_at = record {
      is = book_ext
          (put_specs s n s₃ n₃ c v i t f sysvar_confined sysvar_here ∙ ap (λ (a : Set). change c (with_version v (some a)) (specs_of s n)) required_here)
          (put_modules s n s₃ n₃ c v i t f sysvar_confined sysvar_here
          ∙ change_none _ c _ (no_module s n c (fails _ (λ m. clash isY (module_or_system s n c m)))))
          (put_systems s n s₃ n₃ c v i t f sysvar_confined sysvar_here
          ∙ ap (λ (a : Map ℕ). change c (with_composition v (some a)) (systems_of s n))
          (row_composition s₃ (set n (64 + i) v) i ms rows v sized f.place< lr t.version< members_here ms<));
      is_proper = put_proper s n s₃ n₃ c v i t f sysvar_confined sysvar_here (λ e. rw members_here ms<);
    }

    pub sysvar_put : Holds s₃ n₄ (with_sysvar (plain_of s n) c v (row_of ms rows v))
    sysvar_put = rw e₄ sysvar_at

-- ---- the writers that take out a version

module _ (s n : List ℕ) (c v i : ℕ) (ln : length n ≡ 8768) (t : HoldsVersion s n c v) (e : place_of n c v ≡ some i) where
  abbrev n₅ : List ℕ
  n₅ = set n (64 + i) 64

  j : ℕ
  j = (place-slot n c v i e).0

  j< : j < 8
  unfolding j
  j< = (place-slot n c v i e).1

  at : i ≡ c * 8 + j
  unfolding j
  at = (place-slot n c v i e).2

  stands : slots_of n c j ≡ v
  unfolding j
  stands = (place-slot n c v i e).3

  taken : AtPlace s n s n₅ (c * 8 + j)
  taken = record {
    sets = λ x a b. refl;
    numbers = λ x a b m. get_or-set_other n (64 + i) x 64 0 (λ q. a (omega (arith, at, q)));
  }

  spec₅ : specified_at n c ≡ true
  spec₅ = (place-limit n c v i e).0

  facts₅ : ProperFacts s n c
  facts₅ = proper_component s n c t.is_proper t.component< (specified_kind n c spec₅)

  p< : c * 8 + j < 256
  p< = omega (arith, at, place_below n c v i e)

  rest₅ : (a : ℕ) → a < 8 → a ≢ j → slots_of n₅ c a ≡ slots_of n c a
  rest₅ a l ne = other_versions s n s n₅ (c * 8 + j) p< taken (c * 8 + a) (omega (arith, t.component<)) (λ q. ne (omega arith))

  gone : slots_of n₅ c j ≡ versions
  gone = rw (sym at) (get_or-set_same n (64 + i) 64 0 (omega (arith, place_below n c v i e)))

  slots₅ : slot (slots_of n₅ c) ≡ put v none (slot (slots_of n c))
  slots₅ = slot-take (slots_of n c) (slots_of n₅ c) j v j< (place-limit n c v i e).1 rest₅ facts₅.distinct stands gone

  apart₅ : (u : ℕ) → u ≢ v → u < versions → slots_of n c j ≢ u
  apart₅ u ne l q = ne (sym q ∙ stands)

  take_specs : specs_of s n₅ ≡ change c (with_version v none) (specs_of s n)
  unfolding option_map
  take_specs = pair_specs s n s n₅ c j v none t.component< j< spec₅ taken slots₅ apart₅

  take_modules : modules_of n₅ ≡ change c (put v none) (modules_of n)
  unfolding option_map
  take_modules = pair_modules s n s n₅ c j v none t.component< j< spec₅ taken slots₅ apart₅

  take_systems : systems_of s n₅ ≡ change c (with_composition v none) (systems_of s n)
  unfolding option_map
  take_systems = pair_systems s n s n₅ c j v none t.component< j< spec₅ taken slots₅ apart₅

  take-proper : proper s n₅ ≡ true
  take-proper =
      let h = heads s n s n₅ (c * 8 + j) p< taken c t.component< in
      proper_rest s n s n₅ c (λ d d< ne. other_components s n s n₅ (c * 8 + j) p< taken c j d j< refl d< ne) t.is_proper
      (λ ne. facts_proper s n₅ c (record {
        kind = rw h.kind facts₅.kind;
        low = λ a l. elim (same? a j) [ inl q ↦ rw q (rw gone (le_refl versions)) | inr q ↦ rw (rest₅ a l q) (facts₅.low a l) ];
        distinct = distinct-take (slots_of n c) (slots_of n₅ c) j v j< (place-limit n c v i e).1 rest₅ facts₅.distinct stands gone;
        uses = λ q. facts₅.uses (sym h.kind ∙ q);
        members = λ q a l lo. elim (same? a j) [
          | inl z ↦ absurd (omega (arith, lo, ap (slots_of n₅ c) z ∙ gone))
          | inr z ↦ facts₅.members (sym h.kind ∙ q) a l (rw (rest₅ a l z) at lo)
        ];
      }))

  pub modvar_taken : is_module (modules_of n) c ≡ true → Holds s n₅ (after (plain_of s n) (DEL-MODVAR c v))
  unfolding after
  modvar_taken is_m = record {
    is = book_ext take_specs take_modules (take_systems ∙ change_none _ c _ (no_system s n c (module_or_system s n c is_m)));
    is_proper = take-proper;
  }

  pub sysvar_taken : is_system (systems_of s n) c ≡ true → Holds s n₅ (after (plain_of s n) (DEL-SYSVAR c v))
  unfolding after
  sysvar_taken isY = record {
    is = book_ext take_specs (take_modules ∙ change_none _ c _ (no_module s n c (fails _ (λ m. clash isY (module_or_system s n c m))))) take_systems;
    is_proper = take-proper;
  }

-- a version that is there has a place
pub held_place : (s n : List ℕ) (c v : ℕ) (r : Found ℕ) → HoldsVersion s n c v → answered r ≡ place_of n c v → IsSome r
held_place s n c v r t e = version_is s n c v r e ∙ t.is_there

pub modvar_out : (s n : List ℕ) (c v i : ℕ) (r : Found ℕ) → length n ≡ 8768 → HoldsVersion s n c v → is_module (modules_of n) c ≡ true
    → answered r ≡ place_of n c v → r ≡ Some i → Holds s (set n (64 + i) 64) (after (plain_of s n) (DEL-MODVAR c v))
modvar_out s n c v i r ln t m e q = modvar_taken s n c v i ln t (place_there n c v r e i q) m

pub sysvar_out : (s n : List ℕ) (c v i : ℕ) (r : Found ℕ) → length n ≡ 8768 → HoldsVersion s n c v → is_system (systems_of s n) c ≡ true
    → answered r ≡ place_of n c v → r ≡ Some i → Holds s (set n (64 + i) 64) (after (plain_of s n) (DEL-SYSVAR c v))
sysvar_out s n c v i r ln t y e q = sysvar_taken s n c v i ln t (place_there n c v r e i q) y
