-- A definition put in or taken out, a specification taken out, and a blank specification: what changes is the component c alone.
use Rattle.std.specs.Prelude.{false, true, List, ◌≢◌, ◌≡◌, ◌*◌, ◌+◌, ◌<◌, ◌^◌, ◌≤◌, ℕ, length, set}
use Rattle.std.proofs.Math.Logic.{inl, inr}
use Rattle.std.proofs.Math.Option.{Option, none, some}
use Rattle.std.proofs.Common.{◌∙◌, arith, get_or-set_same}
use Rattle.std.proofs.Math.Path.{ap, ap₂, fun_ext, refl, sym}
use Rattle.std.proofs.Math.ListN.{get_or}
use Rattle.std.proofs.Math.Seq.{get_or-set_other}
use Rattle.book.specs.Changes.{Holds, TakesDefinition, implementations_of, with_module}
use Rattle.book.specs.Layout.{implementation_at, kind_at, members_at, provides_at, requires_at, slots_of, standard_at, usable_at}
use Rattle.book.specs.Plain.{byte, component_set, composition_at, facility_set, kind_is, module_at, modules_of, place_of, plain_of}
use Rattle.book.specs.Plain.{proper, spec_at, specified_at, specs_of, system_at, systems_of}
use Rattle.book.specs.Proper.{facts_proper, proper_component, specified_kind}
use Rattle.book.specs.PutLaws.{module_or_system, no_module, no_system}
use Rattle.book.specs.ReadLaws.{book_ext, has_version_plain, is_module_plain, is_system_plain, kind_specified, map_at, map-none}
use Rattle.book.specs.ReadLaws.{place-limit, specified_plain}
use Rattle.book.specs.KindLaws.{not_kind, not-specified, specified_at_lem}
use Rattle.book.specs.Same.{AtComponent, SameComponent, map_same, other_modules, other_specs, other_systems, others}
use Rattle.book.specs.Same.{place-slot, proper_rest, specs_ext, system_ext}
use Rattle.book.specs.SlotLaws.{distinct_same, only_no, only_yes, slot_same}
use Rattle.book.specs.Writers.{put_ext, put_none}
use Rattle.model.specs.Book.{System, components, is_defined, is_module, is_system, versions}
use Rattle.model.specs.Commands.{DEL-MOD, DEL-SPEC, DEL-SYS, after}
use Rattle.model.specs.Maps.{Map, is_some, only_if, option_map, put}
use Rattle.sets.specs.TestLaws.{<?_in, =?-not, =?-same, and-true, clash, fails, if-true, not_in, same?}
use Rattle.sets.specs.Tests.{◌=?◌}
use Rattle.model_laws.specs.Accepted.{not_defined}
use Rattle.model_laws.specs.MapLaws.{is_some_in, option?}

-- ---- the kind of c is set to k, with what stands at its places; its versions and its specification stay

module _ (s n s' n' : List ℕ) (c k : ℕ) (c< : c < components) (there : specified_at n c ≡ true) (at : AtComponent s n s' n' c) (kind : kind_at n' c ≡ k)
    (k> : k ≢ 0) (provides' : provides_at s' c ≡ provides_at s c) (standard' : standard_at n' c ≡ standard_at n c)
    (slots' : (j : ℕ) → j < 8 → slots_of n' c j ≡ slots_of n c j) (requires' : (j : ℕ) → j < 8 → requires_at s' (c * 8 + j) ≡ requires_at s (c * 8 + j)) where
  off : (d : ℕ) → d < 32 → d ≢ c → SameComponent s n s' n' d
  off = others s n s' n' c c< at

  there' : specified_at n' c ≡ true
  there' = specified_at_lem n' c c< (λ q. k> (sym kind ∙ q))

  places : (v : ℕ) → place_of n' c v ≡ place_of n c v
  unfolding place_of
  places v = if-true _ _ _ there' ∙ ap (option_map (λ j. c * 8 + j)) (slot_same _ _ v (λ j l. ap (λ (x : ℕ). x =? v) (slots' j l))) ∙ sym (if-true _ _ _ there)

  pub kept_specs : specs_of s' n' ≡ specs_of s n
  kept_specs = fun_ext (λ d. elim (same? d c) [ inl e ↦ rw e here | inr ne ↦ other_specs s n s' n' c off d ne ])
    where
      required : (v : ℕ) → option_map (λ i. facility_set (requires_at s' i)) (place_of n' c v) ≡ option_map (λ i. facility_set (requires_at s i)) (place_of n c v)
      required = map_same (place_of n c) (place_of n' c) _ _ places (λ v i e.
          (let z = place-slot n c v i e in ap facility_set (ap (requires_at s') z.2 ∙ requires' z.0 z.1 ∙ ap (requires_at s) (sym z.2))))

      here : specs_of s' n' c ≡ specs_of s n c
      here = unfold specs_of spec_at in
          ap₂ only_if (there' ∙ sym there) (specs_ext (ap facility_set provides') (fun_ext required) standard')

  pub set_modules : modules_of n' ≡ put c (only_if (k =? 2) (λ v. option_map (λ i. byte (implementation_at n' i)) (place_of n c v))) (modules_of n)
  unfolding modules_of module_at kind_is
  set_modules = put_ext _ _ c _ (other_modules s n s' n' c off)
      (ap₂ only_if (and-true _ _ (<?_in _ _ c<) ∙ ap (λ (x : ℕ). x =? 2) kind) (fun_ext (λ v. ap (option_map (λ i. byte (implementation_at n' i))) (places v))))

  pub set_systems : systems_of s' n'
      ≡ put c (only_if (k =? 3) (record { uses = component_set (usable_at s' c); comp = λ v. option_map (composition_at s' n') (place_of n c v) })) (systems_of s n)
  unfolding systems_of system_at kind_is
  set_systems = put_ext _ _ c _ (other_systems s n s' n' c off)
      (ap₂ only_if (and-true _ _ (<?_in _ _ c<) ∙ ap (λ (x : ℕ). x =? 3) kind)
      (system_ext refl (fun_ext (λ v. ap (option_map (composition_at s' n')) (places v)))))

  pub set-proper : proper s n ≡ true → k ≤ 3 → (k ≡ 3 → usable_at s' c < 2 ^ 32)
      → (k ≡ 3 → (j : ℕ) → j < 8 → slots_of n c j < versions → members_at s' (c * 8 + j) < 2 ^ 32) → proper s' n' ≡ true
  set-proper ok k≤ uses low =
      let f = proper_component s n c ok c< (specified_kind n c there) in
      proper_rest s n s' n' c off ok (λ ne. facts_proper s' n' c (record {
        kind = rw kind k≤;
        low = λ j l. rw (slots' j l) (f.low j l);
        distinct = distinct_same (slots_of n c) (slots_of n' c) slots' f.distinct;
        uses = λ e. uses (sym kind ∙ e);
        members = λ e j l lo. low (sym kind ∙ e) j l (rw (slots' j l) at lo);
      }))

-- ---- a definition taken out

module _ (s n : List ℕ) (c : ℕ) (c< : c < components) (ln : length n ≡ 8768) (ok : proper s n ≡ true) where
  abbrev n₁ : List ℕ
  n₁ = set n c 1

  at₁ : AtComponent s n s n₁ c
  at₁ = record { sets = λ x a b d e. refl; numbers = λ x a b d e f. get_or-set_other n c x 1 0 a }

  kind₁ : kind_at n₁ c ≡ 1
  kind₁ = get_or-set_same n c 1 0 (omega arith)

  module _ (there : specified_at n c ≡ true) where
    specs₁ : specs_of s n₁ ≡ specs_of s n
    specs₁ = kept_specs s n s n₁ c 1 c< there at₁ kind₁ (omega arith) refl (get_or-set_other n c (32 + c) 1 0 (omega arith))
        (λ j l. get_or-set_other n c (64 + (c * 8 + j)) 1 0 (omega arith)) (λ j l. refl)

    modules₁ : modules_of n₁ ≡ put c none (modules_of n)
    modules₁ = set_modules s n s n₁ c 1 c< there at₁ kind₁ (omega arith) refl (get_or-set_other n c (32 + c) 1 0 (omega arith))
        (λ j l. get_or-set_other n c (64 + (c * 8 + j)) 1 0 (omega arith)) (λ j l. refl)
        ∙ ap (λ (o : Option (Map ℕ)). put c o (modules_of n)) (only_no _ _ (=?-not 1 2 (omega arith)))

    systems₁ : systems_of s n₁ ≡ put c none (systems_of s n)
    systems₁ = set_systems s n s n₁ c 1 c< there at₁ kind₁ (omega arith) refl (get_or-set_other n c (32 + c) 1 0 (omega arith))
        (λ j l. get_or-set_other n c (64 + (c * 8 + j)) 1 0 (omega arith)) (λ j l. refl)
        ∙ ap (λ (o : Option System). put c o (systems_of s n)) (only_no _ _ (=?-not 1 3 (omega arith)))

    proper₁ : proper s n₁ ≡ true
    proper₁ = set-proper s n s n₁ c 1 c< there at₁ kind₁ (omega arith) refl (get_or-set_other n c (32 + c) 1 0 (omega arith))
        (λ j l. get_or-set_other n c (64 + (c * 8 + j)) 1 0 (omega arith)) (λ j l. refl) ok (omega arith) (λ e. absurd (omega arith)) (λ e. absurd (omega arith))

  pub module_taken : is_module (modules_of n) c ≡ true → Holds s n₁ (after (plain_of s n) (DEL-MOD c))
  unfolding after
  module_taken t =
      let there = kind_specified n 2 c (sym (is_module_plain s n c) ∙ t) (omega arith) in
      record {
        is = book_ext (specs₁ there) (modules₁ there) (systems₁ there ∙ put_none _ c (no_system s n c (module_or_system s n c t)));
        is_proper = proper₁ there;
      }

  pub system_taken : is_system (systems_of s n) c ≡ true → Holds s n₁ (after (plain_of s n) (DEL-SYS c))
  unfolding after
  system_taken t =
      let there = kind_specified n 3 c (sym (is_system_plain s n c) ∙ t) (omega arith) in
      record {
        is = book_ext (specs₁ there) (modules₁ there ∙ put_none _ c (no_module s n c (fails _ (λ m. clash t (module_or_system s n c m))))) (systems₁ there);
        is_proper = proper₁ there;
      }

  -- ---- a specification taken out

  abbrev n₀ : List ℕ
  n₀ = set n c 0

  at₀ : AtComponent s n s n₀ c
  at₀ = record { sets = λ x a b d e. refl; numbers = λ x a b d e f. get_or-set_other n c x 0 0 a }

  kind₀ : kind_at n₀ c ≡ 0
  kind₀ = get_or-set_same n c 0 0 (omega arith)

  pub spec_taken : Holds s n₀ (after (plain_of s n) (DEL-SPEC c))
  unfolding after specs_of modules_of systems_of
  spec_taken =
      let off = others s n s n₀ c c< at₀ in
      record {
        is = book_ext (put_ext _ _ c none (other_specs s n s n₀ c off) (only_no _ _ (not-specified n₀ c kind₀)))
            (put_ext _ _ c none (other_modules s n s n₀ c off) (only_no _ _ (not_kind n₀ 2 c (λ e. omega (arith, kind₀, e)))))
            (put_ext _ _ c none (other_systems s n s n₀ c off) (only_no _ _ (not_kind n₀ 3 c (λ e. omega (arith, kind₀, e)))));
        is_proper = proper_rest s n s n₀ c off ok (λ ne. absurd (ne kind₀));
      }

-- ---- a module put in

-- the implementations of the first j slots of c are stored
pub record Implemented (n₀ given : List ℕ) (c j : ℕ) (n : List ℕ) : Type 0 where
  pub others : (x : ℕ) → ((k : ℕ) → k < 8 → x ≢ 320 + (c * 8 + k)) → get_or n x 0 ≡ get_or n₀ x 0
  pub stored : (k : ℕ) → k < j → slots_of n₀ c k < versions → implementation_at n (c * 8 + k) ≡ get_or given (slots_of n₀ c k) 0

-- what a writer that puts in a definition asks: a specified component that is not defined
pub defined_none : (s n : List ℕ) (c : ℕ) → is_defined (modules_of n) (systems_of s n) c ≡ false → (is_module (modules_of n) c ≡ false) × (is_system (systems_of s n) c ≡ false)
defined_none s n c e = not_defined _ _ c (not_in _ e)

module _ (s n given : List ℕ) (c : ℕ) (t : TakesDefinition s n c) (n' : List ℕ) (ln : length n' ≡ 8768) (j : ℕ) (j≥ : 8 ≤ j)
    (done : Implemented n given c j n') where
  abbrev n₂ : List ℕ
  n₂ = set n' c 2

  c<₂ : c < components
  c<₂ = t.component<

  there₂ : specified_at n c ≡ true
  there₂ = sym (specified_plain s n c) ∙ t.is_specified

  kind₂ : kind_at n₂ c ≡ 2
  kind₂ = get_or-set_same n' c 2 0 (omega (arith, ln, t.component<))

  at₂ : AtComponent s n s n₂ c
  at₂ = record { sets = λ x a b d e. refl; numbers = λ x a b d e f. get_or-set_other n' c x 2 0 a ∙ done.others x e }

  standard₂ : standard_at n₂ c ≡ standard_at n c
  standard₂ = let l = t.component< in get_or-set_other n' c (32 + c) 2 0 (omega arith) ∙ done.others (32 + c) (λ k h. omega arith)

  slots₂ : (k : ℕ) → k < 8 → slots_of n₂ c k ≡ slots_of n c k
  slots₂ k h = let l = t.component< in get_or-set_other n' c (64 + (c * 8 + k)) 2 0 (omega arith) ∙ done.others (64 + (c * 8 + k)) (λ a b. omega arith)

  stored₂ : (v : ℕ) → option_map (λ i. byte (implementation_at n₂ i)) (place_of n c v) ≡ implementations_of (specs_of s n) c given v
  unfolding implementations_of
  stored₂ v = elim (option? (place_of n c v)) [
    | inl e ↦ map-none _ _ e ∙ sym (only_no _ _ (has_version_plain s n c v ∙ ap is_some e ∙ unfold is_some in refl))
    | inr y ↦ (let z = place-slot n c v y.0 y.1 in let l = t.component< in
        map_at _ _ y.0 y.1
        ∙ ap (λ (x : ℕ). some (byte x)) (ap (implementation_at n₂) z.2 ∙ get_or-set_other n' c (320 + (c * 8 + z.0)) 2 0 (omega arith)
        ∙ done.stored z.0 (omega (arith, z.1)) (rw z.3 (place-limit n c v y.0 y.1).1) ∙ ap (λ (x : ℕ). get_or given x 0) z.3)
        ∙ sym (only_yes _ _ (has_version_plain s n c v ∙ is_some_in _ y.1)))
  ]

  pub module_put : Holds s n₂ (with_module (plain_of s n) c (implementations_of (specs_of s n) c given))
  unfolding with_module
  module_put = record {
    is = book_ext (kept_specs s n s n₂ c 2 c<₂ there₂ at₂ kind₂ (omega arith) refl standard₂ slots₂ (λ j l. refl))
        (set_modules s n s n₂ c 2 c<₂ there₂ at₂ kind₂ (omega arith) refl standard₂ slots₂ (λ j l. refl)
        ∙ ap (λ (o : Option (Map ℕ)). put c o (modules_of n)) (only_yes _ _ (=?-same 2) ∙ ap some (fun_ext stored₂)))
        (set_systems s n s n₂ c 2 c<₂ there₂ at₂ kind₂ (omega arith) refl standard₂ slots₂ (λ j l. refl)
        ∙ ap (λ (o : Option System). put c o (systems_of s n)) (only_no _ _ (=?-not 2 3 (omega arith)))
        ∙ put_none _ c (no_system s n c (defined_none s n c t.is_undefined).1));
    is_proper = set-proper s n s n₂ c 2 c<₂ there₂ at₂ kind₂ (omega arith) refl standard₂ slots₂ (λ j l. refl) t.is_proper (omega arith)
        (λ e. absurd (omega arith)) (λ e. absurd (omega arith));
  }
