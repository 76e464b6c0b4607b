-- A specification put in: first blank, then version by version.
use Rattle.std.specs.Prelude.{Bool, false, true, List, ◌≢◌, ◌≡◌, ◌*◌, ◌+◌, ◌<◌, ◌≤◌, ℕ, get_or, length, replicate, set}
use Rattle.std.proofs.Math.Logic.{inl, inr}
use Rattle.std.proofs.Math.Option.{none, some}
use Rattle.std.proofs.Common.{◌∙◌, ap₂, le_antisymm, le_refl, arith, length-set, get_or-set_other, get_or-set_same, Fits}
use Rattle.std.proofs.Math.Path.{ap, fun_ext, refl, sym}
use Rattle.std.proofs.lemmas.List.Edits.{length-paste}
use lib.ListN.{get_or-replicate}
use Rattle.book.specs.Changes.{Holds, TakesSpec, TakesVersion, blank, spec_from, with_spec, with_undefined}
use Rattle.book.specs.Layout.{Sized, freed, kind_at, slots_of, standard_at}
use Rattle.book.specs.Plain.{facility_set, kind_is, modules_of, place_of, plain_of, slot, spec_at, specified_at, specs_of, systems_of}
use Rattle.book.specs.Proper.{facts_proper}
use Rattle.book.specs.PutLaws.{facilities-all, paste_other, paste_within}
use Rattle.book.specs.ReadLaws.{book_ext, if_none, is_module_plain, is_some_only, is_system_plain, kind_specified, map-none}
use Rattle.book.specs.ReadLaws.{specified_plain}
use Rattle.book.specs.KindLaws.{not_kind, specified_at_lem}
use Rattle.book.specs.Same.{AtComponent, SameComponent, other_modules, other_specs, other_systems, others, proper_rest}
use Rattle.book.specs.Same.{specs_ext}
use Rattle.book.specs.SlotLaws.{Distinct, only_no, only_yes, slot_absent, slot_high}
use Rattle.book.specs.Writers.{put_ext, put_none}
use Rattle.model.specs.Book.{Book, Spec, components, has_version, is_defined, is_module, is_system, specified, versions}
use Rattle.model.specs.Commands.{with_version}
use Rattle.model.specs.Limits.{how_many}
use Rattle.model.specs.Maps.{Map, change, only_if, option_map, put}
use Rattle.sets.specs.SetLaws.{bit_below}
use Rattle.sets.specs.Sets.{Set, bit}
use Rattle.sets.specs.TestLaws.{<?_in, <?_no, <?_out, and-false, and_in, and_no, and_r, bool?, clash, count_strict, fails, iff→≡}
use Rattle.sets.specs.TestLaws.{or-false, same?}
use Rattle.sets.specs.Tests.{◌&◌, ◌<?◌, ◌or◌, count, if?◌then◌else◌}
use Rattle.model_laws.specs.Alike.{has_version_at}
use Rattle.model_laws.specs.MapLaws.{is_some_in, put_other, put_same}
use Rattle.std.specs.Int.{w64}
use Rattle.sets.specs.Sets as sets

-- the slots of c are free
module _ (n : List ℕ) (c : ℕ) (c< : c < components) (ln : length n ≡ 8768) where
  low : 64 + c * 8 ≤ length n
  low = omega (arith, ln, c<)

  freed_size : length (freed n c) ≡ 8768
  unfolding freed
  freed_size = length-paste n (64 + c * 8) (replicate 8 64) 8 (omega (arith, ln, c<)) (le_refl 8) ∙ ln

  freed_other : (x : ℕ) → ((k : ℕ) → k < 8 → x ≢ 64 + (c * 8 + k)) → get_or (freed n c) x 0 ≡ get_or n x 0
  unfolding freed
  freed_other x ne = paste_other n (replicate 8 64) (64 + c * 8) 8 x low refl (λ m l q. ne m l (omega (arith, q)))

  freed_slot : (k : ℕ) → k < 8 → slots_of (freed n c) c k ≡ versions
  unfolding freed
  freed_slot k l = paste_within n (replicate 8 64) (64 + c * 8) 8 (64 + (c * 8 + k)) low refl k l (omega arith) ∙ get_or-replicate 8 k 64 0 l

module _ (s n : List ℕ) (c q std : ℕ) (sized : Sized s n) (t : TakesSpec s n c) (q< : Fits w64 q) where
  abbrev s₁ : List ℕ
  s₁ = set s c q

  abbrev clear : List ℕ
  clear = freed n c

  abbrev n₁ : List ℕ
  n₁ = set (set clear (32 + c) std) c 1

  size₁ : length (set clear (32 + c) std) ≡ 8768
  size₁ = length-set clear (32 + c) std ∙ freed_size n c t.component< sized.numbers

  kind₁ : kind_at n₁ c ≡ 1
  kind₁ = get_or-set_same (set clear (32 + c) std) c 1 0 (omega (arith, size₁, t.component<))

  standard₁ : standard_at n₁ c ≡ std
  standard₁ = let l = t.component< in
      get_or-set_other (set clear (32 + c) std) c (32 + c) 1 0 (omega arith) ∙ get_or-set_same clear (32 + c) std 0 (omega (arith, freed_size n c t.component< sized.numbers))

  slots₁ : (k : ℕ) → k < 8 → slots_of n₁ c k ≡ versions
  slots₁ k h = let l = t.component< in
      get_or-set_other (set clear (32 + c) std) c (64 + (c * 8 + k)) 1 0 (omega arith) ∙ get_or-set_other clear (32 + c) (64 + (c * 8 + k)) std 0 (omega arith)
      ∙ freed_slot n c t.component< sized.numbers k h

  at₁ : AtComponent s n s₁ n₁ c
  at₁ = record {
    sets = λ x a b d e. get_or-set_other s c x q 0 a;
    numbers = λ x a b d e f. get_or-set_other (set clear (32 + c) std) c x 1 0 a ∙ get_or-set_other clear (32 + c) x std 0 b ∙ freed_other n c t.component< sized.numbers x d;
  }

  off : (d : ℕ) → d < 32 → d ≢ c → SameComponent s n s₁ n₁ d
  off = others s n s₁ n₁ c t.component< at₁

  nowhere : (v : ℕ) → place_of n₁ c v ≡ none
  unfolding place_of
  nowhere v = elim (bool? (v <? versions)) [
    | inl y ↦ in_slots (slot_absent (slots_of n₁ c) v (λ k h e. omega (arith, <?_out _ _ y, sym (slots₁ k h) ∙ e)))
    | inr z ↦ in_slots (slot_high (slots_of n₁ c) v (<?_no _ _ z))
  ]
    where
      in_slots : slot (slots_of n₁ c) v ≡ none → (if? specified_at n₁ c then option_map (λ j. c * 8 + j) (slot (slots_of n₁ c) v) else none) ≡ none
      in_slots e = if_none _ _ (map-none _ _ e)

  no_kind : (k : ℕ) → k ≢ 1 → kind_is n₁ k c ≡ false
  no_kind k ne = not_kind n₁ k c (λ e. ne (sym e ∙ kind₁))

  undefined : (k : ℕ) → k ≢ 0 → kind_is n k c ≡ false
  undefined k ne = fails _ (λ y. clash (specified_plain s n c ∙ kind_specified n k c y ne) t.is_unspecified)

  pub blank_put : Holds s₁ n₁ (with_spec (plain_of s n) c (blank (bit q) std))
  unfolding with_spec blank specs_of spec_at modules_of systems_of
  blank_put = let l = t.component< in record {
    is = book_ext
        (put_ext _ _ c _ (other_specs s n s₁ n₁ c off) (only_yes _ _ (specified_at_lem n₁ c t.component< (λ e. omega (arith, kind₁, e)))
        ∙ ap some (specs_ext (ap facility_set (get_or-set_same s c q 0 (omega arith)) ∙ facilities-all q q<.fits)
        (fun_ext (λ v. map-none _ _ (nowhere v))) standard₁)))
        (put_ext _ _ c none (other_modules s n s₁ n₁ c off) (only_no _ _ (no_kind 2 (omega arith))) ∙ put_none _ c (only_no _ _ (undefined 2 (omega arith))))
        (put_ext _ _ c none (other_systems s n s₁ n₁ c off) (only_no _ _ (no_kind 3 (omega arith))) ∙ put_none _ c (only_no _ _ (undefined 3 (omega arith))));
    is_proper = proper_rest s n s₁ n₁ c off t.is_proper (λ ne. facts_proper s₁ n₁ c (record {
      kind = rw kind₁ (omega arith);
      low = λ k h. rw (slots₁ k h) (le_refl versions);
      distinct = unfold Distinct in λ a b ha hb lo e. absurd (omega (arith, lo, slots₁ a ha));
      uses = λ e. absurd (omega (arith, e, kind₁));
      members = λ e. absurd (omega (arith, e, kind₁));
    }));
  }

-- ---- version by version

-- a version more of a component that was put in
change_put : {A : Type 0} (m : Map A) (c : ℕ) (x : A) (g : A → A) → change c g (put c (some x) m) ≡ put c (some (g x)) m
unfolding option_map
change_put m c x g = put_ext m (change c g (put c (some x) m)) c (some (g x))
    (λ d ne. unfold change in put_other c _ _ d ne ∙ put_other c (some x) m d ne)
    (unfold change in put_same c _ _ ∙ ap (option_map g) (put_same c (some x) m))

module _ (b : Book) (c std : ℕ) (p vs : Set) (given : List ℕ) where
  pub spec_start_lem : with_spec b c (blank p std) ≡ with_spec b c (spec_from p vs given std 0)
  unfolding blank spec_from
  spec_start_lem = ap (with_spec b c) (specs_ext refl (fun_ext (λ v. sym (only_no _ _ (and-false _ _ (fails _ (λ t. omega (arith, <?_out _ _ t))))))) refl)

  -- the version v is one of them
  pub spec_hit : (v : ℕ) (q : Set) → vs v ≡ true → q ≡ facility_set (get_or given v 0)
      → with_undefined (with_spec b c (spec_from p vs given std v)) c v q ≡ with_spec b c (spec_from p vs given std (v + 1))
  unfolding with_undefined with_spec spec_from with_version
  spec_hit v q t e = book_ext (change_put b.specs c _ _ ∙ ap (λ (x : Spec). put c (some x) b.specs) (specs_ext refl
      (sym (put_ext _ _ v (some q)
      (λ u ne. ap (λ (y : Bool). only_if (y & vs u) (facility_set (get_or given u 0))) (next_below u v ne))
      (only_yes _ _ (and_in _ _ (<?_in _ _ (omega arith)) t) ∙ ap some (sym e)))) refl)) refl refl
    where
      next_below : (u v : ℕ) → u ≢ v → (u <? v + 1) ≡ (u <? v)
      next_below u v ne = iff→≡ _ _ (λ y. <?_in _ _ (omega (arith, <?_out _ _ y, ne))) (λ y. <?_in _ _ (omega (arith, <?_out _ _ y)))

  pub spec_miss : (v : ℕ) → vs v ≡ false → with_spec b c (spec_from p vs given std v) ≡ with_spec b c (spec_from p vs given std (v + 1))
  unfolding spec_from
  spec_miss v t = ap (with_spec b c) (specs_ext refl (fun_ext (λ u. elim (same? u v) [
    | inl e ↦ only_no _ _ (and_no _ _ (λ y. ap vs e ∙ t)) ∙ sym (only_no _ _ (and_no _ _ (λ y. ap vs e ∙ t)))
    | inr ne ↦ ap (λ (y : Bool). only_if (y & vs u) (facility_set (get_or given u 0)))
        (iff→≡ _ _ (λ y. <?_in _ _ (omega (arith, <?_out _ _ y))) (λ y. <?_in _ _ (omega (arith, <?_out _ _ y, ne))))
  ])) refl)

-- what the writer of a version asks, where the versions below v are in
module _ (s n : List ℕ) (b : Book) (c v std : ℕ) (p vs : Set) (given : List ℕ) (c< : c < components) (v< : v < versions)
    (h : Holds s n (with_spec b c (spec_from p vs given std v))) (here : vs v ≡ true) (few : count 64 vs ≤ 8) where
  at_c : specs_of s n c ≡ some (spec_from p vs given std v)
  unfolding with_spec
  at_c = ap (λ (q : Book). q.specs c) h.is ∙ put_same c _ _

  versions_in_lem : (u : ℕ) → has_version (specs_of s n) c u ≡ (u <? v & vs u)
  unfolding spec_from
  versions_in_lem u = has_version_at (specs_of s n) c _ at_c u ∙ is_some_only _ _

  fewer : count 64 (has_version (specs_of s n) c) < count 64 vs
  fewer = rw (fun_ext versions_in_lem) (count_strict 64 _ vs (λ u l t. and_r _ _ t) v v< (and-false _ _ (fails _ (λ t. omega (arith, <?_out _ _ t)))) here)

  pub spec_takes : TakesVersion s n c v
  unfolding how_many specified
  spec_takes = record {
    room = record {
      component< = c<;
      is_proper = h.is_proper;
      is_specified = is_some_in _ at_c;
      is_room = omega (arith, few, fewer);
    };
    version< = v<;
    is_new = versions_in_lem v ∙ and-false _ _ (fails _ (λ t. omega (arith, <?_out _ _ t)));
  }

-- a component that a specification is put in for is not defined
pub spec_undefined : (s n s₀ n₀ : List ℕ) (c : ℕ) (x : Spec) → TakesSpec s₀ n₀ c → Holds s n (with_spec (plain_of s₀ n₀) c x)
    → is_defined (modules_of n) (systems_of s n) c ≡ false
unfolding with_spec is_defined
spec_undefined s n s₀ n₀ c x t h =
    ap₂ ◌or◌ (ap (λ (b : Book). is_module b.modules c) h.is ∙ is_module_plain s₀ n₀ c ∙ no 2 (omega arith))
    (ap (λ (b : Book). is_system b.systems c) h.is ∙ is_system_plain s₀ n₀ c ∙ no 3 (omega arith))
    ∙ or-false _ _ refl
  where
    no : (k : ℕ) → k ≢ 0 → kind_is n₀ k c ≡ false
    no k ne = fails _ (λ y. clash (specified_plain s₀ n₀ c ∙ kind_specified n₀ k c y ne) t.is_unspecified)

-- ---- the loop over the versions: s₁, n₁ is the Book with the blank specification

with_twice : (b : Book) (c : ℕ) (x y : Spec) → with_spec (with_spec b c x) c y ≡ with_spec b c y
unfolding with_spec
with_twice b c x y = book_ext (put_ext b.specs _ c (some y) (λ d ne. put_other c _ _ d ne ∙ put_other c _ _ d ne) (put_same c _ _)) refl refl

module _ (s₀ n₀ s₁ n₁ : List ℕ) (c std : ℕ) (p vs : Set) (given : List ℕ) (t : TakesSpec s₀ n₀ c)
    (h₁ : Holds s₁ n₁ (with_spec (plain_of s₀ n₀) c (blank p std))) where
  over : (x : Spec) → with_spec (plain_of s₁ n₁) c x ≡ with_spec (plain_of s₀ n₀) c x
  over x = ap (λ (b : Book). with_spec b c x) h₁.is ∙ with_twice _ c _ x

  pub spec_begin : Holds s₁ n₁ (with_spec (plain_of s₁ n₁) c (spec_from p vs given std 0))
  spec_begin = record { is = h₁.is ∙ spec_start_lem (plain_of s₀ n₀) c std p vs given ∙ sym (over _); is_proper = h₁.is_proper }

  module _ (s n : List ℕ) (v : ℕ) (h : Holds s n (with_spec (plain_of s₁ n₁) c (spec_from p vs given std v))) where
    pub spec_end : v ≤ 64 → 64 ≤ v → Holds s n (with_spec (plain_of s₀ n₀) c (spec_from p vs given std 64))
    spec_end a b = record {
      is = h.is ∙ over _ ∙ ap (λ (k : ℕ). with_spec (plain_of s₀ n₀) c (spec_from p vs given std k)) (le_antisymm a b);
      is_proper = h.is_proper;
    }

    pub spec_asks : {r : Bool} → v < 64 → r ≡ vs v → r ≡ true → count 64 vs ≤ 8
        → TakesVersion s n c v × (is_defined (modules_of n) (systems_of s n) c ≡ false)
    spec_asks v< e y few = (
      spec_takes s n (plain_of s₁ n₁) c v std p vs given t.component< v< h (sym e ∙ y) few,
      spec_undefined s n s₀ n₀ c _ t (record { is = h.is ∙ over _; is_proper = h.is_proper }),
    )

    pub spec_in_lem : (s' n' : List ℕ) {r : Bool} (x : ℕ) → r ≡ vs v → r ≡ true → x ≡ get_or given v 0 → Fits w64 x
        → Holds s' n' (with_undefined (plain_of s n) c v (bit x)) → Holds s' n' (with_spec (plain_of s₁ n₁) c (spec_from p vs given std (v + 1)))
    unfolding facility_set
    spec_in_lem s' n' x e y ex x< h' = record {
      is = h'.is ∙ ap (λ (b : Book). with_undefined b c v (bit x)) h.is
          ∙ spec_hit (plain_of s₁ n₁) c std p vs given v (bit x) (sym e ∙ y) (bit_below 64 x x<.fits ∙ ap (λ (z : ℕ). sets.below 64 (bit z)) ex);
      is_proper = h'.is_proper;
    }

    pub spec_out : {r : Bool} → r ≡ vs v → r ≡ false → Holds s n (with_spec (plain_of s₁ n₁) c (spec_from p vs given std (v + 1)))
    spec_out e y = record { is = h.is ∙ spec_miss (plain_of s₁ n₁) c std p vs given v (sym e ∙ y); is_proper = h.is_proper }
