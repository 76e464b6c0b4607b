-- A system put in.
use Rattle.std.specs.Prelude.{true, List, ◌≢◌, ◌≡◌, refl, ◌*◌, ◌+◌, ◌<◌, ◌^◌, ◌≤◌, ℕ, get_or, length, set}
use Rattle.std.proofs.Math.Logic.{inl, inr}
use Rattle.std.proofs.Math.Option.{Option, some}
use Rattle.std.proofs.Common.{◌∙◌, arith, get_or-set_other, get_or-set_same}
use Rattle.std.proofs.Math.Path.{ap, fun_ext, sym}
use Rattle.book.specs.Changes.{Holds, TakesDefinition, compositions_of, row_of, system_from, with_system}
use Rattle.book.specs.DefineLaws.{defined_none, kept_specs, set_modules, set-proper, set_systems}
use Rattle.book.specs.Layout.{Sized, kind_at, member_version_at, members_at, provides_at, requires_at, row_in, slots_of, standard_at, usable_at}
use Rattle.book.specs.Plain.{among_first, component_set, composition_at, modules_of, place_of, plain_of, specified_at, specs_of, systems_of}
use Rattle.book.specs.PutLaws.{no_module, row_other, row_same}
use Rattle.book.specs.ReadLaws.{book_ext, has_version_plain, map_at, map-none, place-limit, specified_plain}
use Rattle.book.specs.Same.{AtComponent, place-slot, system_ext}
use Rattle.book.specs.SlotLaws.{among-all, only_no, only_yes}
use Rattle.book.specs.Writers.{put_none}
use Rattle.model.specs.Book.{System, components, has_version, versions}
use Rattle.model.specs.Maps.{Map, is_some, only_if, option_map, put}
use Rattle.sets.specs.SetLaws.{bit_below, bit_limit}
use Rattle.sets.specs.Sets.{Set, bit}
use Rattle.sets.specs.TestLaws.{<?_in, =?-not, =?-same, and_in, any_in, bool?, if-true, same?}
use Rattle.model_laws.specs.MapLaws.{is_some_in, option?, option_map-some}
use Rattle.sets.specs.Sets as sets

-- ---- a system put in

-- the compositions of the first j slots of c are stored
pub record Composed (s₀ n₀ members rows : List ℕ) (c j : ℕ) (s n : List ℕ) : Type 0 where
  pub other_sets : (x : ℕ) → ((k : ℕ) → k < 8 → x ≢ 320 + (c * 8 + k)) → get_or s x 0 ≡ get_or s₀ x 0
  pub other_numbers : (x : ℕ) → ((k m : ℕ) → k < 8 → m < 32 → x ≢ 576 + ((c * 8 + k) * 32 + m)) → get_or n x 0 ≡ get_or n₀ x 0
  pub stored_members : (k : ℕ) → k < j → slots_of n₀ c k < versions → members_at s (c * 8 + k) ≡ get_or members (slots_of n₀ c k) 0
  pub stored_versions : (k m : ℕ) → k < j → m < 32 → slots_of n₀ c k < versions
      → member_version_at n (c * 8 + k) m ≡ get_or rows (slots_of n₀ c k * 32 + m) 0

module _ (s₀ n₀ ms rows : List ℕ) (c : ℕ) (c< : c < components) where
  module _ (j : ℕ) (s n : List ℕ) (j< : j < 8) (done : Composed s₀ n₀ ms rows c j s n) {x : ℕ} (ex : x ≡ slots_of n c j) where
    same : slots_of n c j ≡ slots_of n₀ c j
    same = done.other_numbers (64 + (c * 8 + j)) (λ k m h l. omega arith)

    pub composed_hit : {n₁ : List ℕ} → Sized s n → length rows ≡ 2048 → x < versions → n₁ ≡ row_in n (c * 8 + j) rows x
        → Composed s₀ n₀ ms rows c (j + 1) (set s (320 + (c * 8 + j)) (get_or ms x 0)) n₁
    composed_hit {n₁} sized lr l e = rw e (record {
      other_sets = λ y h. get_or-set_other s (320 + (c * 8 + j)) y (get_or ms x 0) 0 (h j j<) ∙ done.other_sets y h;
      other_numbers = λ y h. row_other n (c * 8 + j) rows x sized.numbers (omega arith) lr l y (λ m q. h j m j< q) ∙ done.other_numbers y h;
      stored_members = λ k h lo. elim (same? k j) [
        | inl q ↦ rw q (get_or-set_same s (320 + (c * 8 + j)) (get_or ms x 0) 0 (omega (arith, sized.sets)) ∙ ap (λ (v : ℕ). get_or ms v 0) (ex ∙ same))
        | inr ne ↦ get_or-set_other s (320 + (c * 8 + j)) (320 + (c * 8 + k)) (get_or ms x 0) 0 (omega arith) ∙ done.stored_members k (omega arith) lo
      ];
      stored_versions = λ k m h m< lo. elim (same? k j) [
        | inl q ↦ rw q (row_same n (c * 8 + j) rows x sized.numbers (omega arith) lr l m m<
            ∙ ap (λ (v : ℕ). get_or rows (v * 32 + m) 0) (ex ∙ same))
        | inr ne ↦ row_other n (c * 8 + j) rows x sized.numbers (omega arith) lr l (576 + ((c * 8 + k) * 32 + m)) (λ o q. omega arith)
            ∙ done.stored_versions k m (omega arith) m< lo
      ];
    })

    pub composed_miss : versions ≤ x → Composed s₀ n₀ ms rows c (j + 1) s n
    composed_miss l = record {
      other_sets = done.other_sets;
      other_numbers = done.other_numbers;
      stored_members = λ k h lo. elim (same? k j) [
        | inl q ↦ absurd (omega (arith, lo, l, ex ∙ same ∙ ap (slots_of n₀ c) (sym q)))
        | inr ne ↦ done.stored_members k (omega arith) lo
      ];
      stored_versions = λ k m h m< lo. elim (same? k j) [
        | inl q ↦ absurd (omega (arith, lo, l, ex ∙ same ∙ ap (slots_of n₀ c) (sym q)))
        | inr ne ↦ done.stored_versions k m (omega arith) m< lo
      ];
    }

module _ (s n ms rows : List ℕ) (c us : ℕ) (t : TakesDefinition s n c) (us< : us < 2 ^ 32)
    (ms< : (v : ℕ) → has_version (specs_of s n) c v ≡ true → get_or ms v 0 < 2 ^ 32) (s' n' : List ℕ) (sized : Sized s' n')
    (j : ℕ) (j≥ : 8 ≤ j) (done : Composed s n ms rows c j s' n') where
  abbrev s₃ : List ℕ
  s₃ = set s' (32 + c) us

  abbrev n₃ : List ℕ
  n₃ = set n' c 3

  c< : c < components
  c< = t.component<

  there : specified_at n c ≡ true
  there = sym (specified_plain s n c) ∙ t.is_specified

  kind₃ : kind_at n₃ c ≡ 3
  kind₃ = get_or-set_same n' c 3 0 (omega (arith, sized.numbers, t.component<))

  at₃ : AtComponent s n s₃ n₃ c
  at₃ = record {
    sets = λ x a b d e. get_or-set_other s' (32 + c) x us 0 b ∙ done.other_sets x e;
    numbers = λ x a b d e f. get_or-set_other n' c x 3 0 a ∙ done.other_numbers x (λ k m h l. f k m h l);
  }

  provides₃ : provides_at s₃ c ≡ provides_at s c
  provides₃ = let l = t.component< in get_or-set_other s' (32 + c) c us 0 (omega arith) ∙ done.other_sets c (λ k h. omega arith)

  standard₃ : standard_at n₃ c ≡ standard_at n c
  standard₃ = let l = t.component< in get_or-set_other n' c (32 + c) 3 0 (omega arith) ∙ done.other_numbers (32 + c) (λ k m h q. omega arith)

  slots₃ : (k : ℕ) → k < 8 → slots_of n₃ c k ≡ slots_of n c k
  slots₃ k h = let l = t.component< in
      get_or-set_other n' c (64 + (c * 8 + k)) 3 0 (omega arith) ∙ done.other_numbers (64 + (c * 8 + k)) (λ a m b q. omega arith)

  requires₃ : (k : ℕ) → k < 8 → requires_at s₃ (c * 8 + k) ≡ requires_at s (c * 8 + k)
  requires₃ k h = let l = t.component< in
      get_or-set_other s' (32 + c) (64 + (c * 8 + k)) us 0 (omega arith) ∙ done.other_sets (64 + (c * 8 + k)) (λ a b. omega arith)

  usable₃ : usable_at s₃ c ≡ us
  usable₃ = get_or-set_same s' (32 + c) us 0 (omega (arith, sized.sets, t.component<))

  -- what stands in a slot that has a version
  members₃ : (k : ℕ) → k < 8 → slots_of n c k < versions → members_at s₃ (c * 8 + k) ≡ get_or ms (slots_of n c k) 0
  members₃ k h lo = let l = t.component< in
      get_or-set_other s' (32 + c) (320 + (c * 8 + k)) us 0 (omega arith) ∙ done.stored_members k (omega arith) lo

  version₃ : (k m : ℕ) → k < 8 → m < 32 → slots_of n c k < versions → member_version_at n₃ (c * 8 + k) m ≡ get_or rows (slots_of n c k * 32 + m) 0
  version₃ k m h m< lo = let l = t.component< in
      get_or-set_other n' c (576 + ((c * 8 + k) * 32 + m)) 3 0 (omega arith) ∙ done.stored_versions k m (omega arith) m< lo

  -- a version that stands in a slot is one that c has
  has-slot : (k : ℕ) → k < 8 → slots_of n c k < versions → has_version (specs_of s n) c (slots_of n c k) ≡ true
  unfolding place_of
  has-slot k h lo = has_version_plain s n c (slots_of n c k) ∙ ap is_some (if-true _ _ _ there) ∙ option_map-some _ _
      ∙ sym (among-all (slots_of n c) (slots_of n c k)) ∙ unfold among_first in and_in _ _ (<?_in _ _ lo) (any_in 8 _ k h (=?-same _))

  row₃ : (k : ℕ) → k < 8 → slots_of n c k < versions → composition_at s₃ n₃ (c * 8 + k) ≡ row_of (get_or ms (slots_of n c k) 0) rows (slots_of n c k)
  unfolding composition_at row_of component_set
  row₃ k h lo = fun_ext (λ m.
      let low = ms< (slots_of n c k) (has-slot k h lo) in
      ap (λ (x : ℕ). only_if (sets.below 32 (bit x) m) (member_version_at n₃ (c * 8 + k) m)) (members₃ k h lo)
      ∙ ap (λ (a : Set). only_if (a m) (member_version_at n₃ (c * 8 + k) m)) (sym (bit_below 32 _ low))
      ∙ elim (bool? (bit (get_or ms (slots_of n c k) 0) m)) [
        | inl y ↦ ap (only_if _) (version₃ k m h (bit_limit 32 _ m low y) lo)
        | inr z ↦ only_no _ _ z ∙ sym (only_no _ _ z)
      ])

  stored₃ : (v : ℕ) → option_map (composition_at s₃ n₃) (place_of n c v) ≡ compositions_of (specs_of s n) c ms rows v
  unfolding compositions_of
  stored₃ v = elim (option? (place_of n c v)) [
    | inl e ↦ map-none _ _ e ∙ sym (only_no _ _ (has_version_plain s n c v ∙ ap is_some e ∙ unfold is_some in refl))
    | inr y ↦ (let z = place-slot n c v y.0 y.1 in
        let lo : slots_of n c z.0 < versions = rw z.3 (place-limit n c v y.0 y.1).1 in
        map_at _ _ y.0 y.1
        ∙ ap some (ap (composition_at s₃ n₃) z.2 ∙ row₃ z.0 z.1 lo ∙ ap (λ (x : ℕ). row_of (get_or ms x 0) rows x) z.3)
        ∙ sym (only_yes _ _ (has_version_plain s n c v ∙ is_some_in _ y.1)))
  ]

  uses₃ : component_set (usable_at s₃ c) ≡ bit us
  unfolding component_set
  uses₃ = ap (λ (x : ℕ). sets.below 32 (bit x)) usable₃ ∙ sym (bit_below 32 us us<)

  pub system_put : Holds s₃ n₃ (with_system (plain_of s n) c (system_from (specs_of s n) c us ms rows))
  unfolding with_system system_from
  system_put = record {
    is = book_ext (kept_specs s n s₃ n₃ c 3 c< there at₃ kind₃ (omega arith) provides₃ standard₃ slots₃ requires₃)
        (set_modules s n s₃ n₃ c 3 c< there at₃ kind₃ (omega arith) provides₃ standard₃ slots₃ requires₃
        ∙ ap (λ (o : Option (Map ℕ)). put c o (modules_of n)) (only_no _ _ (=?-not 3 2 (omega arith)))
        ∙ put_none _ c (no_module s n c (defined_none s n c t.is_undefined).0))
        (set_systems s n s₃ n₃ c 3 c< there at₃ kind₃ (omega arith) provides₃ standard₃ slots₃ requires₃
        ∙ ap (λ (o : Option System). put c o (systems_of s n)) (only_yes _ _ (=?-same 3) ∙ ap some (system_ext uses₃ (fun_ext stored₃))));
    is_proper = set-proper s n s₃ n₃ c 3 c< there at₃ kind₃ (omega arith) provides₃ standard₃ slots₃ requires₃ t.is_proper (omega arith)
        (λ e. rw usable₃ us<) (λ e k h lo. rw (members₃ k h lo) (ms< (slots_of n c k) (has-slot k h lo)));
  }
