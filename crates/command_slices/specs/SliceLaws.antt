-- Slices read from the left, entry by entry: what was gathered of the entries before i, and the entries from i on.
use Rattle.std.specs.Prelude.{Bool, None, Option as Found, Some, true, ◌≡◌, ◌+◌, ◌-◌, ◌<◌, ◌^◌, ◌≤◌, ℕ, min, take}
use mathlib.Core.List.{List, [], ◌∷◌, map}
use Rattle.std.proofs.Math.Option.{Option}
use Rattle.std.proofs.Common.{◌∙◌, arith, drop-drop, inl, inr}
use Rattle.std.proofs.Math.Path.{ap, sym}
use Rattle.std.proofs.Math.Numerals.{add-one}
use Rattle.std.proofs.Math.ListN.{drop, drop_of_length-le, get_or, length, length-drop}
use Rattle.std.proofs.Math.Seq.{drop-cons}
use Rattle.model.specs.Book.{components, facilities, versions}
use Rattle.model.specs.Commands.{Members}
use Rattle.model.specs.Lists.{beside, every, non_empty, set_of}
use Rattle.model.specs.Maps.{Map}
use Rattle.model.specs.Questions.{each_below, member_below}
use Rattle.command_lists.specs.Gathered.{Gathered, gather, large_of, nothing, step}
use Rattle.command_lists.specs.Said.{alone, always, compositions_from, compositions_of, compositions_said, compositions_step, facilities_said}
use Rattle.command_lists.specs.GatheredLaws.{step_out}
use Rattle.command_lists.specs.Said.{itself, left_out, members_once, members_said, paired, usable_of, usable_step, version_said}
use Rattle.command_lists.specs.Views.{compositions_view, usable_view}
use Rattle.sets.specs.Answered.{answered}
use Rattle.sets.specs.Sets.{bit}
use Rattle.sets.specs.TestLaws.{<?_out, =?-in, =?-not, and-false, and_in, and_no, fails, if-false, if-true, ≤?_in, ≤?_out, ≤_or_<}
use Rattle.sets.specs.Tests.{if?◌then◌else◌}
use Rattle.model_laws.specs.RisingLaws.{rising_below, rising-set}
use Rattle.command_lists.specs.declared.gathered.Gathered.{Gathered as Kept}

-- ---- an entry that is not below its limit

pub entry_large : {A B : Type 0} (n : ℕ) (good full single : A → Bool) (what : A → B) (g : Gathered B) (a : A)
    → step n good full single what g (n, a) ≡ large_of g
entry_large n good full single what g a = step_out n good full single what g (n, a) (and-false _ _ (fails _ (λ t. omega (arith, <?_out _ _ t))))

-- ---- two lists that belong together

module _ {A : Type 0} (n : ℕ) (a : A) (f : ℕ → A) (xs ys : List ℕ) (i : ℕ) where
  abbrev left : List (ℕ × A)
  left = paired n a f (drop i xs) (drop i ys)

  pub paired_more : i < length xs → i < length ys
      → left ≡ (get_or xs i 0, f (get_or ys i 0)) ∷ paired n a f (drop (i + 1) xs) (drop (i + 1) ys)
  unfolding paired
  paired_more h k = rw (drop-cons xs i 0 h, drop-cons ys i 0 k, add-one i)

  pub paired_first : i < length xs → length ys ≤ i → left ≡ (n, a) ∷ []
  unfolding paired
  paired_first h k = rw (drop-cons xs i 0 h, drop_of_length-le ys k)

  pub paired_second : length xs ≤ i → i < length ys → left ≡ (n, a) ∷ []
  unfolding paired
  paired_second h k = rw (drop-cons ys i 0 k, drop_of_length-le xs h)

  pub paired_end : length xs ≤ i → length ys ≤ i → left ≡ []
  unfolding paired
  paired_end h k = rw (drop_of_length-le xs h, drop_of_length-le ys k)

-- The entries before i stand in g, gathered; those from i on are still to come.
module _ {A B G : Type 0} (n : ℕ) (good full single : A → Bool) (what : A → B) (a : A) (f : ℕ → A) (view : G → Gathered B) (xs ys : List ℕ) where
  unfoldable pub PairsLeft : ℕ → G → Type 0
  PairsLeft i g =
      gather n good full single what nothing (paired n a f xs ys)
      ≡ gather n good full single what (view g) (paired n a f (drop i xs) (drop i ys))

  pub pairs_start : (g : G) → view g ≡ nothing → PairsLeft 0 g
  unfolding PairsLeft
  pairs_start g e = ap (λ (x : Gathered B). gather n good full single what x (paired n a f xs ys)) (sym e)

  module _ (i : ℕ) (g : G) (inv : PairsLeft i g) where
    -- the two numbers at the place i are taken
    pub pairs_turn : (g' : G) (j x y : ℕ) → j ≡ i + 1 → i < length xs → i < length ys → x ≡ get_or xs i 0 → y ≡ get_or ys i 0
        → view g' ≡ step n good full single what (view g) (x, f y) → PairsLeft j g'
    unfolding PairsLeft gather
    pairs_turn g' j x y ej h k ex ey e =
        rw ej
        (inv ∙ ap (gather n good full single what (view g)) (paired_more n a f xs ys i h k)
        ∙ ap (λ (x : Gathered B). gather n good full single what x (paired n a f (drop (i + 1) xs) (drop (i + 1) ys))) (sym (rw (← ex, ← ey) e)))

    pairs-apart : (r : G) → paired n a f (drop i xs) (drop i ys) ≡ (n, a) ∷ [] → view r ≡ large_of (view g)
        → view r ≡ gather n good full single what nothing (paired n a f xs ys)
    unfolding PairsLeft gather
    pairs-apart r e q = q ∙ sym (inv ∙ ap (gather n good full single what (view g)) e ∙ entry_large n good full single what (view g) a)

    -- one list is at its end, and the other is longer
    pub pairs_differ : (r : G) → i ≡ min (length xs) (length ys) → (length xs ≡ length ys → ⊥) → view r ≡ large_of (view g)
        → view r ≡ gather n good full single what nothing (paired n a f xs ys)
    pairs_differ r e d q = elim (≤_or_< (length xs) i) [
      | inr h ↦ pairs-apart r (paired_first n a f xs ys i h (omega (arith, e, h))) q
      | inl h ↦ elim (≤_or_< (length ys) i) [
        | inr k ↦ pairs-apart r (paired_second n a f xs ys i h k) q
        | inl k ↦ absurd (d (omega (arith, e, h, k)))
      ]
    ]

    -- both are
    pub pairs_end : i ≡ min (length xs) (length ys) → length xs ≡ length ys → view g ≡ gather n good full single what nothing (paired n a f xs ys)
    unfolding PairsLeft gather
    pairs_end e d = sym (inv ∙ ap (gather n good full single what (view g)) (paired_end n a f xs ys i (omega (arith, e, d)) (omega (arith, e, d))))

-- ---- a member's version

pub version_none : (x : ℕ) → x ≡ left_out → answered None ≡ version_said x
unfolding answered version_said
version_none x e = sym (if-true _ _ _ (=?-in _ _ e))

pub version_some : (x : ℕ) → (x ≡ left_out → ⊥) → answered (Some x) ≡ version_said x
unfolding answered version_said
version_some x n = sym (if-false _ _ _ (=?-not _ _ n))

-- ---- sets of facilities

pub said_below : (q : ℕ) → each_below facilities (facilities_said q) ≡ true
unfolding facilities_said
said_below q = rising_below facilities (bit q)

pub said_set : (q : ℕ) → q < 2 ^ 64 → set_of (facilities_said q) ≡ bit q
unfolding facilities_said
said_set q h = rising-set q h

-- ---- usable components

module _ (us : List ℕ) where
  unfoldable pub UsableLeft : ℕ → Kept (Unit {0}) 32 → Type 0
  UsableLeft i g = usable_of us ≡ gather components always always always itself (usable_view g) (map alone (drop i us))

  pub usable_start : (g : Kept (Unit {0}) 32) → usable_view g ≡ nothing → UsableLeft 0 g
  unfolding UsableLeft usable_of
  usable_start g e = ap (λ (x : Gathered (Unit {0})). gather components always always always itself x (map alone us)) (sym e)

  module _ (i : ℕ) (g : Kept (Unit {0}) 32) (inv : UsableLeft i g) where
    pub usable_turn : (g' : Kept (Unit {0}) 32) → i < length us → usable_view g' ≡ usable_step (usable_view g) (alone (get_or us i 0)) → UsableLeft (i + 1) g'
    unfolding UsableLeft gather usable_step
    usable_turn g' h e =
        inv ∙ ap (λ (l : List ℕ). gather components always always always itself (usable_view g) (map alone l)) (drop-cons us i 0 h ∙ ap (λ (n : ℕ). get_or us i 0 ∷ drop n us) (sym (add-one i)))
        ∙ ap (λ (x : Gathered (Unit {0})). gather components always always always itself x (map alone (drop (i + 1) us))) (sym e)

    pub usable_end : length us ≤ i → usable_view g ≡ usable_of us
    unfolding UsableLeft gather
    usable_end h =
        sym (inv ∙ ap (λ (l : List ℕ). gather components always always always itself (usable_view g) (map alone l)) (drop_of_length-le us h))

-- ---- compositions

module _ (vs ls ms xs : List ℕ) where
  unfoldable pub CompositionsLeft : ℕ → ℕ → Kept (Kept (Found ℕ) 32) 64 → Type 0
  CompositionsLeft i a g =
      compositions_of (compositions_said vs ls ms xs)
      ≡ compositions_from (compositions_view g) (compositions_said (drop i vs) (drop i ls) (drop a ms) (drop a xs))

  pub compositions_start : (g : Kept (Kept (Found ℕ) 32) 64) → compositions_view g ≡ nothing → CompositionsLeft 0 0 g
  unfolding CompositionsLeft compositions_of
  compositions_start g e = ap (λ (x : Gathered (Map (Option ℕ))). compositions_from x (compositions_said vs ls ms xs)) (sym e)

  module _ (i a : ℕ) (g : Kept (Kept (Found ℕ) 32) 64) (inv : CompositionsLeft i a g) where
    abbrev left_said : List (ℕ × Members)
    left_said = compositions_said (drop i vs) (drop i ls) (drop a ms) (drop a xs)

    -- the lists do not belong together
    ends_apart : (r : Kept (Kept (Found ℕ) 32) 64) → left_said ≡ (versions, []) ∷ [] → compositions_view r ≡ large_of (compositions_view g)
        → compositions_view r ≡ compositions_of (compositions_said vs ls ms xs)
    unfolding CompositionsLeft compositions_from gather compositions_step
    ends_apart r e q =
        q ∙ sym (inv ∙ ap (compositions_from (compositions_view g)) e
        ∙ entry_large versions (every member_below) non_empty members_once beside (compositions_view g) [])

    -- one of the two lists is at its end, and the other is longer
    pub lengths_differ : (r : Kept (Kept (Found ℕ) 32) 64) → i ≡ min (length vs) (length ls) → (length vs ≡ length ls → ⊥) → compositions_view r ≡ large_of (compositions_view g)
        → compositions_view r ≡ compositions_of (compositions_said vs ls ms xs)
    unfolding compositions_said non_empty if?◌then◌else◌
    lengths_differ r e d q = elim (≤_or_< (length vs) i) [
      | inr h ↦ (let k : length ls ≤ i = omega (arith, e, h) in ends_apart r (rw (drop-cons vs i 0 h, drop_of_length-le ls k)) q)
      | inl h ↦ elim (≤_or_< (length ls) i) [
        | inr k ↦ ends_apart r (rw (drop_of_length-le vs h, drop-cons ls i 0 k)) q
        | inl k ↦ absurd (d (omega (arith, e, h, k)))
      ]
    ]

    module _ (v l : ℕ) (h : i < length vs) (k : i < length ls) (ev : v ≡ get_or vs i 0) (el : l ≡ get_or ls i 0) where
      one_said : left_said ≡ compositions_said (v ∷ drop (i + 1) vs) (l ∷ drop (i + 1) ls) (drop a ms) (drop a xs)
      one_said = rw (drop-cons vs i 0 h, drop-cons ls i 0 k, add-one i, ev, el)

      pub few_members : (r : Kept (Kept (Found ℕ) 32) 64) → length ms - a < l → compositions_view r ≡ large_of (compositions_view g)
          → compositions_view r ≡ compositions_of (compositions_said vs ls ms xs)
      unfolding compositions_said
      few_members r few q = ends_apart r (one_said ∙ if-false _ _ _ (and-false _ _ (fails _ (λ t. omega (arith, few, ≤?_out _ _ t, length-drop a ms))))) q

      pub few_versions : (r : Kept (Kept (Found ℕ) 32) 64) → length xs - a < l → compositions_view r ≡ large_of (compositions_view g)
          → compositions_view r ≡ compositions_of (compositions_said vs ls ms xs)
      unfolding compositions_said
      few_versions r few q = ends_apart r (one_said ∙ if-false _ _ _ (and_no _ _ (λ _. fails _ (λ t. omega (arith, few, ≤?_out _ _ t, length-drop a xs))))) q

      pub compositions_turn : (g' : Kept (Kept (Found ℕ) 32) 64) (j : ℕ) (c : Members) → j ≡ i + 1 → l ≤ length ms - a → l ≤ length xs - a
          → c ≡ members_said (take (a + l - a) (drop a ms)) (take (a + l - a) (drop a xs))
          → compositions_view g' ≡ compositions_step (compositions_view g) (v, c)
          → CompositionsLeft j (a + l) g'
      unfolding CompositionsLeft compositions_said compositions_from gather compositions_step
      compositions_turn g' j c ej lm lx ec e =
          rw ej
          (inv ∙ ap (compositions_from (compositions_view g)) (one_said ∙ if-true _ _ _ (and_in _ _ (≤?_in _ _ fitm) (≤?_in _ _ fitx)) ∙ said)
          ∙ ap (λ (x : Gathered (Map (Option ℕ))). compositions_from x (compositions_said (drop (i + 1) vs) (drop (i + 1) ls) (drop (a + l) ms) (drop (a + l) xs))) (sym e))
        where
          fitm : l ≤ length (drop a ms)
          fitm = rw length-drop lm

          fitx : l ≤ length (drop a xs)
          fitx = rw length-drop lx

          back : a + l - a ≡ l
          back = omega arith

          said : ((v, members_said (take l (drop a ms)) (take l (drop a xs)))
              ∷ compositions_said (drop (i + 1) vs) (drop (i + 1) ls) (drop l (drop a ms)) (drop l (drop a xs)))
              ≡ ((v, c) ∷ compositions_said (drop (i + 1) vs) (drop (i + 1) ls) (drop (a + l) ms) (drop (a + l) xs))
          said = rw (ec, back, drop-drop l a ms, drop-drop l a xs)

    module _ (all_done : i ≡ min (length vs) (length ls)) (alike : length vs ≡ length ls) where
      h : length vs ≤ i
      h = omega (arith, all_done, alike)

      k : length ls ≤ i
      k = omega (arith, all_done, alike)

      pub members_left : (r : Kept (Kept (Found ℕ) 32) 64) → a < length ms → compositions_view r ≡ large_of (compositions_view g)
          → compositions_view r ≡ compositions_of (compositions_said vs ls ms xs)
      unfolding compositions_said non_empty if?◌then◌else◌
      members_left r l q = ends_apart r (rw (drop_of_length-le vs h, drop_of_length-le ls k, drop-cons ms a 0 l)) q

      pub versions_left : (r : Kept (Kept (Found ℕ) 32) 64) → length ms ≤ a → a < length xs → compositions_view r ≡ large_of (compositions_view g)
          → compositions_view r ≡ compositions_of (compositions_said vs ls ms xs)
      unfolding compositions_said non_empty if?◌then◌else◌
      versions_left r l m q = ends_apart r (rw (drop_of_length-le vs h, drop_of_length-le ls k, drop_of_length-le ms l, drop-cons xs a 0 m)) q

      pub compositions_end : length ms ≤ a → length xs ≤ a → compositions_view g ≡ compositions_of (compositions_said vs ls ms xs)
      unfolding CompositionsLeft compositions_said non_empty if?◌then◌else◌ compositions_from gather
      compositions_end l m =
          sym (inv ∙ ap (compositions_from (compositions_view g)) none_left)
        where
          none_left : left_said ≡ []
          none_left = rw (drop_of_length-le vs h, drop_of_length-le ls k, drop_of_length-le ms l, drop_of_length-le xs m)
