-- What the test of the arrays themselves tells, and when it passes.
use Rattle.std.specs.Prelude.{IsSome, None, Option as Found, Some, true, List, ◌≢◌, ◌≡◌, refl, ◌*◌, ◌+◌, ◌<◌, ◌^◌, ◌≤◌, ℕ, length, position}
use Rattle.std.proofs.Common.{◌∙◌, nat_eq, sym, arith}
use Rattle.std.proofs.Math.Path.{ap, fun_ext}
use Rattle.book.specs.Changes.{HasRoom}
use Rattle.book.specs.Layout.{kind_at, members_at, slot_list, slots_of, usable_at}
use Rattle.book.specs.Plain.{members_low, place_of, proper, proper_at, proper_if, sets_low, slot, slot_apart, slot_low, slots_apart}
use Rattle.book.specs.Plain.{specified_at, specs_of}
use Rattle.book.specs.ReadLaws.{has_version_plain, specified_plain}
use Rattle.book.specs.Readers.{position_lost, position_there}
use Rattle.book.specs.SlotLaws.{Distinct, slots_full}
use Rattle.model.specs.Book.{components, specified, versions}
use Rattle.model.specs.Limits.{how_many}
use Rattle.model.specs.Maps.{is_some}
use Rattle.model.specs.Rules.{p}
use Rattle.sets.specs.TestLaws.{<?_in, <?_out, =?-in, =?-no, =?-not, =?-out, all_in, all_out, and_in, and_l, and_r, if-true, imp_in}
use Rattle.sets.specs.TestLaws.{imp_out, not_in, not_out, ≤?_in, ≤?_out}
use Rattle.sets.specs.Tests.{count}
use Rattle.model_laws.specs.MapLaws.{option_map-some}

module _ (s n : List ℕ) (c : ℕ) where
  -- the facts behind the test, of a component that is specified
  pub record ProperFacts : Type 0 where
    pub kind : kind_at n c ≤ 3
    pub low : (j : ℕ) → j < 8 → slots_of n c j ≤ versions
    pub distinct : Distinct (slots_of n c)
    pub uses : kind_at n c ≡ 3 → usable_at s c < 2 ^ 32
    pub members : kind_at n c ≡ 3 → (j : ℕ) → j < 8 → slots_of n c j < versions → members_at s (c * 8 + j) < 2 ^ 32

  pub proper_facts : proper_at s n c ≡ true → ProperFacts
  unfolding proper_at slot_low slots_apart slot_apart members_low sets_low Distinct
  proper_facts t =
      let t1 = and_r _ _ t in let t2 = and_r _ _ t1 in
      record {
        kind = ≤?_out _ _ (and_l _ _ t);
        low = λ j l. ≤?_out _ _ (all_out 8 _ (and_l _ _ t1) j l);
        distinct = λ j k l h low e. =?-out _ _ (imp_out _ _ (imp_out _ _ (all_out 8 _ (all_out 8 _ (and_l _ _ t2) j l) k h) (<?_in _ _ low)) (=?-in _ _ e));
        uses = λ e. <?_out _ _ (and_l _ _ (imp_out _ _ (and_r _ _ t2) (=?-in _ _ e)));
        members = λ e j l low. <?_out _ _ (imp_out _ _ (all_out 8 _ (and_r _ _ (imp_out _ _ (and_r _ _ t2) (=?-in _ _ e))) j l) (<?_in _ _ low));
      }

  pub facts_proper : ProperFacts → proper_at s n c ≡ true
  unfolding proper_at slot_low slots_apart slot_apart members_low sets_low Distinct
  facts_proper f =
      and_in _ _ (≤?_in _ _ f.kind) (and_in _ _ (all_in 8 _ (λ j l. ≤?_in _ _ (f.low j l)))
      (and_in _ _ (all_in 8 _ (λ j l. all_in 8 _ (λ k h. imp_in _ _ (λ low. imp_in _ _ (λ e. =?-in _ _ (f.distinct j k l h (<?_out _ _ low) (=?-out _ _ e)))))))
      (imp_in _ _ (λ e. and_in _ _ (<?_in _ _ (f.uses (=?-out _ _ e)))
      (all_in 8 _ (λ j l. imp_in _ _ (λ low. <?_in _ _ (f.members (=?-out _ _ e) j l (<?_out _ _ low)))))))))

  pub proper_component : proper s n ≡ true → c < components → kind_at n c ≢ 0 → ProperFacts
  unfolding proper proper_if
  proper_component t l ne = proper_facts (imp_out _ _ (all_out 32 _ t c l) (not_in _ (=?-not _ _ ne)))

-- a component that is specified has a kind
pub specified_kind : (n : List ℕ) (c : ℕ) → specified_at n c ≡ true → kind_at n c ≢ 0
unfolding specified_at
specified_kind n c t = =?-no _ _ (not_out _ (and_r _ _ t))

-- fewer than eight versions leave a slot free
pub free-slot : (s n : List ℕ) (c : ℕ) → proper s n ≡ true → c < components → specified (specs_of s n) c ≡ true → how_many (specs_of s n) c < 8
    → ((j : ℕ) → j < 8 → versions ≤ slots_of n c j → ⊥) → ⊥
unfolding how_many
free-slot s n c p c< t few none_free =
    let spec : specified_at n c ≡ true = sym (specified_plain s n c) ∙ t in
    let f = proper_component s n c p c< (specified_kind n c spec) in
    let full = slots_full (slots_of n c) f.distinct (λ j l. omega (arith, none_free j l, f.low j l)) in
    omega (arith, few, full, ap (count versions) (fun_ext (λ v. has_version_plain s n c v ∙ in_slot v spec)))
  where
    in_slot : (v : ℕ) → specified_at n c ≡ true → is_some (place_of n c v) ≡ is_some (slot (slots_of n c) v)
    in_slot v spec = unfold place_of in ap is_some (if-true _ _ _ spec) ∙ option_map-some _ _

-- what a search for a free place finds
pub record FreePlace (n : List ℕ) (c i : ℕ) : Type 0 where
  pub slot : ℕ
  pub slot< : slot < 8
  pub is : i ≡ c * 8 + slot
  pub free : versions ≤ slots_of n c slot
  pub place< : i < 256

module _ (s n : List ℕ) (c : ℕ) (t : HasRoom s n c) (l : length (slot_list n c) ≡ 8) where
  pub free_found : (j : ℕ) {r : Found ℕ} → r ≡ position (λ w. nat_eq w 64) (slot_list n c) → r ≡ Some j → FreePlace n c (c * 8 + j)
  free_found j e q =
      let z = position_there n c 64 l e j q in
      let c< = t.component< in
      record { slot = j; slot< = z.0; is = refl; free = omega (arith, z.1); place< = omega (arith, z.0, c<) }

  pub free_there : (r : Found ℕ) → r ≡ position (λ w. nat_eq w 64) (slot_list n c) → IsSome r
  free_there (Some j) e = refl
  free_there None e = absurd (free-slot s n c t.is_proper t.component< t.is_specified t.is_room
      (λ k h free. position_lost n c 64 l e refl k h (omega (arith, free, low k h))))
    where
      low : (k : ℕ) → k < 8 → slots_of n c k ≤ versions
      low = (proper_component s n c t.is_proper t.component< (specified_kind n c (sym (specified_plain s n c) ∙ t.is_specified))).low
