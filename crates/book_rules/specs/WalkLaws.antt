-- The walk over members: one law for each way out and each turn.
use Rattle.std.specs.Prelude.{Bool, None, Option as Found, Some, false, not, true, List, ◌≡◌, ◌+◌, ◌<◌, ◌≤◌, ℕ, get_or, length, set}
use Rattle.std.proofs.Math.Logic.{inl, inr}
use Rattle.std.proofs.Math.Option.{Option, some}
use Rattle.std.proofs.Common.{◌∙◌, le_refl, arith, length-set, get_or-set_same}
use Rattle.std.proofs.Math.Path.{ap, ap₂, fun_ext, sym}
use Rattle.std.proofs.Math.Numerals.{add-one}
use Rattle.std.proofs.Math.Seq.{get_or-set_other}
use borrow.Author.Tests.{not-false, not-true}
use Rattle.book.specs.Plain.{specs_of, systems_of}
use Rattle.book.specs.ReadLaws.{if_none, member_plain, place-limit}
use Rattle.book.specs.SlotLaws.{slot-some}
use Rattle.book.specs.Layout.{slots_of}
use Rattle.book.specs.Readers.{place_below}
use Rattle.book.specs.Plain.{composition_at, place_of}
use Rattle.sets.specs.Answered.{answered}
use Rattle.model.specs.Book.{Specs, Systems, is_member, is_system, member, requires}
use Rattle.model.specs.Maps.{and_then, has}
use Rattle.model.specs.Rules.{needs}
use Rattle.book_rules.specs.Table.{Kept, member_needs}
use Rattle.sets.specs.LoopLaws.{union_end, union_turn}
use Rattle.sets.specs.SetLaws.{bit_zero}
use Rattle.sets.specs.Sets.{Set, bit, union, union_below}
use Rattle.sets.specs.TestLaws.{any_out, clash, fails, if-true, or-false, same?}
use Rattle.sets.specs.Tests.{any}
use Rattle.model_laws.specs.Heights.{Sound, falls, needs_other, needs_system}
use Rattle.model_laws.specs.MapLaws.{is_some_no, option_map_out}
use Rattle.model_laws.specs.Notions.{systems_below}

pub is_member_lem : (Y : Systems) (c v m y : ℕ) {t : Bool} → bit y ≡ is_member Y c v → t ≡ bit y m → t ≡ true → is_member Y c v m ≡ true
is_member_lem Y c v m y ey et e = sym (ap (λ (a : Set). a m) ey) ∙ sym et ∙ e

-- what is no member has no version
pub no_member : (Y : Systems) (c v m y : ℕ) {t : Bool} → bit y ≡ is_member Y c v → t ≡ bit y m → t ≡ false → answered None ≡ member Y c v m
unfolding answered is_member
no_member Y c v m y ey et e = sym (is_some_no _ (sym (ap (λ (a : Set). a m) ey) ∙ sym et ∙ e))

pub member_is : (Y : Systems) (c v m w : ℕ) → member Y c v m ≡ some w → answered (Some w) ≡ member Y c v m
unfolding answered
member_is Y c v m w e = sym e

module _ (S : Specs) (Y : Systems) (c v : ℕ) where
  pub needs_required : {r : Bool} (x : ℕ) → Sound Y → r ≡ is_system Y c → not r ≡ true → bit x ≡ requires S c v → bit x ≡ needs S Y c v
  needs_required {r} x ok e n q = q ∙ fun_ext (λ f. sym (needs_other Y ok S c v f (sym e ∙ not-true r n)))

  -- a turn: the member m, with its version u and what that needs
  pub turn_taken : (m x z u y : ℕ) → bit x ≡ union_below m (member_needs S Y c v) → answered (Some u) ≡ member Y c v m
      → bit y ≡ needs S Y m u → bit z ≡ union (bit x) (bit y) → bit z ≡ union_below (m + 1) (member_needs S Y c v)
  unfolding member_needs has answered
  turn_taken m x z u y ex em ey ez = union_turn m (member_needs S Y c v) x z ex (ez ∙ ap (union (bit x)) (ey ∙ fun_ext (λ f.
      ap (λ (o : Option ℕ). has o (λ w. needs S Y m w f)) em)))

  pub turn_left : (m x : ℕ) → bit x ≡ union_below m (member_needs S Y c v) → answered None ≡ member Y c v m
      → bit x ≡ union_below (m + 1) (member_needs S Y c v)
  unfolding member_needs union_below has any answered
  turn_left m x ex em = ex ∙ fun_ext (λ f. rw add-one (sym (or-false _ _
      (ap (λ (o : Option ℕ). has o (λ w. needs S Y m w f)) (sym em)))))

  module _ (ok : Sound Y) {r : Bool} (er : r ≡ is_system Y c) (e : not r ≡ false) where
    pub needs_summed : (m x : ℕ) → m ≤ 32 → 32 ≤ m → bit x ≡ union_below m (member_needs S Y c v) → bit x ≡ needs S Y c v
    unfolding member_needs union_below
    needs_summed m x h k q = union_end 32 m (member_needs S Y c v) x h k q ∙ fun_ext (λ f. sym (needs_system Y ok S c v f (sym er ∙ not-false r e)))

  pub member_falls : (m u z : ℕ) → Sound Y → systems_below Y c ≡ z → answered (Some u) ≡ member Y c v m → systems_below Y m < z
  unfolding answered
  member_falls m u z ok ez em = rw (sym ez) (falls Y ok c m (ok.mem_usable c v m u (sym em)))

-- a version that is not there has no members
pub needs_absent : (s n : List ℕ) (c v : ℕ) {r : Bool} → Sound (systems_of s n) → r ≡ is_system (systems_of s n) c → not r ≡ false
    → answered None ≡ place_of n c v → bit 0 ≡ needs (specs_of s n) (systems_of s n) c v
unfolding member_needs union_below has and_then answered
needs_absent s n c v ok er e h = needs_summed (specs_of s n) (systems_of s n) c v ok er e 32 0 (le_refl 32) (le_refl 32)
    (fun_ext (λ f. bit_zero f ∙ sym (fails _ (λ t. (let q = any_out 32 _ t in
    clash q.2 (ap (λ (o : Option ℕ). has o (λ w. needs (specs_of s n) (systems_of s n) q.0 w f))
    (member_plain s n c v q.0 ∙ if_none _ _ (ap (λ (o : Option ℕ). and_then o (λ i. composition_at s n i q.0)) (sym h)))))))))

-- ---- the table

-- a place is of one version
place_apart : (n : List ℕ) (c v d u i : ℕ) → place_of n c v ≡ some i → place_of n d u ≡ some i → (c ≡ d) × (v ≡ u)
unfolding place_of
place_apart n c v d u i p q =
    let x = option_map_out _ _ i (sym (if-true _ _ _ (place-limit n c v i p).0) ∙ p) in
    let y = option_map_out _ _ i (sym (if-true _ _ _ (place-limit n d u i q).0) ∙ q) in
    let xs = slot-some (slots_of n c) v x.0 x.1 in
    let ys = slot-some (slots_of n d) u y.0 y.1 in
    let ec : c ≡ d = omega (arith, x.2, y.2, xs.0, ys.0) in
    let ej : x.0 ≡ y.0 = omega (arith, x.2, y.2, xs.0, ys.0) in
    (ec, sym xs.1 ∙ ap₂ (slots_of n) ec ej ∙ ys.1)

module _ (s n : List ℕ) where
  pub kept_none : (t : List (Found ℕ)) → length t ≡ 256 → ((i : ℕ) → i < 256 → get_or t i None ≡ None) → Kept s n t
  kept_none t l z = record { size = l; found = λ c v i x p e. absurd (let q = sym (z i (place_below n c v i p)) ∙ e in (cc)) }

  pub kept_more : (t : List (Found ℕ)) (c v i x : ℕ) → Kept s n t → answered (Some i) ≡ place_of n c v
      → bit x ≡ needs (specs_of s n) (systems_of s n) c v → Kept s n (set t i (Some x))
  unfolding answered
  kept_more t c v i x k p e = record {
    size = length-set t i (Some x) ∙ k.size;
    found = λ d u j y q h. elim (same? j i) [
      | inl z ↦ (let a = place_apart n c v d u i (sym p) (q ∙ ap some z) in
          let b : x ≡ y = (let l = place_below n c v i (sym p) in
          let f = sym (get_or-set_same t i (Some x) None (omega (arith, k.size, l)))
          ∙ ap (λ (a : ℕ). get_or (set t i (Some x)) a None) (sym z) ∙ h in (cc)) in
          rw (← a.0, ← a.1, ← b) e)
      | inr ne ↦ k.found d u j y q (sym (get_or-set_other t i j (Some x) None ne) ∙ h)
    ];
  }
