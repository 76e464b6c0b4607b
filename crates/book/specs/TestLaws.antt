-- One law for each way out of the functions that test the arrays themselves.
use Rattle.std.specs.Prelude.{Bool, false, not, true, List, ◌⊎◌, ◌≡◌, refl, ◌*◌, ◌+◌, ◌<◌, ◌≤◌, ℕ}
use Rattle.std.proofs.Common.{◌∙◌, ap₂, arith, inl, inr}
use Rattle.std.proofs.Math.Path.{ap, sym}
use Rattle.std.proofs.Math.Dec.{eqb, leb, ltb}
use Rattle.std.proofs.lemmas.Bool.{not-false, not-true}
use Rattle.book.specs.Layout.{kind_at, members_at, slots_of, usable_at}
use Rattle.book.specs.Plain.{members_low, proper_at, proper_if, sets_low, slot_apart, slot_low, slots_apart}
use Rattle.model.specs.Book.{versions}
use Rattle.sets.specs.TestLaws.{<?_in, <?_out, =?-in, =?-no, =?-not, =?-out, clash, and-false, and_swap, and-true, fails, imp_in, not_in, not_out}
use Rattle.sets.specs.TestLaws.{≤?_in, ≤?_out}
use Rattle.sets.specs.Tests.{◌&◌, ◌<?◌, ◌=?◌, ◌⇒◌, ◌≤?◌, all}

and_both : (a b z : Bool) → (a & (b & z)) ≡ ((a & b) & z)
unfolding ◌&◌
and_both true b z = refl
and_both false b z = refl

-- the test for 64 does not fail of a number that is no version
pub apart_both : {A : Type 0} (x : ℕ) {b : Bool} → b ≡ leb 64 x → b ≡ false → versions ≤ x → A
unfolding ◌≤?◌
apart_both x e f l = clash (≤?_in 64 x l) (sym e ∙ f)

module _ (n : List ℕ) (c j k : ℕ) {x : ℕ} (ex : x ≡ slots_of n c j) where
  pub apart_high : {b : Bool} → b ≡ true → versions ≤ x → b ≡ slots_apart n c j k
  unfolding slots_apart
  apart_high e l = e ∙ sym (imp_in _ _ (λ t. absurd (omega (arith, <?_out _ _ t, l, ex))))

  module _ {y : ℕ} (ey : y ≡ slots_of n c k) {b : Bool} (eb : b ≡ not (eqb x y)) where
    pub apart_other : b ≡ true → b ≡ slots_apart n c j k
    unfolding slots_apart ◌=?◌
    apart_other e = e ∙ sym (imp_in _ _ (λ t. imp_in _ _ (λ q. absurd (=?-no _ _ (not-true _ (sym eb ∙ e)) (ex ∙ =?-out _ _ q ∙ sym ey)))))

    pub apart_is : x < versions → b ≡ false → eqb j k ≡ slots_apart n c j k
    unfolding slots_apart ◌⇒◌ ◌=?◌
    apart_is l e = sym (ap₂ (λ (s t : Bool). s ⇒ t ⇒ eqb j k) (<?_in (slots_of n c j) versions (omega (arith, l, ex)))
        (=?-in _ _ (sym ex ∙ =?-out _ _ (not-false _ (sym eb ∙ e)) ∙ ey)))

module _ (s n : List ℕ) (c : ℕ) where
  module _ (j : ℕ) {x : ℕ} (ex : x ≡ slots_of n c j) where
    pub members_free : versions ≤ x → leb 64 x ≡ members_low s n c j
    unfolding members_low ◌≤?◌
    members_free l = ≤?_in 64 x l ∙ sym (imp_in _ _ (λ t. absurd (omega (arith, <?_out _ _ t, l, ex))))

    pub members_is : {m : ℕ} → x < versions → m ≡ members_at s (c * 8 + j) → ltb m 4294967296 ≡ members_low s n c j
    unfolding members_low ◌⇒◌ ◌<?◌
    members_is l em = ap (λ (y : ℕ). ltb y 4294967296) em
        ∙ sym (ap (λ (t : Bool). t ⇒ ltb (members_at s (c * 8 + j)) 4294967296) (<?_in (slots_of n c j) versions (omega (arith, l, ex))))

  module _ {x : ℕ} (ex : x ≡ usable_at s c) where
    pub sets_high : 4294967296 ≤ x → ltb x 4294967296 ≡ sets_low s n c
    unfolding sets_low ◌<?◌
    sets_high l = fails (x <? 4294967296) (λ t. omega (arith, <?_out _ _ t, l))
        ∙ sym (and-false _ _ (fails _ (λ t. omega (arith, <?_out _ _ t, l, ex))))

    pub sets_is : {r : Bool} → x < 4294967296 → r ≡ all 8 (members_low s n c) → r ≡ sets_low s n c
    unfolding sets_low
    sets_is l e = e ∙ sym (and-true _ _ (<?_in _ _ (omega (arith, l, ex))))

  pub proper_absent : kind_at n c ≡ 0 → true ≡ proper_if s n c
  unfolding proper_if
  proper_absent e = sym (imp_in _ _ (λ t. absurd (=?-no _ _ (not_out _ t) e)))

  there : (kind_at n c ≡ 0 → ⊥) → proper_if s n c ≡ proper_at s n c
  unfolding proper_if ◌⇒◌
  there ne = ap (λ (t : Bool). t ⇒ proper_at s n c) (not_in _ (=?-not _ _ ne))

  pub proper_excess : (kind_at n c ≡ 0 → ⊥) → (kind_at n c ≡ 1 → ⊥) → (kind_at n c ≡ 2 → ⊥) → (kind_at n c ≡ 3 → ⊥) → false ≡ proper_if s n c
  unfolding proper_at
  proper_excess a b d e = sym (there a ∙ and-false _ _ (fails _ (λ t. omega (arith, ≤?_out _ _ t, a, b, d, e))))

  module _ {r : Bool} (er : r ≡ (all 8 (slot_low n c) & all 8 (slot_apart n c))) where
    so_far : (kind_at n c ≡ 0 → ⊥) → kind_at n c ≤ 3 → proper_if s n c ≡ (r & (kind_at n c =? 3 ⇒ sets_low s n c))
    unfolding proper_at
    so_far a l = there a ∙ and-true _ _ (≤?_in _ _ l) ∙ and_both _ _ _ ∙ ap (λ (b : Bool). b & (kind_at n c =? 3 ⇒ sets_low s n c)) (sym er)

    plain : (kind_at n c ≡ 0 → ⊥) → kind_at n c < 3 → r ≡ proper_if s n c
    unfolding ◌⇒◌
    plain a l = sym (so_far a (omega (arith, l)) ∙ and_swap _ _
        ∙ and-true _ _ (ap (λ (t : Bool). t ⇒ sets_low s n c) (=?-not _ _ (λ q. omega (arith, q, l)))))

    pub proper_plain : (kind_at n c ≡ 1) ⊎ (kind_at n c ≡ 2) → r ≡ proper_if s n c
    proper_plain (inl e) = plain (λ z. omega (arith, e, z)) (omega (arith, e))
    proper_plain (inr e) = plain (λ z. omega (arith, e, z)) (omega (arith, e))

    module _ (e : kind_at n c ≡ 3) where
      system : proper_if s n c ≡ (r & sets_low s n c)
      unfolding ◌⇒◌
      system = so_far (λ z. omega (arith, e, z)) (omega (arith, e)) ∙ ap (λ (t : Bool). r & (t ⇒ sets_low s n c)) (=?-in _ _ e)

      pub proper_system : {y : Bool} → r ≡ true → y ≡ sets_low s n c → y ≡ proper_if s n c
      proper_system t ey = ey ∙ sym (system ∙ and-true _ _ t)

      pub proper_apart : r ≡ false → r ≡ proper_if s n c
      proper_apart f = f ∙ sym (system ∙ and-false _ _ f)

-- the laws that one function uses
pub ruleset proper_ways = (proper_absent, proper_excess, proper_plain, proper_system, proper_apart)
