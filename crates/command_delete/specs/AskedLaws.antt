-- What the functions compute is what is asked of a system and of a composition.
use Rattle.std.specs.Prelude.{Bool, not, false, true, ◌≡◌, ℕ, eqb}
use Rattle.std.proofs.Math.Option.{Option, some}
use Rattle.std.proofs.Common.{◌∙◌, ap}
use Rattle.std.proofs.Math.Path.{refl, sym}
use Rattle.command_delete.specs.Asked.{not_held_at}
use Rattle.model.specs.Book.{Systems, is_member, member, usable}
use Rattle.model.specs.Maps.{has}
use Rattle.model_laws.specs.MapLaws.{is_some_no}
use Rattle.sets.specs.Sets.{Set, bit}
use Rattle.sets.specs.TestLaws.{not_in}
use Rattle.sets.specs.Tests.{◌=?◌, ~◌}

-- question 18: c is not usable in s
pub not_usable : (Y : Systems) (s c u : ℕ) {r : Bool} → bit u ≡ usable Y s → r ≡ bit u c → not r ≡ (~ usable Y s c)
unfolding ~◌
not_usable Y s c u e q = ap not (q ∙ ap (λ (z : Set). z c) e)

module _ (Y : Systems) (c v s w : ℕ) where
  pub no_member : (u : ℕ) {r : Bool} → bit u ≡ is_member Y s w → r ≡ bit u c → r ≡ false → true ≡ not_held_at Y c v s w
  unfolding not_held_at is_member
  no_member u {r} e q z =
      sym (not_in _ (ap (λ (o : Option ℕ). has o (λ x. x =? v)) (is_some_no _ (sym (ap (λ (f : Set). f c) e) ∙ sym q ∙ z)) ∙ (unfold has in refl)))

  pub other_version : (x : ℕ) {r : Bool} → member Y s w c ≡ some x → r ≡ not (eqb x v) → r ≡ not_held_at Y c v s w
  unfolding not_held_at has ◌=?◌ ~◌
  other_version x e q = q ∙ sym (ap (λ (o : Option ℕ). not (has o (λ y. eqb y v))) e)

  pub is_member_lem : (u : ℕ) {r : Bool} → bit u ≡ is_member Y s w → r ≡ bit u c → r ≡ true → is_member Y s w c ≡ true
  is_member_lem u {r} e q y = sym (ap (λ (f : Set). f c) e) ∙ sym q ∙ y

pub ruleset not_held = (no_member, other_version, is_member_lem)
