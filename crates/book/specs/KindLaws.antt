-- Laws of what a component is: one for each way out of the function that reads it, and what it tells.
use Rattle.std.specs.Prelude.{Bool, List, None, Option, Some, false, is_some, true, ◌≡◌, ◌<◌, ◌≤◌, ℕ}
use Rattle.std.specs.Option.{option_eq}
use Rattle.std.proofs.Common.{◌∙◌, inl, inr, arith}
use Rattle.std.proofs.Math.Path.{ap, sym}
use Rattle.book.specs.declared.Kind.{Kind}
use Rattle.book.specs.declared.Kind.TheVariants.{Module, System, Undefined}
use Rattle.book.specs.Kinds.{kind_of}
use Rattle.book.specs.Layout.{kind_at}
use Rattle.book.specs.Plain.{kind_is, modules_of, specified_at, specs_of, systems_of}
use Rattle.book.specs.ReadLaws.{is_module_plain, is_system_plain, kind_specified, specified_plain}
use Rattle.model.specs.Book.{components, is_module, is_system, specified}
use Rattle.sets.specs.TestLaws.{<?_in, <?_out, =?-in, =?-no, =?-not, =?-out, and_in, and_no, and_r, bool?, fails, if-false, if-true}
use Rattle.sets.specs.TestLaws.{not_in, not_out}

module _ (n : List ℕ) (c : ℕ) (c< : c < components) where
  pub specified_at_lem : (kind_at n c ≡ 0 → ⊥) → specified_at n c ≡ true
  unfolding specified_at
  specified_at_lem ne = and_in _ _ (<?_in _ _ c<) (not_in _ (=?-not _ _ ne))

  pub kind_at_lem : (k : ℕ) → kind_at n c ≡ k → kind_is n k c ≡ true
  unfolding kind_is
  kind_at_lem k e = and_in _ _ (<?_in _ _ c<) (=?-in _ _ e)

pub not-specified : (n : List ℕ) (c : ℕ) → kind_at n c ≡ 0 → specified_at n c ≡ false
unfolding specified_at
not-specified n c e = and_no _ _ (λ t. fails _ (λ q. =?-no _ _ (not_out _ q) e))

pub not_kind : (n : List ℕ) (k c : ℕ) → (kind_at n c ≡ k → ⊥) → kind_is n k c ≡ false
unfolding kind_is
not_kind n k c ne = and_no _ _ (λ t. =?-not _ _ ne)

module _ (n : List ℕ) (c : ℕ) where
  of_none : specified_at n c ≡ false → kind_of n c ≡ None
  unfolding kind_of
  of_none e = if-false _ _ _ e

  of_module : kind_is n 2 c ≡ true → kind_of n c ≡ Some Module
  unfolding kind_of
  of_module e = if-true _ _ _ (kind_specified n 2 c e (λ z. omega (arith, z))) ∙ ap Some (if-true _ _ _ e)

  of_system : kind_is n 3 c ≡ true → kind_of n c ≡ Some System
  unfolding kind_of kind_is
  of_system e =
      let two = not_kind n 2 c (λ z. omega (arith, z, =?-out _ _ (and_r _ _ e))) in
      if-true _ _ _ (kind_specified n 3 c e (λ z. omega (arith, z))) ∙ ap Some (if-false _ _ _ two ∙ if-true _ _ _ e)

  of_undefined : specified_at n c ≡ true → kind_is n 2 c ≡ false → kind_is n 3 c ≡ false → kind_of n c ≡ Some Undefined
  unfolding kind_of
  of_undefined e two three = if-true _ _ _ e ∙ ap Some (if-false _ _ _ two ∙ if-false _ _ _ three)

  -- ---- the ways out

  pub kind_past : components ≤ c → None ≡ kind_of n c
  kind_past h = sym (of_none (unfold specified_at in and_no _ _ (λ t. absurd (omega (arith, <?_out _ _ t, h)))))

  pub kind_zero : kind_at n c ≡ 0 → None ≡ kind_of n c
  kind_zero e = sym (of_none (not-specified n c e))

  module _ (c< : c < components) where
    pub kind_module : kind_at n c ≡ 2 → Some Module ≡ kind_of n c
    kind_module e = sym (of_module (kind_at_lem n c c< 2 e))

    pub kind_system : kind_at n c ≡ 3 → Some System ≡ kind_of n c
    kind_system e = sym (of_system (kind_at_lem n c c< 3 e))

    pub kind_undefined : (kind_at n c ≡ 0 → ⊥) → (kind_at n c ≡ 2 → ⊥) → (kind_at n c ≡ 3 → ⊥) → Some Undefined ≡ kind_of n c
    kind_undefined zero two three = sym (of_undefined (specified_at_lem n c c< zero) (not_kind n 2 c two) (not_kind n 3 c three))

-- ---- what it tells

module _ (n : List ℕ) (c : ℕ) {k : Option Kind} (e : k ≡ kind_of n c) where
  some_specified : is_some k ≡ specified_at n c
  some_specified = ap is_some e ∙ elim (bool? (specified_at n c)) [
    | inl t ↦ unfold kind_of in ap is_some (if-true _ _ _ t) ∙ sym t
    | inr f ↦ ap is_some (of_none n c f) ∙ sym f
  ]

  pub absent : k ≡ None → specified_at n c ≡ false
  absent q = sym some_specified ∙ ap is_some q

  pub present : (x : Kind) → k ≡ Some x → specified_at n c ≡ true
  present x q = sym some_specified ∙ ap is_some q

module _ (s n : List ℕ) (c : ℕ) {k : Option Kind} (e : k ≡ kind_of n c) where
  pub specified_told : is_some k ≡ specified (specs_of s n) c
  specified_told = some_specified n c e ∙ sym (specified_plain s n c)

  -- the kind compared with another, where q compares two kinds
  module _ (q : Kind → Kind → Bool) where
    pub module_told : q Module Module ≡ true → q Undefined Module ≡ false → q System Module ≡ false
        → option_eq q k (Some Module) ≡ is_module (modules_of n) c
    module_told m u y = ap is e ∙ elim (bool? (kind_is n 2 c)) [
      | inl t ↦ ap is (of_module n c t) ∙ m ∙ sym t
      | inr f ↦ elim (bool? (specified_at n c)) [
        | inr g ↦ ap is (of_none n c g) ∙ sym f
        | inl t ↦ elim (bool? (kind_is n 3 c)) [
          | inl z ↦ ap is (of_system n c z) ∙ y ∙ sym f
          | inr z ↦ ap is (of_undefined n c t f z) ∙ u ∙ sym f
        ]
      ]
    ] ∙ sym (is_module_plain s n c)
      where
        is : Option Kind → Bool
        is x = option_eq q x (Some Module)

    pub system_told : q System System ≡ true → q Undefined System ≡ false → q Module System ≡ false
        → option_eq q k (Some System) ≡ is_system (systems_of s n) c
    system_told y u m = ap is e ∙ elim (bool? (kind_is n 3 c)) [
      | inl t ↦ ap is (of_system n c t) ∙ y ∙ sym t
      | inr f ↦ elim (bool? (specified_at n c)) [
        | inr g ↦ ap is (of_none n c g) ∙ sym f
        | inl t ↦ elim (bool? (kind_is n 2 c)) [
          | inl z ↦ ap is (of_module n c z) ∙ m ∙ sym f
          | inr z ↦ ap is (of_undefined n c t z f) ∙ u ∙ sym f
        ]
      ]
    ] ∙ sym (is_system_plain s n c)
      where
        is : Option Kind → Bool
        is x = option_eq q x (Some System)

-- the laws that one function uses
pub ruleset kind_ways = (kind_past, kind_zero, kind_module, kind_system, kind_undefined)
