-- The rules as the functions test them: one law for each way out.
use Rattle.std.specs.Prelude.{Bool, false, not, List, ◌≢◌, ◌⊎◌, ◌≡◌, ◌+◌, ◌<◌, ◌^◌, ◌≤◌, ℕ, eqb}
use Rattle.std.proofs.Math.Bool.{true}
use Rattle.std.proofs.Common.{inl, inr, ◌∙◌, arith, pow_pos}
use Rattle.std.proofs.Math.Path.{ap, ap₂, fun_ext, refl, sym}
use Rattle.std.proofs.Math.Numerals.{add-one}
use Rattle.std.proofs.Math.Dec.{leb}
use borrow.Author.Tests.{eq-eqb, eqb-true}
use Rattle.book.specs.Plain.{kind_is, modules_of, specs_of, systems_of}
use Rattle.book.specs.PutLaws.{module_or_system}
use Rattle.book.specs.ReadLaws.{composition_plain, has_version_plain, implementation_plain, is_module_plain, is_system_plain}
use Rattle.book.specs.ReadLaws.{kind_specified, spec_limits_lem, specified_plain, usable_limit}
use Rattle.model.specs.Book.{Specs, Systems, components, composed, facilities, has_version, implementation, is_defined, is_member}
use Rattle.model.specs.Book.{is_module, is_system, provides, requires, specified, usable, versions}
use Rattle.model.specs.Limits.{how_many}
use Rattle.model.specs.Maps.{is_some}
use Rattle.model.specs.Rules.{B2_at, B3_at, offered, p}
use Rattle.sets.specs.LoopLaws.{union_turn}
use Rattle.sets.specs.SetLaws.{bit_ext, bit_zero, subset_width}
use Rattle.sets.specs.Sets.{Set, bit, disjoint, subset, union, union_below}
use Rattle.sets.specs.TestLaws.{<?_no, all_in, all_out, and-false, and_in, and-true, bool?}
use Rattle.sets.specs.TestLaws.{clash, fails, if-true, iff_in, iff→≡, imp_in, not_in, not_out, or-false, or_out}
use Rattle.sets.specs.Tests.{◌&◌, ◌<?◌, ◌⇒◌, ◌⇔◌, ◌≤?◌, all, any, count, ~◌}
use Rattle.model_laws.specs.Good.{requires_version}
use Rattle.model_laws.specs.Heights.{usable_system}
use Rattle.model_laws.specs.MapLaws.{option_map-some}
use Rattle.sets.specs.Sets as sets

-- two sets that are equal hold the same numbers
at : {a b : Set} → a ≡ b → (f : ℕ) → a f ≡ b f
at e f = ap (λ (s : Set). s f) e

pub imp_test : (a b : Bool) {r : Bool} → a ≡ true → r ≡ b → r ≡ (a ⇒ b)
unfolding ◌⇒◌
imp_test a b t e = e ∙ sym (ap (λ (x : Bool). x ⇒ b) t)

pub imp_skip : (a b : Bool) → a ≡ false → true ≡ (a ⇒ b)
unfolding ◌⇒◌
imp_skip a b e = sym (ap (λ (x : Bool). x ⇒ b) e)

-- what `a && b` gives: b where a holds, else a
pub and_second : {a b : Bool} (p q : Bool) → a ≡ p → a ≡ true → b ≡ q → b ≡ (p & q)
and_second p q ea t eb = eb ∙ sym (and-true _ _ (sym ea ∙ t))

pub and_first : {a : Bool} (p q : Bool) → a ≡ p → a ≡ false → a ≡ (p & q)
and_first p q ea f = f ∙ sym (and-false _ _ (sym ea ∙ f))

pub ruleset ands = (and_first, and_second)

-- ---- B1

-- the version v of c requires nothing that c provides
unfoldable pub own_free : Specs → ℕ → ℕ → Bool
own_free S c v = disjoint facilities (requires S c v) (provides S c)

module _ (S : Specs) (c : ℕ) where
  pub own_free_lem : (v q p : ℕ) {r : Bool} → bit q ≡ requires S c v → bit p ≡ provides S c → r ≡ disjoint 64 (bit q) (bit p) → r ≡ own_free S c v
  unfolding own_free
  own_free_lem v q p eq ep e = e ∙ ap₂ (disjoint 64) eq ep

  -- a version that c has not requires nothing
  pub own_absent : (v x : ℕ) {r : Bool} → bit x ≡ has_version S c → r ≡ bit x v → r ≡ false → not r ≡ own_free S c v
  unfolding own_free disjoint
  own_absent v x ex er e = ap not e ∙ sym (all_in 64 _ (λ f l. imp_in _ _ (λ t. clash (requires_version S c v f t) (sym (at ex v) ∙ sym er ∙ e))))

unfoldable pub unspecified : Specs → ℕ → Bool
unspecified S c = ~ specified S c

pub unspecified_is : (S : Specs) (c : ℕ) {r : Bool} → r ≡ specified S c → not r ≡ unspecified S c
unfolding unspecified ~◌
unspecified_is S c e = ap not e

-- ---- one to eight versions

unfoldable pub count_ok : Specs → ℕ → Bool
count_ok S c = 0 <? how_many S c & how_many S c ≤? 8

module _ (S : Specs) (c x n : ℕ) (ex : bit x ≡ has_version S c) (en : n ≡ count 64 (bit x)) where
  many : how_many S c ≡ n
  unfolding how_many
  many = sym (en ∙ ap (count 64) ex)

  pub count_none : leb 1 n ≡ false → leb 1 n ≡ count_ok S c
  unfolding count_ok ◌<?◌ ◌≤?◌
  count_none z = and_first _ _ (ap (leb 1) (sym many)) z

  pub count_is : leb 1 n ≡ true → leb n 8 ≡ count_ok S c
  unfolding count_ok ◌<?◌ ◌≤?◌
  count_is z = and_second _ _ (ap (leb 1) (sym many)) z (ap (λ (k : ℕ). leb k 8) (sym many))

-- ---- unions

-- what the components of the set us provide together
unfoldable pub provided_by : Specs → Set → ℕ → Set
provided_by S us c f = us c & provides S c f

module _ (S : Specs) (us : Set) (c : ℕ) {t : Bool} (et : t ≡ us c) where
  pub provided_in : (y : ℕ) → t ≡ true → bit y ≡ provides S c → bit y ≡ provided_by S us c
  unfolding provided_by
  provided_in y e ey = ey ∙ fun_ext (λ f. sym (and-true _ _ (sym et ∙ e)))

  pub provided_out : t ≡ false → bit 0 ≡ provided_by S us c
  unfolding provided_by
  provided_out e = fun_ext (λ f. bit_zero f ∙ sym (and-false _ _ (sym et ∙ e)))

module _ (S : Specs) (us : Set) (c x : ℕ) (ex : bit x ≡ union_below c (provided_by S us)) {t : Bool} (et : t ≡ us c) where
  pub provided_more : (y z : ℕ) → t ≡ true → bit y ≡ provides S c → bit z ≡ union (bit x) (bit y) → bit z ≡ union_below (c + 1) (provided_by S us)
  provided_more y z e ey ez = union_turn c (provided_by S us) x z ex (ez ∙ ap (union (bit x)) (provided_in S us c et y e ey))

  pub provided_same : t ≡ false → bit x ≡ union_below (c + 1) (provided_by S us)
  unfolding provided_by union_below any
  provided_same e = ex ∙ fun_ext (λ f. rw add-one (sym (or-false _ _ (and-false _ _ (sym et ∙ e)))))

offered_is : (S : Specs) (Y : Systems) (s : ℕ) → union_below 32 (provided_by S (usable Y s)) ≡ offered S Y s
unfolding union_below provided_by offered
offered_is S Y s = refl

p_is : (S : Specs) (Y : Systems) (s v : ℕ) → union_below 32 (provided_by S (is_member Y s v)) ≡ p S Y s v
unfolding union_below provided_by p
p_is S Y s v = refl

-- ---- B2: what a Book means has the rest of B2 by its layout

module _ (s n : List ℕ) (c : ℕ) where
  -- what remains to be tested of a system: its usable components are specified, and its versions require nothing
  unfoldable pub bare : ℕ → Bool
  bare v = all facilities (λ f. ~ requires (specs_of s n) c v f)

  pub bare_is : (v q : ℕ) → q < 2 ^ 64 → bit q ≡ requires (specs_of s n) c v → eqb q 0 ≡ bare v
  unfolding bare
  bare_is v q q< e = iff→≡ _ _
      (λ t. all_in 64 _ (λ f l. not_in _ (sym (at e f) ∙ ap (λ (x : ℕ). bit x f) (eqb-true _ _ t) ∙ bit_zero f)))
      (λ t. eq-eqb _ _ (bit_ext 64 q 0 q< (pow_pos 64) (λ f l. at e f ∙ not_out _ (all_out 64 _ t f l) ∙ sym (bit_zero f))))

  both : (k : ℕ) → k ≢ 0 → kind_is n k c ≡ true → specified (specs_of s n) c ≡ true
  both k ne t = specified_plain s n c ∙ kind_specified n k c t ne

  defined_specified : (is_defined (modules_of n) (systems_of s n) c ⇒ specified (specs_of s n) c) ≡ true
  unfolding is_defined
  defined_specified = imp_in _ _ (λ t. either (or_out (is_module (modules_of n) c) (is_system (systems_of s n) c) t))
    where
      either : (is_module (modules_of n) c ≡ true) ⊎ (is_system (systems_of s n) c ≡ true) → specified (specs_of s n) c ≡ true
      either (inl y) = both 2 (omega arith) (sym (is_module_plain s n c) ∙ y)
      either (inr y) = both 3 (omega arith) (sym (is_system_plain s n c) ∙ y)

  not_both : (is_module (modules_of n) c ⇒ ~ is_system (systems_of s n) c) ≡ true
  not_both = imp_in _ _ (λ t. not_in _ (module_or_system s n c t))

  module_covers : (is_module (modules_of n) c ⇒ all versions (λ v. is_some (implementation (modules_of n) c v) ⇔ has_version (specs_of s n) c v)) ≡ true
  module_covers = imp_in _ _ (λ t. all_in 64 _ (λ v l. iff_in _ _
      (ap is_some (implementation_plain s n c v ∙ if-true _ _ _ (sym (is_module_plain s n c) ∙ t)) ∙ option_map-some _ _ ∙ sym (has_version_plain s n c v))))

  pub composed_version : (v : ℕ) → is_system (systems_of s n) c ≡ true → composed (systems_of s n) c v ≡ has_version (specs_of s n) c v
  unfolding composed
  composed_version v t = ap is_some (composition_plain s n c v ∙ if-true _ _ _ (sym (is_system_plain s n c) ∙ t)) ∙ option_map-some _ _ ∙ sym (has_version_plain s n c v)

  system_covers : (is_system (systems_of s n) c ⇒ all versions (λ v. composed (systems_of s n) c v ⇔ has_version (specs_of s n) c v)) ≡ true
  system_covers = imp_in _ _ (λ t. all_in 64 _ (λ v l. iff_in _ _ (composed_version v t)))

  unfoldable pub usable_specified : Bool
  usable_specified = all components (λ d. usable (systems_of s n) c d ⇒ specified (specs_of s n) d)

  remains : B2_at (specs_of s n) (modules_of n) (systems_of s n) c ≡ (usable_specified & (is_system (systems_of s n) c ⇒ all 64 bare))
  unfolding B2_at usable_specified bare
  remains = and-true _ _ defined_specified ∙ ap (λ (x : Bool). usable_specified & x)
      (and-true _ _ not_both ∙ and-true _ _ module_covers ∙ and-true _ _ system_covers)

  pub b2_other : {r : Bool} → r ≡ is_system (systems_of s n) c → r ≡ false → not r ≡ B2_at (specs_of s n) (modules_of n) (systems_of s n) c
  unfolding usable_specified
  b2_other {r} e t = ap not t ∙ sym (remains ∙ and_in _ _
      (all_in 32 _ (λ d l. imp_in _ _ (λ u. clash (usable_system (systems_of s n) c d u) (sym e ∙ t)))) (sym (imp_skip _ _ (sym e ∙ t))))

  module _ {r : Bool} (e : r ≡ is_system (systems_of s n) c) (t : r ≡ true) (u x : ℕ) (eu : bit u ≡ usable (systems_of s n) c)
      (ex : bit x ≡ specified (specs_of s n)) {q : Bool} (eq : q ≡ subset 64 (bit u) (bit x)) where
    subset_is : subset 64 (bit u) (bit x) ≡ usable_specified
    unfolding usable_specified
    subset_is = ap₂ (subset 64) eu ex ∙ subset_width 32 64 (usable (systems_of s n) c) (specified (specs_of s n)) (omega arith)
        (λ d l. fails _ (λ k. omega (arith, l, usable_limit s n c d k))) ∙ unfold subset in refl

    pub b2_unspecified : q ≡ false → q ≡ B2_at (specs_of s n) (modules_of n) (systems_of s n) c
    b2_unspecified z = z ∙ sym (remains ∙ and-false _ _ (sym subset_is ∙ sym eq ∙ z))

    pub b2_bare : {b : Bool} → q ≡ true → b ≡ all 64 bare → b ≡ B2_at (specs_of s n) (modules_of n) (systems_of s n) c
    b2_bare {b} z eb = eb ∙ sym (remains ∙ and-true _ _ (sym subset_is ∙ sym eq ∙ z) ∙ sym (imp_test _ (all 64 bare) (sym e ∙ t) refl))

-- the set of the specified components
pub specified_below : (s n : List ℕ) (x : ℕ) → bit x ≡ sets.below 32 (specified (specs_of s n)) → bit x ≡ specified (specs_of s n)
unfolding sets.below
specified_below s n x ex = ex ∙ fun_ext (λ d. elim (bool? (d <? 32)) [
  | inl y ↦ and-true _ _ y
  | inr z ↦ and-false _ _ z ∙ sym (fails _ (λ t. omega (arith, (spec_limits_lem s n).component< d t, <?_no _ _ z)))
])

-- ---- B3

pub b3_is : (S : Specs) (Y : Systems) (s x y : ℕ) {r : Bool} → bit x ≡ provides S s → bit y ≡ offered S Y s → r ≡ subset 64 (bit x) (bit y) → r ≡ B3_at S Y s
unfolding B3_at
b3_is S Y s x y ex ey er = er ∙ ap₂ (subset 64) ex ey

pub offered_at : (S : Specs) (Y : Systems) (s x y : ℕ) → bit y ≡ usable Y s → bit x ≡ union_below 32 (provided_by S (bit y)) → bit x ≡ offered S Y s
offered_at S Y s x y ey ex = ex ∙ ap (λ (a : Set). union_below 32 (provided_by S a)) ey ∙ offered_is S Y s

pub provided_at : (S : Specs) (Y : Systems) (s v x y : ℕ) → bit y ≡ is_member Y s v → bit x ≡ union_below 32 (provided_by S (bit y)) → bit x ≡ p S Y s v
provided_at S Y s v x y ey ex = ex ∙ ap (λ (a : Set). union_below 32 (provided_by S a)) ey ∙ p_is S Y s v
