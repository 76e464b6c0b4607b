-- The rules B5 to B9 of one composition.
use Rattle.std.specs.Prelude.{Bool, None, Some, false, List, ◌≢◌, ◌≡◌, refl, ◌+◌, ◌<◌, ◌^◌, ◌≤◌, ℕ, eqb}
use Rattle.std.proofs.Math.Bool.{not, true}
use Rattle.std.proofs.Math.Logic.{inl, inr}
use Rattle.std.proofs.Math.Option.{Option}
use Rattle.std.proofs.Common.{◌∙◌, not-suc-le-zero, arith, pow_pos}
use Rattle.std.proofs.Math.Path.{ap, ap₂, fun_ext, sym}
use borrow.Author.Tests.{eqb-false, ne_eqb, not-false, not-true}
use Rattle.book.specs.Plain.{specs_of, systems_of}
use Rattle.book.specs.ReadLaws.{member_limit}
use Rattle.model.specs.Book.{Specs, Systems, composed, facilities, has_version, is_member, is_system, member, provides, usable}
use Rattle.model.specs.Maps.{if_there}
use Rattle.model.specs.Rules.{B5_at, B6_at, B7_at, B8_at, B9_at, each_composition, needs, offered, p, r}
use Rattle.book_rules.specs.RuleLaws.{and_first, and_second, provided_by}
use Rattle.sets.specs.Answered.{answered}
use Rattle.sets.specs.SetLaws.{bit_ext, bit_zero, meet-disjoint}
use Rattle.sets.specs.Sets.{Set, bit, disjoint, meet, minus, subset, union, union_below}
use Rattle.sets.specs.TestLaws.{=?-no, =?-not, all_in, all_no, all_out, and_in, and_l, and_r, any_in, any_out}
use Rattle.sets.specs.TestLaws.{bool?, clash, fails, iff→≡, imp_in, imp_no, imp_out, not_in, not_no, not_out, same?}
use Rattle.sets.specs.Tests.{◌&◌, ◌⇒◌, all, any, ~◌}
use Rattle.model_laws.specs.Heights.{Sound, needs_system}
use Rattle.model_laws.specs.MapLaws.{is_some_out}

at : {a b : Set} → a ≡ b → (f : ℕ) → a f ≡ b f
at e f = ap (λ (s : Set). s f) e

-- ---- B5

-- a set is empty where its number is 0
any_bit : (k s : ℕ) → s < 2 ^ k → any k (bit s) ≡ not (eqb s 0)
any_bit k s h = iff→≡ _ _
    (λ t. (let q = any_out k _ t in ne_not s (λ z. clash q.2 (ap (λ (x : ℕ). bit x q.0) z ∙ bit_zero q.0))))
    (λ t. elim (bool? (any k (bit s))) [
      | inl y ↦ y
      | inr z ↦ absurd (eqb-false _ _ (not-true _ t) (bit_ext k s 0 h (pow_pos k) (λ f l. fails _ (λ b. clash (any_in k _ f l b) z) ∙ sym (bit_zero f))))
    ])
  where
    ne_not : (s : ℕ) → s ≢ 0 → not (eqb s 0) ≡ true
    ne_not s ne = ap not (ne_eqb s 0 ne)

-- the member c, if it is one, is usable, with a version that it has
unfoldable pub member_ok : Specs → Systems → ℕ → ℕ → ℕ → Bool
member_ok S Y s v c = if_there (member Y s v c) (λ w. usable Y s c & has_version S c w)

module _ (S : Specs) (Y : Systems) (s v c : ℕ) where
  pub member_none : answered None ≡ member Y s v c → true ≡ member_ok S Y s v c
  unfolding answered member_ok if_there
  member_none e = ap (λ (o : Option ℕ). if_there o (λ w. usable Y s c & has_version S c w)) e

  module _ (w u : ℕ) {a : Bool} (em : answered (Some w) ≡ member Y s v c) (eu : bit u ≡ usable Y s) (ea : a ≡ bit u c) where
    with_version_lem : (usable Y s c & has_version S c w) ≡ member_ok S Y s v c
    unfolding answered member_ok if_there
    with_version_lem = ap (λ (o : Option ℕ). if_there o (λ w. usable Y s c & has_version S c w)) em

    pub member_unusable : a ≡ false → a ≡ member_ok S Y s v c
    member_unusable e = and_first _ _ (ea ∙ at eu c) e ∙ with_version_lem

    pub member_usable : {b : Bool} → a ≡ true → b ≡ has_version S c w → b ≡ member_ok S Y s v c
    member_usable e eb = and_second _ _ (ea ∙ at eu c) e eb ∙ with_version_lem

module _ (s n : List ℕ) (c v x : ℕ) (x< : x < 2 ^ 64) (ex : bit x ≡ is_member (systems_of s n) c v) where
  some_member : any 32 (is_member (systems_of s n) c v) ≡ not (eqb x 0)
  unfolding is_member
  some_member = iff→≡ _ _
      (λ t. (let q = any_out 32 _ t in sym (any_bit 64 x x<) ∙ any_in 64 _ q.0 (omega (arith, q.1)) (at ex q.0 ∙ q.2)))
      (λ t. (let q = any_out 64 _ (any_bit 64 x x< ∙ t) in let m = is_some_out _ (sym (at ex q.0) ∙ q.2) in
      any_in 32 _ q.0 (member_limit s n c v q.0 m.0 m.1) (sym (at ex q.0) ∙ q.2)))

  pub b5_empty : not (eqb x 0) ≡ false → not (eqb x 0) ≡ B5_at (specs_of s n) (systems_of s n) c v
  unfolding B5_at
  b5_empty z = and_first _ _ (sym some_member) z

  pub b5_members : {r : Bool} → not (eqb x 0) ≡ true → r ≡ all 32 (member_ok (specs_of s n) (systems_of s n) c v)
      → r ≡ B5_at (specs_of s n) (systems_of s n) c v
  unfolding B5_at member_ok
  b5_members ne e = and_second _ _ (sym some_member) ne e

-- ---- B6

-- the members below m provide no common facility
unfoldable pub apart_below : Specs → Systems → ℕ → ℕ → ℕ → Type 0
apart_below S Y s v m = (c d f : ℕ) → c < m → d < m → is_member Y s v c ≡ true → is_member Y s v d ≡ true → c ≢ d
    → provides S c f ≡ true → provides S d f ≡ true → ⊥

module _ (S : Specs) (Y : Systems) (s v : ℕ) where
  pub apart_start : apart_below S Y s v 0
  unfolding apart_below
  apart_start c d f l = absurd (not-suc-le-zero l)

  -- a facility that a member below m provides is seen
  seen : (m f c : ℕ) → c < m → is_member Y s v c ≡ true → provides S c f ≡ true → union_below m (provided_by S (is_member Y s v)) f ≡ true
  unfolding union_below provided_by
  seen m f c l t q = any_in m _ c l (and_in _ _ t q)

  pub apart-skip : (m : ℕ) → apart_below S Y s v m → is_member Y s v m ≡ false → apart_below S Y s v (m + 1)
  unfolding apart_below
  apart-skip m h z c d f lc ld tc td ne qc qd = elim (same? c m) [
    | inl e ↦ clash tc (ap (is_member Y s v) e ∙ z)
    | inr nc ↦ elim (same? d m) [ inl e ↦ clash td (ap (is_member Y s v) e ∙ z) | inr nd ↦ h c d f (omega arith) (omega arith) tc td ne qc qd ]
  ]

  module _ (m x y : ℕ) (ex : bit x ≡ union_below m (provided_by S (is_member Y s v))) (ey : bit y ≡ provides S m) {r : Bool} (er : r ≡ disjoint 64 (bit x) (bit y))
      (facility< : (c f : ℕ) → provides S c f ≡ true → f < 64) where
    pub apart_turn : apart_below S Y s v m → not r ≡ false → apart_below S Y s v (m + 1)
    unfolding apart_below disjoint
    apart_turn h t c d f lc ld tc td ne qc qd = elim (same? c m) [
      | inl e ↦ crossed d f (omega (arith, e, ne)) td qd (ap (λ (z : ℕ). provides S z f) (sym e) ∙ qc)
      | inr nc ↦ elim (same? d m) [
        | inl e ↦ crossed c f (omega arith) tc qc (ap (λ (z : ℕ). provides S z f) (sym e) ∙ qd)
        | inr nd ↦ h c d f (omega arith) (omega arith) tc td ne qc qd
      ]
    ]
      where
        crossed : (c f : ℕ) → c < m → is_member Y s v c ≡ true → provides S c f ≡ true → provides S m f ≡ true → ⊥
        crossed c f l tc qc qm = clash {A = ⊥} (at ey f ∙ qm)
            (not_out _ (imp_out _ _ (all_out 64 _ (sym er ∙ not-false r t) f (facility< m f qm)) (at ex f ∙ seen m f c l tc qc)))

    -- a facility that was seen is provided again
    pub apart_stop : m < 32 → is_member Y s v m ≡ true → not r ≡ true → false ≡ B6_at S Y s v
    unfolding B6_at disjoint union_below provided_by
    apart_stop m< tm t =
        let q = all_no 64 _ (sym er ∙ not-true r t) in
        let z = imp_no _ _ q.2 in
        let o = any_out m _ (sym (at ex q.0) ∙ z.0) in
        sym (fails _ (λ b.
        let first = imp_out _ _ (all_out 32 _ b o.0 (omega (arith, o.1))) (and_l _ _ o.2) in
        let second = imp_out _ _ (imp_out _ _ (all_out 32 _ first m m<) tm) (not_in _ (=?-not o.0 m (omega (arith, o.1)))) in
        clash (sym (at ey q.0) ∙ not_no _ z.1) (not_out _ (imp_out _ _ (all_out 64 _ second q.0 q.1) (and_r _ _ o.2)))))

  pub apart_end : (m : ℕ) → 32 ≤ m → apart_below S Y s v m → true ≡ B6_at S Y s v
  unfolding apart_below B6_at disjoint
  apart_end m h a = sym (all_in 32 _ (λ c lc. imp_in _ _ (λ tc. all_in 32 _ (λ d ld. imp_in _ _ (λ td. imp_in _ _ (λ ne. all_in 64 _ (λ f lf.
      imp_in _ _ (λ qc. not_in _ (fails _ (λ qd. a c d f (omega arith) (omega arith) tc td (=?-no _ _ (not_out _ ne)) qc qd))))))))))

-- ---- B7

-- the member c, if it is one, provides something that is wanted
unfoldable pub wanted_if : Specs → Systems → ℕ → ℕ → Set → ℕ → Bool
wanted_if S Y s v a c = is_member Y s v c ⇒ meet facilities (provides S c) a

module _ (S : Specs) (Y : Systems) (s v c x : ℕ) (a : Set) {t : Bool} (ex : bit x ≡ is_member Y s v) (et : t ≡ bit x c) where
  pub wanted_skip : t ≡ false → not t ≡ wanted_if S Y s v a c
  unfolding wanted_if ◌⇒◌
  wanted_skip e = ap not e ∙ sym (ap (λ (b : Bool). b ⇒ meet 64 (provides S c) a) (sym (at ex c) ∙ sym et ∙ e))

  pub wanted_is : (y z : ℕ) {r : Bool} → t ≡ true → bit y ≡ provides S c → bit z ≡ a → r ≡ disjoint 64 (bit y) (bit z) → not r ≡ wanted_if S Y s v a c
  unfolding wanted_if ◌⇒◌ ~◌
  wanted_is y z {r} e ey ez er = ap not (er ∙ ap₂ (disjoint 64) ey ez) ∙ sym (meet-disjoint 64 (provides S c) a)
      ∙ sym (ap (λ (b : Bool). b ⇒ meet 64 (provides S c) a) (sym (at ex c) ∙ sym et ∙ e))

-- r of a system's composition is what that version needs
pub r_needs : (S : Specs) (Y : Systems) (s v : ℕ) → Sound Y → is_system Y s ≡ true → needs S Y s v ≡ r S Y s v
unfolding r
r_needs S Y s v ok t = fun_ext (λ f. needs_system Y ok S s v f t)

pub b7_is : (S : Specs) (Y : Systems) (s v x y z : ℕ) {q : Bool} → Sound Y → is_system Y s ≡ true → bit x ≡ needs S Y s v → bit y ≡ provides S s
    → bit z ≡ union (bit x) (bit y) → q ≡ all 32 (wanted_if S Y s v (bit z)) → q ≡ B7_at S Y s v
unfolding B7_at wanted_if
b7_is S Y s v x y z ok t ex ey ez eq =
    eq ∙ ap (λ (a : Set). all 32 (λ c. is_member Y s v c ⇒ meet 64 (provides S c) a)) (ez ∙ ap₂ union (ex ∙ r_needs S Y s v ok t) ey)

-- ---- B8, B9

pub b8_is : (S : Specs) (Y : Systems) (s v x y : ℕ) {q : Bool} → bit x ≡ provides S s → bit y ≡ p S Y s v → q ≡ subset 64 (bit x) (bit y) → q ≡ B8_at S Y s v
unfolding B8_at
b8_is S Y s v x y ex ey eq = eq ∙ ap₂ (subset 64) ex ey

pub b9_is : (S : Specs) (Y : Systems) (s v x y z w : ℕ) {q : Bool} → Sound Y → is_system Y s ≡ true → bit x ≡ needs S Y s v → bit y ≡ p S Y s v
    → bit z ≡ minus (bit x) (bit y) → bit w ≡ offered S Y s → q ≡ disjoint 64 (bit z) (bit w) → q ≡ B9_at S Y s v
unfolding B9_at
b9_is S Y s v x y z w ok t ex ey ez ew eq = eq ∙ ap₂ (disjoint 64) (ez ∙ ap₂ minus (ex ∙ r_needs S Y s v ok t) ey) ew

-- ---- a rule of every composition

unfoldable pub if_composed : Systems → (ℕ → ℕ → Bool) → ℕ → ℕ → Bool
if_composed Y test s v = composed Y s v ⇒ test s v

unfoldable pub of_system : Systems → (ℕ → ℕ → Bool) → ℕ → Bool
of_system Y test s = all 64 (if_composed Y test s)

pub each_composition_lem : (Y : Systems) (test : ℕ → ℕ → Bool) → all 32 (of_system Y test) ≡ each_composition Y test
unfolding of_system if_composed each_composition
each_composition_lem Y test = refl
