-- Laws of the order of systems.
use Rattle.std.specs.Prelude.{Bool, false, ◌⊎◌, ◌≡◌, refl, length}
use Rattle.std.proofs.Math.Bool.{true}
use mathlib.Core.List.{List, [], ◌∷◌, map}
use Rattle.std.proofs.Common.{inl, inr, ◌∙◌}
use Rattle.std.proofs.Math.Option.{some-injective, none, some}
use Rattle.std.proofs.Math.Path.{ap, ap₂, fun_ext, sym}
use Prim.Native.Nat.{◌+◌, ◌-◌, ◌<◌, ◌≤◌, suc, ℕ}
use native.Mathlib.Omega.{arith}
use Rattle.model.specs.Book.{Systems, components, is_system, usable}
use Rattle.model.specs.Lists.{elem}
use Rattle.sets.specs.Sets.{Set, below, bit, disjoint, minus, with, without}
use Rattle.sets.specs.SetLaws.{bit_zero}
use Rattle.sets.specs.TestLaws.{<?_in, <?_out, all_same, all_width, and_in, and_l, and_r, bool?, clash, fails, if-false, if-true, iff→≡}
use Rattle.sets.specs.TestLaws.{imp_in, imp_out, not_in, not_out, or_l, or_r, =?-in}
use Rattle.sets.specs.Tests.{◌&◌, ◌<?◌, ◌⇒◌, ~◌}
use Rattle.text.specs.Bytes.{Text}
use Rattle.text.specs.Tables.{Table, joined}
use Rattle.text.specs.Written.{by_name, first_of, ready, systems_from}
use Rattle.text_laws.specs.Order.{from-none, from_some}
use Rattle.model_laws.specs.MapLaws.{no_some}
use Rattle.write_bytes.specs.ByName.{first_by_name}
use Rattle.write_bytes.specs.ByNameLaws.{first_none, listed_below, next_is}
use Rattle.write_line.specs.ComponentLaws.{below_same}
use Rattle.write_line.specs.Lines.{is_next, next_system}
use Rattle.write_bytes.specs.RoomLaws.{partly_keeps}
use Rattle.write_bytes.specs.Writes.{Writes}
use Rattle.write_bytes.specs.WritesLaws.{WritesPartly, writing_as, writing_end, writing_more, writing_start}
use Rattle.write_bytes.specs.declared.writer.Writer.{Writer}

-- ---- whether a system is next

module _ (Y : Systems) (s : ℕ) (done : Set) {systems left u : Set} (sys : systems ≡ below components (is_system Y)) (us : u ≡ usable Y s)
    (l : left ≡ minus u done) where
  one : (c : ℕ) → c < 32 → (left c ⇒ ~ systems c) ≡ (usable Y s c ⇒ is_system Y c ⇒ done c)
  unfolding minus below
  one c h =
      ap₂ (λ (a b : Set). a c ⇒ ~ b c) l sys ∙ ap (λ (a : Set). (a c & ~ done c) ⇒ ~ (c <? components & is_system Y c)) us
      ∙ iff→≡ _ _ there back
    where
      there : ((usable Y s c & ~ done c) ⇒ ~ (c <? components & is_system Y c)) ≡ true → (usable Y s c ⇒ is_system Y c ⇒ done c) ≡ true
      there t = imp_in _ _ (λ a. imp_in _ _ (λ b. by (bool? (done c)) a b))
        where
          by : (done c ≡ true) ⊎ (done c ≡ false) → usable Y s c ≡ true → is_system Y c ≡ true → done c ≡ true
          by (inl d) a b = d
          by (inr d) a b = clash (and_in _ _ (<?_in _ _ h) b) (not_out _ (imp_out _ _ t (and_in _ _ a (not_in _ d))))

      back : (usable Y s c ⇒ is_system Y c ⇒ done c) ≡ true → ((usable Y s c & ~ done c) ⇒ ~ (c <? components & is_system Y c)) ≡ true
      back t = imp_in _ _ (λ a. not_in _ (fails _ (λ b.
          clash {A = ⊥} (imp_out _ _ (imp_out _ _ t (and_l _ _ a)) (and_r _ _ b)) (not_out _ (and_r _ _ a)))))

  high : (c : ℕ) → 32 ≤ c → (left c ⇒ ~ systems c) ≡ true
  unfolding below
  high c h = imp_in _ _ (λ a. not_in _ (ap (λ (b : Set). b c) sys ∙ fails _ (λ b. let k = <?_out c components (and_l _ _ b) in absurd (omega arith))))

  pub is_next_lem : {a b : Bool} → a ≡ done s → b ≡ disjoint 64 left systems → (~ a & b) ≡ is_next Y done s
  unfolding is_next disjoint
  is_next_lem e f =
      ap₂ (λ (a b : Bool). ~ a & b) e
      (f ∙ all_width 32 64 _ (omega arith) high ∙ all_same 32 _ _ one)

-- ---- the next system

module _ (Y : Systems) (t : Table) (out s : Set) {k : ℕ} (e : first_by_name t components s ≡ some k) where
  -- it is found
  pub next_found : {r : Bool} (s₀ : Set) → r ≡ is_next Y out k → r ≡ true
      → first_of (is_next Y out) (by_name t components s₀) ≡ first_of (is_next Y out) (by_name t components s)
      → some k ≡ next_system Y t s₀ out
  unfolding next_system first_of
  next_found s₀ f g q =
      sym (q ∙ ap (first_of (is_next Y out)) (next_is t components k s (without s k) e refl) ∙ if-true _ _ _ (sym f ∙ g))

  pub next_not : {r : Bool} {s' : Set} → r ≡ is_next Y out k → r ≡ false → s' ≡ without s k
      → first_of (is_next Y out) (by_name t components s) ≡ first_of (is_next Y out) (by_name t components s')
  unfolding first_of
  next_not {s' = s'} f g d = ap (first_of (is_next Y out)) (next_is t components k s s' e d) ∙ if-false _ _ _ (sym f ∙ g)

pub next_none : (Y : Systems) (t : Table) (out s s₀ : Set) → first_by_name t components s ≡ none
    → first_of (is_next Y out) (by_name t components s₀) ≡ first_of (is_next Y out) (by_name t components s)
    → none ≡ next_system Y t s₀ out
unfolding next_system first_of
next_none Y t out s s₀ e q = sym (q ∙ ap (first_of (is_next Y out)) (first_none t components s e))

-- ---- one after another

first_elem : (test : ℕ → Bool) (l : List ℕ) (x : ℕ) → first_of test l ≡ some x → elem x l ≡ true
unfolding first_of elem
first_elem test [] x e = no_some e
first_elem test (y ∷ ys) x e = elim (bool? (test y)) [
  | inl q ↦ or_l _ _ (=?-in _ _ (sym (some-injective _ _ (sym (if-true _ _ _ q) ∙ e))))
  | inr q ↦ or_r _ _ (first_elem test ys x (sym (if-false _ _ _ q) ∙ e))
]

pub next_below : (Y : Systems) (t : Table) (s out : Set) (k : ℕ) → next_system Y t s out ≡ some k → k < components
unfolding next_system
next_below Y t s out k e = listed_below t components s k (first_elem _ _ k e)

-- i systems are out, which are the set d
pub record InOrder (w : Text) (f : ℕ → Text) (Y : Systems) (t : Table) (i : ℕ) (d : Set) (p q : Writer) : Type 0 where
  pub out : List ℕ
  pub is : d ≡ (λ x. elem x out)
  pub part : WritesPartly w (joined (map f (systems_from (32 - i) Y (by_name t components (is_system Y)) out))) p q

pub order_start : (f : ℕ → Text) (Y : Systems) (t : Table) (p : Writer)
    → InOrder (joined (map f (systems_from components Y (by_name t components (is_system Y)) []))) f Y t 0 (bit 0) p p
unfolding elem
order_start f Y t p = record { out = []; is = fun_ext (λ x. bit_zero x); part = writing_start _ p }

module _ {w : Text} {f : ℕ → Text} {Y : Systems} {t : Table} {i : ℕ} {d : Set} {p q : Writer} (g : InOrder w f Y t i d p q) where
  pub order_keeps : length q.out.now ≡ length p.out.now
  order_keeps = partly_keeps g.part.partly

  pub order_end : 32 ≤ i → Writes w p q
  unfolding systems_from joined
  order_end h =
      writing_end (writing_as (ap (λ (n : ℕ). joined (map f (systems_from n Y (by_name t components (is_system Y)) g.out)))
      (let z : 32 - i ≡ 0 = omega arith in z)) g.part)

  module _ (systems : Set) (sys : systems ≡ below components (is_system Y)) where
    -- what the code asks is what the definition asks
    same_found : next_system Y t systems d ≡ first_of (λ s. ~ elem s g.out & ready Y g.out s) (by_name t components (is_system Y))
    unfolding is_next ready next_system
    same_found =
        ap₂ (λ (o : Set) (l : List ℕ). first_of (is_next Y o) l) g.is
        (ap (by_name t components) sys ∙ below_same t components (is_system Y))

    more : i < 32 → 32 - i ≡ suc (32 - (i + 1))
    more l = omega arith

    pub order_stop : i < 32 → next_system Y t systems d ≡ none → Writes w p q
    unfolding joined
    order_stop l h =
        writing_end (writing_as (ap (λ (m : List ℕ). joined (map f m)) (ap (λ (n : ℕ). systems_from n Y (by_name t components (is_system Y)) g.out)
        (more l) ∙ from-none _ Y _ g.out (sym same_found ∙ h))) g.part)

    pub order_turn : i < 32 → {k : ℕ} → next_system Y t systems d ≡ some k → {r : Writer} {d' : Set} → Writes (f k) q r
        → d' ≡ with d k → InOrder w f Y t (i + 1) d' p r
    unfolding joined with elem
    order_turn l {k} h u v = record {
      out = k ∷ g.out;
      is = v ∙ ap (λ (o : Set). with o k) g.is;
      part = writing_more (writing_as (ap (λ (m : List ℕ). joined (map f m))
          (ap (λ (n : ℕ). systems_from n Y (by_name t components (is_system Y)) g.out)
          (more l) ∙ from_some _ Y _ g.out k (sym same_found ∙ h))) g.part) u;
    }
