-- How the parts of a pair are marked: one law for each way out of the walk, and for each turn.
use Rattle.std.specs.Prelude.{Bool, None, Some, false, true, List, ◌⊎◌, ◌≡◌, refl, ◌+◌, ◌<◌, ◌≤◌, suc, zero, ℕ, get_or, length, replicate, set}
use Rattle.std.proofs.Math.Logic.{inl, inr}
use Rattle.std.proofs.Math.Option.{some-injective, some}
use Rattle.std.proofs.Common.{◌∙◌, ap₂, subst, not-suc-le-zero, arith, length-set, get_or-set_other, get_or-set_same}
use Rattle.std.proofs.Math.Path.{ap, sym}
use Rattle.std.proofs.lemmas.List.{length-replicate}
use Rattle.model.specs.Book.{Book, Systems, has_version, member}
use Rattle.model.specs.Limits.{SystemLimits}
use Rattle.parts.specs.Marks.{Closed, Marked, Marking, Onto, PartsIn, marked}
use Rattle.sets.specs.SetLaws.{bit_zero}
use Rattle.sets.specs.Sets.{Set, bit, with}
use Rattle.sets.specs.TestLaws.{=?-not, =?-out, =?-same, and-false, and_in, and_l, and_r, and-true, clash, iff→≡, or-false, or_l, or_out, or_r, same?}
use Rattle.sets.specs.Tests.{◌&◌, ◌=?◌, ◌or◌}
use Rattle.book.specs.Plain.{plain_of}
use Rattle.book_rules.specs.Test.{passes}
use Rattle.book_rules.specs.TestLaws.{passes_plain}
use Rattle.sets.specs.Answered.{answered}
use Rattle.model_laws.specs.Good.{Good, passes→good}
use Rattle.model_laws.specs.MapLaws.{no_some}
use Rattle.model_laws.specs.Meaning.{part_means}
use Rattle.model_laws.specs.Parts.{pair_limits}
use Rattle.model_laws.specs.Notions.{MadeFrom, itself, member_of}

-- ---- one pair more

-- the table t, with the version v put to the set at c
module _ (t : List ℕ) (c v x : ℕ) (size : length t ≡ 32) (c< : c < 32) (e : bit x ≡ with (bit (get_or t c 0)) v) where
  pub mark_one : (d w : ℕ) → marked (set t c x) d w ≡ ((d =? c & w =? v) or marked t d w)
  unfolding marked with
  mark_one d w = elim (same? d c) [
    | inl q ↦ rw q (ap (λ (n : ℕ). bit n w) (get_or-set_same t c x 0 (omega (arith, size))) ∙ ap (λ (a : Set). a w) e
        ∙ ap (λ (b : Bool). b or bit (get_or t c 0) w) (sym (and-true (c =? c) (w =? v) (=?-same c))))
    | inr n ↦ ap (λ (n : ℕ). bit n w) (get_or-set_other t c d x 0 n) ∙ sym (or-false _ _ (and-false _ _ (=?-not d c n)))
  ]

-- ---- the walk

module _ (Y : Systems) (c v : ℕ) where
  onto_start : (t : List ℕ) → Closed Y t → Onto Y c v t t
  onto_start t k = record { closed = k; kept = λ d w m. m; only = λ d w m. inl m }

  -- the pair is marked already
  pub marked_found : (t : List ℕ) {y : Bool} → Closed Y t → y ≡ bit (get_or t c 0) v → y ≡ true → Marked Y c v t t
  marked_found t k e y = record { onto = onto_start t k; itself = unfold marked in sym e ∙ y }

  pub marking_start : (t : List ℕ) → Closed Y t → Marking Y c v 0 t t
  marking_start t k = record { onto = onto_start t k; done = λ e x l. absurd (not-suc-le-zero l) }

  below : {d w e x : ℕ} → member Y c v d ≡ some w → MadeFrom Y d w e x → MadeFrom Y c v e x
  below m itself = member_of itself m
  below m (member_of q k) = member_of (below m q) k

  -- a turn: the member m, with its version u, is walked
  pub marking_turn : (m u : ℕ) (t t₁ t₂ : List ℕ) → Marking Y c v m t t₁ → answered (Some u) ≡ member Y c v m → Marked Y m u t₁ t₂
      → Marking Y c v (m + 1) t t₂
  unfolding answered
  marking_turn m u t t₁ t₂ k em z = record {
    onto = record {
      closed = z.onto.closed;
      kept = λ d w y. z.onto.kept d w (k.onto.kept d w y);
      only = λ d w y. elim (z.onto.only d w y) [ inl a ↦ k.onto.only d w a | inr a ↦ inr (below (sym em) a) ];
    };
    done = λ e x l h. elim (same? e m) [
      | inl q ↦ subst (λ (i : ℕ). marked t₂ i x ≡ true) (sym q) (subst (λ (i : ℕ). marked t₂ m i ≡ true) (the x q h) z.itself)
      | inr n ↦ z.onto.kept e x (k.done e x (omega arith) h)
    ];
  }
    where
      the : {e : ℕ} (x : ℕ) → e ≡ m → member Y c v e ≡ some x → u ≡ x
      the x q h = some-injective _ _ (em ∙ sym (ap (λ (i : ℕ). member Y c v i) q) ∙ h)

  -- m is no member
  pub marking_skip : (m : ℕ) (t t₁ : List ℕ) → Marking Y c v m t t₁ → answered None ≡ member Y c v m → Marking Y c v (m + 1) t t₁
  unfolding answered
  marking_skip m t t₁ k em = record {
    onto = k.onto;
    done = λ e x l h. elim (same? e m) [
      | inl q ↦ no_some (em ∙ sym (ap (λ (i : ℕ). member Y c v i) q) ∙ h)
      | inr n ↦ k.done e x (omega arith) h
    ];
  }

  pub marking_is : (m : ℕ) (t : List ℕ) {a b : List ℕ} → a ≡ b → Marking Y c v m t b → Marking Y c v m t a
  marking_is m t e k = subst (Marking Y c v m t) (sym e) k

  -- the members are walked, and the pair itself is marked
  pub marking_end : (m x : ℕ) (t t₁ : List ℕ) → SystemLimits Y → 32 ≤ m → Marking Y c v m t t₁ → c < 32 → bit x ≡ with (bit (get_or t₁ c 0)) v
      → Marked Y c v t (set t₁ c x)
  marking_end m x t t₁ lim h k c< e = record {
    onto = record {
      closed = record {
        size = length-set t₁ c x ∙ k.onto.closed.size;
        members = λ d w i j y em. elim (out d w y) [
          | inl q ↦ more i j (k.done i j (omega (arith, (lim.member< d w i j em).0)) (sym (ap₂ (λ (a b : ℕ). member Y a b i) q.0 q.1) ∙ em))
          | inr q ↦ more i j (k.onto.closed.members d w i j q em)
        ];
      };
      kept = λ d w y. more d w (k.onto.kept d w y);
      only = λ d w y. elim (out d w y) [
        | inl q ↦ inr (rw (q.0, q.1) itself)
        | inr q ↦ k.onto.only d w q
      ];
    };
    itself = one c v ∙ or_l _ _ (and_in _ _ (=?-same c) (=?-same v));
  }
    where
      one : (d w : ℕ) → marked (set t₁ c x) d w ≡ ((d =? c & w =? v) or marked t₁ d w)
      one = mark_one t₁ c v x k.onto.closed.size c< e

      more : (d w : ℕ) → marked t₁ d w ≡ true → marked (set t₁ c x) d w ≡ true
      more d w y = one d w ∙ or_r _ _ y

      out : (d w : ℕ) → marked (set t₁ c x) d w ≡ true → ((d ≡ c) × (w ≡ v)) ⊎ (marked t₁ d w ≡ true)
      out d w y = elim (or_out _ _ (sym (one d w) ∙ y)) [ inl q ↦ inl (=?-out _ _ (and_l _ _ q), =?-out _ _ (and_r _ _ q)) | inr q ↦ inr q ]

-- the member m of the pair c, v, where the walk goes on: its numbers are below their limits
module _ (b : Book) (g : Good b) (c v m : ℕ) where
  pub walk_limits : (w : ℕ) → answered (Some w) ≡ member b.systems c v m → (m < 32) × (w < 64)
  unfolding answered
  walk_limits w e = g.system_limits.member< c v m w (sym e)

pub good_book : (s n : List ℕ) → passes s n ≡ true → Good (plain_of s n)
good_book s n t = passes→good (passes_plain s n t)

-- the limits of a version that is stored
pub stored_low : (s n : List ℕ) (c v : ℕ) → passes s n ≡ true → has_version (plain_of s n).specs c v ≡ true → (c < 32) × (v < 64)
stored_low s n c v t k = pair_limits (plain_of s n) (good_book s n t) c v k c v k

-- ---- the whole walk

zeros : (n d : ℕ) → ◌≡◌ {A = ℕ} (get_or (replicate n 0) d 0) 0
zeros zero d = refl
zeros (suc n) zero = refl
zeros (suc n) (suc d) = zeros n d

pub no_marks : (d w : ℕ) → marked (replicate 32 0) d w ≡ false
unfolding marked
no_marks d w = ap (λ (x : ℕ). bit x w) (zeros 32 d) ∙ bit_zero w

pub closed_start : (Y : Systems) → Closed Y (replicate 32 0)
closed_start Y = record { size = length-replicate {A = ℕ} 32 0; members = λ d w e x m. clash m (no_marks d w) }

pub marks_are : (b : Book) (c v : ℕ) (t : List ℕ) → Good b → has_version b.specs c v ≡ true → Marked b.systems c v (replicate 32 0) t
    → PartsIn b.systems c v t
marks_are b c v t g h k = record {
  size = k.onto.closed.size;
  are = λ d w. iff→≡ _ _
      (λ y. elim (k.onto.only d w y) [ inl a ↦ clash a (no_marks d w) | inr a ↦ (part_means b g c v h d w).1 a ])
      (λ y. reached ((part_means b g c v h d w).0 y));
}
  where
    reached : {d w : ℕ} → MadeFrom b.systems c v d w → marked t d w ≡ true
    reached itself = k.itself
    reached (member_of {d = d} {w = w} {e = e} {x = x} q m) = k.onto.closed.members d w e x (reached q) m
