-- B4: what each component reaches, found one middle after another.
use Rattle.std.specs.Prelude.{Bool, false, not, List, ◌⊎◌, ◌≡◌, get_or, length}
use Rattle.std.proofs.Math.Bool.{true}
use Rattle.std.proofs.Math.Logic.{inl, inr}
use Rattle.std.proofs.Common.{◌∙◌, ap₂, subst, sym, le_antisymm, le_refl, not-suc-le-zero, arith}
use Rattle.std.proofs.Math.Path.{ap, fun_ext}
use Prim.Native.Nat.{◌+◌, ◌<◌, ◌≤◌, suc, zero, ℕ}
use Rattle.std.proofs.Math.Numerals.{add-one}
use Rattle.book.specs.Plain.{systems_of}
use Rattle.book.specs.ReadLaws.{system_limit, usable_limit}
use Rattle.model.specs.Book.{Systems, components, is_system, usable}
use Rattle.model.specs.Rules.{r, reaches}
use Rattle.book_rules.specs.RuleLaws.{imp_skip, imp_test}
use Rattle.sets.specs.Sets.{Set, bit, union}
use Rattle.sets.specs.TestLaws.{and-false, and_in, and_l, and_r, and-true, iff→≡, or-false, or_l, or_out, or_r, or_swap, same?}
use Rattle.sets.specs.Tests.{◌&◌, ◌or◌, ◌⇒◌, ~◌}
use Rattle.model_laws.specs.Heights.{usable_system}
use Rattle.model_laws.specs.Notions.{Reaches, direct, through}
use Rattle.model_laws.specs.Reach.{reaches_all, reaches_sound}

-- from c to d through usable components, with middles below k
unfoldable pub via : Systems → ℕ → ℕ → Set
via Y zero c d = usable Y c d
via Y (suc k) c d = via Y k c d or (via Y k c k & via Y k k d)

module _ (Y : Systems) (limit : (s c : ℕ) → usable Y s c ≡ true → (s < components) × (c < components)) where
  joined : {s d c : ℕ} → Reaches Y s d → Reaches Y d c → Reaches Y s c
  joined (direct u) q = through u q
  joined (through u r) q = through u (joined r q)

  via_sound : (k c d : ℕ) → via Y k c d ≡ true → Reaches Y c d
  unfolding via
  via_sound zero c d t = direct t
  via_sound (suc k) c d t = elim (or_out _ _ t) [
    | inl a ↦ via_sound k c d a
    | inr a ↦ joined (via_sound k c k (and_l _ _ a)) (via_sound k k d (and_r _ _ a))
  ]

  via_step : (k c d : ℕ) → usable Y c d ≡ true → via Y k c d ≡ true
  unfolding via
  via_step zero c d u = u
  via_step (suc k) c d u = or_l _ _ (via_step k c d u)

  via_more : (k c e d : ℕ) → e < k → via Y k c e ≡ true → via Y k e d ≡ true → via Y k c d ≡ true
  unfolding via
  via_more zero c e d l a b = absurd (not-suc-le-zero l)
  via_more (suc k) c e d l a b = elim (same? e k) [
    | inl q ↦ or_r _ _ (and_in _ _ (first (or_out _ _ (rw q at a))) (last (or_out _ _ (rw q at b))))
    | inr ne ↦ elim (or_out _ _ a) [
      | inl x ↦ elim (or_out _ _ b) [
        | inl y ↦ or_l _ _ (via_more k c e d (omega arith) x y)
        | inr y ↦ or_r _ _ (and_in _ _ (via_more k c e k (omega arith) x (and_l _ _ y)) (and_r _ _ y))
      ]
      | inr x ↦ elim (or_out _ _ b) [
        | inl y ↦ or_r _ _ (and_in _ _ (and_l _ _ x) (via_more k k e d (omega arith) (and_r _ _ x) y))
        | inr y ↦ or_r _ _ (and_in _ _ (and_l _ _ x) (and_r _ _ y))
      ]
    ]
  ]
    where
      first : (via Y k c k ≡ true) ⊎ ((via Y k c k & via Y k k k) ≡ true) → via Y k c k ≡ true
      first (inl x) = x
      first (inr x) = and_l _ _ x

      last : (via Y k k d ≡ true) ⊎ ((via Y k k k & via Y k k d) ≡ true) → via Y k k d ≡ true
      last (inl x) = x
      last (inr x) = and_r _ _ x

  via_all : {c d : ℕ} → Reaches Y c d → via Y 32 c d ≡ true
  via_all (direct {s = s} {c = c} u) = via_step 32 s c u
  via_all (through {s = s} {d = d} {c = c} u r) = via_more 32 s d c (limit s d u).1 (via_step 32 s d u) (via_all r)

  pub via_reaches : (c d : ℕ) → via Y 32 c d ≡ reaches Y c d
  unfolding reaches
  via_reaches c d = iff→≡ _ _ (λ t. reaches_all Y limit 32 (le_refl 32) (via_sound 32 c d t)) (λ t. via_all (reaches_sound 32 Y c d t))

-- ---- rows of sets: row c is what c reaches with middles below k

pub record Rows (Y : Systems) (k : ℕ) (t : List ℕ) : Type 0 where
  pub size : length t ≡ 32
  pub row : (c : ℕ) → c < 32 → bit (get_or t c 0) ≡ via Y k c

unfoldable pub join_of : Set → ℕ → Set → Set
join_of a k b d = a d or (a k & b d)

pub join_yes : (a k row z : ℕ) {t : Bool} → t ≡ bit a k → t ≡ true → bit z ≡ union (bit a) (bit row) → bit z ≡ join_of (bit a) k (bit row)
unfolding join_of union
join_yes a k row z et e ez = ez ∙ fun_ext (λ d. ap (λ (x : Bool). bit a d or x) (sym (and-true _ _ (sym et ∙ e))))

pub join_no : (a k row : ℕ) {t : Bool} → t ≡ bit a k → t ≡ false → bit a ≡ join_of (bit a) k (bit row)
unfolding join_of
join_no a k row et e = fun_ext (λ d. sym (or_swap _ _ ∙ or-false _ _ (and-false _ _ (sym et ∙ e))))

module _ (Y : Systems) where
  pub rows_start : (out : List ℕ) → length out ≡ 32 → ((c : ℕ) → c < 32 → bit (get_or out c 0) ≡ usable Y c) → Rows Y 0 out
  unfolding via
  rows_start out l row = record { size = l; row = row }

  pub rows_turn : (k : ℕ) (t out : List ℕ) → Rows Y k t → k < 32 → length out ≡ 32
      → ((c : ℕ) → c < 32 → bit (get_or out c 0) ≡ join_of (bit (get_or t c 0)) k (bit (get_or t k 0))) → Rows Y (k + 1) out
  unfolding join_of via
  rows_turn k t out r k< l row = record {
    size = l;
    row = λ c c<. row c c< ∙ fun_ext (λ f. rw add-one
        (ap₂ ◌or◌ (ap (λ (a : Set). a f) (r.row c c<)) (ap₂ ◌&◌ (ap (λ (a : Set). a k) (r.row c c<)) (ap (λ (a : Set). a f) (r.row k k<)))));
  }

  pub rows_end : (k : ℕ) (t : List ℕ) → k ≤ 32 → 32 ≤ k → Rows Y k t → Rows Y 32 t
  rows_end k t h l r = subst (λ (m : ℕ). Rows Y m t) (le_antisymm h l) r

-- ---- one system does not reach itself

unfoldable pub self_free : Systems → ℕ → Bool
self_free Y s = ~ reaches Y s s

module _ (s n : List ℕ) (c : ℕ) (t : List ℕ) (rows : Rows (systems_of s n) 32 t) (c< : c < 32)
    {y : Bool} (ey : y ≡ is_system (systems_of s n) c) where
  pub self_test : {r : Bool} → y ≡ true → r ≡ bit (get_or t c 0) c → not r ≡ (is_system (systems_of s n) c ⇒ self_free (systems_of s n) c)
  unfolding self_free ~◌
  self_test {r} e er = imp_test _ _ (sym ey ∙ e) (ap not (er ∙ ap (λ (a : Set). a c) (rows.row c c<)
      ∙ via_reaches (systems_of s n) (λ a b u. (system_limit s n a (usable_system _ a b u), usable_limit s n a b u)) c c))

  pub self_skip : y ≡ false → not y ≡ (is_system (systems_of s n) c ⇒ self_free (systems_of s n) c)
  self_skip e = ap not e ∙ imp_skip _ _ (sym ey ∙ e)
