-- Laws of the eight slots of a component.
use Rattle.std.specs.Prelude.{Bool, false, true, ◌≢◌, ◌≡◌}
use Rattle.std.proofs.Math.Logic.{inl, inr}
use Rattle.std.proofs.Math.Option.{Option, none, some}
use Rattle.std.proofs.Common.{◌∙◌, ap₂, le_refl, le_trans, add-one, arith}
use Rattle.std.proofs.Math.Path.{ap, fun_ext, refl, sym}
use Prim.Native.Nat.{◌+◌, ◌<◌, ◌≤◌, suc, zero, zero-le, ℕ}
use Rattle.book.specs.Plain.{among_first, slot}
use Rattle.model.specs.Book.{versions}
use Rattle.model.specs.Lists.{first_from}
use Rattle.model.specs.Maps.{else_try, is_some, only_if, put}
use Rattle.sets.specs.SetLaws.{bit_zero}
use Rattle.sets.specs.Sets.{Set, bit, with}
use Rattle.sets.specs.TestLaws.{<?_in, <?_no, <?_out, =?-in, =?-no, =?-not, =?-out, =?-same, and-false, and_in, and_l, and_r}
use Rattle.sets.specs.TestLaws.{and_swap, and-true, any_in, any_out, bool?, clash, count_mono, count_strict, fails, if-false}
use Rattle.sets.specs.TestLaws.{if-true, iff→≡, or-false, same?}
use Rattle.sets.specs.Tests.{◌<?◌, ◌=?◌, ◌or◌, any, count, if?◌then◌else◌}
use Rattle.model_laws.specs.ListLaws.{first_from_least, first_from-none, first_from-some, only_none, only_some}
use Rattle.model_laws.specs.MapLaws.{is_some_in, is_some_out, no_some, option?}

first_from_same : {A : Type 0} (k i : ℕ) (f g : ℕ → Option A) → ((m : ℕ) → i ≤ m → m < i + k → f m ≡ g m) → first_from k i f ≡ first_from k i g
unfolding first_from
first_from_same zero i f g h = refl
first_from_same (suc k) i f g h = ap₂ else_try (h i (le_refl i) (omega arith)) (first_from_same k (suc i) f g (λ m a l. h m (omega arith) (omega arith)))

pub only_yes : {A : Type 0} (t : Bool) (x : A) → t ≡ true → only_if t x ≡ some x
unfolding only_if
only_yes true x e = refl
only_yes false x e = clash e refl

pub only_no : {A : Type 0} (t : Bool) (x : A) → t ≡ false → only_if t x ≡ none
unfolding only_if
only_no true x e = clash refl e
only_no false x e = refl

module _ (vs : ℕ → ℕ) (v : ℕ) where
  -- what a slot that is found tells
  pub slot-some : (j : ℕ) → slot vs v ≡ some j → (j < 8) × (vs j ≡ v) × (v < versions) × ((k : ℕ) → k < j → vs k ≢ v)
  unfolding slot
  slot-some j e = elim (bool? (v <? versions)) [
    | inl t ↦ found (sym (if-true _ _ _ t) ∙ e) (<?_out _ _ t)
    | inr t ↦ no_some (sym (if-false _ _ _ t) ∙ e)
  ]
    where
      found : first_from 8 0 (λ j. only_if (vs j =? v) j) ≡ some j → v < versions → (j < 8) × (vs j ≡ v) × (v < versions) × ((k : ℕ) → k < j → vs k ≢ v)
      found q l =
          let z = first_from_least 8 0 (λ j. only_if (vs j =? v) j) j q in
          let a = first_from-some 8 0 (λ j. only_if (vs j =? v) j) j q in
          let o = only_some (vs z.0 =? v) z.0 j z.1 in
          let p = only_some (vs a.0 =? v) a.0 j a.2 in (
            omega (arith, a.1, p.1),
            rw o.1 at (=?-out _ _ o.0),
            l,
            λ k h. =?-no _ _ (only_none (vs k =? v) k (z.2 k zero-le (omega (arith, o.1)))),
          )

  pub slot-none : slot vs v ≡ none → v < versions → (k : ℕ) → k < 8 → vs k ≢ v
  unfolding slot
  slot-none e l k h =
      =?-no _ _ (only_none (vs k =? v) k (first_from-none 8 0 (λ j. only_if (vs j =? v) j) (sym (if-true _ _ _ (<?_in _ _ l)) ∙ e) k zero-le (omega arith)))

  -- the slot that the search finds
  pub slot_found : (j : ℕ) → v < versions → j < 8 → vs j ≡ v → ((k : ℕ) → k < j → vs k ≢ v) → slot vs v ≡ some j
  slot_found j l h e nay = elim (option? (slot vs v)) [
    | inl n ↦ absurd (slot-none n l j h e)
    | inr y ↦ (let z = slot-some y.0 y.1 in y.1 ∙ ap some (least y.0 z.1 z.3))
  ]
    where
      least : (i : ℕ) → vs i ≡ v → ((k : ℕ) → k < i → vs k ≢ v) → i ≡ j
      least i ei ni = elim (bool? (i <? j)) [
        | inl t ↦ absurd (nay i (<?_out _ _ t) ei)
        | inr t ↦ elim (bool? (j <? i)) [ inl u ↦ absurd (ni j (<?_out _ _ u) e) | inr u ↦ omega (arith, <?_no _ _ t, <?_no _ _ u) ]
      ]

  pub slot_absent : ((k : ℕ) → k < 8 → vs k ≢ v) → slot vs v ≡ none
  slot_absent nay = elim (option? (slot vs v)) [ inl n ↦ n | inr y ↦ (let z = slot-some y.0 y.1 in absurd (nay y.0 z.0 z.1)) ]

  pub slot_high : versions ≤ v → slot vs v ≡ none
  unfolding slot
  slot_high h = if-false _ _ _ (fails _ (λ t. omega (arith, <?_out _ _ t)))

-- two rows of slots that agree on where v stands
pub slot_same : (vs ws : ℕ → ℕ) (v : ℕ) → ((j : ℕ) → j < 8 → (vs j =? v) ≡ (ws j =? v)) → slot vs v ≡ slot ws v
unfolding slot
slot_same vs ws v h =
    ap (λ (o : Option ℕ). if? v <? versions then o else none)
    (first_from_same 8 0 _ _ (λ j a l. ap (λ (t : Bool). only_if t j) (h j (omega arith))))

-- no version stands in two slots
unfoldable pub Distinct : (ℕ → ℕ) → Type 0
Distinct vs = (j k : ℕ) → j < 8 → k < 8 → vs j < versions → vs j ≡ vs k → j ≡ k

-- one slot changes
module _ (vs ws : ℕ → ℕ) (j v : ℕ) (j< : j < 8) (v< : v < versions) (rest : (k : ℕ) → k < 8 → k ≢ j → ws k ≡ vs k) where
  -- the version v is put into the free slot j
  module _ (free : versions ≤ vs j) (new : slot vs v ≡ none) (here : ws j ≡ v) where
    other : (u : ℕ) → u ≢ v → slot ws u ≡ slot vs u
    other u ne = elim (bool? (u <? versions)) [
      | inl t ↦ slot_same ws vs u (λ k l. elim (same? k j) [
        | inl e ↦ rw e (rw here (=?-not _ _ (λ q. ne (sym q))) ∙ sym (=?-not _ _ (λ q. omega (arith, free, <?_out _ _ t, q))))
        | inr n ↦ rw (rest k l n) refl
      ])
      | inr t ↦ slot_high ws u (<?_no _ _ t) ∙ sym (slot_high vs u (<?_no _ _ t))
    ]

    pub slot_put : slot ws ≡ put v (some j) (slot vs)
    unfolding put
    slot_put = fun_ext (λ u. elim (same? u v) [
      | inl e ↦ rw e (slot_found ws v j v< j< here (λ k l. rw (rest k (omega arith) (omega arith)) (slot-none vs v new v< k (omega arith))))
          ∙ sym (if-true _ _ _ (=?-in u v e))
      | inr n ↦ other u n ∙ sym (if-false _ _ _ (=?-not u v n))
    ])

    pub distinct_put : Distinct vs → Distinct ws
    unfolding Distinct
    distinct_put one a b ha hb low e = elim (same? a j) [
      | inl ea ↦ elim (same? b j) [
        | inl eb ↦ ea ∙ sym eb
        | inr nb ↦ absurd (slot-none vs v new v< b hb (sym (rest b hb nb) ∙ sym e ∙ ap ws ea ∙ here))
      ]
      | inr na ↦ elim (same? b j) [
        | inl eb ↦ absurd (slot-none vs v new v< a ha (sym (rest a ha na) ∙ e ∙ ap ws eb ∙ here))
        | inr nb ↦ one a b ha hb (rw (rest a ha na) at low) (sym (rest a ha na) ∙ e ∙ rest b hb nb)
      ]
    ]

  -- the version v in slot j is taken out
  module _ (one : Distinct vs) (there : vs j ≡ v) (gone : ws j ≡ versions) where
    pub slot-take : slot ws ≡ put v none (slot vs)
    unfolding put Distinct
    slot-take = fun_ext (λ u. elim (same? u v) [
      | inl e ↦ rw e (slot_absent ws v (λ k l q. elim (same? k j) [
        | inl s ↦ omega (arith, sym gone ∙ ap ws (sym s) ∙ q)
        | inr n ↦ n (sym (one j k j< l (rw there v<) (there ∙ sym q ∙ rest k l n)))
      ])) ∙ sym (if-true _ _ _ (=?-in u v e))
      | inr n ↦ elsewhere u n ∙ sym (if-false _ _ _ (=?-not u v n))
    ])
      where
        elsewhere : (u : ℕ) → u ≢ v → slot ws u ≡ slot vs u
        elsewhere u n = elim (bool? (u <? versions)) [
          | inl t ↦ slot_same ws vs u (λ k l. elim (same? k j) [
            | inl e ↦ rw e (=?-not _ _ (λ q. omega (arith, sym gone ∙ q, <?_out _ _ t)) ∙ sym (=?-not _ _ (λ q. n (sym q ∙ there))))
            | inr m ↦ rw (rest k l m) refl
          ])
          | inr t ↦ slot_high ws u (<?_no _ _ t) ∙ sym (slot_high vs u (<?_no _ _ t))
        ]

    pub distinct-take : Distinct ws
    unfolding Distinct
    distinct-take a b ha hb low e = elim (same? a j) [
      | inl ea ↦ absurd (omega (arith, low, ap ws ea ∙ gone))
      | inr na ↦ elim (same? b j) [
        | inl eb ↦ absurd (omega (arith, low, e ∙ ap ws eb ∙ gone))
        | inr nb ↦ one a b ha hb (rw (rest a ha na) at low) (sym (rest a ha na) ∙ e ∙ rest b hb nb)
      ]
    ]

-- ---- fewer than eight versions leave a slot free

module _ (vs : ℕ → ℕ) (one : Distinct vs) (full : (j : ℕ) → j < 8 → vs j < versions) where
  -- n slots hold n versions
  many : (n : ℕ) → n ≤ 8 → n ≤ count versions (λ u. any n (λ k. vs k =? u))
  unfolding Distinct
  many zero h = zero-le
  many (suc n) h =
      let more = count_strict versions (λ u. any n (λ k. vs k =? u)) (λ u. any (suc n) (λ k. vs k =? u))
      (λ u l t. (let q = any_out n _ t in any_in (suc n) _ q.0 (omega (arith, q.1)) q.2))
      (vs n) (full n h)
      (fails _ (λ t. (let q = any_out n _ t in omega (arith, q.1, one q.0 n (omega (arith, q.1)) h (full q.0 (omega (arith, q.1))) (=?-out _ _ q.2)))))
      (any_in (suc n) _ n (omega arith) (=?-same (vs n)))
      in omega (arith, many n (omega arith), more)

  slot-any : (u : ℕ) → u < versions → any 8 (λ k. vs k =? u) ≡ true → is_some (slot vs u) ≡ true
  slot-any u l t = elim (option? (slot vs u)) [
    | inl n ↦ (let q = any_out 8 _ t in absurd (slot-none vs u n l q.0 q.1 (=?-out _ _ q.2)))
    | inr y ↦ is_some_in _ y.1
  ]

  pub slots_full : 8 ≤ count versions (λ u. is_some (slot vs u))
  slots_full = le_trans (many 8 (le_refl 8)) (count_mono versions _ _ slot-any)

-- ---- the versions that stand in the first j slots, as the loop over them finds them

pub among_none : (vs : ℕ → ℕ) → bit 0 ≡ among_first 0 vs
unfolding among_first any
among_none vs = fun_ext (λ u. bit_zero u ∙ sym (and_swap _ _ ∙ and-false _ _ refl))

pub among_in : (vs : ℕ → ℕ) (j x s t : ℕ) → bit s ≡ among_first j vs → x ≡ vs j → x < versions → bit t ≡ with (bit s) x → bit t ≡ among_first (j + 1) vs
unfolding among_first any with
among_in vs j x s t a e l w = w ∙ fun_ext (λ u. rw add-one (elim (bool? (u <? versions)) [
  | inl y ↦ ap₂ ◌or◌ (eq_flip u x ∙ ap (λ (z : ℕ). z =? u) e) (ap (λ (q : Set). q u) a ∙ and-true _ _ y) ∙ sym (and-true _ _ y)
  | inr n ↦ or-false _ _ (=?-not u x (λ q. omega (arith, q, l, <?_no _ _ n))) ∙ ap (λ (q : Set). q u) a ∙ and-false _ _ n ∙ sym (and-false _ _ n)
]))
  where
    eq_flip : (u x : ℕ) → (u =? x) ≡ (x =? u)
    eq_flip u x = iff→≡ _ _ (λ t. =?-in x u (sym (=?-out u x t))) (λ t. =?-in u x (sym (=?-out x u t)))

pub among_out : (vs : ℕ → ℕ) (j x s : ℕ) → bit s ≡ among_first j vs → x ≡ vs j → versions ≤ x → bit s ≡ among_first (j + 1) vs
unfolding among_first any
among_out vs j x s a e l = a ∙ fun_ext (λ u. rw add-one (elim (bool? (u <? versions)) [
  | inl y ↦ and-true _ _ y ∙ sym (and-true _ _ y ∙ or-false _ _ (=?-not _ _ (λ q. omega (arith, e ∙ q, l, <?_out _ _ y))))
  | inr n ↦ and-false _ _ n ∙ sym (and-false _ _ n)
]))

pub among-all : (vs : ℕ → ℕ) (u : ℕ) → among_first 8 vs u ≡ is_some (slot vs u)
unfolding among_first
among-all vs u = iff→≡ _ _
    (λ t. elim (option? (slot vs u)) [
      | inl n ↦ (let q = any_out 8 _ (and_r _ _ t) in absurd (slot-none vs u n (<?_out _ _ (and_l _ _ t)) q.0 q.1 (=?-out _ _ q.2)))
      | inr y ↦ is_some_in _ y.1
    ])
    (λ t. (let y = is_some_out _ t in let z = slot-some vs u y.0 y.1 in
    and_in _ _ (<?_in _ _ z.2) (any_in 8 _ y.0 z.0 (=?-in _ _ z.1))))

-- the slots of a component, as they stand in a list
pub among_same : (vs ws : ℕ → ℕ) (u : ℕ) → ((j : ℕ) → j < 8 → vs j ≡ ws j) → among_first 8 vs u ≡ is_some (slot ws u)
among_same vs ws u h = among-all vs u ∙ ap is_some (slot_same vs ws u (λ j l. ap (λ (x : ℕ). x =? u) (h j l)))

pub distinct_same : (vs ws : ℕ → ℕ) → ((j : ℕ) → j < 8 → ws j ≡ vs j) → Distinct vs → Distinct ws
unfolding Distinct
distinct_same vs ws h one j k l m low e = one j k l m (rw (h j l) at low) (sym (h j l) ∙ e ∙ h k m)
