-- Laws of tests. A test that passes is a fact `b ≡ true`, and one that fails is `b ≡ false`.
use Rattle.std.specs.Prelude.{Bool, false, true, ◌≢◌, ◌⊎◌, ◌≡◌, refl, ◌<◌, ◌≤◌, suc, zero, ℕ, T, eqb, leb, ltb}
use Rattle.std.proofs.Common.{true≢false, inl, inr, ◌∙◌, ap, ap₂, subst, sym, le_refl, not-suc-le-zero, arith, eqb→eq, leb→le, le→leb, ltb-false}
use Rattle.std.proofs.Math.Path.{fun_ext}
use Rattle.std.proofs.Math.Dec.{eqb_refl}
use Rattle.sets.specs.Tests.{◌&◌, ◌<?◌, ◌=?◌, ◌or◌, ◌⇒◌, ◌⇔◌, ◌≤?◌, all, any, count, if?◌then◌else◌, one_if, ~◌}

-- ---- tests as facts

pub bool? : (b : Bool) → (b ≡ true) ⊎ (b ≡ false)
bool? true = inl refl
bool? false = inr refl

pub clash : {A : Type 0} {b : Bool} → b ≡ true → b ≡ false → A
clash p q = absurd (true≢false (sym p ∙ q))

pub T→≡ : (b : Bool) → T b → b ≡ true
T→≡ true t = refl
T→≡ false t = absurd t

pub ≡→T : (b : Bool) → b ≡ true → T b
≡→T b e = subst T (sym e) tt

-- two tests that follow from one another are equal
pub iff→≡ : (a b : Bool) → (a ≡ true → b ≡ true) → (b ≡ true → a ≡ true) → a ≡ b
iff→≡ true b f g = sym (f refl)
iff→≡ false true f g = g refl
iff→≡ false false f g = refl

pub and_l : (a b : Bool) → (a & b) ≡ true → a ≡ true
unfolding ◌&◌
and_l true b t = refl
and_l false b t = t

pub and_r : (a b : Bool) → (a & b) ≡ true → b ≡ true
unfolding ◌&◌
and_r true b t = t
and_r false b t = clash t refl

pub and_in : (a b : Bool) → a ≡ true → b ≡ true → (a & b) ≡ true
unfolding ◌&◌
and_in a b s t = rw (s, t) refl

pub and-true : (a b : Bool) → a ≡ true → (a & b) ≡ b
unfolding ◌&◌
and-true a b t = rw t refl

pub and-false : (a b : Bool) → a ≡ false → (a & b) ≡ false
unfolding ◌&◌
and-false a b t = rw t refl

pub and_swap : (a b : Bool) → (a & b) ≡ (b & a)
unfolding ◌&◌
and_swap true true = refl
and_swap true false = refl
and_swap false true = refl
and_swap false false = refl

-- the second follows from the first
pub and_absorb : (a b : Bool) → (a ≡ true → b ≡ true) → (a & b) ≡ a
unfolding ◌&◌
and_absorb true b h = h refl
and_absorb false b h = refl

-- the second fails where the first passes
pub and_no : (a b : Bool) → (a ≡ true → b ≡ false) → (a & b) ≡ false
unfolding ◌&◌
and_no true b h = h refl
and_no false b h = refl

-- `a && b` in the code: b is asked where a passes
pub and_asked : (p q : Bool) {a b : Bool} → a ≡ p → a ≡ true → b ≡ q → b ≡ (p & q)
and_asked p q e t f = f ∙ sym (and-true p q (sym e ∙ t))

pub and_unasked : (p q : Bool) {a : Bool} → a ≡ p → a ≡ false → a ≡ (p & q)
and_unasked p q e t = t ∙ sym (and-false p q (sym e ∙ t))

pub or_out : (a b : Bool) → (a or b) ≡ true → (a ≡ true) ⊎ (b ≡ true)
unfolding ◌or◌
or_out true b t = inl refl
or_out false b t = inr t

pub or_l : (a b : Bool) → a ≡ true → (a or b) ≡ true
unfolding ◌or◌
or_l a b t = rw t refl

pub or_r : (a b : Bool) → b ≡ true → (a or b) ≡ true
unfolding ◌or◌
or_r true b t = refl
or_r false b t = t

pub or_swap : (a b : Bool) → (a or b) ≡ (b or a)
unfolding ◌or◌
or_swap true true = refl
or_swap true false = refl
or_swap false true = refl
or_swap false false = refl

pub or-false : (a b : Bool) → a ≡ false → (a or b) ≡ b
unfolding ◌or◌
or-false a b e = rw e refl

pub not_out : (b : Bool) → (~ b) ≡ true → b ≡ false
unfolding ~◌
not_out true n = sym n
not_out false n = refl

pub not_in : (b : Bool) → b ≡ false → (~ b) ≡ true
unfolding ~◌
not_in b e = rw e refl

pub not_no : (b : Bool) → (~ b) ≡ false → b ≡ true
unfolding ~◌
not_no true n = refl
not_no false n = sym n

-- a test that cannot pass fails
pub fails : (b : Bool) → (b ≡ true → ⊥) → b ≡ false
fails true f = absurd (f refl)
fails false f = refl

pub imp_out : (a b : Bool) → (a ⇒ b) ≡ true → a ≡ true → b ≡ true
unfolding ◌⇒◌
imp_out true b f t = f
imp_out false b f t = clash t refl

pub imp_in : (a b : Bool) → (a ≡ true → b ≡ true) → (a ⇒ b) ≡ true
unfolding ◌⇒◌
imp_in true b f = f refl
imp_in false b f = refl

pub iff_out : (a b : Bool) → (a ⇔ b) ≡ true → a ≡ b
unfolding ◌⇔◌ ~◌
iff_out true b t = sym t
iff_out false true t = t
iff_out false false t = refl

pub iff_in : (a b : Bool) → a ≡ b → (a ⇔ b) ≡ true
unfolding ◌⇔◌ ~◌
iff_in a true e = rw e refl
iff_in a false e = rw e refl

pub imp_cong : (a : Bool) {x y : Bool} → (a ≡ true → x ≡ y) → (a ⇒ x) ≡ (a ⇒ y)
unfolding ◌⇒◌
imp_cong true h = h refl
imp_cong false h = refl

pub and_cong : (a : Bool) {x y : Bool} → (a ≡ true → x ≡ y) → (a & x) ≡ (a & y)
unfolding ◌&◌
and_cong true h = h refl
and_cong false h = refl

-- ---- comparisons

pub =?-out : (m n : ℕ) → (m =? n) ≡ true → m ≡ n
unfolding ◌=?◌
=?-out m n e = eqb→eq m n (≡→T (eqb m n) e)

pub =?-same : (n : ℕ) → (n =? n) ≡ true
unfolding ◌=?◌
=?-same n = T→≡ (eqb n n) (eqb_refl n)

pub =?-in : (m n : ℕ) → m ≡ n → (m =? n) ≡ true
=?-in m n e = subst (λ (k : ℕ). (m =? k) ≡ true) e (=?-same m)

pub =?-no : (m n : ℕ) → (m =? n) ≡ false → m ≢ n
=?-no m n e q = clash (=?-in m n q) e

pub =?-not : (m n : ℕ) → m ≢ n → (m =? n) ≡ false
=?-not m n q = fails (m =? n) (λ e. q (=?-out m n e))

pub <?_out : (m n : ℕ) → (m <? n) ≡ true → m < n
unfolding ◌<?◌
<?_out m n e = leb→le (suc m) n (≡→T (ltb m n) e)

pub <?_in : (m n : ℕ) → m < n → (m <? n) ≡ true
unfolding ◌<?◌
<?_in m n h = T→≡ (ltb m n) (le→leb (suc m) n h)

pub <?_no : (m n : ℕ) → (m <? n) ≡ false → n ≤ m
unfolding ◌<?◌
<?_no m n e = ltb-false m n e

pub ≤_or_< : (m n : ℕ) → (m ≤ n) ⊎ (n < m)
≤_or_< m n = elim (bool? (n <? m)) [ inl y ↦ inr (<?_out n m y) | inr z ↦ inl (<?_no n m z) ]

pub ≤?_out : (m n : ℕ) → (m ≤? n) ≡ true → m ≤ n
unfolding ◌≤?◌
≤?_out m n e = leb→le m n (≡→T (leb m n) e)

pub ≤?_in : (m n : ℕ) → m ≤ n → (m ≤? n) ≡ true
unfolding ◌≤?◌
≤?_in m n h = T→≡ (leb m n) (le→leb m n h)

pub same? : (m n : ℕ) → (m ≡ n) ⊎ (m ≢ n)
same? m n = elim (bool? (m =? n)) [ inl e ↦ inl (=?-out m n e) | inr e ↦ inr (=?-no m n e) ]

-- ---- all and any

pub all_out : (n : ℕ) (f : ℕ → Bool) → all n f ≡ true → (i : ℕ) → i < n → f i ≡ true
unfolding all
all_out zero f t i h = absurd (not-suc-le-zero h)
all_out (suc n) f t i h =
    elim (same? i n) [ inl e ↦ rw e (and_l _ _ t) | inr ne ↦ all_out n f (and_r _ _ t) i (omega arith) ]

pub all_in : (n : ℕ) (f : ℕ → Bool) → ((i : ℕ) → i < n → f i ≡ true) → all n f ≡ true
unfolding all
all_in zero f h = refl
all_in (suc n) f h = and_in _ _ (h n (le_refl (suc n))) (all_in n f (λ i q. h i (omega arith)))

pub any_out : (n : ℕ) (f : ℕ → Bool) → any n f ≡ true → (i : ℕ) × (i < n) × (f i ≡ true)
unfolding any
any_out zero f t = clash t refl
any_out (suc n) f t =
    elim (or_out _ _ t) [ inl s ↦ (n, le_refl (suc n), s) | inr s ↦ (let q = any_out n f s in (q.0, omega (arith, q.1), q.2)) ]

pub any_in : (n : ℕ) (f : ℕ → Bool) (i : ℕ) → i < n → f i ≡ true → any n f ≡ true
unfolding any
any_in zero f i h t = absurd (not-suc-le-zero h)
any_in (suc n) f i h t =
    elim (same? i n) [ inl e ↦ or_l _ _ (rw e at t) | inr ne ↦ or_r _ _ (any_in n f i (omega arith) t) ]

pub all_cong : (n : ℕ) {f g : ℕ → Bool} → ((i : ℕ) → f i ≡ g i) → all n f ≡ all n g
all_cong n h = ap (all n) (fun_ext h)

pub any_cong : (n : ℕ) {f g : ℕ → Bool} → ((i : ℕ) → f i ≡ g i) → any n f ≡ any n g
any_cong n h = ap (any n) (fun_ext h)

pub all_no : (n : ℕ) (f : ℕ → Bool) → all n f ≡ false → (i : ℕ) × (i < n) × (f i ≡ false)
unfolding all ◌&◌
all_no zero f t = clash refl t
all_no (suc n) f t =
    elim (bool? (f n)) [
      | inl y ↦ (let q = all_no n f (rw y at t) in (q.0, omega (arith, q.1), q.2))
      | inr z ↦ (n, le_refl (suc n), z)
    ]

-- two tests that agree below n
pub all_same : (n : ℕ) (f g : ℕ → Bool) → ((i : ℕ) → i < n → f i ≡ g i) → all n f ≡ all n g
unfolding all
all_same zero f g h = refl
all_same (suc n) f g h = ap₂ ◌&◌ (h n (le_refl (suc n))) (all_same n f g (λ i l. h i (omega arith)))

pub any_same : (n : ℕ) (f g : ℕ → Bool) → ((i : ℕ) → i < n → f i ≡ g i) → any n f ≡ any n g
unfolding any
any_same zero f g h = refl
any_same (suc n) f g h = ap₂ ◌or◌ (h n (le_refl (suc n))) (any_same n f g (λ i l. h i (omega arith)))

-- a test that passes from k on passes below every larger bound as it does below k
pub all_width : (k n : ℕ) (f : ℕ → Bool) → k ≤ n → ((i : ℕ) → k ≤ i → f i ≡ true) → all n f ≡ all k f
all_width k n f l h = iff→≡ _ _ (λ t. all_in k f (λ i q. all_out n f t i (omega arith)))
    (λ t. all_in n f (λ i q. elim (bool? (i <? k)) [ inl y ↦ all_out k f t i (<?_out i k y) | inr z ↦ h i (<?_no i k z) ]))

pub imp_no : (a b : Bool) → (a ⇒ b) ≡ false → (a ≡ true) × (b ≡ false)
unfolding ◌⇒◌
imp_no true b t = (refl, t)
imp_no false b t = clash refl t

pub if-true : {A : Type 0} (t : Bool) (x y : A) → t ≡ true → (if? t then x else y) ≡ x
unfolding if?◌then◌else◌
if-true t x y e = rw e refl

pub if-false : {A : Type 0} (t : Bool) (x y : A) → t ≡ false → (if? t then x else y) ≡ y
unfolding if?◌then◌else◌
if-false t x y e = rw e refl

-- ---- counts

one_if_le : (a b : Bool) (m n : ℕ) → (a ≡ true → b ≡ true) → m ≤ n → one_if a m ≤ one_if b n
unfolding one_if
one_if_le true true m n f h = omega arith
one_if_le true false m n f h = clash (f refl) refl
one_if_le false true m n f h = omega arith
one_if_le false false m n f h = h

one_if_lt : (a b : Bool) (m n : ℕ) → (a ≡ true → b ≡ true) → m < n → one_if a m < one_if b n
unfolding one_if
one_if_lt true true m n f h = omega arith
one_if_lt true false m n f h = clash (f refl) refl
one_if_lt false true m n f h = omega arith
one_if_lt false false m n f h = h

one_if_new : (a b : Bool) (m n : ℕ) → a ≡ false → b ≡ true → m ≤ n → one_if a m < one_if b n
unfolding one_if
one_if_new a b m n f t h = rw (f, t) (omega arith)

-- a larger set counts at least as much
pub count_mono : (n : ℕ) (f g : ℕ → Bool) → ((i : ℕ) → i < n → f i ≡ true → g i ≡ true) → count n f ≤ count n g
unfolding count
count_mono zero f g h = le_refl 0
count_mono (suc n) f g h = one_if_le _ _ _ _ (h n (le_refl (suc n))) (count_mono n f g (λ i q. h i (omega arith)))

-- and more, if it has a member that the other has not
pub count_strict : (n : ℕ) (f g : ℕ → Bool) → ((i : ℕ) → i < n → f i ≡ true → g i ≡ true)
    → (k : ℕ) → k < n → f k ≡ false → g k ≡ true → count n f < count n g
unfolding count
count_strict zero f g h k l nf tg = absurd (not-suc-le-zero l)
count_strict (suc n) f g h k l nf tg =
    elim (same? k n) [
      | inl e ↦ one_if_new _ _ _ _ (rw e at nf) (rw e at tg) (count_mono n f g (λ i q. h i (omega arith)))
      | inr ne ↦ one_if_lt _ _ _ _ (h n (le_refl (suc n))) (count_strict n f g (λ i q. h i (omega arith)) k (omega arith) nf tg)
    ]

pub one_if_le_suc : (b : Bool) (m n : ℕ) → m ≤ suc n → one_if b m ≤ suc (one_if b n)
unfolding one_if
one_if_le_suc true m n h = omega arith
one_if_le_suc false m n h = h

pub one_if_up : (b : Bool) (n : ℕ) → n ≤ one_if b n
unfolding one_if
one_if_up true n = omega arith
one_if_up false n = le_refl n

pub count_none : (n : ℕ) → count n (λ i. false) ≡ 0
unfolding count one_if
count_none zero = refl
count_none (suc n) = count_none n

pub count-all : (n : ℕ) → count n (λ i. true) ≡ n
unfolding count one_if
count-all zero = refl
count-all (suc n) = ap suc (count-all n)

pub count_le : (n : ℕ) (f : ℕ → Bool) → count n f ≤ n
count_le n f = rw count-all at (count_mono n f (λ i. true) (λ i q t. refl))
