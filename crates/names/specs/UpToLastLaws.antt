-- Laws of the names up to the last, for any names and every number of places.
use Rattle.std.specs.Prelude.{true, [], ◌++◌, ◌∷◌, ◌≢◌, ◌≡◌, refl, ◌<◌, ◌≤◌, suc, zero, ℕ, length}
use Rattle.std.proofs.Common.{◌∙◌, ap, ap₂, sym, zero-le, le_of_suc-le-suc, le_refl, not-suc-le-zero, arith}
use Rattle.model.specs.Lists.{non_empty}
use Rattle.names.specs.Stored.{before, up_to_last}
use Rattle.sets.specs.TestLaws.{clash}
use Rattle.text.specs.Language.{Name}
use Rattle.text.specs.Tables.{Table, name_at}

before_at : (x : Name) (t : Table) (k : ℕ) → name_at (before x t) k ≡ name_at (x ∷ t) k
unfolding before name_at
before_at [] [] zero = refl
before_at [] [] (suc k) = refl
before_at [] (y ∷ ys) k = refl
before_at (b ∷ bs) xs k = refl

pub last_at : (n : ℕ) (name : ℕ → Name) (k : ℕ) → k < n → name_at (up_to_last n name) k ≡ name k
unfolding up_to_last name_at
last_at zero name k h = absurd (not-suc-le-zero h)
last_at (suc n) name zero h = before_at (name 0) _ 0
last_at (suc n) name (suc k) h = before_at (name 0) _ (suc k) ∙ last_at n (λ i. name (suc i)) k (le_of_suc-le-suc h)

before_length : (x : Name) (t : Table) → length (before x t) ≤ suc (length t)
unfolding before
before_length [] [] = zero-le
before_length [] (y ∷ ys) = le_refl _
before_length (b ∷ bs) xs = le_refl _

pub last_length : (n : ℕ) (name : ℕ → Name) → length (up_to_last n name) ≤ n
unfolding up_to_last
last_length zero name = le_refl 0
last_length (suc n) name =
    let a = before_length (name 0) (up_to_last n (λ i. name (suc i))) in let b = last_length n (λ i. name (suc i)) in omega arith

pub last_same : (n : ℕ) (f g : ℕ → Name) → ((i : ℕ) → i < n → f i ≡ g i) → up_to_last n f ≡ up_to_last n g
unfolding up_to_last
last_same zero f g h = refl
last_same (suc n) f g h =
    ap₂ before (h 0 (omega arith)) (last_same n (λ i. f (suc i)) (λ i. g (suc i)) (λ i l. h (suc i) (omega arith)))

pub last_none : (n : ℕ) (name : ℕ → Name) → ((i : ℕ) → i < n → name i ≡ []) → up_to_last n name ≡ []
unfolding up_to_last before
last_none zero name h = refl
last_none (suc n) name h = ap₂ before (h 0 (omega arith)) (last_none n (λ i. name (suc i)) (λ i l. h (suc i) (omega arith)))

before_more : (x : Name) (t : Table) (w : Name) → length (before x t) ≢ 0
    → before x (t ++ (w ∷ [])) ≡ before x t ++ (w ∷ [])
unfolding before
before_more [] [] w h = absurd (h refl)
before_more [] (y ∷ ys) w h = refl
before_more (b ∷ bs) xs w h = refl

before_none : (x : Name) (t : Table) → length (before x t) ≡ 0 → (x ≡ []) × (t ≡ [])
unfolding before
before_none [] [] e = (refl, refl)
before_none [] (y ∷ ys) e = absurd (omega arith)
before_none (b ∷ bs) xs e = absurd (omega arith)

before_nothing : before [] [] ≡ []
unfolding before
before_nothing = refl

before_one : (w : Name) → non_empty w ≡ true → before w [] ≡ w ∷ []
unfolding before non_empty
before_one [] e = clash e refl
before_one (b ∷ bs) e = refl

before_suc : (x : Name) (t : Table) (k : ℕ) → length (before x t) ≡ suc k → length t ≡ k
unfolding before
before_suc [] [] k e = absurd (omega arith)
before_suc [] (y ∷ ys) k e = omega arith
before_suc (b ∷ bs) xs k e = omega arith

-- a name at the place behind the last
pub last_more : (n : ℕ) (f g : ℕ → Name) (k : ℕ) (w : Name) → non_empty w ≡ true → k < n → k ≡ length (up_to_last n f) → g k ≡ w
    → ((i : ℕ) → i < n → i ≢ k → g i ≡ f i) → up_to_last n g ≡ up_to_last n f ++ (w ∷ [])
unfolding up_to_last
last_more zero f g k w e h l p q = absurd (not-suc-le-zero h)
last_more (suc n) f g zero w e h l p q =
    let z = before_none (f 0) (up_to_last n (λ i. f (suc i))) (sym l) in
    let r = last_same n (λ i. g (suc i)) (λ i. f (suc i)) (λ i o. q (suc i) (omega arith) (λ y. absurd (omega arith))) in
    ap₂ before p (r ∙ z.1) ∙ before_one w e
    ∙ ap (λ (t : Table). t ++ (w ∷ [])) (sym (ap₂ before z.0 z.1 ∙ before_nothing))
last_more (suc n) f g (suc k) w e h l p q =
    let r = last_more n (λ i. f (suc i)) (λ i. g (suc i)) k w e (le_of_suc-le-suc h) (sym (before_suc (f 0) _ k (sym l))) p
    (λ i o d. q (suc i) (omega arith) (λ y. d (omega arith))) in
    ap₂ before (q 0 (omega arith) (λ y. absurd (omega arith))) r ∙ before_more (f 0) _ w (λ y. absurd (omega arith))
