-- Laws of texts, and of lists of any things.
use Rattle.std.specs.Prelude.{Bool, false, true, List, [], ◌++◌, ◌∷◌, map, ◌≡◌, refl, suc, ℕ, length}
use Rattle.std.proofs.Common.{inl, inr, ◌∙◌, ap, ap₂, sym}
use Rattle.std.proofs.Math.Option.{Option, none, some}
use Rattle.model.specs.Lists.{elem, every, non_empty}
use Rattle.model.specs.Maps.{has, if_there, option_map, or_else}
use Rattle.sets.specs.TestLaws.{=?-out, =?-same, and_in, and_l, and_r, clash, imp_cong, or_l, or_out, or_r}
use Rattle.sets.specs.Tests.{◌&◌, ◌⇒◌, if?◌then◌else◌}
use Rattle.text.specs.Bytes.{Text, among, same}
use Rattle.text.specs.Language.{Name, Read, Reader, Said, by_word, read_as, wrong}
use Rattle.text.specs.Tables.{Table, joined}

-- ---- texts

pub same_out : (a b : Text) → same a b ≡ true → a ≡ b
unfolding same
same_out [] [] e = refl
same_out [] (d ∷ ds) e = clash e refl
same_out (c ∷ cs) [] e = clash e refl
same_out (c ∷ cs) (d ∷ ds) e = ap₂ (λ (x : ℕ) (l : Text). x ∷ l) (=?-out _ _ (and_l _ _ e)) (same_out cs ds (and_r _ _ e))

pub same_refl : (a : Text) → same a a ≡ true
unfolding same
same_refl [] = refl
same_refl (c ∷ cs) = and_in _ _ (=?-same c) (same_refl cs)

pub same_sym : (a b : Text) → same a b ≡ true → same b a ≡ true
same_sym a b e = ap (λ (z : Text). same b z) (same_out a b e) ∙ same_refl b

-- ---- lists

pub length-map : {A B : Type 0} (f : A → B) (xs : List A) → length (map f xs) ≡ length xs
length-map f [] = refl
length-map f (x ∷ xs) = ap suc (length-map f xs)

pub map_same : {A : Type 0} (xs : List A) → map (λ x. x) xs ≡ xs
map_same [] = refl
map_same (x ∷ xs) = ap (λ l. x ∷ l) (map_same xs)

pub every_map : {A B : Type 0} (f : A → B) (test : B → Bool) (xs : List A) → every test (map f xs) ≡ every (λ x. test (f x)) xs
unfolding every
every_map f test [] = refl
every_map f test (x ∷ xs) = ap (λ (b : Bool). test (f x) & b) (every_map f test xs)

pub non_empty-map : {A B : Type 0} (f : A → B) (xs : List A) → non_empty xs ≡ true → non_empty (map f xs) ≡ true
unfolding non_empty
non_empty-map f [] e = e
non_empty-map f (x ∷ xs) e = refl

pub every_imp : {A : Type 0} (f g : A → Bool) (xs : List A) → ((x : A) → f x ≡ true → g x ≡ true) → every f xs ≡ true
    → every g xs ≡ true
unfolding every
every_imp f g [] h e = refl
every_imp f g (x ∷ xs) h e = and_in _ _ (h x (and_l _ _ e)) (every_imp f g xs h (and_r _ _ e))

-- a test that each name passes
pub every_append : {A : Type 0} (test : A → Bool) (xs ys : List A) → every test xs ≡ true → every test ys ≡ true
    → every test (xs ++ ys) ≡ true
unfolding every
every_append test [] ys p q = q
every_append test (x ∷ xs) ys p q = and_in _ _ (and_l _ _ p) (every_append test xs ys (and_r _ _ p) q)

pub every-among : (test : Name → Bool) (t : Table) (w : Name) → every test t ≡ true → among w t ≡ true → test w ≡ true
unfolding every among
every-among test [] w p a = clash a refl
every-among test (x ∷ xs) w p a = elim (or_out _ _ a) [
  | inl q ↦ ap test (same_out w x q) ∙ and_l _ _ p
  | inr q ↦ every-among test xs w (and_r _ _ p) q
]

pub every_cons : {A : Type 0} (test : A → Bool) (x : A) (xs : List A) → test x ≡ true → every test xs ≡ true
    → every test (x ∷ xs) ≡ true
unfolding every
every_cons test x xs p q = and_in _ _ p q

pub every-none : {A : Type 0} (test : A → Bool) → every test [] ≡ true
unfolding every
every-none test = refl

pub every_joined : {A : Type 0} (test : Name → Bool) (sel : A → List Name) (xs : List A)
    → every (λ x. every test (sel x)) xs ≡ true
    → every test (joined (map sel xs)) ≡ true
unfolding every joined
every_joined test sel [] e = refl
every_joined test sel (x ∷ xs) e = every_append test (sel x) _ (and_l _ _ e) (every_joined test sel xs (and_r _ _ e))

pub every_l : {A : Type 0} (test : A → Bool) (xs ys : List A) → every test (xs ++ ys) ≡ true → every test xs ≡ true
unfolding every
every_l test [] ys e = refl
every_l test (x ∷ xs) ys e = and_in _ _ (and_l _ _ e) (every_l test xs ys (and_r _ _ e))

pub every_r : {A : Type 0} (test : A → Bool) (xs ys : List A) → every test (xs ++ ys) ≡ true → every test ys ≡ true
unfolding every
every_r test [] ys e = e
every_r test (x ∷ xs) ys e = every_r test xs ys (and_r _ _ e)

pub map-every : {A B : Type 0} (test : A → Bool) (f g : A → B) (xs : List A) → every test xs ≡ true
    → ((x : A) → test x ≡ true → f x ≡ g x) → map f xs ≡ map g xs
unfolding every
map-every test f g [] e h = refl
map-every test f g (x ∷ xs) e h = ap₂ (λ (y : _) (ys : List _). y ∷ ys) (h x (and_l _ _ e))
    (map-every test f g xs (and_r _ _ e) h)

-- ---- what may be missing

pub has-map : {A B : Type 0} (h : A → B) (o : Option A) (t : B → Bool) → has (option_map h o) t ≡ has o (λ x. t (h x))
unfolding has option_map
has-map h none t = refl
has-map h (some x) t = refl

pub if_there-map : {A B : Type 0} (h : A → B) (o : Option A) (t : B → Bool)
    → if_there (option_map h o) t ≡ if_there o (λ x. t (h x))
unfolding if_there option_map
if_there-map h none t = refl
if_there-map h (some x) t = refl

pub there_no : {A : Type 0} (o : Option A) (t : A → Bool) → if_there o t ≡ false → (x : A) × (o ≡ some x)
unfolding if_there
there_no none t e = clash refl e
there_no (some x) t e = (x, refl)

pub or_at : (o : Option ℕ) (n : ℕ) → o ≡ some n → or_else o 0 ≡ n
unfolding or_else
or_at o n e = ap (λ (x : Option ℕ). or_else x 0) e

-- ---- tests

pub if_cong : {A : Type 0} (t t' : Bool) {x x' y y' : A} → t ≡ t' → (t ≡ true → x ≡ x') → y ≡ y'
    → (if? t then x else y) ≡ (if? t' then x' else y')
unfolding if?◌then◌else◌
if_cong true true e f g = f refl
if_cong true false e f g = clash (sym e) refl
if_cong false true e f g = clash e refl
if_cong false false e f g = g

pub imp_like : {a a' x x' : Bool} → a ≡ a' → (a ≡ true → x ≡ x') → (a ⇒ x) ≡ (a' ⇒ x')
imp_like {a} {a'} {x} {x'} e h = imp_cong a h ∙ ap (λ (z : Bool). z ⇒ x') e

pub by_test : {A : Type 0} (Q : A → Type 0) (b : Bool) (x y : A) → (b ≡ true → Q x) → Q y → Q (if? b then x else y)
unfolding if?◌then◌else◌
by_test Q true x y p q = p refl
by_test Q false x y p q = q

pub among_names_out : (f : ℕ → Name) (l : List ℕ) (w : Name) → among w (map f l) ≡ true → (n : ℕ) × (elem n l ≡ true) × (w ≡ f n)
unfolding among elem
among_names_out f [] w a = clash a refl
among_names_out f (x ∷ xs) w a =
    elim (or_out _ _ a) [
      | inl q ↦ (x, or_l _ _ (=?-same x), same_out w (f x) q)
      | inr q ↦ (let r = among_names_out f xs w q in (r.0, or_r _ _ r.1, r.2))
    ]

pub among_names_in : (f : ℕ → Name) (l : List ℕ) (n : ℕ) → elem n l ≡ true → among (f n) (map f l) ≡ true
unfolding elem among
among_names_in f [] n e = clash e refl
among_names_in f (x ∷ xs) n e =
    elim (or_out _ _ e) [
      | inl q ↦ or_l _ _ (ap (λ (z : ℕ). same (f n) (f z)) (sym (=?-out _ _ q))
          ∙ same_refl (f n))
      | inr q ↦ or_r _ _ (among_names_in f xs n q)
    ]

-- ---- the commands of the language

-- a fact of the reader of each command
infixr 20 ◌also◌
pub data Each (P : Reader Said → Type 0) : List (Text × Reader Said) → Type 0 where
  no_more : Each P []
  ◌also◌ : {x : Text × Reader Said} {xs : List (Text × Reader Said)} → P x.1 → Each P xs → Each P (x ∷ xs)

-- what holds of all that these readers read, and of no command, holds of what is read behind a first word
pub by_word_lem : (Q : Read → Type 0) (t : Text) → Q wrong → (P : Reader Said → Type 0) → ((p : Reader Said) → P p → Q (read_as (p t)))
    → (g : List (Text × Reader Said)) → Each P g → (w : Text) → Q (by_word g w t)
unfolding by_word
by_word_lem Q t w₀ P h g no_more w = w₀
by_word_lem Q t w₀ P h g (◌also◌ {x = x} {xs = xs} p ps) w = by_test Q (same w x.0) _ _ (λ e. h x.1 p)
    (by_word_lem Q t w₀ P h xs ps w)
