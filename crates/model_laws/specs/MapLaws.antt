-- Laws of what may be missing, and of maps.
use Rattle.std.specs.Prelude.{Bool, false, true, ◌≢◌, ◌⊎◌, ◌≡◌, refl, ℕ}
use Rattle.std.proofs.Common.{inl, inr, ap}
use Rattle.std.proofs.Math.Option.{Option, some-injective, none, some}
use Rattle.model.specs.Maps.{Map, and_then, has, if_there, is_some, option_map, put}
use Rattle.sets.specs.TestLaws.{=?-not, =?-same, clash, if-false, if-true}

pub has_cong : {A : Type 0} (o : Option A) {f g : A → Bool} → ((x : A) → o ≡ some x → f x ≡ g x) → has o f ≡ has o g
unfolding has
has_cong none h = refl
has_cong (some x) h = h x refl

pub if_there_cong : {A : Type 0} (o : Option A) {f g : A → Bool} → ((x : A) → o ≡ some x → f x ≡ g x) → if_there o f ≡ if_there o g
unfolding if_there
if_there_cong none h = refl
if_there_cong (some x) h = h x refl

pub is_some_out : {A : Type 0} (o : Option A) → is_some o ≡ true → (x : A) × (o ≡ some x)
unfolding is_some
is_some_out none t = clash t refl
is_some_out (some x) t = (x, refl)

pub is_some_in : {A : Type 0} (o : Option A) {x : A} → o ≡ some x → is_some o ≡ true
unfolding is_some
is_some_in o {x} e = rw e refl

pub is_some_no : {A : Type 0} (o : Option A) → is_some o ≡ false → o ≡ none
unfolding is_some
is_some_no none t = refl
is_some_no (some x) t = clash refl t

pub has_out : {A : Type 0} (o : Option A) (f : A → Bool) → has o f ≡ true → (x : A) × (o ≡ some x) × (f x ≡ true)
unfolding has
has_out none f t = clash t refl
has_out (some x) f t = (x, refl, t)

pub has_in : {A : Type 0} (o : Option A) (f : A → Bool) (x : A) → o ≡ some x → f x ≡ true → has o f ≡ true
unfolding has
has_in o f x e t = rw e t

pub if_there_out : {A : Type 0} (o : Option A) (f : A → Bool) → if_there o f ≡ true → (x : A) → o ≡ some x → f x ≡ true
unfolding if_there
if_there_out o f t x e = rw e at t

pub if_there_in : {A : Type 0} (o : Option A) (f : A → Bool) → ((x : A) → o ≡ some x → f x ≡ true) → if_there o f ≡ true
unfolding if_there
if_there_in none f h = refl
if_there_in (some x) f h = h x refl

pub no_some : {A B : Type 0} {x : A} → none ≡ some x → B
no_some e = clash (is_some_in none e) (unfold is_some in refl)

pub and_then_out : {A B : Type 0} (o : Option A) (g : A → Option B) (z : B) → and_then o g ≡ some z → (x : A) × (o ≡ some x) × (g x ≡ some z)
unfolding and_then
and_then_out none g z e = no_some e
and_then_out (some x) g z e = (x, refl, e)

pub and_then_in : {A B : Type 0} (o : Option A) (g : A → Option B) (x : A) → o ≡ some x → and_then o g ≡ g x
unfolding and_then
and_then_in o g x e = ap (λ o. and_then o g) e

pub option_map_out : {A B : Type 0} (h : A → B) (o : Option A) (z : B) → option_map h o ≡ some z → (a : A) × (o ≡ some a) × (h a ≡ z)
unfolding option_map
option_map_out h none z e = no_some e
option_map_out h (some a) z e = (a, refl, some-injective _ _ e)

pub option_map-some : {A B : Type 0} (h : A → B) (o : Option A) → is_some (option_map h o) ≡ is_some o
unfolding option_map is_some
option_map-some h none = refl
option_map-some h (some a) = refl

pub option? : {A : Type 0} (o : Option A) → (o ≡ none) ⊎ ((x : A) × (o ≡ some x))
option? none = inl refl
option? (some x) = inr (x, refl)

-- ---- put

pub put_same : {A : Type 0} (n : ℕ) (x : Option A) (m : Map A) → put n x m n ≡ x
unfolding put
put_same n x m = if-true _ _ _ (=?-same n)

pub put_other : {A : Type 0} (n : ℕ) (x : Option A) (m : Map A) (k : ℕ) → k ≢ n → put n x m k ≡ m k
unfolding put
put_other n x m k q = if-false _ _ _ (=?-not k n q)

pub has-map : {A B : Type 0} (g : A → B) (o : Option A) (f : B → Bool) → has (option_map g o) f ≡ has o (λ x. f (g x))
unfolding has option_map
has-map g none f = refl
has-map g (some x) f = refl

pub then_map : {A B C : Type 0} (g : A → B) (o : Option A) (f : B → Option C) → and_then (option_map g o) f ≡ and_then o (λ x. f (g x))
unfolding and_then option_map
then_map g none f = refl
then_map g (some x) f = refl
