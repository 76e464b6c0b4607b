-- What is gathered of a list, in the words of the questions.
use Rattle.std.specs.Prelude.{Bool, ◌≡◌, ℕ}
use Rattle.std.proofs.Math.Bool.{false, true}
use mathlib.Core.List.{List, [], ◌∷◌}
use Rattle.std.proofs.Math.Logic.{inl, inr}
use Rattle.std.proofs.Math.Option.{Option, none, some}
use Rattle.std.proofs.Common.{◌∙◌}
use Rattle.std.proofs.Math.Path.{ap, fun_ext, refl, sym}
use Rattle.model.specs.Lists.{beside, elem, every, firsts, once, seconds}
use Rattle.model.specs.Maps.{else_try, is_some, only_if, option_map}
use Rattle.command_lists.specs.Gathered.{Gathered, gather, large_of, listed, nothing, step}
use Rattle.sets.specs.Sets.{Set}
use Rattle.sets.specs.TestLaws.{=?-in, =?-out, and_l, and_r, bool?, if-false, if-true, iff→≡}
use Rattle.sets.specs.Tests.{◌&◌, ◌<?◌, ◌=?◌, ◌or◌, if?◌then◌else◌, ~◌}
use Rattle.model_laws.specs.ListLaws.{beside_elem}
use Rattle.model_laws.specs.MapLaws.{option_map-some}

-- ---- tests

pub or_nothing : (a : Bool) → (a or false) ≡ a
unfolding ◌or◌
or_nothing true = refl
or_nothing false = refl

or_nots : (a b c : Bool) → ((a or ~ b) or ~ c) ≡ (a or ~ (b & c))
unfolding ◌or◌ ~◌ ◌&◌
or_nots true b c = refl
or_nots false true c = refl
or_nots false false c = refl

-- none of the numbers is in s, and none stands twice
unfoldable fresh : Set → List ℕ → Bool
fresh s [] = true
fresh s (x ∷ xs) = ~ s x & fresh (λ i. s i or i =? x) xs

twice_turn : (t l a f b : Bool) → ((t or (l or ~ a)) or ~ (f & b)) ≡ (t or ~ ((~ l & f) & (a & b)))
unfolding ◌or◌ ~◌ ◌&◌
twice_turn true l a f b = refl
twice_turn false true a f b = refl
twice_turn false false true f b = refl
twice_turn false false false true b = refl
twice_turn false false false false b = refl

four : (a b c d : Bool) → (~ (a or b) & (c & ~ d)) ≡ ((~ a & c) & ~ (b or d))
unfolding ◌or◌ ~◌ ◌&◌
four true b c d = refl
four false true true d = refl
four false true false d = refl
four false false c d = refl

every-apart : (s : Set) (x : ℕ) (xs : List ℕ) → every (λ y. ~ (s y or y =? x)) xs ≡ (every (λ y. ~ s y) xs & ~ elem x xs)
unfolding every elem
every-apart s x [] = unfold ◌&◌ ~◌ in refl
every-apart s x (y ∷ ys) =
    ap (λ (z : Bool). ~ (s y or y =? x) & z) (every-apart s x ys) ∙ four (s y) (y =? x) _ _
    ∙ ap (λ (z : Bool). (~ s y & every (λ k. ~ s k) ys) & ~ (z or elem x ys)) (flip y x)
  where
    flip : (m n : ℕ) → (m =? n) ≡ (n =? m)
    flip m n = iff→≡ _ _ (λ e. =?-in n m (sym (=?-out m n e))) (λ e. =?-in m n (sym (=?-out n m e)))

and_regroup : (a b c d : Bool) → (a & ((b & c) & d)) ≡ ((a & b) & (c & d))
unfolding ◌&◌
and_regroup true true c d = refl
and_regroup true false c d = refl
and_regroup false b c d = refl

fresh_once : (s : Set) (xs : List ℕ) → fresh s xs ≡ (every (λ y. ~ s y) xs & once xs)
unfolding fresh every once
fresh_once s [] = unfold ◌&◌ in refl
fresh_once s (x ∷ xs) =
    ap (λ (z : Bool). ~ s x & z) (fresh_once (λ i. s i or i =? x) xs ∙ ap (λ (z : Bool). z & once xs) (every-apart s x xs))
    ∙ and_regroup _ _ _ _

every-none : (xs : List ℕ) → every (λ y. ~ false) xs ≡ true
unfolding every ~◌ ◌&◌
every-none [] = refl
every-none (x ∷ xs) = every-none xs

fresh_from_nothing : (xs : List ℕ) → fresh (λ i. false) xs ≡ once xs
unfolding ◌&◌
fresh_from_nothing xs = fresh_once (λ i. false) xs ∙ ap (λ (z : Bool). z & once xs) (every-none xs)

-- ---- what is given

some_or : {B : Type 0} (o : Option B) (t : Bool) (y : B) → is_some (else_try o (only_if t y)) ≡ (is_some o or t)
unfolding is_some else_try only_if ◌or◌
some_or none true y = refl
some_or none false y = refl
some_or (some x) t y = refl

-- what is given in an entry, after what was given before, before what is given in the rest
given_turn : {A B : Type 0} (what : A → B) (o : Option B) (t : Bool) (a : A) (r : Option A)
    → else_try (else_try o (only_if t (what a))) (option_map what r) ≡ else_try o (option_map what (if? t then some a else r))
unfolding else_try only_if option_map if?◌then◌else◌
given_turn what (some y) t a r = refl
given_turn what none true a r = refl
given_turn what none false a r = refl

pub else_none : {B : Type 0} (o : Option B) → else_try o none ≡ o
unfolding else_try
else_none none = refl
else_none (some x) = refl

module _ {A B : Type 0} (n : ℕ) (good full single : A → Bool) (what : A → B) where
  -- the entry's numbers are below their limits
  unfoldable pub entry_below : ℕ × A → Bool
  entry_below x = x.0 <? n & good x.1

  abbrev here : Gathered B → List (ℕ × A) → Gathered B
  here = gather n good full single what

  abbrev next : Gathered B → ℕ × A → Gathered B
  next = step n good full single what

  -- ---- one entry

  module _ (g : Gathered B) (x : ℕ × A) where
    pub step_in : (x.0 <? n & good x.1) ≡ true → next g x ≡ record {
      large = g.large;
      empty = g.empty or ~ full x.1;
      twice = g.twice or (listed g x.0 or ~ single x.1);
      given = λ v. else_try (g.given v) (only_if (v =? x.0) (what x.1));
    }
    unfolding step
    step_in e = if-true _ _ _ e

    pub step_out : (x.0 <? n & good x.1) ≡ false → next g x ≡ large_of g
    unfolding step
    step_out e = if-false _ _ _ e

    step_large : (next g x).large ≡ (g.large or ~ entry_below x)
    unfolding entry_below large_of
    step_large = elim (bool? (x.0 <? n & good x.1)) [
      | inl e ↦ ap (λ (h : Gathered B). h.large) (step_in e) ∙ sym (ap (λ (z : Bool). g.large or ~ z) e ∙ (unfold ~◌ in or_nothing _))
      | inr e ↦ ap (λ (h : Gathered B). h.large) (step_out e) ∙ sym (ap (λ (z : Bool). g.large or ~ z) e ∙ (unfold ~◌ in or-true _))
    ]
      where
        or-true : (a : Bool) → (a or true) ≡ true
        or-true a = unfold ◌or◌ in elim a as (λ k. (k or true) ≡ true) [ true ↦ refl | false ↦ refl ]

  -- ---- a list

  pub gather_large : (g : Gathered B) (xs : List (ℕ × A)) → (here g xs).large ≡ (g.large or ~ every entry_below xs)
  unfolding gather every
  gather_large g [] = sym (unfold ~◌ in or_nothing g.large)
  gather_large g (x ∷ xs) =
      gather_large (next g x) xs ∙ ap (λ (z : Bool). z or ~ every entry_below xs) (step_large g x) ∙ or_nots _ _ _

  module _ (g : Gathered B) (x : ℕ × A) (xs : List (ℕ × A)) (t : every entry_below (x ∷ xs) ≡ true) where
    first_in : (x.0 <? n & good x.1) ≡ true
    unfolding every entry_below
    first_in = and_l _ _ t

    rest_in : every entry_below xs ≡ true
    unfolding every
    rest_in = and_r _ _ t

  pub gather_empty : (g : Gathered B) (xs : List (ℕ × A)) → every entry_below xs ≡ true → (here g xs).empty ≡ (g.empty or ~ every full (seconds xs))
  unfolding gather every seconds
  gather_empty g [] t = sym (unfold ~◌ in or_nothing g.empty)
  gather_empty g (x ∷ xs) t =
      gather_empty (next g x) xs (rest_in g x xs t)
      ∙ ap (λ (h : Gathered B). h.empty or ~ every full (seconds xs)) (step_in g x (first_in g x xs t)) ∙ or_nots _ _ _

  pub gather_given : (g : Gathered B) (xs : List (ℕ × A)) → every entry_below xs ≡ true
      → (v : ℕ) → (here g xs).given v ≡ else_try (g.given v) (option_map what (beside xs v))
  unfolding gather beside
  gather_given g [] t v = sym (unfold option_map in else_none (g.given v))
  gather_given g (x ∷ xs) t v =
      gather_given (next g x) xs (rest_in g x xs t) v
      ∙ ap (λ (h : Gathered B). else_try (h.given v) (option_map what (beside xs v))) (step_in g x (first_in g x xs t))
      ∙ given_turn what _ _ _ _

  listed_turn : (g : Gathered B) (x : ℕ × A) → ◌≡◌ {A = Set} (listed (record {
    large = g.large;
    empty = g.empty or ~ full x.1;
    twice = g.twice or (listed g x.0 or ~ single x.1);
    given = λ v. else_try (g.given v) (only_if (v =? x.0) (what x.1));
  })) (λ i. listed g i or i =? x.0)
  unfolding listed
  listed_turn g x = fun_ext (λ i. some_or (g.given i) (i =? x.0) (what x.1))

  gather_twice : (g : Gathered B) (xs : List (ℕ × A)) → every entry_below xs ≡ true
      → (here g xs).twice ≡ (g.twice or ~ (fresh (listed g) (firsts xs) & every single (seconds xs)))
  unfolding gather every firsts seconds fresh
  gather_twice g [] t = sym (unfold ~◌ ◌&◌ in or_nothing g.twice)
  gather_twice g (x ∷ xs) t =
      gather_twice (next g x) xs (rest_in g x xs t)
      ∙ ap (λ (h : Gathered B). h.twice or ~ (fresh (listed h) (firsts xs) & every single (seconds xs))) (step_in g x (first_in g x xs t))
      ∙ ap (λ (s : Set). (g.twice or (listed g x.0 or ~ single x.1)) or ~ (fresh s (firsts xs) & every single (seconds xs)))
      (listed_turn g x)
      ∙ twice_turn _ _ _ _ _

  -- ---- from nothing

  module _ (xs : List (ℕ × A)) where
    pub gathered_large : (here nothing xs).large ≡ (~ every entry_below xs)
    unfolding ◌or◌
    gathered_large = gather_large nothing xs

    module _ (t : every entry_below xs ≡ true) where
      pub gathered_empty : (here nothing xs).empty ≡ (~ every full (seconds xs))
      unfolding ◌or◌
      gathered_empty = gather_empty nothing xs t

      pub gathered_given : (v : ℕ) → (here nothing xs).given v ≡ option_map what (beside xs v)
      unfolding else_try
      gathered_given v = gather_given nothing xs t v

      pub gathered_listed : (v : ℕ) → listed (here nothing xs) v ≡ elem v (firsts xs)
      unfolding listed
      gathered_listed v = ap is_some (gathered_given v) ∙ option_map-some what (beside xs v) ∙ beside_elem xs v

      pub gathered_twice : (here nothing xs).twice ≡ (~ (once (firsts xs) & every single (seconds xs)))
      unfolding ◌or◌
      gathered_twice =
          gather_twice nothing xs t
          ∙ ap (λ (z : Bool). ~ (z & every single (seconds xs))) (unfold listed is_some in fresh_from_nothing (firsts xs))
