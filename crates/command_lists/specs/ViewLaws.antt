-- One entry more, as the code writes it, is one step of gathering.
use Rattle.std.specs.Prelude.{Bool, None, Some, get_or, List, [], ◌∷◌, ◌≢◌, ◌≡◌, ◌%◌, ◌<◌, ◌^◌, ◌≤◌, zero, suc, ℕ, length, set}
use Rattle.std.proofs.Math.Bool.{false, true}
use Rattle.std.proofs.Math.Logic.{inl, inr}
use Rattle.std.proofs.Common.{◌∙◌, arith, lt_of_lt_of_le, mod-lt, not-suc-le-zero, pow_mono, pow_pos}
use Rattle.std.proofs.Math.Option.{Option, none, some}
use Rattle.std.proofs.Math.Path.{ap, ap₂, fun_ext, refl, sym}
use Rattle.model.specs.Maps.{Map, else_try, is_some, only_if, option_map}
use Rattle.command_lists.specs.Gathered.{Gathered, large_of, listed, mapped, nothing}
use Rattle.command_lists.specs.GatheredLaws.{else_none, or_nothing, step_in, step_out}
use Rattle.command_lists.specs.Said.{always, itself, plain_step}
use Rattle.command_lists.specs.Views.{entry_at, given_by, maybe, seen, view}
use Rattle.command_lists.specs.declared.gathered.Gathered.{Gathered as Kept}
use Rattle.model_laws.specs.MapLaws.{option_map-some}
use Rattle.sets.specs.SetLaws.{bit_ext, bit_limit, bit_mod, bit_zero}
use Rattle.sets.specs.Sets.{Set, below, bit, with}
use Rattle.sets.specs.TestLaws.{<?_in, <?_out, =?-not, =?-same, and-false, and_absorb, and_in, and_swap, bool?, fails, if-false, if-true, or-false, or_l, or_r, same?}
use Rattle.sets.specs.Tests.{◌&◌, ◌<?◌, ◌=?◌, ◌or◌, if?◌then◌else◌, ~◌}

-- ---- what stands at a place

module _ {A : Type 0} where
  entry_in : (at : List A) (v : ℕ) → v < length at → (x : A) × (entry_at at v ≡ some x)
  unfolding entry_at
  entry_in [] v h = absurd (not-suc-le-zero h)
  entry_in (x ∷ xs) zero h = (x, refl)
  entry_in (x ∷ xs) (suc v) h = entry_in xs v (omega (arith, h))

  pub entry_out : (at : List A) (v : ℕ) → length at ≤ v → entry_at at v ≡ none
  unfolding entry_at
  entry_out [] v h = refl
  entry_out (x ∷ xs) zero h = absurd (not-suc-le-zero h)
  entry_out (x ∷ xs) (suc v) h = entry_out xs v (omega (arith, h))

  entry_same : (at : List A) (v : ℕ) (x : A) → v < length at → entry_at (set at v x) v ≡ some x
  unfolding entry_at
  entry_same [] v x h = absurd (not-suc-le-zero h)
  entry_same (y ∷ ys) zero x h = refl
  entry_same (y ∷ ys) (suc v) x h = entry_same ys v x (omega (arith, h))

  entry_other : (at : List A) (v i : ℕ) (x : A) → i ≢ v → entry_at (set at v x) i ≡ entry_at at i
  unfolding entry_at
  entry_other [] v i x n = refl
  entry_other (y ∷ ys) zero zero x n = absurd (n refl)
  entry_other (y ∷ ys) zero (suc i) x n = refl
  entry_other (y ∷ ys) (suc v) zero x n = refl
  entry_other (y ∷ ys) (suc v) (suc i) x n = entry_other ys v i x (λ q. n (ap suc q))

-- ---- no entry

pub seen_nothing : {A : Type 0} (at : List A) → seen false false false 0 at ≡ nothing
unfolding seen given_by
seen_nothing at = ap (λ (m : Map _). record { large = false; empty = false; twice = false; given = m }) (fun_ext (λ v. if-false _ _ _ (bit_zero v)))

-- ---- one entry

pub seen_large : {A : Type 0} (l e t : Bool) (s : ℕ) (at : List A) → seen true e t s at ≡ large_of (seen l e t s at)
unfolding seen large_of
seen_large l e t s at = refl

not_true : (~ true) ≡ false
unfolding ~◌
not_true = refl

or_false : (a : Bool) → (a or ~ true) ≡ a
unfolding ~◌
or_false a = or_nothing a

with_here : (a : Set) (v : ℕ) → with a v v ≡ true
unfolding with ◌or◌
with_here a v = rw (=?-same v) refl

with_else : (a : Set) (v i : ℕ) → i ≢ v → with a v i ≡ a i
unfolding with
with_else a v i q = or-false _ _ (=?-not _ _ q)

only_yes : {A : Type 0} (t : Bool) (x : A) → t ≡ true → only_if t x ≡ some x
unfolding only_if
only_yes t x e = rw e refl

only_no : {A : Type 0} (t : Bool) (x : A) → t ≡ false → only_if t x ≡ none
unfolding only_if
only_no t x e = rw e refl

else_first : {A : Type 0} (o p : Option A) {x : A} → o ≡ some x → else_try o p ≡ some x
unfolding else_try
else_first o p e = rw e refl

else_second : {A : Type 0} (o p : Option A) → o ≡ none → else_try o p ≡ p
unfolding else_try
else_second o p e = rw e refl

some_is : {A : Type 0} (o : Option A) {x : A} → o ≡ some x → is_some o ≡ true
unfolding is_some
some_is o e = rw e refl

none_is : {A : Type 0} (o : Option A) → o ≡ none → is_some o ≡ false
unfolding is_some
none_is o e = rw e refl

-- the set with a number below k more is a number below 2 ^ k
pub with_low : (k s v w : ℕ) → k ≤ 64 → s < 2 ^ k → v < k → w < 2 ^ 64 → bit w ≡ with (bit s) v → w < 2 ^ k
with_low k s v w k≤ s< v< w< e = rw w_is (mod-lt w (pow_pos k))
  where
    listed_below : (f : ℕ) → bit w f ≡ true → f < k
    listed_below f t = elim (same? f v) [
      | inl q ↦ rw q v<
      | inr q ↦ bit_limit k s f s< (sym (ap (λ (a : Set). a f) e ∙ with_else _ v f q) ∙ t)
    ]

    bits : (f : ℕ) → bit w f ≡ bit (w % 2 ^ k) f
    bits f = sym (ap (λ (a : Set). a f) (bit_mod k w) ∙ below_is f)
      where
        below_is : (f : ℕ) → below k (bit w) f ≡ bit w f
        below_is f = unfold below in (and_swap _ _ ∙ and_absorb _ _ (λ t. <?_in _ _ (listed_below f t)))

    w_is : w ≡ w % 2 ^ k
    w_is = bit_ext 64 w (w % 2 ^ k) w< (lt_of_lt_of_le (mod-lt w (pow_pos k)) (pow_mono k≤)) (λ f _. bits f)

module _ {A : Type 0} (n : ℕ) (l e t : Bool) (s : ℕ) (at : List A) (v : ℕ) (x : A) where
  abbrev goes : Gathered A
  goes = plain_step n (seen l e t s at) (v, x)

  abbrev given : Map A
  given = given_by s at

  pub number_large : n ≤ v → seen true e t s at ≡ goes
  unfolding plain_step
  number_large h = seen_large l e t s at ∙ sym (step_out n always always always itself (seen l e t s at) (v, x) (and-false _ _ (fails _ (λ t. omega (arith, h, <?_out _ _ t)))))

  module _ (v< : v < n) (size : length at ≡ n) where
    in_limits_lem : (v <? n & always x) ≡ true
    unfolding always
    in_limits_lem = and_in _ _ (<?_in _ _ v<) refl

    stepped : goes ≡ record {
      large = l;
      empty = e or ~ true;
      twice = t or (is_some (given v) or ~ true);
      given = λ i. else_try (given i) (only_if (i =? v) x);
    }
    unfolding plain_step always itself seen listed
    stepped = step_in n always always always itself (seen l e t s at) (v, x) in_limits_lem

    is_here : bit s v ≡ true → (y : A) × (given v ≡ some y)
    unfolding given_by
    is_here y = let h = entry_in at v (omega (arith, v<, size)) in (h.0, if-true _ _ _ y ∙ h.1)

    pub entry_old : bit s v ≡ true
        → seen l e true s at ≡ goes
    unfolding seen
    entry_old y =
        ap₂ (λ (z : Bool × Bool) (m : Map A). record { large = l; empty = z.0; twice = z.1; given = m })
        (ap₂ (λ (a b : Bool). (a, b)) (sym (or_false e)) (sym (or_r _ _ (or_l _ _ (some_is _ (is_here y).1))))) (fun_ext same)
        ∙ sym stepped
      where
        same : (i : ℕ) → given i ≡ else_try (given i) (only_if (i =? v) x)
        same i = elim (same? i v) [
          | inl q ↦ rw q ((is_here y).1 ∙ sym (else_first _ _ (is_here y).1))
          | inr q ↦ sym (ap (else_try _) (only_no _ _ (=?-not _ _ q)) ∙ else_none _)
        ]

    pub entry_new : (w : ℕ) → bit s v ≡ false → bit w ≡ with (bit s) v
        → seen l e t w (set at v x) ≡ goes
    unfolding seen given_by
    entry_new w f bits =
        ap₂ (λ (z : Bool × Bool) (m : Map A). record { large = l; empty = z.0; twice = z.1; given = m })
        (ap₂ (λ (a b : Bool). (a, b)) (sym (or_false e)) (sym (ap (λ (z : Bool). t or z) (or-false _ _ (none_is _ not_given) ∙ not_true) ∙ or_nothing _))) (fun_ext more)
        ∙ sym stepped
      where
        not_given : given v ≡ none
        not_given = if-false _ _ _ f

        more : (i : ℕ) → given_by w (set at v x) i ≡ else_try (given i) (only_if (i =? v) x)
        more i = elim (same? i v) [
          | inl q ↦ rw q (if-true _ _ _ (ap (λ (a : Set). a v) bits ∙ with_here _ v) ∙ entry_same at v x (omega (arith, v<, size))
              ∙ sym (else_second _ _ not_given ∙ only_yes _ _ (=?-same v)))
          | inr q ↦ ap₂ (λ (t : Bool) (o : Option A). if? t then o else none) (ap (λ (a : Set). a i) bits ∙ with_else _ v i q) (entry_other at v i x q)
              ∙ sym (ap (else_try _) (only_no _ _ (=?-not _ _ q)) ∙ else_none _)
        ]

-- ---- the numbers listed

module _ {A : Type 0} (n s : ℕ) (at : List A) (small : s < 2 ^ n) (size : length at ≡ n) where
  pub given_listed : (v : ℕ) → is_some (given_by s at v) ≡ bit s v
  unfolding given_by
  given_listed v = elim (bool? (bit s v)) [
    | inl t ↦ some_is _ (if-true _ _ _ t ∙ (entry_in at v (omega (arith, size, bit_limit n s v small t))).1) ∙ sym t
    | inr f ↦ none_is _ (if-false _ _ _ f) ∙ sym f
  ]

-- the numbers listed in what the code holds
module _ {A : Type 0} (n : ℕ) (g : Kept A n) where
  pub listed_mapped : {B : Type 0} (f : A → B) → listed (mapped f (view g)) ≡ bit g.listed
  unfolding listed mapped seen
  listed_mapped f = fun_ext (λ v. option_map-some f (given_by g.listed g.at v) ∙ given_listed n g.listed g.at g.low g.size v)

  pub listed_seen : ◌≡◌ {A = Set} (listed (view g)) (bit g.listed)
  unfolding listed seen
  listed_seen = fun_ext (given_listed n g.listed g.at g.low g.size)

-- ---- what is read of a list

entry_get : {A : Type 0} (at : List A) (v : ℕ) (d : A) → v < length at → entry_at at v ≡ some (get_or at v d)
unfolding entry_at
entry_get [] v d h = absurd (not-suc-le-zero h)
entry_get (x ∷ xs) zero d h = refl
entry_get (x ∷ xs) (suc v) d h = entry_get xs v d (omega (arith, h))

-- what is given, where the place of each number below n is known to be there
pub given_only : {A B : Type 0} (n : ℕ) (g : Kept A n) (f : A → B) (d : A) (v : ℕ)
    → (mapped f (view g)).given v ≡ only_if (bit g.listed v) (f (get_or g.at v d))
unfolding mapped seen given_by option_map
given_only n g f d v = elim (bool? (bit g.listed v)) [
  | inl t ↦ ap (option_map f) (if-true _ _ _ t ∙ entry_get g.at v d (let h = bit_limit n g.listed v g.low t in omega (arith, h, g.size))) ∙ sym (only_yes _ _ t)
  | inr e ↦ ap (option_map f) (if-false _ _ _ e) ∙ sym (only_no _ _ e)
]

pub listed_below : (n s v : ℕ) {m : Bool} → s < 2 ^ n → m ≡ bit s v → m ≡ true → v < n
listed_below n s v small e t = bit_limit n s v small (sym e ∙ t)

module _ {A : Type 0} (n : ℕ) (l e t : Bool) (s : ℕ) (at : List A) (v : ℕ) {m : Bool} (is : m ≡ bit s v) where
  pub get_some : (d : A) → s < 2 ^ n → length at ≡ n → m ≡ true → maybe (Some (get_or at v d)) ≡ (seen l e t s at).given v
  unfolding maybe seen given_by
  get_some d small size y = sym (if-true _ _ _ (sym is ∙ y) ∙ entry_get at v d (let h = listed_below n s v small is y in omega (arith, h, size)))

  pub get_none : m ≡ false → maybe None ≡ (seen l e t s at).given v
  unfolding maybe seen given_by
  get_none f = sym (if-false _ _ _ (sym is ∙ f))

pub ruleset one_more = (number_large, entry_old, entry_new, with_low)

pub ruleset read_at = (listed_below, get_some, get_none)
