-- "Each command is read from the rest of the text after the one before": what is left behind a token is an end of the text, and
-- shorter.
use Rattle.std.specs.Prelude.{Bool, false, true, [], ◌++◌, ◌∷◌, ◌≡◌, refl, ◌+◌, ◌≤◌, suc, ℕ, length}
use Rattle.std.proofs.Common.{append_assoc, ◌∙◌, ap, sym, zero-le, arith, length-append}
use Rattle.std.proofs.Math.Option.{Option, none, some}
use Rattle.sets.specs.Tests.{◌&◌, ◌=?◌, ◌or◌, ~◌}
use Rattle.text.specs.Bytes.{Text, alnum, impl_byte, is_mark, name_byte, short, white}
use Rattle.text.specs.Tokens.{Next, bad, closing, end, next_token, past, run, skip, skipped, token, token_at}
use Rattle.text_laws.specs.TextLaws.{by_test}

pub record Left (n : ℕ) (t u : Text) : Type 0 where
  pub front : Text
  pub is : t ≡ front ++ u
  pub long : n ≤ length front

pub left_length : {n : ℕ} {t u : Text} → Left n t u → n + length u ≤ length t
left_length {n} {t} {u} l = let h = l.long in let e = ap length l.is ∙ length-append l.front u in omega arith

pub left_all : (t : Text) → Left 0 t t
left_all t = record { front = []; is = refl; long = zero-le }

left_more : {n : ℕ} {c : ℕ} {t u : Text} → Left n t u → Left (suc n) (c ∷ t) u
left_more {c = c} l = record {
  front = c ∷ l.front;
  is = ap (λ (z : Text). c ∷ z) l.is;
  long = (let h = l.long in omega arith);
}

pub left_less : {n : ℕ} {t u : Text} → Left (suc n) t u → Left 0 t u
left_less l = record { front = l.front; is = l.is; long = zero-le }

pub left_then : {n m : ℕ} {t u v : Text} → Left n t u → Left m u v → Left n t v
left_then {v = v} a b = record {
  front = a.front ++ b.front;
  is = a.is ∙ ap (λ (z : Text). a.front ++ z) b.is ∙ sym (append_assoc a.front b.front v);
  long = (let h = a.long in let e = length-append a.front b.front in omega arith);
}

pub left_after : {m : ℕ} {t u v : Text} → Left 0 t u → Left m u v → Left m t v
left_after {v = v} a b = record {
  front = a.front ++ b.front;
  is = a.is ∙ ap (λ (z : Text). a.front ++ z) b.is ∙ sym (append_assoc a.front b.front v);
  long = (let h = b.long in let e = length-append a.front b.front in omega arith);
}

-- ---- tokens

abbrev pub LeftO : {A : Type 0} → ℕ → Text → Option (A × Text) → Type 0
LeftO n t none = Unit {0}
LeftO n t (some x) = Left n t x.1

abbrev LeftT : Text → Option Text → Type 0
LeftT t none = Unit {0}
LeftT t (some u) = Left 0 t u

abbrev pub LeftN : Text → Next → Type 0
LeftN t (token j u) = Left 1 t u
LeftN t end = Unit {0}
LeftN t bad = Unit {0}

more_t : (c : ℕ) (t : Text) (o : Option Text) → LeftT t o → LeftT (c ∷ t) o
more_t c t none l = tt
more_t c t (some u) l = left_less (left_more {c = c} l)

skip_left : (b : Bool) (t : Text) → LeftT t (skip b t)
unfolding skip
skip_left true [] = tt
skip_left false [] = left_all []
skip_left true (c ∷ cs) = more_t c cs (skip (~ (c =? 125)) cs) (skip_left (~ (c =? 125)) cs)
skip_left false (c ∷ cs) = by_test (LeftT (c ∷ cs)) (white c or c =? 123) _ _
    (λ e. more_t c cs (skip (c =? 123) cs) (skip_left (c =? 123) cs)) (left_all (c ∷ cs))

past_left : (f : ℕ → Bool) (t : Text) → Left 0 t (past f t)
unfolding past
past_left f [] = left_all []
past_left f (c ∷ cs) = by_test (λ (u : Text). Left 0 (c ∷ cs) u) (f c) _ _ (λ e. left_less (left_more {c = c} (past_left f cs)))
    (left_all (c ∷ cs))

closing_left : (c : ℕ) (t w r : Text) → Left 0 t r → LeftN (c ∷ t) (closing w r)
unfolding closing
closing_left c t w [] l = tt
closing_left c t w (d ∷ ds) l = by_test (LeftN (c ∷ t)) (d =? 34 & short w) _ _
    (λ e. left_then (left_more {c = c} l) (left_less (left_more {c = d} (left_all ds)))) tt

token_left : (t : Text) → LeftN t (token_at t)
unfolding token_at
token_left [] = tt
token_left (c ∷ cs) =
    by_test (LeftN (c ∷ cs)) (alnum c) _ _ (λ e. left_more (past_left name_byte cs))
    (by_test (LeftN (c ∷ cs)) (is_mark c) _ _ (λ e. left_more (left_all cs))
    (by_test (LeftN (c ∷ cs)) (c =? 34) _ _
    (λ e. closing_left c cs (run impl_byte cs) (past impl_byte cs) (past_left impl_byte cs)) tt))

skipped_left : (t : Text) (o : Option Text) → LeftT t o → LeftN t (skipped o)
unfolding skipped
skipped_left t none l = tt
skipped_left t (some u) l = after_n (token_at u) (token_left u)
  where
    after_n : (n : Next) → LeftN u n → LeftN t n
    after_n (token j v) k = left_after l k
    after_n end k = tt
    after_n bad k = tt

pub next_left : (t : Text) → LeftN t (next_token t)
unfolding next_token
next_left t = skipped_left t (skip false t) (skip_left false t)
