-- A word that was read is a part of the text: a name up to where the reader stands then, an implementation up to its closing quote.
use Rattle.std.specs.Prelude.{Bool, false, true, [], ◌++◌, ◌∷◌, ◌≡◌, refl, ◌+◌, ◌-◌, ◌<◌, ◌≤◌, ℕ, drop, length, take}
use Rattle.std.proofs.Common.{inl, inr, ◌∙◌, arith, drop-drop, length-append, length-drop, subst, zero-le}
use Rattle.std.proofs.Math.Option.{Option, none, some, some-injective}
use Rattle.std.proofs.Math.Path.{ap, sym}
use Rattle.std.proofs.Math.Seq.{drop-append_seam, take-append_seam}
use Rattle.model.specs.Maps.{only_if}
use Rattle.model_laws.specs.MapLaws.{and_then_out, no_some}
use Rattle.sets.specs.TestLaws.{=?-out, and_l, bool?}
use Rattle.sets.specs.Tests.{◌&◌, ◌=?◌, ◌or◌, if?◌then◌else◌, ~◌}
use Rattle.text.specs.Bytes.{Text, alnum, impl_byte, is_mark, name_byte, name_word, short, white}
use Rattle.text.specs.Language.{Name, Said, ◌>>=◌, ◌>>◌, give, imp, name, name_of, of_one, of_pair, pair, point, quoted_of, want, want_of}
use Rattle.text.specs.Tokens.{Next, Token, bad, closing, end, is_token, mark, next_token, past, quoted, run, skip, skipped, token, token_at, word}
use Rattle.text_laws.specs.Left.{Left, LeftN, left_all, left_less, left_then, next_left}
use Rattle.text_laws.specs.TextLaws.{by_test}
use Rattle.read_tokens.specs.Ahead.{IsWord}
use Rattle.read_tokens.specs.Readers.{Got}
use Rattle.read_tokens.specs.Stands.{StandsTo}

-- ---- the word of the next token, with what is left behind it

abbrev EndT : Text → Option Text → Type 0
EndT t none = Unit {0}
EndT t (some u) = Left 0 t u

one_more : (c : ℕ) (t : Text) (o : Option Text) → EndT t o → EndT (c ∷ t) o
one_more c t none l = tt
one_more c t (some u) l = record { front = c ∷ l.front; is = ap (λ (x : Text). c ∷ x) l.is; long = zero-le }

skip_end : (b : Bool) (t : Text) → EndT t (skip b t)
unfolding skip
skip_end true [] = tt
skip_end false [] = left_all []
skip_end true (c ∷ cs) = one_more c cs (skip (~ (c =? 125)) cs) (skip_end (~ (c =? 125)) cs)
skip_end false (c ∷ cs) = by_test (EndT (c ∷ cs)) (white c or c =? 123) _ _
    (λ e. one_more c cs (skip (c =? 123) cs) (skip_end (c =? 123) cs)) (left_all (c ∷ cs))

abbrev WordIn : Text → Next → Type 0
WordIn t (token (word x) v) = Left 0 t (x ++ v)
WordIn t (token (quoted x) v) = Left 0 t (x ++ (34 ∷ v))
WordIn t (token (mark c) v) = Unit {0}
WordIn t end = Unit {0}
WordIn t bad = Unit {0}

run_past : (f : ℕ → Bool) (t : Text) → run f t ++ past f t ≡ t
unfolding run past if?◌then◌else◌
run_past f [] = refl
run_past f (c ∷ cs) = elim (bool? (f c)) [ inl e ↦ rw e (ap (λ (x : Text). c ∷ x) (run_past f cs)) | inr e ↦ rw e refl ]

closing_in : (c : ℕ) (t w u : Text) → w ++ u ≡ t → WordIn (c ∷ t) (closing w u)
unfolding closing
closing_in c t w [] q = tt
closing_in c t w (d ∷ ds) q = by_test (WordIn (c ∷ t)) (d =? 34 & short w) _ _
    (λ e. record {
      front = c ∷ [];
      is = ap (λ (x : Text). c ∷ x) (sym q ∙ ap (λ (n : ℕ). w ++ (n ∷ ds)) (=?-out d 34 (and_l _ _ e)));
      long = zero-le;
    }) tt

token_in : (t : Text) → WordIn t (token_at t)
unfolding token_at
token_in [] = tt
token_in (c ∷ cs) =
    by_test (WordIn (c ∷ cs)) (alnum c) _ _
    (λ e. record { front = []; is = ap (λ (x : Text). c ∷ x) (sym (run_past name_byte cs)); long = zero-le })
    (by_test (WordIn (c ∷ cs)) (is_mark c) _ _ (λ e. tt)
    (by_test (WordIn (c ∷ cs)) (c =? 34) _ _ (λ e. closing_in c cs (run impl_byte cs) (past impl_byte cs) (run_past impl_byte cs)) tt))

skipped_in : (t : Text) (o : Option Text) → EndT t o → WordIn t (skipped o)
unfolding skipped
skipped_in t none l = tt
skipped_in t (some u) l = further (token_at u) (token_in u)
  where
    further : (n : Next) → WordIn u n → WordIn t n
    further (token (word x) v) k = left_then l k
    further (token (quoted x) v) k = left_then l k
    further (token (mark c) v) k = tt
    further end k = tt
    further bad k = tt

next_in : (t : Text) → WordIn t (next_token t)
unfolding next_token
next_in t = skipped_in t (skip false t) (skip_end false t)

name_in : (t x v : Text) (n : Next) → WordIn t n → name_of n ≡ some (x, v) → Left 0 t (x ++ v)
unfolding name_of only_if
name_in t x v (token (word y) s) l e =
    elim (bool? (name_word y)) [
      | inl b ↦ subst (λ (z : Name × Text). Left 0 t (z.0 ++ z.1)) (some-injective _ _ (sym (only b) ∙ e)) l
      | inr b ↦ no_some (sym (only b) ∙ e)
    ]
  where
    only : {b : Bool} → name_word y ≡ b → only_if {A = Name × Text} (name_word y) (y, s) ≡ only_if b (y, s)
    only b = ap (λ (z : Bool). only_if {A = Name × Text} z (y, s)) b
name_in t x v (token (quoted y) s) l e = no_some e
name_in t x v (token (mark c) s) l e = no_some e
name_in t x v end l e = no_some e
name_in t x v bad l e = no_some e

pub name_left : (t x v : Text) → name t ≡ some (x, v) → Left 0 t (x ++ v)
unfolding name
name_left t x v e = name_in t x v (next_token t) (next_in t) e

quoted_in : (t x v : Text) (n : Next) → WordIn t n → quoted_of n ≡ some (x, v) → Left 0 t (x ++ (34 ∷ v))
unfolding quoted_of
quoted_in t x v (token (word y) s) l e = no_some e
quoted_in t x v (token (quoted y) s) l e = subst (λ (z : Name × Text). Left 0 t (z.0 ++ (34 ∷ z.1))) (some-injective _ _ e) l
quoted_in t x v (token (mark c) s) l e = no_some e
quoted_in t x v end l e = no_some e
quoted_in t x v bad l e = no_some e

imp_left : (t x v : Text) → imp t ≡ some (x, v) → Left 0 t (x ++ (34 ∷ v))
unfolding imp
imp_left t x v e = quoted_in t x v (next_token t) (next_in t) e

-- ---- as a part of a text

module _ (t : Text) (at : ℕ) (w u : Text) (l : Left 0 (drop at t) (w ++ u)) (a : at ≤ length t) where
  abbrev begin : ℕ
  begin = at + length l.front

  begins : drop begin t ≡ w ++ u
  begins = sym (drop-drop (length l.front) at t) ∙ ap (drop (length l.front)) l.is ∙ drop-append_seam l.front (w ++ u)

  pub long : at + length l.front + length w + length u ≡ length t
  long =
      let d = length-drop at t in let e = ap length l.is ∙ length-append l.front (w ++ u) in let f = length-append w u in
      omega arith

  -- what is left behind the word is left of the text
  pub left_behind : drop (at + length l.front + length w) t ≡ u
  left_behind = sym (drop-drop (length w) begin t) ∙ ap (drop (length w)) begins ∙ drop-append_seam w u

  pub stands : (e : ℕ) → e + length u ≡ length t → 0 < length w → StandsTo t at e w
  stands e h n =
      let m = long in
      let q : e - begin ≡ length w = omega arith in
      record {
        start = begin;
        from = omega arith;
        is = sym (ap (λ (k : ℕ). take k (drop begin t)) q ∙ ap (take (length w)) begins ∙ take-append_seam w u);
        some_bytes = omega arith;
        inside = omega arith;
      }

pub name_stands : (t : Text) (at e : ℕ) (w : Text) → at ≤ length t → Got name (IsWord w) t at e → StandsTo t at e w
name_stands t at e w a g =
    let l = name_left (drop at t) g.value (drop e t) g.is in
    let d = length-drop e t in let i = g.inside in
    subst (λ (x : Text). StandsTo t at e x) g.took.is (stands t at g.value (drop e t) l a e (omega arith) g.took.some_bytes)

pub imp_stands : (t : Text) (at e : ℕ) (w : Text) → at ≤ length t → Got imp (IsWord w) t at e → StandsTo t at (e - 1) w
imp_stands t at e w a g =
    let l = imp_left (drop at t) g.value (drop e t) g.is in
    let d = length-drop e t in let i = g.inside in let m = long t at g.value (34 ∷ drop e t) l a in
    subst (λ (x : Text). StandsTo t at (e - 1) x) g.took.is
    (stands t at g.value (34 ∷ drop e t) l a (e - 1) (omega arith) g.took.some_bytes)

-- ---- one name, and two, each behind the other

pub record OneIn (f : Name → Said) (t v : Text) (x : Said) : Type 0 where
  pub word : Name
  pub is : x ≡ f word
  pub left : Left 0 t (word ++ v)

pub one_in : (f : Name → Said) (t v : Text) (x : Said) → of_one f t ≡ some (x, v) → OneIn f t v x
unfolding of_one ◌>>=◌ give
one_in f t v x e =
    let m = and_then_out (name t) _ _ e in
    let q = some-injective _ _ m.2 in
    record {
      word = m.0.0;
      is = sym (ap (λ (z : Said × Text). z.0) q);
      left = subst (λ (z : Said × Text). Left 0 t (m.0.0 ++ z.1)) q (name_left t m.0.0 m.0.1 m.1);
    }

want_in : (k : Token) (t u : Text) (n : Next) → LeftN t n → want_of k n ≡ some (tt, u) → Left 0 t u
unfolding want_of only_if
want_in k t u (token j v) l e =
    elim (bool? (is_token k j)) [
      | inl b ↦ subst (λ (z : Unit {0} × Text). Left 0 t z.1) (some-injective _ _ (sym (only b) ∙ e)) (left_less l)
      | inr b ↦ no_some (sym (only b) ∙ e)
    ]
  where
    only : {b : Bool} → is_token k j ≡ b → only_if {A = Unit {0} × Text} (is_token k j) (tt, v) ≡ only_if b (tt, v)
    only b = ap (λ (z : Bool). only_if {A = Unit {0} × Text} z (tt, v)) b
want_in k t u end l e = no_some e
want_in k t u bad l e = no_some e

want_left : (k : Token) (t u : Text) → want k t ≡ some (tt, u) → Left 0 t u
unfolding want
want_left k t u e = want_in k t u (next_token t) (next_left t) e

pub record TwoIn (f : Name → Name → Said) (t v : Text) (x : Said) : Type 0 where
  pub first : Name
  pub second : Name
  pub is : x ≡ f first second
  pub behind : Text
  pub first_left : Left 0 t (first ++ behind)
  pub second_left : Left 0 behind (second ++ v)

pub two_in : (f : Name → Name → Said) (t v : Text) (x : Said) → of_pair f t ≡ some (x, v) → TwoIn f t v x
unfolding of_pair pair ◌>>=◌ ◌>>◌ give
two_in f t v x e =
    let m = and_then_out _ _ _ e in
    let a = and_then_out (name t) _ _ m.1 in
    let k = and_then_out (want point a.0.1) _ _ a.2 in
    let b = and_then_out (name k.0.1) _ _ k.2 in
    let q : (a.0.0, b.0.0) ≡ m.0.0 = ap (λ (z : (Name × Name) × Text). z.0) (some-injective _ _ b.2) in
    let r : b.0.1 ≡ v = ap (λ (z : (Name × Name) × Text). z.1) (some-injective _ _ b.2) ∙ ap (λ (z : Said × Text). z.1) (some-injective _ _ m.2) in
    record {
      first = a.0.0;
      second = b.0.0;
      is = sym (ap (λ (z : Name × Name). f z.0 z.1) q ∙ ap (λ (z : Said × Text). z.0) (some-injective _ _ m.2));
      behind = a.0.1;
      first_left = name_left t a.0.0 a.0.1 a.1;
      second_left = subst (λ (z : Text). Left 0 a.0.1 (b.0.0 ++ z)) r
          (left_then (want_left point a.0.1 k.0.1 k.1) (name_left k.0.1 b.0.0 b.0.1 b.1));
    }
