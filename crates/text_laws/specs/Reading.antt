-- Reading what was written: tokens, names, lists.
use Rattle.std.specs.Prelude.{Bool, false, true, ◌≡◌, length}
use mathlib.Core.List.{List, [], ◌++◌, ◌∷◌, append_assoc, map}
use Rattle.std.proofs.Common.{inl, inr, ◌∙◌, arith}
use Rattle.std.proofs.Math.Option.{Option, some}
use Rattle.std.proofs.Math.Path.{ap, refl}
use Prim.Native.Nat.{◌+◌, ◌≤◌, suc, zero, ℕ}
use Rattle.std.proofs.Math.ListN.{length-append}
use Rattle.model.specs.Lists.{every, non_empty}
use Rattle.model.specs.Maps.{and_then, only_if}
use Rattle.sets.specs.TestLaws.{=?-not, and_l, and_r, clash, if-false, if-true, not_out, or_out, ≤?_out}
use Rattle.sets.specs.Tests.{◌&◌, ◌=?◌, ◌or◌, ◌≤?◌, if?◌then◌else◌, ~◌}
use Rattle.text.specs.Bytes.{Text, alnum, bytes, impl_byte, is_mark, name_byte, name_word, same, short, valid_name, white}
use Rattle.text.specs.Language.{Reader, ◌>>=◌, ◌>>◌, ahead, ahead_of, equals, give, key, list_in, list_of, name, name_of, semicolon}
use Rattle.text.specs.Language.{want, want_of, when}
use Rattle.text.specs.Tokens.{Token, closing, is_token, next_token, past, run, skip, skipped, token, token_at, word}
use Rattle.text.specs.Written.{parted}
use Rattle.text_laws.specs.TextLaws.{length-map, no_more}
use base.Logic.{sep}
use types.Run.{stop}

-- ---- runs

-- the text does not begin with a byte that passes the test
unfoldable pub stops : (ℕ → Bool) → Text → Bool
stops f [] = true
stops f (c ∷ cs) = ~ (f c)

stop_run : (f : ℕ → Bool) (t : Text) → stops f t ≡ true → run f t ≡ []
unfolding stops run
stop_run f [] h = refl
stop_run f (c ∷ cs) h = if-false _ _ _ (not_out _ h)

stop_past : (f : ℕ → Bool) (t : Text) → stops f t ≡ true → past f t ≡ t
unfolding stops past
stop_past f [] h = refl
stop_past f (c ∷ cs) h = if-false _ _ _ (not_out _ h)

pub run_word : (f : ℕ → Bool) (w t : Text) → every f w ≡ true → stops f t ≡ true → run f (w ++ t) ≡ w
unfolding run every
run_word f [] t e h = stop_run f t h
run_word f (c ∷ cs) t e h = if-true _ _ _ (and_l _ _ e) ∙ ap (λ (l : Text). c ∷ l) (run_word f cs t (and_r _ _ e) h)

pub past_word : (f : ℕ → Bool) (w t : Text) → every f w ≡ true → stops f t ≡ true → past f (w ++ t) ≡ t
unfolding past every
past_word f [] t e h = stop_past f t h
past_word f (c ∷ cs) t e h = if-true _ _ _ (and_l _ _ e) ∙ past_word f cs t (and_r _ _ e) h

-- ---- tokens

alnum_big : (c : ℕ) → alnum c ≡ true → (48 ≤ c) × (c ≤ 122)
unfolding alnum
alnum_big c h =
    elim (or_out _ _ h) [
      | inl e ↦ (let a = ≤?_out _ _ (and_l _ _ e) in let b = ≤?_out _ _ (and_r _ _ e) in omega arith)
      | inr g ↦ elim (or_out _ _ g) [
        | inl e ↦ (let a = ≤?_out _ _ (and_l _ _ e) in let b = ≤?_out _ _ (and_r _ _ e) in omega arith)
        | inr e ↦ (let a = ≤?_out _ _ (and_l _ _ e) in let b = ≤?_out _ _ (and_r _ _ e) in omega arith)
      ]
    ]

not_gap : (c : ℕ) → alnum c ≡ true → (white c or c =? 123) ≡ false
unfolding white
not_gap c h =
    let b = alnum_big c h in
    let e₁ = =?-not c 32 (omega arith) in let e₂ = =?-not c 9 (omega arith) in let e₃ = =?-not c 13 (omega arith) in
    let e₄ = =?-not c 10 (omega arith) in let e₅ = =?-not c 123 (omega arith) in
    rw (e₁, e₂, e₃, e₄, e₅) (unfold ◌or◌ in refl)

-- a word that stands at the start of a text is the next_token token
pub next_word : (c : ℕ) (cs t : Text) → alnum c ≡ true → every name_byte cs ≡ true → stops name_byte t ≡ true
    → next_token (c ∷ (cs ++ t)) ≡ token (word (c ∷ cs)) t
unfolding next_token skip skipped token_at if?◌then◌else◌
next_word c cs t a e h =
    rw (not_gap c a, a, run_word name_byte cs t e h, past_word name_byte cs t e h)

pub valid_word : (w t : Text) → valid_name w ≡ true → stops name_byte t ≡ true → next_token (w ++ t) ≡ token (word w) t
unfolding valid_name
valid_word [] t v h = clash v refl
valid_word (c ∷ cs) t v h = next_word c cs t (and_l _ _ v) (and_l _ _ (and_r _ _ v)) h

pub valid_name_lem : (w : Text) → valid_name w ≡ true → name_word w ≡ true
unfolding valid_name
valid_name_lem [] v = clash v refl
valid_name_lem (c ∷ cs) v = and_r _ _ (and_r _ _ v)

-- a space before a token
pub next_space : (t : Text) → next_token (32 ∷ t) ≡ next_token t
unfolding next_token skip skipped token_at white ◌or◌ ◌=?◌ if?◌then◌else◌
next_space t = refl

only_if_yes : {A : Type 0} (b : Bool) (x : A) → b ≡ true → only_if b x ≡ some x
unfolding only_if
only_if_yes b x e = rw e

pub name_reads : (w t : Text) → valid_name w ≡ true → stops name_byte t ≡ true → name (w ++ t) ≡ some (w, t)
unfolding name name_of
name_reads w t v h = ap name_of (valid_word w t v h) ∙ only_if_yes _ _ (valid_name_lem w v)

pub name_spaced : (w t : Text) → valid_name w ≡ true → stops name_byte t ≡ true → name (32 ∷ (w ++ t)) ≡ some (w, t)
unfolding name
name_spaced w t v h = ap name_of (next_space (w ++ t)) ∙ name_reads w t v h

-- ---- keywords and marks: by computation

-- to unfold this is to read bytes that are written out
unfoldable pub lexing : Unit {0}
unfolding
    bytes next_token skip skipped token_at run past closing short white alnum name_byte impl_byte is_mark ~◌ if?◌then◌else◌ ◌&◌ ◌or◌ ◌=?◌ ◌≤?◌ non_empty same stops
    is_token ahead ahead_of want want_of key only_if every
lexing = tt

pub want_provides : (t : Text) → want (key "provides") (bytes " provides " ++ t) ≡ some (tt, 32 ∷ t)
unfolding lexing
want_provides t = refl

pub want_use : (t : Text) → want (key "use") (bytes " use " ++ t) ≡ some (tt, 32 ∷ t)
unfolding lexing
want_use t = refl

pub want_impl : (t : Text) → want (key "impl") (bytes " impl \"" ++ t) ≡ some (tt, 32 ∷ (34 ∷ t))
unfolding lexing
want_impl t = refl

pub want_end : (t : Text) → want (key "end") (bytes " end\n" ++ t) ≡ some (tt, 10 ∷ t)
unfolding lexing
want_end t = refl

pub want_semicolon : (t : Text) → want semicolon (bytes "; " ++ t) ≡ some (tt, 32 ∷ t)
unfolding lexing
want_semicolon t = refl

pub want_equals : (t : Text) → want equals (bytes " = " ++ t) ≡ some (tt, 32 ∷ t)
unfolding lexing
want_equals t = refl

-- ---- readers

pub bind : {A B : Type 0} (p : Reader A) (f : A → Reader B) (t : Text) {a : A} {u : Text} → p t ≡ some (a, u)
    → ◌>>=◌ p f t ≡ f a u
unfolding ◌>>=◌ and_then
bind p f t e = ap (λ (o : Option _). and_then o (λ x. f x.0 x.1)) e

pub thence : {A B : Type 0} (p : Reader A) (q : Reader B) (t : Text) {a : A} {u : Text} → p t ≡ some (a, u) → ◌>>◌ p q t ≡ q u
unfolding ◌>>◌ and_then
thence p q t e = ap (λ (o : Option _). and_then o (λ x. q x.1)) e

-- ---- lists

length_parted : (p : Text) → 1 ≤ length p → (ys : List Text) → length ys ≤ suc (length (parted p ys))
unfolding parted
length_parted p h [] = omega arith
length_parted p h (y ∷ []) = omega arith
length_parted p h (y ∷ (z ∷ zs)) =
    let i = length_parted p h (z ∷ zs) in
    let e : length (y ++ (p ++ parted p (z ∷ zs)))
    ≡ length y + (length p + length (parted p (z ∷ zs))) = rw (length-append, length-append) in
    omega arith

-- B1Facts law for every list: P writes an element, p reads it back where what follows it is a Stop, and the separator and the
-- tail are.
module _ {A : Type 0} (k : Token) (p : Reader A) (P : A → Text) (sep : Text) (ok : A → Bool) (Stop : Text → Type 0) where
  pub record ListLaw : Type 0 where
    pub one : (x : A) (t : Text) → ok x ≡ true → Stop t → p (32 ∷ (P x ++ t)) ≡ some (x, t)
    pub on : (t : Text) → ahead k (sep ++ t) ≡ some (true, 32 ∷ t)
    pub sep_stops : (t : Text) → Stop (sep ++ t)
    pub wide : 1 ≤ length sep

  module _ (law : ListLaw) (tail : Text) (stop : Stop tail) (no_more : ahead k tail ≡ some (false, tail)) where
    list_in_lem : (xs : List A) → non_empty xs ≡ true → every ok xs ≡ true → (n : ℕ) → length xs ≤ n
        → list_in n k p (32 ∷ (parted sep (map P xs) ++ tail)) ≡ some (xs, tail)
    unfolding every list_in parted when give
    list_in_lem [] e o n l = clash e (unfold non_empty in refl)
    list_in_lem (x ∷ xs) e o zero l = absurd (omega arith)
    list_in_lem (x ∷ []) e o (suc n) l =
        bind p _ _ (law.one x tail (and_l _ _ o) stop) ∙ bind (ahead k) _ tail no_more ∙ bind _ _ tail refl
    list_in_lem (x ∷ (y ∷ ys)) e o (suc n) l =
        let more = parted sep (map P (y ∷ ys)) in
        ap (λ (t : Text). list_in (suc n) k p (32 ∷ t)) (append_assoc (P x) (sep ++ more) tail
        ∙ ap (λ (t : Text). P x ++ t) (append_assoc sep more tail))
        ∙ bind p _ _ (law.one x (sep ++ (more ++ tail)) (and_l _ _ o) (law.sep_stops (more ++ tail)))
        ∙ bind (ahead k) _ _ (law.on (more ++ tail))
        ∙ bind _ _ _ (list_in_lem (y ∷ ys) (unfold non_empty in refl) (and_r _ _ o) n (omega arith))

    pub list_reads : (xs : List A) → non_empty xs ≡ true → every ok xs ≡ true
        → list_of k p (32 ∷ (parted sep (map P xs) ++ tail)) ≡ some (xs, tail)
    unfolding list_of
    list_reads xs e o =
        list_in_lem xs e o _ (let w = length_parted sep law.wide (map P xs) in
        let a = length-append (parted sep (map P xs)) tail in let m = length-map P xs in omega arith)
