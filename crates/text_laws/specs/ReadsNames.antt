-- Reading back what stands around names and keywords in a written command.
use Rattle.std.specs.Prelude.{false, true, List, [], ◌++◌, ◌∷◌, ◌≡◌, refl}
use Rattle.std.proofs.Common.{append_assoc, ◌∙◌, ap, subst, sym, arith}
use Rattle.std.proofs.Math.Option.{some}
use Rattle.model.specs.Lists.{every, non_empty}
use Rattle.sets.specs.TestLaws.{and_l, and_r, clash, fails, if-false, not_out}
use Rattle.sets.specs.Tests.{~◌}
use Rattle.text.specs.Bytes.{Text, among, bytes, keywords, name_byte, name_word, same, valid_name}
use Rattle.text.specs.Language.{Name, ahead, ahead_of, comma, give, key, list_of, name, names, names_up_to, semicolon, want, when}
use Rattle.text.specs.Tokens.{Token, is_token, next_token, token, word}
use Rattle.text.specs.Written.{commas, parted}
use Rattle.text_laws.specs.Reading.{ListLaw, bind, lexing, list_reads, name_spaced, next_space, stops, thence, valid_word}
use Rattle.text_laws.specs.Reading.{want_semicolon}
use Rattle.text_laws.specs.TextLaws.{map_same, same_out}

-- a name is no keyword
pub no_keyword : (k w : Text) → among k keywords ≡ true → name_word w ≡ true → same k w ≡ false
unfolding name_word
no_keyword k w a n = fails _ (λ e. clash (subst (λ (x : Text). among x keywords ≡ true) (same_out k w e) a)
    (not_out _ (and_r _ _ n)))

pub ahead_no : (k : Token) (t : Text) (j : Token) (u : Text) → next_token t ≡ token j u → is_token k j ≡ false
    → ahead k t ≡ some (false, t)
unfolding ahead ahead_of
ahead_no k t j u e f = ap (ahead_of k t) e ∙ ap some (if-false _ _ _ f)

-- ---- what stands behind a version's piece

pub data Tail : Text → Type 0 where
  semi : (u : Text) → Tail (bytes "; " ++ u)
  last : (u : Text) → Tail (bytes " end\n" ++ u)

pub tail_stops : (t : Text) → Tail t → stops name_byte t ≡ true
unfolding lexing
tail_stops t (semi u) = refl
tail_stops t (last u) = refl

pub tail_comma : (t : Text) → Tail t → ahead comma t ≡ some (false, t)
unfolding lexing
tail_comma t (semi u) = refl
tail_comma t (last u) = refl

pub tail_requires : (t : Text) → Tail t → ahead (key "requires") t ≡ some (false, t)
unfolding lexing
tail_requires t (semi u) = refl
tail_requires t (last u) = refl

ahead_semicolon : (t : Text) → ahead semicolon (32 ∷ (bytes "; " ++ t)) ≡ some (true, 32 ∷ t)
unfolding lexing
ahead_semicolon t = refl

pub ahead_requires : (c t : Text) → ahead (key "requires") ((bytes " requires " ++ c) ++ t) ≡ some (true, 32 ∷ (c ++ t))
unfolding lexing
ahead_requires c t = refl

pub ahead_std : (c t : Text) → ahead (key "std") (32 ∷ ((bytes "std " ++ c) ++ t)) ≡ some (true, 32 ∷ (c ++ t))
unfolding lexing
ahead_std c t = refl

-- a name ends before each of these
pub stop_provides : (t : Text) → stops name_byte (bytes " provides " ++ t) ≡ true
unfolding lexing
stop_provides t = refl

pub stop_use : (t : Text) → stops name_byte (bytes " use " ++ t) ≡ true
unfolding lexing
stop_use t = refl

pub stop_impl : (t : Text) → stops name_byte (bytes " impl \"" ++ t) ≡ true
unfolding lexing
stop_impl t = refl

pub stop_semicolon : (t : Text) → stops name_byte (bytes "; " ++ t) ≡ true
unfolding lexing
stop_semicolon t = refl

pub stop_point : (t : Text) → stops name_byte (bytes "." ++ t) ≡ true
unfolding lexing
stop_point t = refl

pub stop_equals : (t : Text) → stops name_byte (bytes " = " ++ t) ≡ true
unfolding lexing
stop_equals t = refl

-- ---- names

name_law : ListLaw comma name (λ w. w) (bytes ", ") valid_name (λ t. stops name_byte t ≡ true)
unfolding lexing
name_law = record { one = λ x t v h. name_spaced x t v h; on = λ t. refl; sep_stops = λ t. refl; wide = omega arith }

pub names_read : (xs : List Name) (t : Text) → non_empty xs ≡ true → every valid_name xs ≡ true → stops name_byte t ≡ true
    → ahead comma t ≡ some (false, t) → names (32 ∷ (commas xs ++ t)) ≡ some (xs, t)
unfolding names commas
names_read xs t e o h a =
    ap (λ (l : List Name). list_of comma name (32 ∷ (parted (bytes ", ") l ++ t))) (sym (map_same xs))
    ∙ list_reads comma name (λ w. w) (bytes ", ") valid_name _ name_law t h a xs e o

-- the next_token token of names is the first of them
first_name : (x : Name) (xs : List Name) (t : Text) → valid_name x ≡ true → stops name_byte t ≡ true
    → (u : Text) × (next_token (32 ∷ (commas (x ∷ xs) ++ t)) ≡ token (word x) u)
unfolding commas parted
first_name x [] t v h = (t, next_space _ ∙ valid_word x t v h)
first_name x (y ∷ ys) t v h = (
  _,
  next_space _ ∙ ap next_token (append_assoc x _ t)
      ∙ valid_word x ((bytes ", " ++ parted (bytes ", ") (y ∷ ys)) ++ t) v (unfold lexing in refl),
)

pub up_to_semicolon : (xs : List Name) (t : Text) → every valid_name xs ≡ true
    → names_up_to semicolon (32 ∷ (commas xs ++ (bytes "; " ++ t))) ≡ some (xs, 32 ∷ t)
unfolding names_up_to every when ~◌ give commas parted
up_to_semicolon [] t o = bind (ahead semicolon) _ _ (ahead_semicolon t)
up_to_semicolon (x ∷ xs) t o =
    let f = first_name x xs (bytes "; " ++ t) (and_l _ _ o) (unfold lexing in refl) in
    bind (ahead semicolon) _ _ (ahead_no semicolon _ (word x) f.0 f.1 (unfold is_token in refl))
    ∙ bind names _ _ (names_read (x ∷ xs) (bytes "; " ++ t) (unfold non_empty in refl) o (unfold lexing in refl) (unfold lexing in
    refl))
    ∙ thence (want semicolon) _ _ (want_semicolon t)
