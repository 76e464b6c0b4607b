-- What the answers of the code mean: tokens of document 01, read from a position of a text.
use Rattle.std.specs.Prelude.{Bool, None, Option as Found, Some, false, true, [], ◌≡◌, ◌%◌, ◌*◌, ◌+◌, ◌-◌, ◌<◌, ◌≤◌, ℕ, drop, get_or, length, take}
use Rattle.std.proofs.Math.Option.{Option, none, some}
use Rattle.model.specs.Maps.{or_else}
use Rattle.sets.specs.Tests.{◌=?◌, ◌or◌, ~◌}
use Rattle.text.specs.Bytes.{Text, impl_byte, name_byte, white}
use Rattle.text.specs.Tokens.{Next, bad, closing, end, mark, past, quoted, run, skip, token, token_at, word}
use Rattle.words.specs.declared.Token.{Token}
use Rattle.words.specs.declared.Token.TheVariants.{Word, Quoted, Mark, End}

-- the part of the text from position a up to position e
abbrev pub part : Text → ℕ → ℕ → Text
part t a e = take (e - a) (drop a t)

-- ---- white space and comments

-- the byte c may stand in a comment, or between tokens
unfoldable pub passes : Bool → ℕ → Bool
passes inside c = inside or white c or c =? 123

-- a comment is open after c: "a comment runs from "{" to the first "}""
unfoldable pub stays_open : Bool → ℕ → Bool
stays_open true c = ~ (c =? 125)
stays_open false c = c =? 123

unfoldable pub rest_from : Text → Found ℕ → Option Text
rest_from t (Some i) = some (drop i t)
rest_from t None = none

-- positions between `at` and the end of the text
abbrev pub SkipsWithin : Text → ℕ → Found ℕ → Type 0
SkipsWithin t at (Some i) = (at ≤ i) × (i ≤ length t)
SkipsWithin t at None = Unit {0}

-- the answer r from position `at` on
pub record Skips (t : Text) (at : ℕ) (r : Found ℕ) : Type 0 where
  pub is : rest_from t r ≡ skip false (drop at t)
  pub within : SkipsWithin t at r

-- ---- runs

-- the bytes of an implementation, or of a name
unfoldable pub in_run : Bool → ℕ → Bool
in_run true c = impl_byte c
in_run false c = name_byte c

-- the longest run of bytes that pass the test f, from position `at` on, ends at r
pub record RunsTo (f : ℕ → Bool) (t : Text) (at r : ℕ) : Type 0 where
  pub is : drop r t ≡ past f (drop at t)
  pub from : at ≤ r
  pub inside : r ≤ length t

-- ---- tokens

-- the implementation whose opening quote stands in front of the text
unfoldable pub quoted_from : Text → Next
quoted_from t = closing (run impl_byte t) (past impl_byte t)

unfoldable pub next_of : Text → Found Token → Next
next_of t (Some (Word a e)) = token (word (part t a e)) (drop e t)
next_of t (Some (Quoted a e)) = token (quoted (part t a e)) (drop (e + 1) t)
next_of t (Some (Mark c e)) = token (mark c) (drop e t)
next_of t (Some End) = end
next_of t None = bad

abbrev pub ReadsWithin : Text → ℕ → Found Token → Type 0
ReadsWithin t at (Some (Word a e)) = (at ≤ a) × (a < e) × (e ≤ length t)
ReadsWithin t at (Some (Quoted a e)) = (at ≤ a) × (a < e) × (e < length t)
ReadsWithin t at (Some (Mark c e)) = (at < e) × (e ≤ length t)
ReadsWithin t at (Some End) = Unit {0}
ReadsWithin t at None = Unit {0}

-- the answer r, read from position `at` on, is n
pub record Reads (t : Text) (at : ℕ) (n : Next) (r : Found Token) : Type 0 where
  pub is : next_of t r ≡ n
  pub within : ReadsWithin t at r

-- ---- words

-- the word that a token is
unfoldable pub word_of : Next → Option Text
word_of (token (word w) rest) = some w
word_of (token (quoted w) rest) = none
word_of (token (mark c) rest) = none
word_of end = none
word_of bad = none

-- the word that begins at the start of a text, empty where none does
unfoldable pub word_at : Text → Text
word_at t = or_else (word_of (token_at t)) []

-- ---- keywords

-- the hash of a word, below 64: of its last byte and its length
unfoldable pub hash_of : Text → ℕ
hash_of w = (get_or w (length w - 1) 0 + 8 * length w) % 64

-- the hashes of the keywords, as a set of numbers below 64
abbrev pub keyword_hashes : ℕ
keyword_hashes = 8360950420800018440
