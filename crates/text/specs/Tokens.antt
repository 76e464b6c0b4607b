-- The tokens of a text (document 01, "Text and session"): "A token is as long as it can be."
use Rattle.std.specs.Prelude.{Bool, false, true, [], ◌∷◌, ℕ}
use Rattle.std.proofs.Math.Option.{Option, none, some}
use Rattle.sets.specs.Tests.{◌&◌, ◌=?◌, ◌or◌, if?◌then◌else◌, ~◌}
use Rattle.text.specs.Bytes.{Text, alnum, impl_byte, is_mark, name_byte, same, short, white}

pub data Token : Type 0 where
  -- a run of name bytes that begins with a letter or digit: a keyword or a name, or too long for one
  word : Text → Token
  -- an implementation, without its quotes
  quoted : Text → Token
  mark : ℕ → Token

-- the next token and the rest of the text; or the text ends; or what stands there is not of the language
pub data Next : Type 0 where
  token : Token → Text → Next
  end bad : Next

-- "Spaces, tabs, carriage returns and line feeds may stand between tokens; a comment runs from "{" to the first "}", and one left
-- open is not of the language": the text from the next token on, `none` where a comment is left open. The flag says that it
-- begins in a comment.
unfoldable pub skip : Bool → Text → Option Text
skip true [] = none
skip false [] = some []
skip true (c ∷ cs) = skip (~ (c =? 125)) cs
skip false (c ∷ cs) = let on = skip (c =? 123) cs in if? white c or c =? 123 then on else some (c ∷ cs)

-- the longest run of bytes that pass the test, at the start of a text
unfoldable pub run : (ℕ → Bool) → Text → Text
run f [] = []
run f (c ∷ cs) = let more = c ∷ run f cs in if? f c then more else []

-- and what follows it
unfoldable pub past : (ℕ → Bool) → Text → Text
past f [] = []
past f (c ∷ cs) = let more = past f cs in if? f c then more else c ∷ cs

-- the implementation w, where the text goes on with its closing quote
unfoldable pub closing : Text → Text → Next
closing w [] = bad
closing w (c ∷ cs) = if? c =? 34 & short w then token (quoted w) cs else bad

-- the token at the start of a text
unfoldable pub token_at : Text → Next
token_at [] = end
token_at (c ∷ cs) =
    let named = token (word (c ∷ run name_byte cs)) (past name_byte cs) in
    let string = closing (run impl_byte cs) (past impl_byte cs) in
    if? alnum c then named else if? is_mark c then token (mark c) cs else if? c =? 34 then string else bad

unfoldable pub skipped : Option Text → Next
skipped none = bad
skipped (some t) = token_at t

unfoldable pub next_token : Text → Next
next_token t = skipped (skip false t)

unfoldable pub is_token : Token → Token → Bool
is_token (word w) (word x) = same w x
is_token (word w) (quoted x) = false
is_token (word w) (mark c) = false
is_token (quoted w) (word x) = false
is_token (quoted w) (quoted x) = same w x
is_token (quoted w) (mark c) = false
is_token (mark c) (word x) = false
is_token (mark c) (quoted x) = false
is_token (mark c) (mark d) = c =? d
