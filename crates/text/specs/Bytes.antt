-- Texts as lists of bytes, and the bytes that document 01 names ("Text and session").
use Rattle.std.specs.Prelude.{Bool, false, true, List, [], ◌∷◌, ℕ, length}
use Prim.Native.Char.{code}
use Rattle.model.specs.Lists.{every, non_empty}
use Rattle.sets.specs.Tests.{◌&◌, ◌=?◌, ◌or◌, ◌≤?◌, ~◌}
use Prim.Native.String.{String, [] as «empty», ◌∷◌ as ◌then◌}

abbrev pub Text : Type 0
Text = List ℕ

-- a quoted text, as bytes (all of it ASCII)
unfoldable pub bytes : String → Text
bytes «empty» = []
bytes (c then s) = code c ∷ bytes s

-- the two texts are the same
unfoldable pub same : Text → Text → Bool
same [] [] = true
same [] (d ∷ ds) = false
same (c ∷ cs) [] = false
same (c ∷ cs) (d ∷ ds) = c =? d & same cs ds

-- the text w stands in the list
unfoldable pub among : Text → List Text → Bool
among w [] = false
among w (x ∷ xs) = same w x or among w xs

-- ---- bytes

-- "Spaces, tabs, carriage returns and line feeds"
unfoldable pub white : ℕ → Bool
white c = c =? 32 or c =? 9 or c =? 13 or c =? 10

-- ASCII letters and digits
unfoldable pub alnum : ℕ → Bool
alnum c = (97 ≤? c & c ≤? 122) or (65 ≤? c & c ≤? 90) or (48 ≤? c & c ≤? 57)

-- "letters, digits, "-" or "_""
unfoldable pub name_byte : ℕ → Bool
name_byte c = alnum c or c =? 45 or c =? 95

-- "letters, digits, ".", "/", "-", "_""
unfoldable pub impl_byte : ℕ → Bool
impl_byte c = name_byte c or c =? 46 or c =? 47

-- the four marks of Fig. 2: ";" "," "." "="
unfoldable pub is_mark : ℕ → Bool
is_mark c = c =? 59 or c =? 44 or c =? 46 or c =? 61

-- ---- names

-- "1 to 32"
unfoldable pub short : Text → Bool
short w = non_empty w & length w ≤? 32

-- "A word quoted in Fig. 2, and `parts`, is a keyword and no name"
unfoldable pub keywords : List Text
keywords =
    bytes "supplies" ∷ bytes "needs" ∷ bytes "choice" ∷ bytes "end" ∷ bytes "standard" ∷ bytes "undefined" ∷ bytes "unused" ∷
    bytes "whereused" ∷ bytes "in" ∷ bytes "out" ∷ bytes "quit" ∷ bytes "spec" ∷ bytes "provides" ∷ bytes "std" ∷
    bytes "requires" ∷
    bytes "all-of" ∷ bytes "mod" ∷ bytes "impl" ∷ bytes "sys" ∷ bytes "use" ∷ bytes "delspec" ∷ bytes "delmod" ∷ bytes "delsys" ∷
    bytes "modvar" ∷ bytes "sysvar" ∷ bytes "delmodvar" ∷ bytes "delsysvar" ∷ bytes "parts" ∷ []

-- a word, which is a run of name bytes that begins with a letter or digit, is a name
unfoldable pub name_word : Text → Bool
name_word w = length w ≤? 32 & ~ among w keywords

-- "Names are 1 to 32 letters, digits, "-" or "_", beginning with a letter or digit"
unfoldable pub valid_name : Text → Bool
valid_name [] = false
valid_name (c ∷ cs) = alnum c & every name_byte cs & name_word (c ∷ cs)

-- "an implementation is 1 to 32 letters, digits, ".", "/", "-", "_" in double quotes"; "an implementation may read like" a
-- keyword
unfoldable pub valid_implementation : Text → Bool
valid_implementation w = short w & every impl_byte w
