-- The language, by hand from document 01 and Fig. 2: each form of a command with what is read of it and what is left; each way of
-- not being of the language.
use Rattle.std.specs.Prelude.{List, [], ◌++◌, ◌∷◌, map, ◌≡◌, refl}
use Rattle.std.proofs.Math.Option.{none, some}
use Prim.Native.String.{String}
use Rattle.text.specs.Bytes.{Text, bytes}
use Rattle.text.specs.Example.{all_of_text}
use Rattle.text.specs.Language.{CHOICE, DELMOD, DELMODVAR, DELSPEC, DELSYS, DELSYSVAR, MOD, MODVAR, NEEDS, Name, OUT, PARTS}
use Rattle.text.specs.Language.{Read, SPEC, STANDARD, SUPPLIES, SYS, SYSVAR, UNDEFINED, UNUSED, WHEREUSED, command, over}
use Rattle.text.specs.Language.{said, wrong}

abbrev word_list : List String → List Name
word_list ws = map bytes ws

-- 32 bytes, and 33
abbrev longest : String
longest = "abcdefghijklmnopqrstuvwxyz01-_AZ"

abbrev too_long : String
too_long = "abcdefghijklmnopqrstuvwxyz01-_AZ9"

-- a text, and what `command` reads of it
abbrev pub forms : List (Text × Read)
forms = (
  bytes "spec a provides f, g; v; std w requires h, i; x requires h end spec",
  said (SPEC (bytes "a") (word_list ("f" ∷ "g" ∷ []))
      ((bytes "v", []) ∷ (bytes "w", word_list ("h" ∷ "i" ∷ [])) ∷ (bytes "x", word_list ("h" ∷ [])) ∷ []) (bytes "w"))
      (bytes " spec"),
) ∷
    -- "The facilities after "provides" may be absent"
    (bytes "spec a provides ; std v end", said (SPEC (bytes "a") [] ((bytes "v", []) ∷ []) (bytes "v")) []) ∷
    -- a version that stands twice is of the language
    (
      bytes "spec a provides;std v;v end",
      said (SPEC (bytes "a") [] ((bytes "v", []) ∷ (bytes "v", []) ∷ []) (bytes "v")) [],
    ) ∷ (
      bytes "mod a; v impl \"x/y.z-_\"; w impl \"spec\" end",
      said (MOD (bytes "a") ((bytes "v", bytes "x/y.z-_") ∷ (bytes "w", bytes "spec") ∷ [])) [],
    ) ∷
    -- no spaces where none are needed
    (bytes "mod a;v impl\"x\"end", said (MOD (bytes "a") ((bytes "v", bytes "x") ∷ [])) []) ∷
    -- "and so may a member's ".V""
    (
      bytes "sys a use b, c; v = b.w, c; w=c end",
      said (SYS (bytes "a") (word_list ("b" ∷ "c" ∷ []))
          ((bytes "v", (bytes "b", some (bytes "w")) ∷ (bytes "c", none) ∷ []) ∷ (bytes "w", (bytes "c", none) ∷ []) ∷ [])) [],
    ) ∷
    (bytes "delspec a", said (DELSPEC (bytes "a")) []) ∷
    (bytes "delmod a", said (DELMOD (bytes "a")) []) ∷
    (bytes "delsys a", said (DELSYS (bytes "a")) []) ∷ (
      bytes "modvar a.v requires f, g impl \"x\"",
      said
          (MODVAR (bytes "a") (bytes "v") (word_list ("f" ∷ "g" ∷ [])) (bytes "x")) [],
    ) ∷
    (bytes "modvar a.v impl \"x\" end", said (MODVAR (bytes "a") (bytes "v") [] (bytes "x")) (bytes " end")) ∷ (
      bytes "sysvar a.v = b, c.w end",
      said (SYSVAR (bytes "a") (bytes "v") ((bytes "b", none) ∷ (bytes "c", some (bytes "w")) ∷ [])) [],
    ) ∷
    (bytes "delmodvar a.v", said (DELMODVAR (bytes "a") (bytes "v")) []) ∷
    (bytes "delsysvar a.v", said (DELSYSVAR (bytes "a") (bytes "v")) []) ∷
    (bytes "supplies a", said (SUPPLIES (bytes "a")) []) ∷
    (bytes "needs a.v.w", said (NEEDS (bytes "a") (bytes "v")) (bytes ".w")) ∷
    (bytes "choice f, g end", said (CHOICE (word_list ("f" ∷ "g" ∷ []))) []) ∷
    (bytes "choice end", said (CHOICE []) []) ∷
    (bytes "standard a", said (STANDARD (bytes "a")) []) ∷
    (bytes "undefined {open", said UNDEFINED (bytes " {open")) ∷
    (bytes "unused", said UNUSED []) ∷
    (bytes "whereused a", said (WHEREUSED (bytes "a")) []) ∷
    (bytes "parts a.v", said (PARTS (bytes "a") (bytes "v")) []) ∷
    (bytes "out \"x\"", said OUT (bytes " \"x\"")) ∷
    -- ""quit" or the end of input"
    (bytes "quit }", over) ∷
    ([], over) ∷
    (bytes " \t\r\n{x}", over) ∷
    -- spaces and comments on both sides of every token; a comment runs "to the first "}"", and any byte may stand in it
    (bytes "{a}needs{b}\ta\r{}\n.{{}v{c}", said (NEEDS (bytes "a") (bytes "v")) (bytes "{c}")) ∷
    (bytes "needs a{" ++ (0 ∷ 11 ∷ 255 ∷ bytes "}.v"), said (NEEDS (bytes "a") (bytes "v")) []) ∷
    (bytes "delspec {a} b } c", said (DELSPEC (bytes "b")) (bytes " } c")) ∷
    -- "A token is as long as it can be": names of 32 bytes, "-" and "_" among them, digits first, keywords within
    (bytes "delspec " ++ bytes longest, said (DELSPEC (bytes longest)) []) ∷
    (bytes "delspec 2-spec_out-", said (DELSPEC (bytes "2-spec_out-")) []) ∷
    (bytes "needs specs.END", said (NEEDS (bytes "specs") (bytes "END")) []) ∷
    (bytes "modvar a.v impl\"" ++ (bytes longest ++ bytes "\""), said (MODVAR (bytes "a") (bytes "v") [] (bytes longest)) []) ∷ []

pub forms_read : map (λ x. command x.0) forms ≡ map (λ x. x.1) forms
unfolding all_of_text
forms_read = refl

-- texts that are not of the language
abbrev pub not_of_the_language : List Text
not_of_the_language = map bytes (
    -- no first word of a command; words of Fig. 2 that no command uses; a name; a word with a capital
    "}" ∷ "end" ∷ "in \"x\"" ∷ "all-of" ∷ "a" ∷ "Spec a provides; std v end" ∷ ". a" ∷ "\"out\"" ∷ "outs" ∷
    -- a comment left open
    "{" ∷ "{ {}{" ∷ "delspec {a" ∷
    -- exactly one "std"
    "spec a provides ; v end" ∷ "spec a provides ; std v; std w end" ∷ "spec a provides; std std v end" ∷
    -- what must stand
    "spec provides; std v end" ∷ "spec a; std v end" ∷ "spec a provides std v end" ∷ "spec a provides; end" ∷
    "spec a provides; std v" ∷
    "spec a provides f,; std v end" ∷ "spec a provides; std v; end" ∷ "spec a provides; std v requires end" ∷
    "spec a provides; std v requires all-of b end" ∷
    "mod a; end" ∷ "mod a v impl \"x\" end" ∷ "mod a; v \"x\" end" ∷ "mod a; v impl x end" ∷ "mod a; v impl \"x\"; end" ∷
    "mod a; v impl \"x\"" ∷
    "sys a; v = b end" ∷ "sys a use; v = b end" ∷ "sys a use b; v = end" ∷ "sys a use b; v b end" ∷ "sys a use b; v = b., c end" ∷
    "sys a use b; v = b" ∷ "sys a use b; end" ∷ "modvar a impl \"x\"" ∷ "modvar a.v" ∷ "modvar a.v requires impl \"x\"" ∷
    "sysvar a.v = end" ∷ "sysvar a.v = b" ∷ "sysvar a = b end" ∷ "delspec" ∷ "delspec ;" ∷ "delmodvar a" ∷ "delmodvar a." ∷
    "needs a v" ∷
    "choice" ∷ "choice f" ∷ "choice f g end" ∷ "choice , end" ∷ "parts a" ∷ "supplies \"a\"" ∷
    -- a keyword is no name; `in`, `all_of` and `parts` are keywords too
    "delspec in" ∷ "delspec all-of" ∷ "delspec parts" ∷ "delspec std" ∷ "needs a.end" ∷ "choice use end" ∷
    "spec quit provides; std v end" ∷
    -- a name begins with a letter or digit
    "delspec -a" ∷ "delspec _a" ∷
    -- an implementation is closed, and not empty
    "mod a; v impl \"x end" ∷ "mod a; v impl \"\" end" ∷ "mod a; v impl \"x y\" end" ∷ "mod a; v impl \"x{}\" end" ∷
    -- any other byte
    "delspec $" ∷ [])
    ++ ((bytes "delspec " ++ bytes too_long) ∷
    (bytes "modvar a.v impl \"" ++ (bytes too_long ++ bytes "\"")) ∷
    (bytes "delspec " ++ (11 ∷ bytes "a")) ∷ (bytes "delspec " ++ (0 ∷ bytes "a")) ∷ (bytes "delspec " ++ (195 ∷ 164 ∷ [])) ∷ [])

pub none_read : map command not_of_the_language ≡ map (λ x. wrong) not_of_the_language
unfolding all_of_text
none_read = refl
