-- The language of commands: the monograph's Fig. 2 as document 01 changes it ("Text and session"), a reader for each production.
-- A reader takes what it reads from the start of a text, and leaves the rest.
use Rattle.std.specs.Prelude.{Bool, false, true, List, [], ◌∷◌, map, suc, zero, ℕ, length}
use Rattle.std.proofs.Math.Option.{Option, none, some}
use Prim.Native.String.{String}
use Rattle.model.specs.Maps.{and_then, only_if}
use Rattle.sets.specs.Tests.{if?◌then◌else◌, ~◌}
use Rattle.text.specs.Bytes.{Text, bytes, name_word, same}
use Rattle.text.specs.Tokens.{Next, Token, bad, end, is_token, mark, next_token, quoted, token, word}

abbrev pub Name : Type 0
Name = Text

-- members with their versions: `none` where "a member's ".V"" is absent
abbrev pub NamedMembers : Type 0
NamedMembers = List (Name × Option Name)

-- a command by names
pub data Said : Type 0 where
  -- component, facilities provided, versions with the facilities that each requires, standard version
  SPEC : Name → List Name → List (Name × List Name) → Name → Said
  -- component, versions with their implementations
  MOD : Name → List (Name × Name) → Said
  -- component, usable components, versions with their compositions
  SYS : Name → List Name → List (Name × NamedMembers) → Said
  -- component, version, facilities required, implementation
  MODVAR : Name → Name → List Name → Name → Said
  -- component, version, composition
  SYSVAR : Name → Name → NamedMembers → Said
  DELSPEC DELMOD DELSYS SUPPLIES STANDARD WHEREUSED : Name → Said
  DELMODVAR DELSYSVAR NEEDS PARTS : Name → Name → Said
  CHOICE : List Name → Said
  UNDEFINED UNUSED OUT : Said

-- ---- readers

abbrev pub Reader : Type 0 → Type 0
Reader A = Text → Option (A × Text)

infixl 10 ◌>>=◌
infixl 10 ◌>>◌
unfoldable pub ◌>>=◌ : {A B : Type 0} → Reader A → (A → Reader B) → Reader B
◌>>=◌ p f t = and_then (p t) (λ x. f x.0 x.1)

unfoldable pub ◌>>◌ : {A B : Type 0} → Reader A → Reader B → Reader B
◌>>◌ p q t = and_then (p t) (λ x. q x.1)

-- nothing is read, and x is given
unfoldable pub give : {A : Type 0} → A → Reader A
give x t = some (x, t)

-- what p reads, if it is there; else x, with nothing read
unfoldable pub when : {A : Type 0} → Bool → A → Reader A → Reader A
when true x p t = p t
when false x p t = some (x, t)

unfoldable pub ahead_of : Token → Text → Next → Option (Bool × Text)
ahead_of k t (token j rest) = some (if? is_token k j then (true, rest) else (false, t))
ahead_of k t end = some (false, t)
ahead_of k t bad = some (false, t)

-- whether the token k comes next; it is read if it does
unfoldable pub ahead : Token → Reader Bool
ahead k t = ahead_of k t (next_token t)

unfoldable pub want_of : Token → Next → Option (Unit {0} × Text)
want_of k (token j rest) = only_if (is_token k j) (tt, rest)
want_of k end = none
want_of k bad = none

-- the token k
unfoldable pub want : Token → Reader (Unit {0})
want k t = want_of k (next_token t)

unfoldable pub name_of : Next → Option (Name × Text)
name_of (token (word w) rest) = only_if (name_word w) (w, rest)
name_of (token (quoted w) rest) = none
name_of (token (mark c) rest) = none
name_of end = none
name_of bad = none

-- fac, cn, vn = ident
unfoldable pub name : Reader Name
name t = name_of (next_token t)

unfoldable pub quoted_of : Next → Option (Name × Text)
quoted_of (token (word w) rest) = none
quoted_of (token (quoted w) rest) = some (w, rest)
quoted_of (token (mark c) rest) = none
quoted_of end = none
quoted_of bad = none

-- imp = string
unfoldable pub imp : Reader Name
imp t = quoted_of (next_token t)

-- x {k x}: one or more, parted by the token k. The first argument bounds how many.
unfoldable pub list_in : {A : Type 0} → ℕ → Token → Reader A → Reader (List A)
list_in zero k p t = none
list_in (suc n) k p t = let more = list_in n k p in (do
  x ← p
  on ← ahead k
  xs ← when on [] more
  give (x ∷ xs)) t

-- A text has no more tokens than bytes, so the bound bounds nothing (`list_step`).
unfoldable pub list_of : {A : Type 0} → Token → Reader A → Reader (List A)
list_of k p t = list_in (length t) k p t

abbrev pub semicolon : Token
semicolon = mark 59

abbrev pub comma : Token
comma = mark 44

abbrev pub point : Token
point = mark 46

abbrev pub equals : Token
equals = mark 61

unfoldable pub key : String → Token
key s = word (bytes s)

-- ---- the productions, each from what stands behind its first word

-- facs = fac {"," fac}    cns = cn {"," cn}
unfoldable pub names : Reader (List Name)
names = list_of comma name

-- [facs] k: names that "may be absent", up to the token k
unfoldable pub names_up_to : Token → Reader (List Name)
names_up_to k = do
  absent ← ahead k
  when (~ absent) [] (do
    xs ← names
    want k
    give xs)

-- cn "." vn
unfoldable pub pair : Reader (Name × Name)
pair = do
  c ← name
  want point
  v ← name
  give (c, v)

-- ["requires" facs]: ""requires", where it stands, is followed by one or more facilities"
unfoldable pub requirements : Reader (List Name)
requirements = do
  there ← ahead (key "requires")
  when there [] names

-- ["std"] vn ["requires" facs]
unfoldable pub spec_version : Reader (Bool × (Name × List Name))
spec_version = do
  std ← ahead (key "std")
  v ← name
  rs ← requirements
  give (std, (v, rs))

-- the versions that carry "std"
unfoldable pub standards : List (Bool × (Name × List Name)) → List Name
standards [] = []
standards (x ∷ xs) = if? x.0 then x.1.0 ∷ standards xs else standards xs

-- "Exactly one version of a spec carries "std"."
unfoldable pub the_one : List Name → Reader Name
the_one [] t = none
the_one (v ∷ []) t = some (v, t)
the_one (v ∷ (w ∷ ws)) t = none

-- add_spec = "spec" cn "provides" [facs] ";" ["std"] vn ["requires" facs] {";" ["std"] vn ["requires" facs]} "end"
unfoldable pub add_spec : Reader Said
add_spec = do
  c ← name
  want (key "provides")
  ps ← names_up_to semicolon
  vs ← list_of semicolon spec_version
  want (key "end")
  s ← the_one (standards vs)
  give (SPEC c ps (map (λ x. x.1) vs) s)

-- vn "impl" imp
unfoldable pub mod_version : Reader (Name × Name)
mod_version = do
  v ← name
  want (key "impl")
  i ← imp
  give (v, i)

-- add-mod = "mod" cn ";" vn "impl" imp {";" vn "impl" imp} "end"
unfoldable pub add_mod : Reader Said
add_mod = do
  c ← name
  want semicolon
  is ← list_of semicolon mod_version
  want (key "end")
  give (MOD c is)

-- cn ["." vn]
unfoldable pub compo : Reader (Name × Option Name)
compo = do
  c ← name
  dot ← ahead point
  v ← when dot none (do
    w ← name
    give (some w))
  give (c, v)

-- compos = cn ["." vn] {"," cn ["." vn]}
unfoldable pub compos : Reader NamedMembers
compos = list_of comma compo

-- vn "=" compos
unfoldable pub sys_version : Reader (Name × NamedMembers)
sys_version = do
  v ← name
  want equals
  ms ← compos
  give (v, ms)

-- add-sys = "sys" cn "use" cns ";" vn "=" compos {";" vn "=" compos} "end"
unfoldable pub add_sys : Reader Said
add_sys = do
  c ← name
  want (key "use")
  us ← names
  want semicolon
  ks ← list_of semicolon sys_version
  want (key "end")
  give (SYS c us ks)

-- add-modvar = "modvar" cn "." vn ["requires" facs] "impl" imp
unfoldable pub add_modvar : Reader Said
add_modvar = do
  p ← pair
  rs ← requirements
  want (key "impl")
  i ← imp
  give (MODVAR p.0 p.1 rs i)

-- add-sysvar = "sysvar" cn "." vn "=" compos "end"
unfoldable pub add_sysvar : Reader Said
add_sysvar = do
  p ← pair
  want equals
  ms ← compos
  want (key "end")
  give (SYSVAR p.0 p.1 ms)

-- "choice" [facs] "end"
unfoldable pub choice : Reader Said
choice = do
  fs ← names_up_to (key "end")
  give (CHOICE fs)

-- del-spec = "delspec" cn, and the others of one component
unfoldable pub of_one : (Name → Said) → Reader Said
of_one f = do
  c ← name
  give (f c)

-- del-modvar = "delmodvar" cn "." vn, and the others of a pair
unfoldable pub of_pair : (Name → Name → Said) → Reader Said
of_pair f = do
  p ← pair
  give (f p.0 p.1)

-- SVCD-OP: each command's first word, and what stands behind it. "The words are those of the monograph's Fig. 2, without
-- "all-of", "in" and the file after "out"; `parts C.V` is added."
unfoldable pub grammar : List (Text × Reader Said)
grammar =
    (bytes "spec", add_spec) ∷
    (bytes "mod", add_mod) ∷
    (bytes "sys", add_sys) ∷
    (bytes "delspec", of_one DELSPEC) ∷
    (bytes "delmod", of_one DELMOD) ∷
    (bytes "delsys", of_one DELSYS) ∷
    (bytes "modvar", add_modvar) ∷
    (bytes "sysvar", add_sysvar) ∷
    (bytes "delmodvar", of_pair DELMODVAR) ∷
    (bytes "delsysvar", of_pair DELSYSVAR) ∷
    (bytes "supplies", of_one SUPPLIES) ∷
    (bytes "needs", of_pair NEEDS) ∷
    (bytes "choice", choice) ∷
    (bytes "standard", of_one STANDARD) ∷
    (bytes "undefined", give UNDEFINED) ∷
    (bytes "unused", give UNUSED) ∷
    (bytes "whereused", of_one WHEREUSED) ∷
    (bytes "parts", of_pair PARTS) ∷
    (bytes "out", give OUT) ∷ []

-- ---- a command

-- a command with the rest of the text; "quit" or the end of input; not of the language
pub data Read : Type 0 where
  said : Said → Text → Read
  over wrong : Read

unfoldable pub read_as : Option (Said × Text) → Read
read_as none = wrong
read_as (some x) = said x.0 x.1

unfoldable pub by_word : List (Text × Reader Said) → Text → Text → Read
by_word [] w t = wrong
by_word (x ∷ xs) w t = let here = read_as (x.1 t) in let there = by_word xs w t in if? same w x.0 then here else there

unfoldable pub command_of : Next → Read
command_of (token (word w) rest) = if? same w (bytes "quit") then over else by_word grammar w rest
command_of (token (quoted w) rest) = wrong
command_of (token (mark c) rest) = wrong
command_of end = over
command_of bad = wrong

-- "Each command is read from the rest of the text after the one before."
unfoldable pub command : Text → Read
command t = command_of (next_token t)
