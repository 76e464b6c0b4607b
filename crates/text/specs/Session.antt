-- A session: what each command does to book and tables, and the listing (document 01, "Text and session").
use Rattle.std.specs.Prelude.{Bool, List, [], ◌++◌, ◌∷◌, map, ◌%◌, ◌+◌, ◌/◌, suc, zero, ℕ, length}
use Rattle.std.proofs.Math.Option.{Option, none, some}
use Rattle.model.specs.Book.{Book, Pair, empty, is_module, is_system, specified}
use Rattle.model.specs.Commands.{Command, DEL-MOD, DEL-MODVAR, DEL-SPEC, DEL-SYS, DEL-SYSVAR, after}
use Rattle.model.specs.Lists.{every}
use Rattle.model.specs.Maps.{is_some}
use Rattle.model.specs.PlainBook.{answer}
use Rattle.model.specs.Queries.{Query, Reply, reply, the_components, the_facilities, the_pairs, the_parts, the_version}
use Rattle.sets.specs.Tests.{◌<?◌, if?◌then◌else◌}
use Rattle.text.specs.Bytes.{Text, bytes}
use Rattle.text.specs.Language.{CHOICE, DELMOD, DELMODVAR, DELSPEC, DELSYS, DELSYSVAR, MOD, MODVAR, NEEDS, Name, OUT, PARTS}
use Rattle.text.specs.Language.{Read, SPEC, STANDARD, SUPPLIES, SYS, SYSVAR, Said, UNDEFINED, UNUSED, WHEREUSED, command}
use Rattle.text.specs.Language.{names, over, said, wrong}
use Rattle.text.specs.Tables.{Tables, entered, fits, joined, mod_names, mod_numbered, modvar_names, modvar_numbered, name_at}
use Rattle.text.specs.Tables.{no_names, numbers, place, spec_names, spec_numbered, sys_names, sys_numbered, sysvar_names}
use Rattle.text.specs.Tables.{sysvar_numbered}
use Rattle.text.specs.Written.{written}
use Rattle.model.specs.Queries as queries

pub record State : Type 0 where
  pub book : Book
  pub tables : Tables

-- an empty session
abbrev pub fresh : State
fresh = record { book = empty; tables = no_names }

-- what comes of a command
pub data Result : Type 0 where
  -- the number of the first no
  refused : ℕ → Result
  -- accepted: the state afterwards
  changed : State → Result
  -- the query's rows
  rows : List Text → Result
  -- the book's text
  text : Text → Result

-- ---- the ten commands

-- the answer n of the plain book; s is the state if the command is accepted
unfoldable pub decided : ℕ → State → Result
decided zero s = changed s
decided (suc n) s = refused (suc n)

unfoldable pub told : Book → Tables → Command → Result
told b t k = decided (answer b k) (record { book = after b k; tables = t })

-- "Adding commands: is there a place for each new name? no: 24." "An accepted command puts its new names into the lowest free
-- places ..; the questions see the numbers that they would get."
unfoldable pub add : State → Tables → (Tables → Command) → Result
add s names k =
    let t = entered s.tables names in
    if? fits t then told s.book t (k t) else refused 24

-- "a name that stands in no table has no number: the component or version then doesn't exist": n is the number of that no
unfoldable pub for_component : ℕ → Option ℕ → (ℕ → Result) → Result
for_component n none f = refused n
for_component n (some c) f = f c

-- the same of a pair: a version without a number gives 10, where the question before it has its yes of the component
unfoldable pub for_pair : ℕ → (ℕ → Bool) → Option ℕ → Option ℕ → (ℕ → ℕ → Result) → Result
for_pair n there none v f = refused n
for_pair n there (some c) none f = if? there c then refused 10 else refused n
for_pair n there (some c) (some v) f = f c v

-- ---- queries

-- "component and version"
unfoldable pub pair_row : Tables → Pair → Text
pair_row t p = name_at t.comps p.0 ++ (bytes "," ++ name_at t.vers p.1)

unfoldable pub shown : Tables → Reply → Result
shown t (queries.refused n) = refused n
shown t (the_facilities fs) = rows (map (name_at t.facs) fs)
shown t (the_components cs) = rows (map (name_at t.comps) cs)
shown t (the_version v) = rows (name_at t.vers v ∷ [])
shown t (the_pairs ps) = rows (map (pair_row t) ps)
shown t (the_parts ps d) = rows (map (pair_row t) ps)

unfoldable pub asked : State → Query → Result
asked s q = shown s.tables (reply s.book q)

-- ---- one command

unfoldable pub of_component : State → ℕ → Name → (ℕ → Result) → Result
of_component s n c f = for_component n (place s.tables.comps c) f

unfoldable pub of_version : State → ℕ → (ℕ → Bool) → Name → Name → (ℕ → ℕ → Result) → Result
of_version s n there c v f = for_pair n there (place s.tables.comps c) (place s.tables.vers v) f

unfoldable pub carry : State → Said → Result
carry s (SPEC c ps vs d) = add s (spec_names c ps vs) (λ t. spec_numbered t c ps vs d)
carry s (MOD c is) = add s (mod_names c is) (λ t. mod_numbered t c is)
carry s (SYS c us ks) = add s (sys_names c us ks) (λ t. sys_numbered t c us ks)
carry s (MODVAR c v rs i) = add s (modvar_names c v rs i) (λ t. modvar_numbered t c v rs i)
carry s (SYSVAR c v ms) = add s (sysvar_names c v ms) (λ t. sysvar_numbered t c v ms)
carry s (DELSPEC c) = of_component s 4 c (λ c. told s.book s.tables (DEL-SPEC c))
carry s (DELMOD c) = of_component s 6 c (λ c. told s.book s.tables (DEL-MOD c))
carry s (DELSYS c) = of_component s 7 c (λ c. told s.book s.tables (DEL-SYS c))
carry s (DELMODVAR c v) = of_version s 6 (is_module s.book.modules) c v (λ c v. told s.book s.tables (DEL-MODVAR c v))
carry s (DELSYSVAR c v) = of_version s 7 (is_system s.book.systems) c v (λ c v. told s.book s.tables (DEL-SYSVAR c v))
carry s (SUPPLIES c) = of_component s 4 c (λ c. asked s (queries.SUPPLIES c))
carry s (STANDARD c) = of_component s 4 c (λ c. asked s (queries.STANDARD c))
carry s (WHEREUSED c) = of_component s 4 c (λ c. asked s (queries.WHEREUSED c))
carry s (NEEDS c v) = of_version s 4 (specified s.book.specs) c v (λ c v. asked s (queries.NEEDS c v))
carry s (PARTS c v) = of_version s 4 (specified s.book.specs) c v (λ c v. asked s (queries.PARTS c v))
-- "and CHOICE of it finds nothing"
carry s (CHOICE fs) =
    if? every (λ f. is_some (place s.tables.facs f)) fs then asked s
    (queries.CHOICE (numbers s.tables.facs fs)) else rows []
carry s UNDEFINED = asked s queries.UNDEFINED
carry s UNUSED = asked s queries.UNUSED
carry s OUT = text (written s.book s.tables)

-- only an accepted one of the ten commands changes the state
unfoldable pub afterwards : State → Result → State
afterwards s (refused n) = s
afterwards s (changed s') = s'
afterwards s (rows rs) = s
afterwards s (text w) = s

-- ---- the listing

-- "Numbers are written in base ten." The first argument bounds how many digits there are.
unfoldable pub digits : ℕ → ℕ → Text
digits zero n = []
digits (suc k) n = let more = digits k (n / 10) ++ ((48 + n % 10) ∷ []) in if? n <? 10 then (48 + n) ∷ [] else more

-- A number has no more digits than it counts, and 0 has one, so the bound bounds nothing (`decimal_step`).
unfoldable pub decimal : ℕ → Text
decimal n = digits (suc n) n

-- the row of command i: its number, a comma, what follows it, a line feed
unfoldable pub row : ℕ → Text → Text
row i w = decimal i ++ (bytes "," ++ (w ++ bytes "\n"))

-- "Rows: command number from 1, a comma, 0 or the refusal number. After a 0 come the query's rows: command number, then one name,
-- or component and version. "out" is followed by the book's text"
unfoldable pub lines : ℕ → Result → Text
lines i (refused n) = row i (decimal n)
lines i (changed s) = row i (decimal 0)
lines i (rows rs) = row i (decimal 0) ++ joined (map (row i) rs)
lines i (text w) = row i (decimal 0) ++ w

-- ---- the session

-- what follows when the next command, number i, is read; `go` is the session after it
unfoldable pub on_read : (State → Text → Text × State) → ℕ → State → Read → Text × State
-- ""quit" or the end of input ends it without a row."
on_read go i s over = ([], s)
-- "Is the command of the language? no: 23, and the session ends."
on_read go i s wrong = (row i (decimal 23), s)
on_read go i s (said k rest) = let r = carry s k in let more = go (afterwards s r) rest in (lines i r ++ more.0, more.1)

-- the listing of up to n commands from number i on, and the state that is reached
unfoldable pub session_from : ℕ → ℕ → State → Text → Text × State
session_from zero i s t = ([], s)
session_from (suc n) i s t = on_read (λ s' rest. session_from n (suc i) s' rest) i s (command t)

-- A text has no more commands than bytes, so the bound bounds nothing (`session_step_lem`).
unfoldable pub session : Text → Text × State
session t = session_from (length t) 1 fresh t
