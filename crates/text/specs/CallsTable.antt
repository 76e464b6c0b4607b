-- What a call takes and leaves, by hand from document 01: the question for 25 on tables, the lent slice, the host's call.
use Rattle.std.specs.Prelude.{Bool, false, true, List, [], ◌++◌, ◌∷◌, map, ◌≡◌, refl, ℕ, negsuc, pos, ℤ, replicate}
use Prim.Native.String.{String}
use Rattle.model.specs.Book.{Book, empty}
use Rattle.model.specs.Commands.{ADD-MOD, ADD-SPEC}
use Rattle.model.specs.PlainBook.{reached}
use Rattle.model.specs.Teaching.{K}
use Rattle.text.specs.Bytes.{bytes}
use Rattle.text.specs.Example.{all_of_text}
use Rattle.text.specs.Handed.{names_hold}
use Rattle.text.specs.LentSlice.{host_result, host_slice, slice_after, state_after}
use Rattle.text.specs.Tables.{Table, Tables}
use Rattle.text.specs.TablesTable.{table_of}

-- ---- the question for 25 on tables, put to the teaching book with other tables

-- K's names in the order of its text
abbrev comps' : List String
comps' = "probe" ∷ "valve" ∷ "loop" ∷ "tank" ∷ []

abbrev vers' : List String
vers' = "one" ∷ "v2" ∷ "p" ∷ "a" ∷ []

abbrev facs' : List String
facs' = "temp" ∷ "cool" ∷ "hold" ∷ []

abbrev handed : List (Tables × Bool)
handed =
    (table_of comps' vers' facs' [], true) ∷
    -- a name for no number in the book may stand there, and free places too; a name is in each table by itself
    (table_of ("probe" ∷ "valve" ∷ "loop" ∷ "tank" ∷ "" ∷ "" ∷ "in" ∷ []) vers' facs' ("" ∷ "x" ∷ []), true) ∷
    (table_of comps' ("one" ∷ "v2" ∷ "probe" ∷ "a" ∷ []) facs' [], true) ∷
    -- one name for each number in the book: a component, a version, a facility without one
    (table_of ("probe" ∷ "valve" ∷ "loop" ∷ []) vers' facs' [], false) ∷
    (table_of comps' ("one" ∷ "" ∷ "p" ∷ "a" ∷ []) facs' [], false) ∷
    (table_of comps' vers' ("temp" ∷ "cool" ∷ []) [], false) ∷
    -- a valid name: no keyword, no other byte, not too long, beginning with a letter or digit
    (table_of ("probe" ∷ "valve" ∷ "use" ∷ "tank" ∷ []) vers' facs' [], false) ∷
    (table_of comps' ("one" ∷ "v 2" ∷ "p" ∷ "a" ∷ []) facs' [], false) ∷
    (table_of comps' vers' ("temp" ∷ "cool" ∷ "abcdefghijklmnopqrstuvwxyz01-_AZ9" ∷ []) [], false) ∷
    (table_of comps' vers' ("temp" ∷ "cool" ∷ "_hold" ∷ []) [], false) ∷
    -- no name twice in a table, even where no number in the book has it
    (table_of ("probe" ∷ "valve" ∷ "probe" ∷ "tank" ∷ []) vers' facs' [], false) ∷
    (table_of comps' vers' facs' ("x" ∷ "y" ∷ "x" ∷ []), false) ∷ []

pub tables_judged : map (λ x. names_hold (record { book = K; tables = x.0 })) handed ≡ map (λ x. x.1) handed
unfolding all_of_text
tables_judged = refl

-- required facilities and implementations are numbers in the book too
abbrev probe_book : Book
probe_book = reached empty (ADD-SPEC 0 [] ((0, 0 ∷ []) ∷ []) 0 ∷ ADD-MOD 0 ((0, 0) ∷ []) ∷ [])

abbrev handed_too : List (Tables × Bool)
handed_too =
    (table_of ("a" ∷ []) ("v" ∷ []) ("f" ∷ []) ("./use" ∷ []), true) ∷
    (table_of ("a" ∷ []) ("v" ∷ []) [] ("i" ∷ []), false) ∷
    (table_of ("a" ∷ []) ("v" ∷ []) ("f" ∷ []) [], false) ∷
    (table_of ("a" ∷ []) ("v" ∷ []) ("f" ∷ []) ("i j" ∷ []), false) ∷ []

pub tables_judged_too : map (λ x. names_hold (record { book = probe_book; tables = x.0 })) handed_too ≡ map (λ x. x.1) handed_too
unfolding all_of_text
tables_judged_too = refl

-- ---- the lent slice

-- what comes back: the slice, the names of components that are held, the host's number
abbrev Left' : Type 0
Left' = List ℕ × Table × ℤ

abbrev lent : List ((List ℕ × String) × Left')
lent =
    -- the listing at its start, and the rest untouched
    ((replicate 16 7, "spec a provides; std v end undefined"), (bytes "1,0\n2,0\n2,a\n" ++ (7 ∷ 7 ∷ 7 ∷ 7 ∷ []), bytes "a" ∷ [], pos 12)) ∷
    -- a slice that is just long enough
    ((replicate 12 7, "spec a provides; std v end undefined"), (bytes "1,0\n2,0\n2,a\n", bytes "a" ∷ [], pos 12)) ∷
    -- a byte less: 22, zeros, and an empty session
    ((replicate 11 7, "spec a provides; std v end undefined"), (0 ∷ 0 ∷ 0 ∷ 0 ∷ 0 ∷ 0 ∷ 0 ∷ 0 ∷ 0 ∷ 0 ∷ 0 ∷ [], [], negsuc 21)) ∷
    -- a refused command and 23 are rows; "Only 22 refuses a session itself."
    ((replicate 10 7, "delspec a what"), (bytes "1,4\n2,23\n" ++ (7 ∷ []), [], pos 9)) ∷
    -- no text, no slice
    (([], ""), ([], [], pos 0)) ∷
    (([], "unused"), ([], [], negsuc 21)) ∷ []

abbrev back : List ℕ × String → Left'
back x = (slice_after x.0 (bytes x.1), (state_after x.0 (bytes x.1)).tables.comps, host_result x.0 (bytes x.1))

pub slices : map (λ x. back x.0) lent ≡ map (λ x. x.1) lent
unfolding all_of_text
slices = refl

-- below its limit of 2,147,483,647 bytes the host's call leaves the slice as the session does
pub host_slices : map (λ x. host_slice x.0.0 (bytes x.0.1)) lent ≡ map (λ x. x.1.0) lent
unfolding all_of_text
host_slices = refl
