-- What the rows of a table of names mean: a `Table` of crate text. A row is the length of a name and then the name.
use Rattle.std.specs.Prelude.{Bool, true, List, [], ◌∷◌, suc, zero, ℕ, drop, get_or, length, take}
use Rattle.std.proofs.Math.Option.{Option, none}
use Rattle.model.specs.Book.{components, facilities, implementations, versions}
use Rattle.model.specs.Lists.{first_from, non_empty}
use Rattle.model.specs.Maps.{is_some, only_if}
use Rattle.sets.specs.Tests.{◌&◌, ◌≤?◌, if?◌then◌else◌, ~◌}
use Rattle.names.specs.declared.table.Table.{Table as TheTable}
use Rattle.names.specs.declared.Names.{Names}
use Rattle.text.specs.Language.{Name}
use Rattle.text.specs.Tables.{Table, Tables, enter, name_at, place}

-- the rows of a table, one for each place
abbrev pub Rows : Type 0
Rows = List (List ℕ)

-- the name in a row: none (the place is free) where the length is 0 or more than 32
unfoldable pub name_of : List ℕ → Name
name_of row = if? get_or row 0 0 ≤? 32 then take (get_or row 0 0) (drop 1 row) else []

-- the name at place k
unfoldable pub name_in : Rows → ℕ → Name
name_in rows k = name_of (get_or rows k [])

-- a name before a table; a free place before no name is none of the table's
unfoldable pub before : Name → Table → Table
before [] [] = []
before [] (x ∷ xs) = [] ∷ x ∷ xs
before (b ∷ bs) xs = (b ∷ bs) ∷ xs

-- the names at the first n places, up to the last that holds one
unfoldable pub up_to_last : ℕ → (ℕ → Name) → Table
up_to_last zero name = []
up_to_last (suc n) name = before (name 0) (up_to_last n (λ i. name (suc i)))

-- the table of n places
unfoldable pub table_of : ℕ → Rows → Table
table_of n rows = up_to_last n (name_in rows)

-- the table that a table of the code holds
abbrev pub table_in : {n : ℕ} → TheTable n → Table
table_in {n} t = table_of n t.rows

-- "Four tables hold names: 32 components, 64 versions, 64 facilities, 256 implementations."
unfoldable pub tables_of : Rows → Rows → Rows → Rows → Tables
tables_of c v f i = record {
  comps = table_of components c;
  vers = table_of versions v;
  facs = table_of facilities f;
  impls = table_of implementations i;
}

-- the four tables that are handed on together
abbrev pub tables : Names → Tables
tables n = tables_of n.comps.rows n.vers.rows n.facs.rows n.impls.rows

-- the lowest of n places that holds no name
unfoldable pub lowest_free : ℕ → Table → Option ℕ
lowest_free n t = first_from n 0 (λ i. only_if (~ non_empty (name_at t i)) i)

-- a word put into a table of n places, if it is new: where it then stands (`none`: "is there a place for each new name? no: 24")
unfoldable pub place_with : ℕ → Table → Name → Option ℕ
place_with n t w = if? length (enter t (w ∷ [])) ≤? n then place (enter t (w ∷ [])) w else none

-- and the table then: unchanged if there is no place
unfoldable pub table_with : ℕ → Table → Name → Table
table_with n t w = if? length (enter t (w ∷ [])) ≤? n then enter t (w ∷ []) else t

-- the words of a list put in one after another, and whether each found a place
unfoldable pub table_after : ℕ → Table → List Name → Table
table_after n t [] = t
table_after n t (w ∷ ws) = table_after n (table_with n t w) ws

unfoldable pub all_placed : ℕ → Table → List Name → Bool
all_placed n t [] = true
all_placed n t (w ∷ ws) = is_some (place_with n t w) & all_placed n (table_with n t w) ws
