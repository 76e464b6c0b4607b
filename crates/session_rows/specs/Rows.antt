-- What comes of a query, by its reply, and its rows as the code writes them.
use Rattle.std.specs.Prelude.{Err, List, Ok, Result as Found, [], ◌∷◌, map, ◌%◌, ◌/◌, ℕ}
use Rattle.std.specs.Borrow.{Bor}
use Rattle.model.specs.Book.{versions}
use Rattle.names.specs.Stored.{table_in}
use Rattle.names.specs.declared.table.Table.{Table as TheTable}
use Rattle.query_replies.specs.Replied.{numbers_in}
use Rattle.refusal.specs.Numbers.{number}
use Rattle.refusal.specs.declared.Refusal.{Refusal}
use Rattle.text.specs.Bytes.{Text}
use Rattle.text.specs.Session.{Result, pair_row, refused, row, rows}
use Rattle.text.specs.Tables.{Table, Tables, joined, name_at}

-- what comes of a query: its rows, or the refusal; `ws` gives the rows of what was found
unfoldable pub comes_of : {A : Type 0} → (A → List Text) → Found A Refusal → Result
comes_of ws (Ok x) = rows (ws x)
comes_of ws (Err e) = refused (number e)

-- the rows of command i: "command number, then one name, or component and version"
unfoldable pub rows_of : ℕ → List Text → Text
rows_of i ws = joined (map (row i) ws)

-- "Facilities and components rise by number": the names of a set's numbers
unfoldable pub names_in : Table → ℕ → List Text
names_in t set = map (name_at t) (numbers_in set)

-- the name of one number
unfoldable pub one_of : Table → ℕ → List Text
one_of t k = name_at t k ∷ []

-- the two tables that rows of pairs are written with
abbrev pub pair_tables : TheTable 32 → TheTable 64 → Tables
pair_tables c v = record { comps = table_in c; vers = table_in v; facs = []; impls = [] }

-- the pair that the number k of a lent slice stands for, component × 64 + version
unfoldable pub pair_in : Tables → ℕ → Text
pair_in t k = pair_row t (k / versions, k % versions)

-- the pairs of a slice
unfoldable pub pairs_in : Tables → List ℕ → List Text
pairs_in t ks = map (pair_in t) ks

unfoldable pub listed_in : Tables → Bor (List ℕ) → List Text
listed_in t ks = pairs_in t ks.now
