-- The rows of a parts list, as they are found one after another.
use Rattle.std.specs.Prelude.{List, ◌++◌, map, ◌≡◌, ◌-◌, ◌≤◌, ℕ, length, replicate}
use Rattle.model.specs.Book.{Book, Pair}
use Rattle.model.specs.PartsList.{listed, parts, rows_from}
use Rattle.parts.specs.Listed.{row_number}
use Rattle.parts.specs.Marks.{marked}
use Rattle.seqs.specs.Filled.{filled}

-- Before the row k: the rows stand at the start of the array a, and their pairs are marked in t; the list goes on as `rows_from` says.
pub record RowsTo (b : Book) (c v k : ℕ) (t a : List ℕ) : Type 0 where
  pub above : List Pair
  pub back : List Pair
  pub size : length t ≡ 32
  pub table : (d w : ℕ) → marked t d w ≡ listed back d w
  pub goes_on : above ++ rows_from (256 - k) b c v back ≡ parts b c v
  pub count : k ≡ length above
  pub array : a ≡ filled (map row_number above) (replicate 256 0)

-- the whole list stands at the start of the array a, and has k rows
pub record AllRows (b : Book) (c v k : ℕ) (a : List ℕ) : Type 0 where
  pub count : k ≡ length (parts b c v)
  pub few : k ≤ 256
  pub array : a ≡ filled (map row_number (parts b c v)) (replicate 256 0)
