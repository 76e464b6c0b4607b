-- Laws of rows with the names of a table.
use Rattle.std.specs.Prelude.{◌++◌, ◌≡◌, ℕ}
use Rattle.std.proofs.Common.{ap, ap₂}
use Rattle.names.specs.Stored.{table_in, tables, tables_of}
use Rattle.names.specs.declared.Names.{Names}
use Rattle.text.specs.Bytes.{Text, bytes}
use Rattle.text.specs.Session.{pair_row, row}
use Rattle.text.specs.Tables.{name_at}
use Rattle.write_bytes.specs.Writes.{Writes}
use Rattle.write_bytes.specs.WritesLaws.{writes_as}
use Rattle.write_bytes.specs.declared.writer.Writer.{Writer}

pub writes_row_as : (i : ℕ) {v w : Text} {a b : Writer} → v ≡ w → Writes (row i v) a b → Writes (row i w) a b
writes_row_as i e f = writes_as (ap (row i) e) f

pub writes_two_names_as : (i : ℕ) {x y v w : Text} {a b : Writer} → x ≡ v → y ≡ w → Writes (row i (x ++ (bytes "," ++ y))) a b
    → Writes (row i (v ++ (bytes "," ++ w))) a b
writes_two_names_as i e f g = writes_as (ap₂ (λ (p q : Text). row i (p ++ (bytes "," ++ q))) e f) g

pub writes_pair_row_as : (i : ℕ) (t : Names) (c v : ℕ) {x y : Text} {a b : Writer} → x ≡ name_at (table_in t.comps) c
    → y ≡ name_at (table_in t.vers) v → Writes (row i (x ++ (bytes "," ++ y))) a b → Writes (row i (pair_row (tables t) (c, v))) a b
unfolding pair_row tables_of
writes_pair_row_as i t c v e f g = writes_two_names_as i e f g
