-- Laws of the rows of a table: with no name in them, and with one written.
use Rattle.std.specs.Prelude.{true, List, [], ◌++◌, ◌∷◌, ◌≡◌, ◌<◌, ℕ, length, replicate, set}
use Rattle.std.proofs.Common.{◌∙◌, ap, arith, get_or-set_other}
use Rattle.std.proofs.Math.Seq.{get_or-set_same}
use Rattle.std.proofs.lemmas.List.{get_or-replicate}
use Rattle.names.specs.PlaceLaws.{short_there}
use Rattle.names.specs.Stored.{Rows, name_in, name_of, table_of}
use Rattle.names.specs.UpToLastLaws.{last_more, last_none}
use Rattle.text.specs.Bytes.{short}
use Rattle.text.specs.Language.{Name}

-- rows with no name
pub no_rows : (n : ℕ) (row : List ℕ) → name_of row ≡ [] → table_of n (replicate n row) ≡ []
unfolding table_of name_in
no_rows n row e =
    last_none n (name_in (replicate n row)) (λ i l. ap name_of (get_or-replicate {A = List ℕ} n i row [] l) ∙ e)

-- a row with a name, put behind the last name
pub row_put : (n : ℕ) (rows : Rows) (k : ℕ) (row : List ℕ) (w : Name) → length rows ≡ n → k < n → k ≡ length (table_of n rows)
    → short w ≡ true → name_of row ≡ w → table_of n (set rows k row) ≡ table_of n rows ++ (w ∷ [])
unfolding table_of name_in
row_put n rows k row w l h e s q =
    last_more n (name_in rows) (name_in (set rows k row)) k w (short_there w s) h e
    (ap name_of (get_or-set_same rows k row [] (omega arith)) ∙ q)
    (λ i o d. ap name_of (get_or-set_other rows k i row [] d))
