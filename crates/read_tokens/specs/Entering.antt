-- Names put into the tables as they are read: "An accepted command puts its new names into the lowest free places in order of
-- mention".
use Rattle.std.specs.Prelude.{None, Option, Some, ◌≡◌, ℕ}
use Rattle.names.specs.Stored.{Rows, place_with, table_with, tables_of}
use Rattle.sets.specs.Answered.{answered}
use Rattle.text.specs.Language.{Name}
use Rattle.text.specs.Tables.{Table, Tables}
use Rattle.read_tokens.specs.declared.PairTables.{PairTables}

-- the name w, put into the table t of n places if it is new: o is its place, or there is none for it
pub record Enters (n : ℕ) (t t' : Table) (o : Option ℕ) (w : Name) : Type 0 where
  pub table : t' ≡ table_with n t w
  pub place : answered o ≡ place_with n t w

-- what f makes of two things that may be missing
unfoldable pub both : {A B C : Type 0} → (A → B → C) → Option A → Option B → Option C
both f (Some a) (Some b) = Some (f a b)
both f (Some a) None = None
both f None o = None

-- the tables of a pair, with those of the facilities and of the implementations
abbrev pub four : PairTables → Rows → Rows → Tables
four t f i = tables_of t.comps.table.rows t.vers.table.rows f i
