-- A table in which no place before the last name is free.
use Rattle.std.specs.Prelude.{true, ◌≡◌, ℕ}
use Rattle.model.specs.Lists.{every, non_empty}
use Rattle.names.specs.Stored.{Rows, table_of}

-- no place before the last name is free among the n places
pub record Kept (n : ℕ) (rows : Rows) : Type 0 where
  pub held : every non_empty (table_of n rows) ≡ true
