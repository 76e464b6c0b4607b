-- What is handed to the writers of a system: the members at each version, and their versions as they are stored.
use Rattle.std.specs.Prelude.{List, ◌≡◌, ◌%◌, ◌*◌, ◌/◌, ◌<◌, ◌≤◌, ℕ, get_or, length}
use Rattle.std.specs.Prelude.{Option as Found}
use Rattle.std.proofs.Math.Option.{Option}
use lib.Seq.{paste}
use Rattle.model.specs.Book.{Specs}
use Rattle.model.specs.Maps.{Map, and_then, option_map, or_else}
use Rattle.command_lists.specs.Answers.{stores}
use Rattle.command_lists.specs.declared.gathered.Gathered.{Gathered as Kept}

-- the version of the member m of a composition that is stored, or 0 where m is no member
unfoldable pub stored_in : Specs → Map (Option ℕ) → ℕ → ℕ
stored_in S k m = or_else (stores S k m) 0

-- the version of the member m at the version v that is stored, or 0 where m is no member
unfoldable pub stored_at : Specs → Map (Map (Option ℕ)) → ℕ → ℕ → ℕ
stored_at S given v m = or_else (and_then (given v) (λ k. stores S k m)) 0

-- for each version a row of 32: the number at the place i
abbrev pub row_number : Specs → Map (Map (Option ℕ)) → ℕ → ℕ
row_number S given i = stored_at S given (i / 32) (i % 32)

-- the members at the version v, as a number, or 0 where it has no composition
unfoldable pub members_at : Map (Kept (Found ℕ) 32) → ℕ → ℕ
members_at given v = or_else (option_map (λ k. k.listed) (given v)) 0

-- the first n of so many numbers are those that f gives
pub record Filled (f : ℕ → ℕ) (size : ℕ) (xs : List ℕ) (n : ℕ) : Type 0 where
  pub long : length xs ≡ size
  pub is : (i : ℕ) → i < n → get_or xs i 0 ≡ f i

-- row v is put in
unfoldable pub row_put : List ℕ → ℕ → List ℕ → List ℕ
row_put rows v row = paste rows (v * 32) row 32

-- the rows before v are filled in, and the others are empty
pub record RowsBefore (S : Specs) (given : Map (Map (Option ℕ))) (rows : List ℕ) (v : ℕ) : Type 0 where
  pub long : length rows ≡ 2048
  pub filled_in : (i : ℕ) → i < v * 32 → get_or rows i 0 ≡ row_number S given i
  pub empty : (i : ℕ) → v * 32 ≤ i → i < 2048 → get_or rows i 0 ≡ 0
