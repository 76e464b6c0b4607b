-- The contract form of a query whose rows go into a lent slice.
use Rattle.std.specs.Prelude.{List, [], map, ◌≡◌, ◌*◌, ◌+◌, ℕ, length}
use Rattle.model.specs.Book.{Pair, versions}
use Rattle.model.specs.Queries.{Reply, refused, the_components, the_facilities, the_pairs, the_parts, the_version}
use Rattle.seqs.specs.Filled.{filled}
use Rattle.sets.specs.Tests.{◌≤?◌, if?◌then◌else◌}

-- a pair in a row of the slice is one number: component × 64 + version
unfoldable pub row_of : Pair → ℕ
row_of p = p.0 * versions + p.1

-- "CHOICE, parts, ..: does the result fit the lent slice? no: 22", the last question, put to a slice of k places
unfoldable pub fitted : ℕ → Reply → Reply
fitted k (the_pairs xs) = if? length xs ≤? k then the_pairs xs else refused 22
fitted k (the_parts xs d) = if? length xs ≤? k then the_parts xs d else refused 22
fitted k (refused m) = refused m
fitted k (the_facilities fs) = the_facilities fs
fitted k (the_components cs) = the_components cs
fitted k (the_version v) = the_version v

-- 0 where it is accepted
unfoldable pub answer_of : Reply → ℕ
answer_of (refused m) = m
answer_of (the_pairs xs) = 0
answer_of (the_parts xs d) = 0
answer_of (the_facilities fs) = 0
answer_of (the_components cs) = 0
answer_of (the_version v) = 0

-- what is written: nothing where it is refused
unfoldable pub rows_of : Reply → List ℕ
rows_of (the_pairs xs) = map row_of xs
rows_of (the_parts xs d) = map row_of xs
rows_of (refused m) = []
rows_of (the_facilities fs) = []
rows_of (the_components cs) = []
rows_of (the_version v) = []

-- The answer a, the number of rows and the slice after the call, which held old before, are this reply: "A refused call .. writes nothing.
-- An accepted one leaves the slice past its result untouched."
pub record Listed (old : List ℕ) (a rows : ℕ) (new : List ℕ) (r : Reply) : Type 0 where
  pub answer_is : a ≡ answer_of r
  pub rows_are : rows ≡ length (rows_of r)
  pub slice_is : new ≡ filled (rows_of r) old
