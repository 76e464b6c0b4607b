-- A text at the start of a slice, whole or not at all.
use Rattle.std.specs.Prelude.{List, ℕ, length}
use Rattle.std.proofs.Math.Option.{Option, none, some}
use Rattle.seqs.specs.Filled.{filled}
use Rattle.sets.specs.Tests.{◌≤?◌, if?◌then◌else◌}
use Rattle.text.specs.Bytes.{Text}

-- how many bytes are written: none where the text does not fit the slice
unfoldable pub wrote : Text → List ℕ → Option ℕ
wrote w old = if? length w ≤? length old then some (length w) else none

-- the slice then: the bytes past the text, and the whole slice where it does not fit, are untouched
unfoldable pub starting_with : Text → List ℕ → List ℕ
starting_with w old = if? length w ≤? length old then filled w old else old
