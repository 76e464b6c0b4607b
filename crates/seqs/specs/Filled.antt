-- A slice whose start was written.
use Rattle.std.specs.Prelude.{List, ◌++◌, drop, length}

-- p, and then what the slice held before
unfoldable pub filled : {A : Type 0} → List A → List A → List A
filled p old = p ++ drop (length p) old
