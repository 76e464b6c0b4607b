-- What an answer of the code says that is a number or none.
use Rattle.std.specs.Prelude.{None, Option as Found, Some, ℕ}
use Rattle.std.proofs.Math.Option.{Option, none, some}

unfoldable pub answered : Found ℕ → Option ℕ
answered (Some k) = some k
answered None = none
