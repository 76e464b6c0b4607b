-- What B6 to B9 ask of one composition.
use Rattle.std.specs.Prelude.{Bool, ℕ}
use Rattle.model.specs.Book.{Book}
use Rattle.model.specs.Rules.{B6_at, B7_at, B8_at, B9_at}
use Rattle.sets.specs.Tests.{◌&◌}

unfoldable pub B6_to_B9_at : Book → ℕ → ℕ → Bool
B6_to_B9_at b s v = B6_at b.specs b.systems s v & B7_at b.specs b.systems s v & B8_at b.specs b.systems s v & B9_at b.specs b.systems s v
