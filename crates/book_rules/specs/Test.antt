-- The test for 25 of a Book, as a test that computes: "are its numbers below their limits, has each specified component 1 to 8 different
-- versions, and do B1 to B9 hold?"
use Rattle.std.specs.Prelude.{Bool, List, ℕ}
use Rattle.book.specs.Plain.{plain_of, proper, specs_of}
use Rattle.model.specs.Limits.{one_to_eight}
use Rattle.model.specs.Rules.{B1_to_B9}
use Rattle.sets.specs.Tests.{◌&◌}

unfoldable pub passes : List ℕ → List ℕ → Bool
passes s n = proper s n & one_to_eight (specs_of s n) & B1_to_B9 (plain_of s n)
