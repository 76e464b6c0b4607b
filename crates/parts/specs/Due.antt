-- The next row, from tables: the parts stand in m, the pairs that are listed in t.
use Rattle.std.specs.Prelude.{Bool, List, None, Option as Found, Some, ℕ}
use Rattle.std.proofs.Math.Option.{Option, none, some}
use Rattle.model.specs.Book.{Pair, Systems, components, member, versions}
use Rattle.model.specs.Lists.{first_from}
use Rattle.model.specs.Maps.{if_there, only_if}
use Rattle.parts.specs.Marks.{marked}
use Rattle.sets.specs.Tests.{◌&◌, all, ~◌}

-- if e is a member of the pair d, w, it is listed with its version
unfoldable pub member_in : Systems → List ℕ → ℕ → ℕ → ℕ → Bool
member_in Y t d w e = if_there (member Y d w e) (λ x. marked t e x)

-- "whose members are all listed"
unfoldable pub members_in : Systems → List ℕ → ℕ → ℕ → Bool
members_in Y t d w = all components (member_in Y t d w)

-- "of the pairs not yet listed whose members are all listed"
unfoldable pub due_in : Systems → List ℕ → List ℕ → ℕ → ℕ → Bool
due_in Y m t d w = (marked m d w & ~ marked t d w) & members_in Y t d w

-- the pair of d with the lowest version that passes the test
unfoldable pub first_version : (ℕ → ℕ → Bool) → ℕ → Option Pair
first_version test d = first_from versions 0 (λ w. only_if (test d w) (d, w))

-- what was found: a pair, or none
unfoldable pub pair_found : Found Pair → Option Pair
pair_found (Some q) = some q
pair_found None = none
