-- Numbers by name: the first of them, and a list of them.
use Rattle.std.specs.Prelude.{List, [], ◌∷◌, map, ℕ}
use Rattle.std.proofs.Math.Option.{Option, none, some}
use Rattle.sets.specs.Sets.{Set}
use Rattle.sets.specs.Tests.{if?◌then◌else◌}
use Rattle.text.specs.Bytes.{Text}
use Rattle.text.specs.Tables.{Table, name_at}
use Rattle.text.specs.Written.{before, by_name, parted}

-- the first of a list
unfoldable pub first_in : List ℕ → Option ℕ
first_in [] = none
first_in (x ∷ xs) = some x

-- the first of the numbers below n that pass the test
unfoldable pub first_by_name : Table → ℕ → Set → Option ℕ
first_by_name t n test = first_in (by_name t n test)

-- k, or `best` where it comes before k
unfoldable pub first_of_two : Table → ℕ → Option ℕ → ℕ
first_of_two t k none = k
first_of_two t k (some b) = if? before (name_at t k) (name_at t b) then k else b

-- the first of those above k is `best`; and k comes to them
unfoldable pub first_with : Table → Set → ℕ → Option ℕ → Option ℕ
first_with t test k best = if? test k then some (first_of_two t k best) else best

-- what f writes of each number that passes the test, by name, with the text p between each two
unfoldable pub listed : Text → (ℕ → Text) → Table → ℕ → Set → Text
listed p f t n test = parted p (map f (by_name t n test))
