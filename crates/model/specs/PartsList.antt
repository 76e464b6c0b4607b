-- The parts list (document 01, "The parts list").
use Rattle.std.specs.Prelude.{Bool, false, List, [], ◌∷◌, suc, zero, ℕ}
use Rattle.std.proofs.Math.Option.{Option}
use Rattle.model.specs.Book.{Book, Pair, Systems, components, has_version, is_system, member, versions}
use Rattle.model.specs.Lists.{first_from, greatest, if_found}
use Rattle.model.specs.Maps.{has, if_there, only_if, option_map, or_else}
use Rattle.sets.specs.Tests.{◌&◌, ◌=?◌, ◌or◌, all, any, count, ~◌}

-- "The parts list of a pair holds what the pair is made from: itself and all pairs reached through compositions. Only a system's pair
-- has members, those of its composition." The pair d, w is the pair c, v or is reached from it in up to n steps:
unfoldable pub part_in : ℕ → Systems → ℕ → ℕ → ℕ → ℕ → Bool
part_in zero Y c v d w = c =? d & v =? w
part_in (suc n) Y c v d w =
    let further = any components (λ e. has (member Y c v e) (λ x. part_in n Y e x d w)) in
    (c =? d & v =? w) or further

-- With B4 no chain is longer than the number of systems plus one, so the bound bounds nothing (`part_means`).
unfoldable pub is_part : Systems → ℕ → ℕ → ℕ → ℕ → Bool
is_part Y c v d w = part_in components Y c v d w

-- the pair d, w stands in the list
unfoldable pub listed : List Pair → ℕ → ℕ → Bool
listed [] d w = false
listed (q ∷ qs) d w = (d =? q.0 & w =? q.1) or listed qs d w

-- the members of the pair d, w are all listed
unfoldable pub members_listed : Systems → List Pair → ℕ → ℕ → Bool
members_listed Y l d w = all components (λ e. if_there (member Y d w e) (λ x. listed l e x))

-- the pair d, w is one of "the pairs not yet listed whose members are all listed", after the rows l
unfoldable pub due : Book → ℕ → ℕ → List Pair → ℕ → ℕ → Bool
due b c v l d w = has_version b.specs d w & ~ listed l d w & members_listed b.systems l d w & is_part b.systems c v d w

-- the pair that passes the test "with the lowest component, then the lowest version"
unfoldable pub first_pair : (ℕ → ℕ → Bool) → Option Pair
first_pair test = first_from components 0 (λ c. first_from versions 0 (λ v. only_if (test c v) (c, v)))

-- "At each row stands, of the pairs not yet listed whose members are all listed, the one with the lowest component, then the lowest
-- version." The rows l stand above, in any order:
unfoldable pub next_row : Book → ℕ → ℕ → List Pair → Option Pair
next_row b c v l = first_pair (due b c v l)

-- up to n rows more, below the rows l
unfoldable pub rows_from : ℕ → Book → ℕ → ℕ → List Pair → List Pair
rows_from zero b c v l = []
rows_from (suc n) b c v l = if_found (next_row b c v l) (λ q. q ∷ rows_from n b c v (q ∷ l))

-- 32 components with 8 versions each are 256 pairs, so the bound bounds nothing (`parts_whole`).
unfoldable pub parts : Book → ℕ → ℕ → List Pair
parts b c v = rows_from 256 b c v []

-- "A chain goes from a pair to one of its members, and so on; its length counts pairs." The longest, of up to n + 1 pairs:
unfoldable pub chain_in : ℕ → Systems → ℕ → ℕ → ℕ
chain_in zero Y c v = 1
chain_in (suc n) Y c v = suc (greatest components (λ d. or_else (option_map (λ w. chain_in n Y d w) (member Y c v d)) 0))

-- the longest of all (`chain_most`)
unfoldable pub longest_chain : Systems → ℕ → ℕ → ℕ
longest_chain Y c v = chain_in components Y c v

-- how many systems the book has
unfoldable pub how_many_systems : Systems → ℕ
how_many_systems Y = count components (is_system Y)
