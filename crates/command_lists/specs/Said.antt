-- What the slices of a call say, and what is gathered of each list of a command.
use Rattle.std.specs.Prelude.{Bool, true, List, [], ◌∷◌, map, ℕ, drop, length, take}
use Rattle.std.proofs.Math.Option.{Option, none, some}
use Rattle.model.specs.Book.{components, facilities, implementations, versions}
use Rattle.model.specs.Commands.{Members}
use Rattle.model.specs.Lists.{beside, every, firsts, non_empty, once, rising, set_of}
use Rattle.model.specs.Maps.{Map, if_there}
use Rattle.model.specs.Questions.{each_below, member_below}
use Rattle.command_lists.specs.Gathered.{Gathered, gather, nothing, step}
use Rattle.sets.specs.Sets.{Set, bit}
use Rattle.sets.specs.Tests.{◌&◌, ◌<?◌, ◌=?◌, ◌≤?◌, if?◌then◌else◌}

-- ---- lists of a command

-- a test that every entry passes
unfoldable pub always : {A : Type 0} → A → Bool
always a = true

-- a number below n with what stands beside it, whatever this is
unfoldable pub itself : {A : Type 0} → A → A
itself a = a

unfoldable pub plain_step : {A : Type 0} → ℕ → Gathered A → ℕ × A → Gathered A
plain_step n = step n always always always itself

-- versions with the facilities that each requires
unfoldable pub sets_step : Gathered Set → ℕ × List ℕ → Gathered Set
sets_step = step versions (each_below facilities) always always set_of

unfoldable pub sets_of : List (ℕ × List ℕ) → Gathered Set
sets_of vs = gather versions (each_below facilities) always always set_of nothing vs

-- versions with their implementations
unfoldable pub is_implementation : ℕ → Bool
is_implementation i = i <? implementations

unfoldable pub numbers_step : Gathered ℕ → ℕ × ℕ → Gathered ℕ
numbers_step = step versions is_implementation always always itself

unfoldable pub numbers_of : List (ℕ × ℕ) → Gathered ℕ
numbers_of is = gather versions is_implementation always always itself nothing is

-- members with their versions, where these are not left out
unfoldable pub is_version_or_none : Option ℕ → Bool
is_version_or_none o = if_there o (λ v. v <? versions)

unfoldable pub members_step : Gathered (Option ℕ) → ℕ × Option ℕ → Gathered (Option ℕ)
members_step = step components is_version_or_none always always itself

unfoldable pub members_of : Members → Gathered (Option ℕ)
members_of ms = gather components is_version_or_none always always itself nothing ms

-- versions with their compositions
unfoldable pub members_once : Members → Bool
members_once ms = once (firsts ms)

unfoldable pub compositions_step : Gathered (Map (Option ℕ)) → ℕ × Members → Gathered (Map (Option ℕ))
compositions_step = step versions (every member_below) non_empty members_once beside

unfoldable pub compositions_from : Gathered (Map (Option ℕ)) → List (ℕ × Members) → Gathered (Map (Option ℕ))
compositions_from = gather versions (every member_below) non_empty members_once beside

unfoldable pub compositions_of : List (ℕ × Members) → Gathered (Map (Option ℕ))
compositions_of ks = compositions_from nothing ks

-- usable components: nothing stands beside them
unfoldable pub usable_step : Gathered (Unit {0}) → ℕ × Unit {0} → Gathered (Unit {0})
usable_step = step components always always always itself

unfoldable pub alone : ℕ → ℕ × Unit {0}
alone c = (c, tt)

unfoldable pub usable_of : List ℕ → Gathered (Unit {0})
usable_of us = gather components always always always itself nothing (map alone us)

-- ---- slices of a call

-- Two lists that belong together: a number of the first with what f makes of the number at the same place of the second. Where one is
-- longer an entry follows that is not below the limit n, so that question 1 says no.
unfoldable pub paired : {A : Type 0} → ℕ → A → (ℕ → A) → List ℕ → List ℕ → List (ℕ × A)
paired n a f [] [] = []
paired n a f [] (y ∷ ys) = (n, a) ∷ []
paired n a f (x ∷ xs) [] = (n, a) ∷ []
paired n a f (x ∷ xs) (y ∷ ys) = (x, f y) ∷ paired n a f xs ys

-- "A facility is one of 64": a set of facilities is handed to a call as a number, and means its members.
unfoldable pub facilities_said : ℕ → List ℕ
facilities_said s = rising facilities (bit s)

unfoldable pub requirements_said : List ℕ → List ℕ → List (ℕ × List ℕ)
requirements_said vs qs = paired versions [] facilities_said vs qs

unfoldable pub implementations_said : List ℕ → List ℕ → List (ℕ × ℕ)
implementations_said vs is = paired versions 0 itself vs is

-- The mark that a member's version is left out: a number above every limit.
abbrev pub left_out : ℕ
left_out = 65535

unfoldable pub version_said : ℕ → Option ℕ
version_said x = if? x =? left_out then none else some x

unfoldable pub members_said : List ℕ → List ℕ → Members
members_said ms xs = paired components none version_said ms xs

-- For each version the length of its composition, and the members and their versions of all compositions one after the other. Where
-- these lists don't belong together an entry follows that is not below its limit.
unfoldable pub compositions_said : List ℕ → List ℕ → List ℕ → List ℕ → List (ℕ × Members)
compositions_said [] ls ms xs = if? non_empty ls then (versions, []) ∷ [] else (if? non_empty ms then (versions, []) ∷ [] else (if? non_empty xs then (versions, []) ∷ [] else []))
compositions_said (v ∷ vs) [] ms xs = (versions, []) ∷ []
compositions_said (v ∷ vs) (l ∷ ls) ms xs =
    let rest = compositions_said vs ls (drop l ms) (drop l xs) in
    if? l ≤? length ms & l ≤? length xs then (v, members_said (take l ms) (take l xs)) ∷ rest else (versions, []) ∷ []
