-- What a Book holds: `plain_of` gives the plain book that its two arrays mean, whatever numbers stand in them. What is not there (a slot
-- that is free, the fields of a component that is not specified, a composition of what is no system) is masked.
use Rattle.std.specs.Prelude.{Bool, List, ◌%◌, ◌*◌, ◌+◌, ◌^◌, ℕ}
use Rattle.std.proofs.Math.Option.{Option, none}
use Rattle.book.specs.declared.Book.{Book as Stored}
use Rattle.book.specs.Layout.{implementation_at, kind_at, member_version_at, members_at, provides_at, requires_at, slots_of}
use Rattle.book.specs.Layout.{standard_at, usable_at}
use Rattle.model.specs.Book.{Book, Modules, Spec, Specs, System, Systems, components, facilities, implementations, versions}
use Rattle.model.specs.Lists.{first_from}
use Rattle.model.specs.Maps.{Map, only_if, option_map}
use Rattle.sets.specs.Sets.{Set, bit}
use Rattle.sets.specs.Tests.{◌&◌, ◌<?◌, ◌=?◌, ◌⇒◌, ◌≤?◌, all, any, if?◌then◌else◌, ~◌}
use Rattle.sets.specs.Sets as sets

-- the lowest slot that has the version v, where vs j is the version in slot j; a number of 64 or more is no version
unfoldable pub slot : (ℕ → ℕ) → ℕ → Option ℕ
slot vs v = if? v <? versions then first_from 8 0 (λ j. only_if (vs j =? v) j) else none

-- the versions among the first j of these numbers
unfoldable pub among_first : ℕ → (ℕ → ℕ) → Set
among_first j vs u = u <? versions & any j (λ k. vs k =? u)

unfoldable pub kind_is : List ℕ → ℕ → ℕ → Bool
kind_is n k c = c <? components & kind_at n c =? k

unfoldable pub specified_at : List ℕ → ℕ → Bool
specified_at n c = c <? components & ~ (kind_at n c =? 0)

-- the place of the version v of c
unfoldable pub place_of : List ℕ → ℕ → ℕ → Option ℕ
place_of n c v = if? specified_at n c then option_map (λ j. c * 8 + j) (slot (slots_of n c) v) else none

unfoldable pub facility_set : ℕ → Set
facility_set x = sets.below facilities (bit x)

unfoldable pub component_set : ℕ → Set
component_set x = sets.below components (bit x)

-- an implementation's number is one byte
unfoldable pub byte : ℕ → ℕ
byte x = x % implementations

-- the composition that stands at the place i
unfoldable pub composition_at : List ℕ → List ℕ → ℕ → Map ℕ
composition_at s n i m = only_if (component_set (members_at s i) m) (member_version_at n i m)

-- what a component is, from what stands in its fields
unfoldable pub spec_at : List ℕ → List ℕ → ℕ → Spec
spec_at s n c = record {
  prov = facility_set (provides_at s c);
  req = λ v. option_map (λ i. facility_set (requires_at s i)) (place_of n c v);
  std = standard_at n c;
}

unfoldable pub module_at : List ℕ → ℕ → Map ℕ
module_at n c v = option_map (λ i. byte (implementation_at n i)) (place_of n c v)

unfoldable pub system_at : List ℕ → List ℕ → ℕ → System
system_at s n c = record { uses = component_set (usable_at s c); comp = λ v. option_map (composition_at s n) (place_of n c v) }

unfoldable pub specs_of : List ℕ → List ℕ → Specs
specs_of s n c = only_if (specified_at n c) (spec_at s n c)

unfoldable pub modules_of : List ℕ → Modules
modules_of n c = only_if (kind_is n 2 c) (module_at n c)

unfoldable pub systems_of : List ℕ → List ℕ → Systems
systems_of s n c = only_if (kind_is n 3 c) (system_at s n c)

abbrev pub plain_of : List ℕ → List ℕ → Book
plain_of s n = record { specs = specs_of s n; modules = modules_of n; systems = systems_of s n }

-- the plain book that a Book holds
abbrev pub plain : Stored → Book
plain b = plain_of b.sets b.numbers

-- ---- the part of the question for 25 that is put to the arrays themselves: "are its numbers below their limits", "different versions"

unfoldable pub slot_low : List ℕ → ℕ → ℕ → Bool
slot_low n c j = slots_of n c j ≤? versions

-- no version stands in two slots
unfoldable pub slots_apart : List ℕ → ℕ → ℕ → ℕ → Bool
slots_apart n c j k = slots_of n c j <? versions ⇒ slots_of n c j =? slots_of n c k ⇒ j =? k

unfoldable pub slot_apart : List ℕ → ℕ → ℕ → Bool
slot_apart n c j = all 8 (slots_apart n c j)

-- the members of the version in slot j are below 32
unfoldable pub members_low : List ℕ → List ℕ → ℕ → ℕ → Bool
members_low s n c j = slots_of n c j <? versions ⇒ members_at s (c * 8 + j) <? 2 ^ 32

-- the usable components and the members of a system are below 32
unfoldable pub sets_low : List ℕ → List ℕ → ℕ → Bool
sets_low s n c = usable_at s c <? 2 ^ 32 & all 8 (members_low s n c)

unfoldable pub proper_at : List ℕ → List ℕ → ℕ → Bool
proper_at s n c = kind_at n c ≤? 3 & all 8 (slot_low n c) & all 8 (slot_apart n c) & (kind_at n c =? 3 ⇒ sets_low s n c)

unfoldable pub proper_if : List ℕ → List ℕ → ℕ → Bool
proper_if s n c = ~ (kind_at n c =? 0) ⇒ proper_at s n c

-- Of the remaining numbers, a standard version or a member's version of 64 or more is none that its component has (B1, B5), and
-- every number that an array can hold is below the limit of facilities and implementations.
unfoldable pub proper : List ℕ → List ℕ → Bool
proper s n = all components (proper_if s n)
