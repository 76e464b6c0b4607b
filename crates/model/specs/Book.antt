-- What a book holds (document 01, "What a book holds"; PRG-31, lines 1.0 to 1.6). Sets and maps are functions, so no order in a
-- book counts: two books are equal when they agree at every number.
use Rattle.std.specs.Prelude.{Bool, ℕ}
use Rattle.std.proofs.Math.Option.{Option, none}
use Rattle.model.specs.Maps.{Map, and_then, has, is_some, option_map, or_else}
use Rattle.sets.specs.Sets.{Set}
use Rattle.sets.specs.Tests.{◌or◌}

-- "A component is a number below 32, a version below 64, an implementation below 256. A facility is one of 64"
abbrev pub components : ℕ
components = 32

abbrev pub versions : ℕ
versions = 64

abbrev pub facilities : ℕ
facilities = 64

abbrev pub implementations : ℕ
implementations = 256

-- "A component may be specified: it then has the facilities that it provides, 1 to 8 versions, the facilities that each version
-- requires, and one standard version."
pub record Spec : Type 0 where
  pub prov : Set
  pub req : Map Set
  pub std : ℕ

-- "a system: a set of usable components and, for each version, a composition, which gives each of its members one version"
pub record System : Type 0 where
  pub uses : Set
  pub comp : Map (Map ℕ)

abbrev pub Specs : Type 0
Specs = Map Spec

-- "a module (one implementation for each version)"
abbrev pub Modules : Type 0
Modules = Map (Map ℕ)

abbrev pub Systems : Type 0
Systems = Map System

pub record Book : Type 0 where
  pub specs : Specs
  pub modules : Modules
  pub systems : Systems

-- "A fresh book is empty." (line 3.0)
abbrev pub empty : Book
empty = record { specs = λ c. none; modules = λ c. none; systems = λ c. none }

-- "A pair is a specified component with one of its versions"
abbrev pub Pair : Type 0
Pair = ℕ × ℕ

-- ---- reading a book

unfoldable pub specified : Specs → ℕ → Bool
specified S c = is_some (S c)

-- the facilities that c provides
unfoldable pub provides : Specs → ℕ → Set
provides S c f = has (S c) (λ x. x.prov f)

-- the facilities that the version v of c is specified to require: `none` where c has no version v
unfoldable pub required : Specs → ℕ → ℕ → Option Set
required S c v = and_then (S c) (λ x. x.req v)

-- v is a version of c: c with v is a pair
unfoldable pub has_version : Specs → ℕ → ℕ → Bool
has_version S c v = is_some (required S c v)

-- the facilities that the version v of c is specified to require
unfoldable pub requires : Specs → ℕ → ℕ → Set
requires S c v f = has (required S c v) (λ q. q f)

-- the standard version (0 where c is not specified; nothing then rests on it)
unfoldable pub standard : Specs → ℕ → ℕ
standard S c = or_else (option_map (λ x. x.std) (S c)) 0

unfoldable pub is_module : Modules → ℕ → Bool
is_module M c = is_some (M c)

-- the implementation of the version v of c
unfoldable pub implementation : Modules → ℕ → ℕ → Option ℕ
implementation M c v = and_then (M c) (λ i. i v)

unfoldable pub is_system : Systems → ℕ → Bool
is_system Y s = is_some (Y s)

-- "A specified component may be defined, either as a module .. or as a system"
unfoldable pub is_defined : Modules → Systems → ℕ → Bool
is_defined M Y c = is_module M c or is_system Y c

-- the usable components of the system s
unfoldable pub usable : Systems → ℕ → Set
usable Y s c = has (Y s) (λ y. y.uses c)

-- the composition of the version v of the system s
unfoldable pub composition : Systems → ℕ → ℕ → Option (Map ℕ)
composition Y s v = and_then (Y s) (λ y. y.comp v)

unfoldable pub composed : Systems → ℕ → ℕ → Bool
composed Y s v = is_some (composition Y s v)

-- the version that this composition gives to c: `none` where c is not one of its members
unfoldable pub member : Systems → ℕ → ℕ → Map ℕ
member Y s v c = and_then (composition Y s v) (λ m. m c)

-- the members of this composition
unfoldable pub is_member : Systems → ℕ → ℕ → Set
is_member Y s v c = is_some (member Y s v c)
