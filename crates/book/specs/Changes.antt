-- The plain book with something put in, given as a set or a map: what the writers leave. (Document 01's `after` says the same of the raw
-- lists of a command; where nothing is given but numbers the writers cite it.)
use Rattle.std.specs.Prelude.{false, true, List, ◌≡◌, ◌*◌, ◌+◌, ◌<◌, ℕ, get_or}
use Rattle.std.proofs.Math.Option.{none, some}
use Rattle.book.specs.Plain.{byte, facility_set, plain_of, proper}
use Rattle.model.specs.Book.{Book, Spec, Specs, System, components, has_version, is_defined, specified, versions}
use Rattle.model.specs.Commands.{no_facility, with_composition, with_version}
use Rattle.model.specs.Limits.{how_many}
use Rattle.model.specs.Maps.{Map, change, only_if, put}
use Rattle.model.specs.Rules.{p}
use Rattle.sets.specs.Sets.{Set, bit}
use Rattle.sets.specs.Tests.{◌&◌, ◌<?◌}

unfoldable pub with_spec : Book → ℕ → Spec → Book
with_spec b c x = record { specs = put c (some x) b.specs; modules = b.modules; systems = b.systems }

unfoldable pub with_module : Book → ℕ → Map ℕ → Book
with_module b c i = record { specs = b.specs; modules = put c (some i) b.modules; systems = b.systems }

unfoldable pub with_system : Book → ℕ → System → Book
with_system b c y = record { specs = b.specs; modules = b.modules; systems = put c (some y) b.systems }

-- a version of a component that is not defined, with requirements
unfoldable pub with_undefined : Book → ℕ → ℕ → Set → Book
with_undefined b c v q = record { specs = change c (with_version v (some q)) b.specs; modules = b.modules; systems = b.systems }

-- a version of a module, with requirements and implementation
unfoldable pub with_modvar : Book → ℕ → ℕ → Set → ℕ → Book
with_modvar b c v q x = record {
  specs = change c (with_version v (some q)) b.specs;
  modules = change c (put v (some x)) b.modules;
  systems = b.systems;
}

-- a version of a system, with empty requirements and a composition
unfoldable pub with_sysvar : Book → ℕ → ℕ → Map ℕ → Book
with_sysvar b c v m = record {
  specs = change c (with_version v (some no_facility)) b.specs;
  modules = b.modules;
  systems = change c (with_composition v (some m)) b.systems;
}

-- ---- what is handed in

-- the composition with the members ms, and for each the version that stands in row v of rows
unfoldable pub row_of : ℕ → List ℕ → ℕ → Map ℕ
row_of ms rows v m = only_if (bit ms m) (get_or rows (v * 32 + m) 0)

-- for each version of c the number that stands at it in the list
unfoldable pub implementations_of : Specs → ℕ → List ℕ → Map ℕ
implementations_of S c given v = only_if (has_version S c v) (byte (get_or given v 0))

-- for each version v of c the composition with the members at v, and their versions in row v
unfoldable pub compositions_of : Specs → ℕ → List ℕ → List ℕ → Map (Map ℕ)
compositions_of S c members rows v = only_if (has_version S c v) (row_of (get_or members v 0) rows v)

-- a system from what is handed in: the usable components, and for each version its composition
unfoldable pub system_from : Specs → ℕ → ℕ → List ℕ → List ℕ → System
system_from S c us members rows = record { uses = bit us; comp = compositions_of S c members rows }

-- a specification that has no version yet
unfoldable pub blank : Set → ℕ → Spec
blank p std = record { prov = p; req = λ v. none; std = std }

-- a specification from what is handed in, with the versions of the set that are below k: each requires what stands at it in the list
unfoldable pub spec_from : Set → Set → List ℕ → ℕ → ℕ → Spec
spec_from p vs requirements std k = record { prov = p; req = λ v. only_if (v <? k & vs v) (facility_set (get_or requirements v 0)); std = std }

-- a specified component that is not defined
pub record TakesDefinition (s n : List ℕ) (c : ℕ) : Type 0 where
  pub component< : c < components
  pub is_proper : proper s n ≡ true
  pub is_specified : specified (plain_of s n).specs c ≡ true
  pub is_undefined : is_defined (plain_of s n).modules (plain_of s n).systems c ≡ false

-- a component that is not specified
pub record TakesSpec (s n : List ℕ) (c : ℕ) : Type 0 where
  pub component< : c < components
  pub is_proper : proper s n ≡ true
  pub is_unspecified : specified (plain_of s n).specs c ≡ false

-- a specified component with fewer than eight versions
pub record HasRoom (s n : List ℕ) (c : ℕ) : Type 0 where
  pub component< : c < components
  pub is_proper : proper s n ≡ true
  pub is_specified : specified (plain_of s n).specs c ≡ true
  pub is_room : how_many (plain_of s n).specs c < 8

-- what a writer that puts in the version v of c asks
pub record TakesVersion (s n : List ℕ) (c v : ℕ) : Type 0 where
  pub room : HasRoom s n c
  pub version< : v < versions
  pub is_new : has_version (plain_of s n).specs c v ≡ false

-- what a writer that takes out the version v of c asks
pub record HoldsVersion (s n : List ℕ) (c v : ℕ) : Type 0 where
  pub component< : c < components
  pub is_proper : proper s n ≡ true
  pub is_there : has_version (plain_of s n).specs c v ≡ true

-- what a writer leaves: two arrays that mean the plain book b, and whose own numbers are in order
pub record Holds (s n : List ℕ) (b : Book) : Type 0 where
  pub is : plain_of s n ≡ b
  pub is_proper : proper s n ≡ true
