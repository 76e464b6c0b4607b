-- The ten commands and what an accepted one changes (document 01, "The ten commands"; PRG-31, lines 4.0 to 14.5).
use Rattle.std.specs.Prelude.{false, List, ℕ}
use Rattle.std.proofs.Math.Option.{Option, none, some}
use Rattle.model.specs.Book.{Book, Spec, Specs, System, standard}
use Rattle.model.specs.Lists.{beside, set_of}
use Rattle.model.specs.Maps.{Map, change, option_map, or_else, put}
use Rattle.sets.specs.Sets.{Set}

-- Members with their versions, as a command gives them; `none`: "A composition may leave a member's version out".
abbrev pub Members : Type 0
Members = List (ℕ × Option ℕ)

-- Lists are raw: a number may be too large or stand twice, and a list may be empty. The questions judge them.
pub data Command : Type 0 where
  -- component, facilities provided, versions with the facilities that each requires, standard version
  ADD-SPEC : ℕ → List ℕ → List (ℕ × List ℕ) → ℕ → Command
  -- component, versions with their implementations
  ADD-MOD : ℕ → List (ℕ × ℕ) → Command
  -- component, usable components, versions with their compositions
  ADD-SYS : ℕ → List ℕ → List (ℕ × Members) → Command
  DEL-SPEC DEL-MOD DEL-SYS : ℕ → Command
  -- component, version, facilities required, implementation
  ADD-MODVAR : ℕ → ℕ → List ℕ → ℕ → Command
  -- component, version, composition
  ADD-SYSVAR : ℕ → ℕ → Members → Command
  DEL-MODVAR DEL-SYSVAR : ℕ → ℕ → Command

unfoldable pub no_facility : Set
no_facility f = false

-- "the member's standard version is stored" where its version is left out (lines 14.0 to 14.5)
unfoldable pub stored : Specs → Members → Map ℕ
stored S ms c = option_map (λ v. or_else v (standard S c)) (beside ms c)

-- the specification x with the version v requiring q (without v, where q is `none`)
unfoldable pub with_version : ℕ → Option Set → Spec → Spec
with_version v q x = record { prov = x.prov; req = put v q x.req; std = x.std }

-- the system y with the composition m for its version v (without v, where m is `none`)
unfoldable pub with_composition : ℕ → Option (Map ℕ) → System → System
with_composition v m y = record { uses = y.uses; comp = put v m y.comp }

-- "and only this changes":
unfoldable pub after : Book → Command → Book
-- "ADD-SPEC puts in the specification given;
after b (ADD-SPEC c ps vs s) = record {
  specs = put c (some (record { prov = set_of ps; req = λ v. option_map set_of (beside vs v); std = s })) b.specs;
  modules = b.modules;
  systems = b.systems;
}
-- DEL-SPEC takes it out, and a definition too."
after b (DEL-SPEC c) = record { specs = put c none b.specs; modules = put c none b.modules; systems = put c none b.systems }
-- "ADD-MOD and ADD-SYS put in the definition given;
after b (ADD-MOD c is) = record { specs = b.specs; modules = put c (some (beside is)) b.modules; systems = b.systems }
after b (ADD-SYS c us ks) = record {
  specs = b.specs;
  modules = b.modules;
  systems = put c (some (record { uses = set_of us; comp = λ v. option_map (stored b.specs) (beside ks v) })) b.systems;
}
-- DEL-MOD and DEL-SYS take it out."
after b (DEL-MOD c) = record { specs = b.specs; modules = put c none b.modules; systems = b.systems }
after b (DEL-SYS c) = record { specs = b.specs; modules = b.modules; systems = put c none b.systems }
-- "ADD-MODVAR puts in the version with requirements and implementation,
after b (ADD-MODVAR c v rs i) = record {
  specs = change c (with_version v (some (set_of rs))) b.specs;
  modules = change c (put v (some i)) b.modules;
  systems = b.systems;
}
-- ADD-SYSVAR with composition and empty requirements;
after b (ADD-SYSVAR c v ms) = record {
  specs = change c (with_version v (some no_facility)) b.specs;
  modules = b.modules;
  systems = change c (with_composition v (some (stored b.specs ms))) b.systems;
}
-- DEL-MODVAR and DEL-SYSVAR take it out with these."
after b (DEL-MODVAR c v) = record {
  specs = change c (with_version v none) b.specs;
  modules = change c (put v none) b.modules;
  systems = b.systems;
}
after b (DEL-SYSVAR c v) = record {
  specs = change c (with_version v none) b.specs;
  modules = b.modules;
  systems = change c (with_composition v none) b.systems;
}
