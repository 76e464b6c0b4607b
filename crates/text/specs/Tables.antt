-- The four tables of names, and a command by names turned into one by numbers (document 01, "Text and session").
use Rattle.std.specs.Prelude.{Bool, List, [], ◌++◌, ◌∷◌, map, suc, ℕ, get_or, length}
use Rattle.std.proofs.Math.Option.{Option, none, some}
use Rattle.model.specs.Book.{components, facilities, implementations, versions}
use Rattle.model.specs.Commands.{ADD-MOD, ADD-MODVAR, ADD-SPEC, ADD-SYS, ADD-SYSVAR, Command, Members}
use Rattle.model.specs.Maps.{option_map, or_else}
use Rattle.sets.specs.Tests.{◌&◌, ◌≤?◌, if?◌then◌else◌}
use Rattle.text.specs.Bytes.{among, same}
use Rattle.text.specs.Language.{Name, NamedMembers}

-- The names at the places 0, 1, .. of a table. A place that holds no byte is free, and so is every place behind the last.
abbrev pub Table : Type 0
Table = List Name

-- "Four tables hold names: 32 components, 64 versions, 64 facilities, 256 implementations."
pub record Tables : Type 0 where
  pub comps : Table
  pub vers : Table
  pub facs : Table
  pub impls : Table

abbrev pub no_names : Tables
no_names = record { comps = []; vers = []; facs = []; impls = [] }

-- the name of a number
unfoldable pub name_at : Table → ℕ → Name
name_at t n = get_or t n []

-- the number of a name is the place that holds it: `none` for "a name that stands in no table"
unfoldable pub place : Table → Name → Option ℕ
place [] w = none
place (x ∷ xs) w = let later = option_map suc (place xs w) in if? same w x then some 0 else later

-- the number of a name that stands in the table (0 else; nothing then rests on it)
unfoldable pub number : Table → Name → ℕ
number t w = or_else (place t w) 0

-- ---- new names

-- one list after another
unfoldable pub joined : {A : Type 0} → List (List A) → List A
joined [] = []
joined (x ∷ xs) = x ++ joined xs

-- "An accepted command puts its new names into the lowest free places in order of mention": in a session the free places are
-- those behind the last name, since "A place is held until the session ends."
unfoldable pub enter : Table → List Name → Table
enter t [] = t
enter t (w ∷ ws) = enter (if? among w t then t else (t ++ (w ∷ []))) ws

unfoldable pub entered : Tables → Tables → Tables
entered t m = record {
  comps = enter t.comps m.comps;
  vers = enter t.vers m.vers;
  facs = enter t.facs m.facs;
  impls = enter t.impls m.impls;
}

-- "is there a place for each new name?", asked of the tables with the new names
unfoldable pub fits : Tables → Bool
fits t =
    length t.comps ≤? components & length t.vers ≤? versions & length t.facs ≤? facilities
    & length t.impls ≤? implementations

-- ---- the names that an adding command mentions, in order

unfoldable pub given : List (Option Name) → List Name
given [] = []
given (none ∷ xs) = given xs
given (some x ∷ xs) = x ∷ given xs

unfoldable pub member_names : NamedMembers → List Name
member_names ms = map (λ m. m.0) ms

unfoldable pub member_versions : NamedMembers → List Name
member_versions ms = given (map (λ m. m.1) ms)

unfoldable pub spec_names : Name → List Name → List (Name × List Name) → Tables
spec_names c ps vs = record { comps = c ∷ []; vers = map (λ x. x.0) vs; facs = ps ++ joined (map (λ x. x.1) vs); impls = [] }

unfoldable pub mod_names : Name → List (Name × Name) → Tables
mod_names c is = record { comps = c ∷ []; vers = map (λ x. x.0) is; facs = []; impls = map (λ x. x.1) is }

unfoldable pub sys_names : Name → List Name → List (Name × NamedMembers) → Tables
sys_names c us ks = record {
  comps = c ∷ us ++ joined (map (λ x. member_names x.1) ks);
  vers = joined (map (λ x. x.0 ∷ member_versions x.1) ks);
  facs = [];
  impls = [];
}

unfoldable pub modvar_names : Name → Name → List Name → Name → Tables
modvar_names c v rs i = record { comps = c ∷ []; vers = v ∷ []; facs = rs; impls = i ∷ [] }

unfoldable pub sysvar_names : Name → Name → NamedMembers → Tables
sysvar_names c v ms = record { comps = c ∷ member_names ms; vers = v ∷ member_versions ms; facs = []; impls = [] }

-- ---- an adding command by the numbers in the tables t: "the questions see the numbers that they would get"

unfoldable pub numbers : Table → List Name → List ℕ
numbers t ws = map (number t) ws

unfoldable pub numbered_members : Tables → NamedMembers → Members
numbered_members t ms = map (λ m. (number t.comps m.0, option_map (number t.vers) m.1)) ms

unfoldable pub spec_numbered : Tables → Name → List Name → List (Name × List Name) → Name → Command
spec_numbered t c ps vs s =
    ADD-SPEC (number t.comps c) (numbers t.facs ps) (map (λ x. (number t.vers x.0, numbers t.facs x.1)) vs)
    (number t.vers s)

unfoldable pub mod_numbered : Tables → Name → List (Name × Name) → Command
mod_numbered t c is = ADD-MOD (number t.comps c) (map (λ x. (number t.vers x.0, number t.impls x.1)) is)

unfoldable pub sys_numbered : Tables → Name → List Name → List (Name × NamedMembers) → Command
sys_numbered t c us ks =
    ADD-SYS (number t.comps c) (numbers t.comps us) (map (λ x. (number t.vers x.0, numbered_members t x.1)) ks)

unfoldable pub modvar_numbered : Tables → Name → Name → List Name → Name → Command
modvar_numbered t c v rs i = ADD-MODVAR (number t.comps c) (number t.vers v) (numbers t.facs rs) (number t.impls i)

unfoldable pub sysvar_numbered : Tables → Name → Name → NamedMembers → Command
sysvar_numbered t c v ms = ADD-SYSVAR (number t.comps c) (number t.vers v) (numbered_members t ms)
