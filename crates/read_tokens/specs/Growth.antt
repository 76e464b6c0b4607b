-- Names put into the tables one after the other, against the definitions, which put in all the names of a command and then number it:
-- "the questions see the numbers that they would get".
use Rattle.std.specs.Prelude.{Bool, true, List, [], Option, Some, ◌++◌, ◌∷◌, map, ◌≡◌, ◌≤◌, length}
use Rattle.model.specs.Book.{components, facilities, implementations, versions}
use Rattle.model.specs.Lists.{every}
use Rattle.names.specs.Stored.{all_placed, table_after}
use Rattle.sets.specs.Tests.{◌&◌}
use Rattle.text.specs.Tables.{Table, Tables, no_names}

-- ---- the tables, and whether each name found a place

-- the names m of a command put into the tables t
unfoldable pub tables_after : Tables → Tables → Tables
tables_after t m = record {
  comps = table_after components t.comps m.comps;
  vers = table_after versions t.vers m.vers;
  facs = table_after facilities t.facs m.facs;
  impls = table_after implementations t.impls m.impls;
}

-- each finds a place
unfoldable pub placed : Tables → Tables → Bool
placed t m =
    all_placed components t.comps m.comps
    & (all_placed versions t.vers m.vers & (all_placed facilities t.facs m.facs & all_placed implementations t.impls m.impls))

-- the names m put into the tables t: r says whether each name before them found a place, r' with them
pub record Grows (t t' : Tables) (r r' : Bool) (m : Tables) : Type 0 where
  pub tables : t' ≡ tables_after t m
  pub room : r' ≡ (r & placed t m)

-- the tables t with another table of one kind
abbrev pub with_comps : Tables → Table → Tables
with_comps t u = record { comps = u; vers = t.vers; facs = t.facs; impls = t.impls }

abbrev pub with_vers : Tables → Table → Tables
with_vers t u = record { comps = t.comps; vers = u; facs = t.facs; impls = t.impls }

abbrev pub with_facs : Tables → Table → Tables
with_facs t u = record { comps = t.comps; vers = t.vers; facs = u; impls = t.impls }

abbrev pub with_impls : Tables → Table → Tables
with_impls t u = record { comps = t.comps; vers = t.vers; facs = t.facs; impls = u }

-- names, and behind them others
unfoldable pub joint : Tables → Tables → Tables
joint m o = record { comps = m.comps ++ o.comps; vers = m.vers ++ o.vers; facs = m.facs ++ o.facs; impls = m.impls ++ o.impls }

-- the names of a list's entries
unfoldable pub mentioned : {A : Type 0} → (A → Tables) → List A → Tables
mentioned f [] = no_names
mentioned f (x ∷ xs) = joint (f x) (mentioned f xs)

-- no table holds more names than it has places
pub record Within (t : Tables) : Type 0 where
  pub comps : length t.comps ≤ components
  pub vers : length t.vers ≤ versions
  pub facs : length t.facs ≤ facilities
  pub impls : length t.impls ≤ implementations

-- ---- the numbers

-- u is t with names behind its last
pub record Longer (t u : Table) : Type 0 where
  pub more : Table
  pub is : u ≡ t ++ more

pub record Later (t u : Tables) : Type 0 where
  pub comps : Longer t.comps u.comps
  pub vers : Longer t.vers u.vers
  pub facs : Longer t.facs u.facs
  pub impls : Longer t.impls u.impls

-- what is gathered of a list from the left
unfoldable pub fold_on : {A B : Type 0} → (B → A → B) → B → List A → B
fold_on act b [] = b
fold_on act b (x ∷ xs) = fold_on act (act b x) xs

-- Entries that are numbered as they are read: `world` is the tables at a state, `got` what is gathered, if each name found a place;
-- `num` the entry by the numbers in given tables, `step` what it adds, `good` a test that it passes.
module _ {S A B G : Type 0} (world : S → Tables) (got : S → Option G) (num : Tables → A → B) (step : G → B → G) (good : B → Bool) where
  -- one entry, with which g' is gathered: by the numbers of all later tables
  pub record NumberedOne (s s' : S) (x : A) (g' : G) : Type 0 where
    pub before : G
    pub was : got s ≡ Some before
    pub value : B
    pub is : (u : Tables) → Later (world s') u → num u x ≡ value
    pub passes : good value ≡ true
    pub adds : g' ≡ step before value
    pub later : Later (world s) (world s')

  -- all of a list
  pub record NumberedAll (s s' : S) (xs : List A) (g' : G) : Type 0 where
    pub before : G
    pub was : got s ≡ Some before
    pub values : List B
    pub are : (u : Tables) → Later (world s') u → map (num u) xs ≡ values
    pub pass : every good values ≡ true
    pub add : g' ≡ fold_on step before values
    pub later : Later (world s) (world s')
