-- The facilities of "choice", which are looked up: "a name that stands in no table has no number", "and CHOICE of it finds nothing".
use Rattle.std.specs.Prelude.{List, Option, Some, ◌≡◌, ℕ, is_some, option_map}
use Rattle.model.specs.Lists.{every, set_of}
use Rattle.model.specs.Maps.{is_some as is_there}
use Rattle.names.specs.Stored.{table_in}
use Rattle.names.specs.declared.table.Table.{Table as Names}
use Rattle.sets.specs.Answered.{answered}
use Rattle.sets.specs.Sets.{Set, bit, with}
use Rattle.text.specs.Language.{CHOICE, Name, Said}
use Rattle.text.specs.Tables.{Table, numbers, place}
use Rattle.read_tokens.specs.Entering.{both}

-- the table that the facilities are looked up in, and the set of their numbers, if each has one
unfoldable pub known : Names 64 → Option ℕ → Table × Option Set
known t o = (table_in t, option_map bit o)

-- a facility more
pub record KnownStep (s s' : Table × Option Set) (w : Name) : Type 0 where
  pub table : s'.0 ≡ s.0
  pub number : Option ℕ
  pub is : answered number ≡ place s.0 w
  pub set : s'.1 ≡ both with s.1 number

-- the command x was read: there is a set r just where each facility has a number, and it is the set of these
pub record ChoiceAsked (t : Table) (r : Option ℕ) (x : Said) : Type 0 where
  pub fs : List Name
  pub said : x ≡ CHOICE fs
  pub all_known : is_some r ≡ every (λ f. is_there (place t f)) fs
  pub set_is : (s : ℕ) → r ≡ Some s → bit s ≡ set_of (numbers t fs)
