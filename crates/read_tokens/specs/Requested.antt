-- What the readers of the adding commands answer: the command that was read, and its request by the numbers in the tables with its new
-- names.
use Rattle.std.specs.Prelude.{true, List, Option, Some, ◌≡◌, ℕ, is_some}
use Rattle.model.specs.Book.{components, facilities, versions}
use Rattle.model.specs.Commands.{ADD-MOD, ADD-MODVAR, ADD-SPEC, ADD-SYS, ADD-SYSVAR, Command, Members}
use Rattle.model.specs.Lists.{set_of}
use Rattle.model.specs.Questions.{each_below}
use Rattle.command_lists.specs.Said.{compositions_of, members_of, numbers_of, sets_of, usable_of}
use Rattle.command_lists.specs.Views.{composition_view, compositions_view, numbers_view, sets_view, usable_view}
use Rattle.sets.specs.Sets.{bit}
use Rattle.text.specs.Language.{MOD, MODVAR, Name, NamedMembers, SPEC, SYS, SYSVAR, Said}
use Rattle.text.specs.Tables.{Table, Tables, entered, fits, mod_names, mod_numbered, modvar_names, modvar_numbered}
use Rattle.text.specs.Tables.{spec_names, spec_numbered, sys_names, sys_numbered, sysvar_names, sysvar_numbered}
use Rattle.read_tokens.specs.Entering.{Enters, both}
use Rattle.read_tokens.specs.declared.SysvarRequest.{SysvarRequest}
use Rattle.read_tokens.specs.declared.SysRequest.{SysRequest}
use Rattle.read_tokens.specs.declared.Pair.{Pair}
use Rattle.read_tokens.specs.declared.ModvarRequest.{ModvarRequest}
use Rattle.read_tokens.specs.declared.ModRequest.{ModRequest}
use Rattle.read_tokens.specs.declared.SpecRequest.{SpecRequest}

-- ---- "spec"

-- the command k, by numbers, is what r holds
pub record SpecAsks (k : Command) (r : SpecRequest) : Type 0 where
  pub facs : List ℕ
  pub list : List (ℕ × List ℕ)
  pub is : k ≡ ADD-SPEC r.component facs list r.standard
  pub below : each_below facilities facs ≡ true
  pub provided : set_of facs ≡ bit r.provided
  pub versions : sets_view r.versions ≡ sets_of list

-- The command x was read: there is a request r just where there is a place for each new name; t' is then the tables with them, and the
-- request holds the command by its numbers in these.
pub record SpecAsked (t t' : Tables) (r : Option SpecRequest) (x : Said) : Type 0 where
  pub c : Name
  pub ps : List Name
  pub vs : List (Name × List Name)
  pub s : Name
  pub is : x ≡ SPEC c ps vs s
  pub room : is_some r ≡ fits (entered t (spec_names c ps vs))
  pub tables : is_some r ≡ true → t' ≡ entered t (spec_names c ps vs)
  pub asks : (q : SpecRequest) → r ≡ Some q → SpecAsks (spec_numbered t' c ps vs s) q

-- ---- "mod"

pub record ModAsks (k : Command) (r : ModRequest) : Type 0 where
  pub list : List (ℕ × ℕ)
  pub is : k ≡ ADD-MOD r.component list
  pub versions : numbers_view r.versions ≡ numbers_of list

pub record ModAsked (t t' : Tables) (r : Option ModRequest) (x : Said) : Type 0 where
  pub c : Name
  pub is : List (Name × Name)
  pub said : x ≡ MOD c is
  pub room : is_some r ≡ fits (entered t (mod_names c is))
  pub tables : is_some r ≡ true → t' ≡ entered t (mod_names c is)
  pub asks : (q : ModRequest) → r ≡ Some q → ModAsks (mod_numbered t' c is) q

-- ---- "modvar"

-- component and version of a pair, put into their tables
-- the names of a pair put into their tables: the place of each, whether or not the other found one
pub record BothEnter (c c' v v' : Table) (o : Option ℕ × Option ℕ) (x : Name × Name) : Type 0 where
  pub component : Enters components c c' o.0 x.0
  pub version : Enters versions v v' o.1 x.1

-- and the pair that their places make, if there is one for each
pub record PairEnters (c c' v v' : Table) (o : Option Pair) (x : Name × Name) : Type 0 where
  pub component : Option ℕ
  pub comps : Enters components c c' component x.0
  pub version : Option ℕ
  pub vers : Enters versions v v' version x.1
  pub pair : o ≡ both (λ k j. record { component = k; version = j }) component version

pub record ModvarAsks (k : Command) (r : ModvarRequest) : Type 0 where
  pub facs : List ℕ
  pub is : k ≡ ADD-MODVAR r.component r.version facs r.implementation
  pub below : each_below facilities facs ≡ true
  pub required : set_of facs ≡ bit r.required

pub record ModvarAsked (t t' : Tables) (r : Option ModvarRequest) (x : Said) : Type 0 where
  pub c : Name
  pub v : Name
  pub rs : List Name
  pub i : Name
  pub said : x ≡ MODVAR c v rs i
  pub room : is_some r ≡ fits (entered t (modvar_names c v rs i))
  pub tables : is_some r ≡ true → t' ≡ entered t (modvar_names c v rs i)
  pub asks : (q : ModvarRequest) → r ≡ Some q → ModvarAsks (modvar_numbered t' c v rs i) q

-- ---- "sysvar"

pub record SysvarAsks (k : Command) (r : SysvarRequest) : Type 0 where
  pub list : Members
  pub is : k ≡ ADD-SYSVAR r.component r.version list
  pub composition : composition_view r.composition ≡ members_of list

pub record SysvarAsked (t t' : Tables) (r : Option SysvarRequest) (x : Said) : Type 0 where
  pub c : Name
  pub v : Name
  pub ms : NamedMembers
  pub said : x ≡ SYSVAR c v ms
  pub room : is_some r ≡ fits (entered t (sysvar_names c v ms))
  pub tables : is_some r ≡ true → t' ≡ entered t (sysvar_names c v ms)
  pub asks : (q : SysvarRequest) → r ≡ Some q → SysvarAsks (sysvar_numbered t' c v ms) q

-- ---- "sys"

pub record SysAsks (k : Command) (r : SysRequest) : Type 0 where
  pub usables : List ℕ
  pub list : List (ℕ × Members)
  pub is : k ≡ ADD-SYS r.component usables list
  pub usable : usable_view r.usable ≡ usable_of usables
  pub versions : compositions_view r.versions ≡ compositions_of list

pub record SysAsked (t t' : Tables) (r : Option SysRequest) (x : Said) : Type 0 where
  pub c : Name
  pub us : List Name
  pub ks : List (Name × NamedMembers)
  pub said : x ≡ SYS c us ks
  pub room : is_some r ≡ fits (entered t (sys_names c us ks))
  pub tables : is_some r ≡ true → t' ≡ entered t (sys_names c us ks)
  pub asks : (q : SysRequest) → r ≡ Some q → SysAsks (sys_numbered t' c us ks) q
