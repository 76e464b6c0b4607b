-- What the reader of a composition carries from member to member, and what is made of what was read of "sysvar".
use Rattle.std.specs.Prelude.{Option as Found, Some, ◌≡◌, ℕ, option_map}
use Rattle.std.proofs.Math.Option.{Option, none, some}
use Rattle.model.specs.Book.{components, versions}
use Rattle.names.specs.Stored.{table_of}
use Rattle.command_lists.specs.Gathered.{Gathered, nothing}
use Rattle.command_lists.specs.Said.{members_step}
use Rattle.command_lists.specs.Views.{composition_view}
use Rattle.command_lists.specs.declared.gathered.Gathered.{Gathered as Kept}
use Rattle.text.specs.Language.{Name}
use Rattle.text.specs.Tables.{Table}
use Rattle.read_tokens.specs.Entering.{Enters, both}
use Rattle.read_tokens.specs.declared.Pair.{Pair}
use Rattle.read_tokens.specs.declared.PairTables.{PairTables}
use Rattle.read_tokens.specs.declared.SysvarRequest.{SysvarRequest}

-- a component, with its version where it is not left out
abbrev pub Member : Type 0
Member = Name × Option Name

pub record MemberState : Type 0 where
  pub comps : Table
  pub vers : Table
  -- none where a name found no place
  pub members : Found (Gathered (Option ℕ))

unfoldable pub member_state : PairTables → Found (Kept (Found ℕ) 32) → MemberState
member_state t g = record {
  comps = table_of components t.comps.table.rows;
  vers = table_of versions t.vers.table.rows;
  members = option_map composition_view g;
}

-- no member yet
unfoldable pub member_start : Table → Table → MemberState
member_start c v = record { comps = c; vers = v; members = Some nothing }

-- the version of a member, where it is not left out: v is its place, if there is one for it
unfoldable pub VersionTaken : Table → Table → Found (Option ℕ) → Option Name → Type 0
VersionTaken t t' v none = (t' ≡ t) × (v ≡ Some none)
VersionTaken t t' v (some w) = (k : Found ℕ) × Enters versions t t' k w × (v ≡ option_map some k)

-- one member more
unfoldable pub add_member : Found (Gathered (Option ℕ)) → Found ℕ → Found (Option ℕ) → Found (Gathered (Option ℕ))
add_member g c v = both members_step g (both (λ k o. (k, o)) c v)

pub record MemberStep (s s' : MemberState) (x : Member) : Type 0 where
  pub place : Found ℕ
  pub enters : Enters components s.comps s'.comps place x.0
  pub version : Found (Option ℕ)
  pub taken : VersionTaken s.vers s'.vers version x.1
  pub members : s'.members ≡ add_member s.members place version

-- what is asked for, if each name found a place
unfoldable pub sysvar_made : Found Pair → Found (Kept (Found ℕ) 32) → Found SysvarRequest
sysvar_made p m = both (λ k g. record { component = k.component; version = k.version; composition = g }) p m
