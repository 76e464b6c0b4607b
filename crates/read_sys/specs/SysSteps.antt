-- What the reader of "sys" carries from entry to entry of its two lists, and what is made of what was read of it.
use Rattle.std.specs.Prelude.{Option as Found, Some, ◌≡◌, ℕ, is_some, option_map}
use Rattle.std.proofs.Math.Option.{Option}
use Rattle.model.specs.Book.{components, versions}
use Rattle.model.specs.Commands.{Members}
use Rattle.model.specs.Maps.{Map}
use Rattle.names.specs.Stored.{Rows, table_of}
use Rattle.command_lists.specs.Gathered.{Gathered, nothing}
use Rattle.command_lists.specs.Said.{alone, compositions_step, members_of, usable_step}
use Rattle.command_lists.specs.Views.{compositions_view, usable_view}
use Rattle.command_lists.specs.declared.gathered.Gathered.{Gathered as Kept}
use Rattle.sets.specs.Tests.{◌&◌}
use Rattle.text.specs.Language.{Name, NamedMembers}
use Rattle.text.specs.Tables.{Table}
use Rattle.read_tokens.specs.Entering.{Enters, both}
use Rattle.read_sys.specs.MemberSteps.{MemberStep, member_start}
use Rattle.read_tokens.specs.Steps.{Each}
use Rattle.read_tokens.specs.declared.PairTables.{PairTables}
use Rattle.read_tokens.specs.declared.SysRequest.{SysRequest}

-- ---- usable components: the table, and what is gathered, if there was a place for each name

abbrev pub Usables : Type 0
Usables = Table × Found (Gathered (Unit {0}))

unfoldable pub usable_state : Rows → Found (Kept (Unit {0}) 32) → Usables
usable_state rows g = (table_of components rows, option_map usable_view g)

-- no component yet
unfoldable pub usable_start : Table → Usables
usable_start t = (t, Some nothing)

unfoldable pub add_usable : Gathered (Unit {0}) → ℕ → Gathered (Unit {0})
add_usable g k = usable_step g (alone k)

pub record UsableStep (s s' : Usables) (w : Name) : Type 0 where
  pub place : Found ℕ
  pub enters : Enters components s.0 s'.0 place w
  pub usable : s'.1 ≡ both add_usable s.1 place

-- ---- versions of a system

pub record SysState : Type 0 where
  pub comps : Table
  pub vers : Table
  -- none where a name found no place
  pub compositions : Found (Gathered (Map (Option ℕ)))

unfoldable pub sys_state : PairTables → Found (Kept (Kept (Found ℕ) 32) 64) → SysState
sys_state t g = record {
  comps = table_of components t.comps.table.rows;
  vers = table_of versions t.vers.table.rows;
  compositions = option_map compositions_view g;
}

-- no version yet
unfoldable pub sys_start : Table → Table → SysState
sys_start c v = record { comps = c; vers = v; compositions = Some nothing }

-- r is g with a version at the place v more, whose members m are
pub record SysWith (g : Found (Gathered (Map (Option ℕ)))) (v : Found ℕ) (m : Found (Gathered (Option ℕ)))
    (r : Found (Gathered (Map (Option ℕ)))) : Type 0 where
  pub room : is_some r ≡ (is_some g & (is_some v & is_some m))
  pub is : (ms : Members) → m ≡ Some (members_of ms) → r ≡ both (λ c k. compositions_step c (k, ms)) g v

pub record SysStep (s s' : SysState) (x : Name × NamedMembers) : Type 0 where
  pub place : Found ℕ
  pub between : Table
  pub enters : Enters versions s.vers between place x.0
  pub gathered : Found (Gathered (Option ℕ))
  pub members : Each MemberStep (member_start s.comps between) (record { comps = s'.comps; vers = s'.vers; members = gathered }) x.1
  pub with : SysWith s.compositions place gathered s'.compositions

-- what is asked for, if each name found a place
unfoldable pub sys_made : Found ℕ → Found (Kept (Unit {0}) 32) → Found (Kept (Kept (Found ℕ) 32) 64) → Found SysRequest
sys_made c u v =
    both (λ k (x : Kept (Unit {0}) 32 × Kept (Kept (Found ℕ) 32) 64). record { component = k; usable = x.0; versions = x.1 }) c
    (both (λ us g. (us, g)) u v)
