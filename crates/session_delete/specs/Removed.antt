-- The five commands of a session's text that take out, by the kind of what they take out.
use Rattle.std.specs.Prelude.{Bool, ℕ}
use Rattle.model.specs.Book.{Book, is_module, is_system}
use Rattle.model.specs.Commands.{Command, DEL-MOD, DEL-MODVAR, DEL-SPEC, DEL-SYS, DEL-SYSVAR}
use Rattle.sets.specs.Tests.{if?◌then◌else◌}
use Rattle.read_command.specs.declared.Component.{Component}
use Rattle.read_command.specs.declared.Component.TheVariants as component
use Rattle.read_command.specs.declared.Version.{Version}
use Rattle.read_command.specs.declared.Version.TheVariants as version

-- ---- delspec, delmod, delsys

-- the command with the component's number
unfoldable pub component_command : Component → ℕ → Command
component_command component.Spec c = DEL-SPEC c
component_command component.Module c = DEL-MOD c
component_command component.System c = DEL-SYS c

-- "a name that stands in no table has no number: the component or version then doesn't exist" (document 01, "Text and session"). The
-- question that has its no then ("The questions, in order"): "is the component specified? no: 4", "is it a module? no: 6", "is it a
-- system? no: 7"
unfoldable pub component_answer : Component → ℕ
component_answer component.Spec = 4
component_answer component.Module = 6
component_answer component.System = 7

-- ---- delmodvar, delsysvar

-- the command with the numbers of the pair
unfoldable pub version_command : Version → ℕ → ℕ → Command
version_command version.Module c v = DEL-MODVAR c v
version_command version.System c v = DEL-SYSVAR c v

-- the question before 10: "is it a module? no: 6", "is it a system? no: 7"
unfoldable pub is_of_kind : Version → Book → ℕ → Bool
is_of_kind version.Module b = is_module b.modules
is_of_kind version.System b = is_system b.systems

-- and its no, which a component without a number gives
unfoldable pub pair_answer : Version → ℕ
pair_answer version.Module = 6
pair_answer version.System = 7

-- a version without a number, of a component with the number c: "has it the version? no: 10", after the question of its kind
unfoldable pub version_answer : Version → Book → ℕ → ℕ
version_answer k b c = if? is_of_kind k b c then 10 else pair_answer k
