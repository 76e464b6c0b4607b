-- What an adding command of a session's text comes to, the same for all five.
use Rattle.std.specs.Prelude.{Option, Some, true, ◌≡◌, is_some}
use Rattle.model.specs.Commands.{Command}
use Rattle.text.specs.Language.{Said}
use Rattle.text.specs.Session.{State, add, carry}
use Rattle.text.specs.Tables.{Tables, entered, fits}

-- The adding command x, as it was read with the tables t before it: there is a request just where there is a place for each new name; t' is
-- then the tables with them, and P holds of the request and of the command by its numbers in these.
pub record Adds {R : Type 0} (t t' : Tables) (request : Option R) (P : R → Command → Type 0) (x : Said) : Type 0 where
  pub names : Tables
  pub numbered : Tables → Command
  pub is : (s : State) → carry s x ≡ add s names numbered
  pub placed : is_some request ≡ fits (entered t names)
  pub tables : is_some request ≡ true → t' ≡ entered t names
  pub asks : (r : R) → request ≡ Some r → P r (numbered t')
