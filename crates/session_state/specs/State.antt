-- What a session holds between two commands: a Book and four tables of names. `Held` is the struct of the code.
use Rattle.std.specs.Prelude.{List, ℕ}
use Rattle.book.specs.Plain.{plain_of}
use Rattle.names.specs.Stored.{Rows, tables_of}
use Rattle.session_state.specs.declared.state.State.{State as Held}
use Rattle.text.specs.Session.{State}

-- the state that the arrays of a Book and the rows of the tables are
unfoldable pub state_of : List ℕ → List ℕ → Rows → Rows → Rows → Rows → State
state_of s n c v f i = record { book = plain_of s n; tables = tables_of c v f i }

-- the state that a session holds
abbrev pub plain_state : Held → State
plain_state s = state_of s.book.sets s.book.numbers s.names.comps.rows s.names.vers.rows s.names.facs.rows s.names.impls.rows
