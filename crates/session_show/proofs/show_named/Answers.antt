use Rattle.read_command.specs.Forms.{named_reader}
use Rattle.session_show.proofs.show_named.Goals as goal

pub returns-in-One-clause-answers : goal.returns-in-One-clause-answers
unfolding named_reader
returns-in-One-clause-answers c = let e = c.show_component.ensures in rw c.in-One.is e.answers

pub returns-in-Pair-clause-answers : goal.returns-in-Pair-clause-answers
unfolding named_reader
returns-in-Pair-clause-answers c = let e = c.show_version.ensures in rw c.in-Pair.is e.answers
