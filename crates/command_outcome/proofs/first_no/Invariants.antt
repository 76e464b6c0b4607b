use Rattle.std.proofs.Common.{◌≡◌, drop}
use Rattle.std.specs.Prelude.{map}
use Rattle.model.specs.Questions.{first_no}
use Rattle.command_outcome.specs.Asked.{question}
use Rattle.command_outcome.proofs.first_no.Given as goal

abbrev pub invariant-loop-yes : goal.invariant-loop-yes
invariant-loop-yes l = first_no (map question l.asked) ≡ first_no (map question (drop l.yes-index l.asked))
