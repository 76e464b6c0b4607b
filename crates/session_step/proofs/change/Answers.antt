use Rattle.session_step.specs.StepLaws.{behind_decided}
use Rattle.session_step.proofs.change.Goals as goal

pub returns : goal.returns
returns c = behind_decided c.in-Some.ensures.answers.0 c.put_answer.ensures.puts
