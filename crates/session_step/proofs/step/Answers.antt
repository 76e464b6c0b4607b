use Rattle.session_step.specs.StepLaws.{steps_asked, steps_changed, steps_nothing, steps_over}
use Rattle.session_step.proofs.step.Goals as goal

pub returns-in-Some-Changes : goal.returns-in-Some-Changes
returns-in-Some-Changes c =
    let r = c.new-reader in
    steps_changed _ r.result c.read_command.new.reader r.ensures.text r.ensures.at c.in-Some-Changes.ensures _ c.in-Some-Changes.field-0-is c.change.ensures

pub returns-in-Some-Asks : goal.returns-in-Some-Asks
returns-in-Some-Asks c =
    let r = c.new-reader in
    steps_asked _ r.result c.read_command.new.reader r.ensures.text r.ensures.at c.in-Some-Asks.ensures _ c.in-Some-Asks.field-0-is c.ask.ensures

pub returns-in-Some-Over : goal.returns-in-Some-Over
returns-in-Some-Over c =
    let r = c.new-reader in
    steps_over _ r.result c.read_command.new.reader r.ensures.text r.ensures.at c.in-Some-Over.ensures c.in-Some-Over.field-0-is

pub returns-in-None : goal.returns-in-None
returns-in-None c =
    let r = c.new-reader in
    steps_nothing _ r.result c.read_command.new.reader r.ensures.text r.ensures.at c.in-None.ensures c.refuse.ensures.none c.refuse.ensures.puts
