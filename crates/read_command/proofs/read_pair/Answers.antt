use Rattle.read_command.specs.WordLaws.{pair_said}
use Rattle.read_command.proofs.read_pair.Goals as goal

pub returns : goal.returns
returns c = λ f.
    pair_said f (record { component = c.in_ok-component.component; version = c.in_ok-version.version }) c.args.reader.now c.name.new.self
    c.mark.new.self c.name-2.new.self c.in_ok-component.ensures c.in_ok-mark.ensures c.in_ok-version.ensures
