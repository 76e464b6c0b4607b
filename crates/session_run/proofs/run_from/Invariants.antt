use Rattle.std.proofs.Common.{length, ◌-◌, ◌≡◌}
use Rattle.session_state.specs.State.{plain_state}
use Rattle.session_run.specs.Ran.{RunningBy}
use Rattle.session_run.proofs.run_from.Given as goal

abbrev pub invariant-loop-end : goal.invariant-loop-end
invariant-loop-end l = record {
  text : l.next.text ≡ l.reader.text;
  running : RunningBy l.reader.text.now l.reader.at l.next.at l.i (plain_state l.state) l.fn.out l.initial.writer l.writer;
}

abbrev pub decreases-loop-end : goal.decreases-loop-end
decreases-loop-end l = length l.reader.text.now - l.next.at
