use Rattle.std.proofs.Common.{rules}
use Rattle.words.specs.SkipLaws.{skip_start, skip_turn, skip_stop, skip_end, skip_open}
use Rattle.words.proofs.next_start.Goals as goal

pub loop-i-init : goal.loop-i-init
loop-i-init c = search (rules, skip_start)

pub loop-i-preserved : goal.loop-i-preserved
loop-i-preserved c = search (rules, skip_turn)

pub returns-then-not-does_pass : goal.returns-then-not-does_pass
returns-then-not-does_pass c = search (rules, skip_stop)

pub returns-then-inside : goal.returns-then-inside
returns-then-inside c = search (rules, skip_open)

pub returns-else-inside : goal.returns-else-inside
returns-else-inside c = search (rules, skip_end)
