use Rattle.std.proofs.Common.{length, ◌-◌}
use Rattle.read_tokens.specs.Ahead.{LeadsBy}
use Rattle.text.specs.Tokens.{mark}
use Rattle.read_tokens.proofs.list.take_list.Given as goal

abbrev pub invariant-loop-got : goal.invariant-loop-got
invariant-loop-got g l =
    LeadsBy (mark l.fn.between) g.E.Entries.entry g.E.Entries.step l.initial.ahead (l.initial.table, l.initial.other, l.fn.start)
    l.ahead (l.table, l.other, l.got)

abbrev pub decreases-loop-got : goal.decreases-loop-got
decreases-loop-got g l = length l.ahead.text.now - l.ahead.at
