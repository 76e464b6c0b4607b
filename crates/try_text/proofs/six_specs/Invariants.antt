use Rattle.std.proofs.Common.{◌≤◌}
use Rattle.try_text.proofs.six_specs.Given as goal

abbrev pub invariant-loop-c : goal.invariant-loop-c
invariant-loop-c l = l.c ≤ 6
