use Rattle.std.proofs.Common.{◌≤◌}
use Rattle.query_replies.specs.Found.{WrittenTo}
use Rattle.query_replies.specs.Listed.{row_of}
use Rattle.sets.specs.Sets.{bit}
use Rattle.query_choice.proofs.write_versions.Given as goal

abbrev pub invariant-loop-v : goal.invariant-loop-v
invariant-loop-v l = (l.v ≤ 64) × WrittenTo (λ n. row_of (l.c, n)) (bit l.versions) l.initial.out l.v l.at l.out
