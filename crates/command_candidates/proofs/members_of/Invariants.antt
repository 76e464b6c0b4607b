use Rattle.command_candidates.specs.Completed.{Filled, members_at}
use Rattle.command_lists.specs.Views.{view}
use Rattle.command_candidates.proofs.members_of.Given as goal

abbrev pub invariant-loop-v : goal.invariant-loop-v
invariant-loop-v l = Filled (members_at (view l.g).given) 64 l.place-items l.v
