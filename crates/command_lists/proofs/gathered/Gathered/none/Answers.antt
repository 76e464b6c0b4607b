use lib.ListN.{length-replicate}
use Rattle.command_lists.proofs.gathered.Gathered.none.Goals as goal

pub invariant_of-result-clause-size : goal.invariant_of-result-clause-size
invariant_of-result-clause-size g c = length-replicate g.row.N c.args.blank
