use Rattle.sets.specs.SetLaws.{bit_mod}
use Rattle.sets.proofs.below_32.Goals as goal

pub returns : goal.returns
returns c = bit_mod 32 c.args.s
