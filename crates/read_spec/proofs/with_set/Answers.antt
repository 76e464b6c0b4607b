use Rattle.std.proofs.Common.{refl}
use Rattle.read_spec.specs.SetLaws.{one_set}
use Rattle.read_spec.proofs.with_set.Goals as goal

pub returns : goal.returns
returns c = one_set c.in_ok-g.was c.in_ok-v.was c.in_ok-q.was c.with_set.ensures refl
