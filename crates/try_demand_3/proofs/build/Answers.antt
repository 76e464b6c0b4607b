use Rattle.model_laws.specs.Notions.{called, ended}
use Rattle.try_demand_3.proofs.build.Goals as goal

pub returns : goal.returns
returns c =
    called c.add_spec-probe.ensures
    (called c.add_spec-valve.ensures
    (called c.add_spec-loops.ensures
    (called c.add_spec-tank.ensures (called c.add_sys-made.ensures ended))))
