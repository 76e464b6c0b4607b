use Rattle.command_outcome.specs.Calls.{command_of}
use Rattle.model_laws.specs.Notions.{called, ended}
use Rattle.try_demand_3.proofs.try_each.Goals as goal

pub returns : goal.returns
unfolding command_of
returns c =
    called c.del_spec-k4.ensures
    (called c.del_modvar-k5.ensures
    (called c.add_sysvar-k6.ensures
    (called c.add_mod-defined.ensures
    (called c.add_modvar-added.ensures
    (called c.del_modvar-taken.ensures
    (called c.del_mod-undefined.ensures
    (called c.add_sysvar-composed.ensures
    (called c.del_sysvar-version_out.ensures
    (called c.del_sys-system_out.ensures
    (called c.del_spec-spec_out.ensures ended))))))))))
