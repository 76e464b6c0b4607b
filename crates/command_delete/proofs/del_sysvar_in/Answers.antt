use Rattle.std.proofs.Common.{◌∙◌, rules, sym}
use Rattle.command_delete.specs.DeleteLaws.{sysvar_asked, version_held, version_kind}
use Rattle.command_outcome.specs.OutcomeLaws.{accept, refuse_as}
use Rattle.command_delete.proofs.del_sysvar_in.Goals as goal

pub returns-in_err-version_asked-clause-called : goal.returns-in_err-version_asked-clause-called
returns-in_err-version_asked-clause-called c =
    refuse_as _ _ _ c.requires c.in_err-version_asked.field-0.0 _ (search rules) (sysvar_asked _ _ _ _ c.is_system.ensures c.in_err-version_asked.ensures)

pub take_sysvar-requires-clause-holds_version : goal.take_sysvar-requires-clause-holds_version
take_sysvar-requires-clause-holds_version c = version_held _ _ _ _ 6 _ c.in_ok-version_asked.ensures c.requires

pub take_sysvar-requires-clause-c_value : goal.take_sysvar-requires-clause-c_value
take_sysvar-requires-clause-c_value c = sym c.is_system.ensures ∙ version_kind _ _ _ _ 6 _ c.in_ok-version_asked.ensures

pub returns-clause-called : goal.returns-clause-called
returns-clause-called c = accept _ _ _ c.requires (sym (sysvar_asked _ _ _ _ c.is_system.ensures c.in_ok-version_asked.ensures)) c.take_sysvar.ensures.holds
