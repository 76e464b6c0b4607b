use Rattle.std.proofs.Common.{rules, sym}
use Rattle.book_rules.specs.TestLaws.{passes-proper}
use Rattle.command_delete.specs.DeleteLaws.{spec_limit}
use Rattle.command_outcome.specs.OutcomeLaws.{accept, refuse_as}
use Rattle.command_delete.proofs.del_spec_in.Goals as goal

pub returns-in_err-spec_asked-clause-called : goal.returns-in_err-spec_asked-clause-called
returns-in_err-spec_asked-clause-called c = refuse_as _ _ _ c.requires c.in_err-spec_asked.field-0.0 _ (search rules) c.in_err-spec_asked.ensures

pub take_spec-requires : goal.take_spec-requires
take_spec-requires c = (spec_limit _ _ c.in_ok-spec_asked.ensures, passes-proper _ _ c.requires)

pub returns-clause-called : goal.returns-clause-called
returns-clause-called c = accept _ _ _ c.requires (sym c.in_ok-spec_asked.ensures) c.take_spec.ensures.holds
