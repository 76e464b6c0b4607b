use Rattle.std.specs.Prelude.{not}
use Rattle.std.proofs.Common.{◌∙◌, ap, rules, sym}
use Rattle.book_rules.specs.TestLaws.{passes-proper, passes_plain}
use Rattle.command_delete.specs.DeleteLaws.{del_sys_B4, kind_yes, sys_0, sys_21, sys_refused}
use Rattle.command_outcome.specs.OutcomeLaws.{accept, refuse, refuse_as}
use Rattle.refusal.specs.NumberLaws.{no_number_0}
use Rattle.command_delete.proofs.del_sys_in.Goals as goal

pub returns-in_err-kind_asked-clause-called : goal.returns-in_err-kind_asked-clause-called
returns-in_err-kind_asked-clause-called c =
    refuse_as _ _ _ c.requires c.in_err-kind_asked.field-0.0 _ (search rules) (sys_refused _ _ _ c.is_system.ensures _ c.in_err-kind_asked.ensures (no_number_0 _))

pub take_sys-requires-clause-s_bound : goal.take_sys-requires-clause-s_bound
take_sys-requires-clause-s_bound c = ((kind_yes _ 6 _ c.in_ok-kind_asked.ensures).0, passes-proper _ _ c.requires)

pub take_sys-requires-clause-s_value : goal.take_sys-requires-clause-s_value
take_sys-requires-clause-s_value c = sym c.is_system.ensures ∙ (kind_yes _ 6 _ c.in_ok-kind_asked.ensures).1

pub b5_to_b9-requires : goal.b5_to_b9-requires
b5_to_b9-requires c = del_sys_B4 _ _ _ (passes_plain _ _ c.requires) c.take_sys.ensures.holds.is

pub returns-then-not-b5_to_b9-clause-called : goal.returns-then-not-b5_to_b9-clause-called
returns-then-not-b5_to_b9-clause-called c =
    refuse _ _ _ c.requires 20
    (sys_21 _ _ _ c.is_system.ensures c.in_ok-kind_asked.ensures _ c.take_sys.ensures.holds.is c.b5_to_b9.ensures (ap not c.if-not-b5_to_b9.true))

pub returns-clause-called : goal.returns-clause-called
returns-clause-called c =
    accept _ _ _ c.requires
    (sys_0 _ _ _ c.is_system.ensures c.in_ok-kind_asked.ensures _ c.take_sys.ensures.holds.is c.b5_to_b9.ensures (ap not c.if-not-b5_to_b9.false)) c.take_sys.ensures.holds
