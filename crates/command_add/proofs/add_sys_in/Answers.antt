use Rattle.std.specs.Prelude.{not}
use Rattle.std.proofs.Common.{rules, sym, ap}
use Rattle.command_outcome.specs.OutcomeLaws.{accept, refuse, refuse_as}
use Rattle.command_add.specs.AddSystemLaws.{sys_0, sys_19, sys_20, sys_21, sys_holds, sys_refused}
use Rattle.book_rules.specs.TestLaws.{is_yes}
use Rattle.refusal.specs.NumberLaws.{no_number_0}
use Rattle.command_add.proofs.add_sys_in.Goals as goal

pub returns-in_err-sys_asked : goal.returns-in_err-sys_asked
returns-in_err-sys_asked c = λ us ks ue ge. refuse_as _ _ _ c.requires c.in_err-sys_asked.field-0.0 _ (search rules) (sys_refused _ _ _ _ us ks ue ge _ c.in_err-sys_asked.ensures (no_number_0 _))

pub sys_candidate-requires-clause-asked : goal.sys_candidate-requires-clause-asked
sys_candidate-requires-clause-asked c = sym c.in_ok-sys_asked.ensures

pub returns-then-not-b3 : goal.returns-then-not-b3
returns-then-not-b3 c = λ us ks ue ge. refuse _ _ _ c.requires 18 (sys_19 _ _ _ _ us ks ue ge (sym c.in_ok-sys_asked.ensures) _ c.sys_candidate.ensures.is c.b3.ensures (ap not c.if-not-b3.true))

pub returns-then-not-b4 : goal.returns-then-not-b4
returns-then-not-b4 c = λ us ks ue ge. refuse _ _ _ c.requires 19 (sys_20 _ _ _ _ us ks ue ge (sym c.in_ok-sys_asked.ensures) _ c.sys_candidate.ensures.is c.b3.ensures (ap not c.if-not-b3.false) c.b4.ensures (ap not c.if-not-b4.true))

pub b5_to_b9-requires : goal.b5_to_b9-requires
b5_to_b9-requires c = is_yes _ c.b4.ensures (ap not c.if-not-b4.false)

pub returns-then-not-b5_to_b9 : goal.returns-then-not-b5_to_b9
returns-then-not-b5_to_b9 c = λ us ks ue ge. refuse _ _ _ c.requires 20 (sys_21 _ _ _ _ us ks ue ge (sym c.in_ok-sys_asked.ensures) _ c.sys_candidate.ensures.is c.b3.ensures (ap not c.if-not-b3.false) c.b4.ensures (ap not c.if-not-b4.false) c.b5_to_b9.ensures (ap not c.if-not-b5_to_b9.true))

pub returns : goal.returns
returns c =
    λ us ks ue ge. accept _ _ _ c.requires (sys_0 _ _ _ _ us ks ue ge (sym c.in_ok-sys_asked.ensures) _ c.sys_candidate.ensures.is c.b3.ensures (ap not c.if-not-b3.false) c.b4.ensures (ap not c.if-not-b4.false) c.b5_to_b9.ensures (ap not c.if-not-b5_to_b9.false))
    (sys_holds _ _ _ _ us ks ue ge (sym c.in_ok-sys_asked.ensures) c.sys_candidate.ensures)
