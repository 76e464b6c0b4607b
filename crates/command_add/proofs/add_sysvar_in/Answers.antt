use Rattle.std.specs.Prelude.{not}
use Rattle.std.proofs.Common.{rules, sym, ap}
use Rattle.command_outcome.specs.OutcomeLaws.{accept, refuse, refuse_as}
use Rattle.command_add.specs.AddSystemLaws.{sysvar_0, sysvar_21, sysvar_holds, sysvar_refused}
use Rattle.refusal.specs.NumberLaws.{no_number_0}
use Rattle.command_add.proofs.add_sysvar_in.Goals as goal

pub returns-in_err-sysvar_asked : goal.returns-in_err-sysvar_asked
returns-in_err-sysvar_asked c = λ ms ge. refuse_as _ _ _ c.requires c.in_err-sysvar_asked.field-0.0 _ (search rules) (sysvar_refused _ _ _ _ ms ge _ c.in_err-sysvar_asked.ensures (no_number_0 _))

pub sysvar_candidate-requires-clause-asked : goal.sysvar_candidate-requires-clause-asked
sysvar_candidate-requires-clause-asked c = sym c.in_ok-sysvar_asked.ensures

pub b5_to_b9-requires : goal.b5_to_b9-requires
b5_to_b9-requires c = c.sysvar_candidate.ensures.numbers_after

pub returns-then-not-b5_to_b9 : goal.returns-then-not-b5_to_b9
returns-then-not-b5_to_b9 c = λ ms ge. refuse _ _ _ c.requires 20 (sysvar_21 _ _ _ _ ms ge (sym c.in_ok-sysvar_asked.ensures) _ c.sysvar_candidate.ensures.holds.is c.b5_to_b9.ensures (ap not c.if-not-b5_to_b9.true))

pub returns : goal.returns
returns c = λ ms ge. accept _ _ _ c.requires (sysvar_0 _ _ _ _ ms ge (sym c.in_ok-sysvar_asked.ensures) _ c.sysvar_candidate.ensures.holds.is c.b5_to_b9.ensures (ap not c.if-not-b5_to_b9.false)) (sysvar_holds _ _ _ _ ms ge (sym c.in_ok-sysvar_asked.ensures) c.sysvar_candidate.ensures.holds)
