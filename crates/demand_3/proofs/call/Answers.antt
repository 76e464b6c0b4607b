use Rattle.command_outcome.specs.Calls.{command_of}
use Rattle.demand_3.specs.NumberedLaws.{called_as, is_0, is_1, is_2, is_3, is_4, is_5, is_6, is_7, is_8, is_9}
use Rattle.demand_3.proofs.call.Goals as goal

pub returns-then-kind-eq0 : goal.returns-then-kind-eq0
unfolding command_of
returns-then-kind-eq0 c = called_as _ _ (is_0 _ _ _ _ _ _ _ _ _ _ _ _ c.if-kind-eq0.true) c.add_spec.ensures

pub returns-then-kind-eq1 : goal.returns-then-kind-eq1
unfolding command_of
returns-then-kind-eq1 c = called_as _ _ (is_1 _ _ _ _ _ _ _ _ _ _ _ _ c.if-kind-eq0.false c.if-kind-eq1.true) c.add_mod.ensures

pub returns-then-kind-eq2 : goal.returns-then-kind-eq2
unfolding command_of
returns-then-kind-eq2 c = called_as _ _ (is_2 _ _ _ _ _ _ _ _ _ _ _ _ c.if-kind-eq0.false c.if-kind-eq1.false c.if-kind-eq2.true) c.add_sys.ensures

pub returns-then-kind-eq3 : goal.returns-then-kind-eq3
unfolding command_of
returns-then-kind-eq3 c = called_as _ _ (is_3 _ _ _ _ _ _ _ _ _ _ _ _ c.if-kind-eq0.false c.if-kind-eq1.false c.if-kind-eq2.false c.if-kind-eq3.true) c.add_modvar.ensures

pub returns-then-kind-eq4 : goal.returns-then-kind-eq4
unfolding command_of
returns-then-kind-eq4 c = called_as _ _ (is_4 _ _ _ _ _ _ _ _ _ _ _ _ c.if-kind-eq0.false c.if-kind-eq1.false c.if-kind-eq2.false c.if-kind-eq3.false c.if-kind-eq4.true) c.add_sysvar.ensures

pub returns-then-kind-eq5 : goal.returns-then-kind-eq5
unfolding command_of
returns-then-kind-eq5 c = called_as _ _ (is_5 _ _ _ _ _ _ _ _ _ _ _ _ c.if-kind-eq0.false c.if-kind-eq1.false c.if-kind-eq2.false c.if-kind-eq3.false c.if-kind-eq4.false c.if-kind-eq5.true) c.del_spec.ensures

pub returns-then-kind-eq6 : goal.returns-then-kind-eq6
unfolding command_of
returns-then-kind-eq6 c = called_as _ _ (is_6 _ _ _ _ _ _ _ _ _ _ _ _ c.if-kind-eq0.false c.if-kind-eq1.false c.if-kind-eq2.false c.if-kind-eq3.false c.if-kind-eq4.false c.if-kind-eq5.false c.if-kind-eq6.true) c.del_mod.ensures

pub returns-then-kind-eq7 : goal.returns-then-kind-eq7
unfolding command_of
returns-then-kind-eq7 c = called_as _ _ (is_7 _ _ _ _ _ _ _ _ _ _ _ _ c.if-kind-eq0.false c.if-kind-eq1.false c.if-kind-eq2.false c.if-kind-eq3.false c.if-kind-eq4.false c.if-kind-eq5.false c.if-kind-eq6.false c.if-kind-eq7.true) c.del_sys.ensures

pub returns-then-kind-eq8 : goal.returns-then-kind-eq8
unfolding command_of
returns-then-kind-eq8 c = called_as _ _ (is_8 _ _ _ _ _ _ _ _ _ _ _ _ c.if-kind-eq0.false c.if-kind-eq1.false c.if-kind-eq2.false c.if-kind-eq3.false c.if-kind-eq4.false c.if-kind-eq5.false c.if-kind-eq6.false c.if-kind-eq7.false c.if-kind-eq8.true) c.del_modvar.ensures

pub returns : goal.returns
unfolding command_of
returns c = called_as _ _ (is_9 _ _ _ _ _ _ _ _ _ _ _ _ c.if-kind-eq0.false c.if-kind-eq1.false c.if-kind-eq2.false c.if-kind-eq3.false c.if-kind-eq4.false c.if-kind-eq5.false c.if-kind-eq6.false c.if-kind-eq7.false c.if-kind-eq8.false) c.del_sysvar.ensures
