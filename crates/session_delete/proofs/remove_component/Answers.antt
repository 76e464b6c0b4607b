use Rattle.std.proofs.Common.{lit<}
use Rattle.read_command.specs.Forms.{removed}
use Rattle.session_delete.specs.RemovedLaws.{component_known, component_unknown}
use Rattle.session_delete.proofs.remove_component.Goals as goal

pub lookup-requires : goal.lookup-requires
lookup-requires c = (lit< tt, (c.in_ok-word.ensures (removed c.args.kind)).0.took.fits)

pub returns-in_default-clause-answers : goal.returns-in_default-clause-answers
returns-in_default-clause-answers c =
    component_unknown c.args.kind c.args.reader.now c.read_one.new.reader _ (c.in_ok-word.ensures (removed c.args.kind))
    c.args.state.now c.in_default.ensures _ c.component_answer.ensures

pub returns-clause-answers : goal.returns-clause-answers
returns-clause-answers c =
    component_known c.args.kind c.args.reader.now c.read_one.new.reader _ (c.in_ok-word.ensures (removed c.args.kind))
    c.args.state.now _ c.in-Some.ensures _ _ _ c.take_out.ensures
