use Rattle.std.proofs.Common.{lit<}
use Rattle.read_command.specs.Forms.{asked_of}
use Rattle.session_rows.specs.AskedLaws.{component_known, component_unknown, one_answers}
use Rattle.session_ask_component.proofs.show_component.Goals as goal

pub lookup-requires : goal.lookup-requires
lookup-requires c = (lit< tt, (c.in_ok-word.ensures (asked_of c.args.query)).0.took.fits)

pub returns-in_default-clause-answers : goal.returns-in_default-clause-answers
returns-in_default-clause-answers c =
    one_answers _ _ c.args.reader.now c.read_one.new.reader (c.in_ok-word.ensures (asked_of c.args.query))
    (component_unknown c.args.query c.args.state.now _ c.in_default.ensures c.put_refusal.ensures)

pub returns-clause-answers : goal.returns-clause-answers
returns-clause-answers c =
    one_answers _ _ c.args.reader.now c.read_one.new.reader (c.in_ok-word.ensures (asked_of c.args.query))
    (component_known c.args.query c.args.state.now _ _ c.in-Some.ensures c.put_of_component.ensures)
