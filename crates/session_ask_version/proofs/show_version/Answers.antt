use Rattle.std.proofs.Common.{lit<}
use Rattle.read_command.specs.Forms.{asked_of_version}
use Rattle.session_rows.specs.AskedLaws.{pair_answers, version_known, version_no_component, version_no_number}
use Rattle.session_ask_version.proofs.show_version.Goals as goal

pub lookup-requires : goal.lookup-requires
lookup-requires c = (lit< tt, (c.in_ok-pair.ensures (asked_of_version c.args.query)).0.took.component_fits)

pub returns-in_default-clause-answers : goal.returns-in_default-clause-answers
returns-in_default-clause-answers c =
    pair_answers _ _ c.args.reader.now c.read_pair.new.reader (c.in_ok-pair.ensures (asked_of_version c.args.query))
    (version_no_component c.args.query c.args.state.now _ _ c.in_default.ensures c.put_refusal.ensures)

pub lookup-requires-2 : goal.lookup-requires-2
lookup-requires-2 c = (lit< tt, (c.in_ok-pair.ensures (asked_of_version c.args.query)).0.took.version_fits)

pub returns-in_default-lookup-clause-answers : goal.returns-in_default-lookup-clause-answers
returns-in_default-lookup-clause-answers c =
    pair_answers _ _ c.args.reader.now c.read_pair.new.reader (c.in_ok-pair.ensures (asked_of_version c.args.query))
    (version_no_number c.args.query c.args.state.now _ _ _ c.in-Some.ensures c.in_default-lookup.ensures c.no_version.ensures
    c.put_refusal-in_default-lookup.ensures)

pub returns-clause-answers : goal.returns-clause-answers
returns-clause-answers c =
    pair_answers _ _ c.args.reader.now c.read_pair.new.reader (c.in_ok-pair.ensures (asked_of_version c.args.query))
    (version_known c.args.query c.args.state.now _ _ _ c.in-Some.ensures _ c.in-Some-lookup.ensures c.put_of_version.ensures)
