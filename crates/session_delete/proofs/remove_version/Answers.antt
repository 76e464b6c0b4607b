use Rattle.std.proofs.Common.{lit<}
use Rattle.read_command.specs.Forms.{version_removed}
use Rattle.session_delete.specs.RemovedLaws.{pair_unknown, version_known, version_unknown}
use Rattle.session_delete.proofs.remove_version.Goals as goal

pub lookup-requires : goal.lookup-requires
lookup-requires c = (lit< tt, (c.in_ok-pair.ensures (version_removed c.args.kind)).0.took.component_fits)

pub returns-in_default-clause-answers : goal.returns-in_default-clause-answers
returns-in_default-clause-answers c =
    pair_unknown c.args.kind c.args.reader.now c.read_pair.new.reader _ (c.in_ok-pair.ensures (version_removed c.args.kind))
    c.args.state.now c.in_default.ensures _ c.pair_answer.ensures

pub lookup-requires-2 : goal.lookup-requires-2
lookup-requires-2 c = (lit< tt, (c.in_ok-pair.ensures (version_removed c.args.kind)).0.took.version_fits)

pub returns-in_default-lookup-clause-answers : goal.returns-in_default-lookup-clause-answers
returns-in_default-lookup-clause-answers c =
    version_unknown c.args.kind c.args.reader.now c.read_pair.new.reader _ (c.in_ok-pair.ensures (version_removed c.args.kind))
    c.args.state.now _ c.in-Some.ensures c.in_default-lookup.ensures _ c.version_answer.ensures

pub returns-clause-answers : goal.returns-clause-answers
returns-clause-answers c =
    version_known c.args.kind c.args.reader.now c.read_pair.new.reader _ (c.in_ok-pair.ensures (version_removed c.args.kind))
    c.args.state.now _ c.in-Some.ensures _ c.in-Some-lookup.ensures _ _ _ c.take_version_out.ensures
