use Rattle.command_candidates.specs.CandidateLaws.{members_small, sys_candidate_is, takes_definition}
use Rattle.command_candidates.proofs.sys_candidate.Goals as goal

pub put_sys-requires-clause-takes_definition : goal.put_sys-requires-clause-takes_definition
put_sys-requires-clause-takes_definition c = (takes_definition _ _ _ _ _ c.requires.passes c.requires.asked, c.args.u.low)

pub put_sys-requires-clause-by_index : goal.put_sys-requires-clause-by_index
put_sys-requires-clause-by_index c = members_small _ _ _ _ _ c.requires.passes c.requires.asked _ c.members_of-members.ensures

pub returns : goal.returns
returns c = sys_candidate_is _ _ _ _ _ c.requires.passes c.requires.asked _ c.members_of-members.ensures _ c.rows_of-rows.ensures _ _ c.put_sys.ensures
