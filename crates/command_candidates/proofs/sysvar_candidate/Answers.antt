use Rattle.std.specs.Prelude.{ℕ}
use lib.ListN.{length-replicate}
use Rattle.command_candidates.specs.CandidateLaws.{system_with, sysvar_B4, sysvar_candidate_is, takes_version, version_small}
use Rattle.command_candidates.proofs.sysvar_candidate.Goals as goal

pub put_sysvar-requires-clause-takes_version : goal.put_sysvar-requires-clause-takes_version
put_sysvar-requires-clause-takes_version c = takes_version _ _ _ _ _ c.requires.passes c.requires.asked

pub put_sysvar-requires-clause-c_value : goal.put_sysvar-requires-clause-c_value
put_sysvar-requires-clause-c_value c = system_with _ _ _ _ _ c.requires.passes c.requires.asked

pub put_row-requires : goal.put_row-requires
put_row-requires c = version_small _ _ _ _ _ c.requires.passes c.requires.asked

pub returns-clause-holds : goal.returns-clause-holds
returns-clause-holds c = sysvar_candidate_is _ _ _ _ _ c.requires.passes c.requires.asked _ _ _ (length-replicate {A = ℕ} 2048 0) c.row_of-row.ensures c.put_row.ensures _ _ c.put_sysvar.ensures

pub returns-clause-numbers_after : goal.returns-clause-numbers_after
returns-clause-numbers_after c = sysvar_B4 _ _ _ _ _ c.requires.passes c.requires.asked _ _ _ c.put_sysvar.ensures
