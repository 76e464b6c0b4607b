use Rattle.std.proofs.Common.{rules, arith}
use Rattle.std.proofs.lemmas.List.{places}
use Rattle.std.proofs.lemmas.Slice.{put_mid-paste}
use Rattle.command_candidates.specs.Completed.{row_put}
use Rattle.command_candidates.proofs.put_row.Goals as goal

pub returns : goal.returns
unfolding row_put
returns c = put_mid-paste _ _ _ _ c.args.row.now 32 (search rules) (omega arith) (search (rules, places))
