use Rattle.std.proofs.Common.{refl}
use Rattle.seqs.specs.Filled.{filled}
use Rattle.parts.proofs.write_rows.Goals as goal

pub returns : goal.returns
unfolding filled
returns c = rw c.copy_from_slice.ensures.after refl
