use Rattle.std.proofs.Common.{arith, refl, replicate, rules}
use Rattle.std.proofs.lemmas.Slice.{put_mid-paste}
use Rattle.book.specs.Layout.{freed}
use Rattle.book.proofs.Book.free_slots.Goals as goal

pub returns-clause-numbers : goal.returns-clause-numbers
unfolding freed
returns-clause-numbers c = put_mid-paste _ _ _ _ (replicate 8 64) 8 (search rules) (omega arith) refl
