use Rattle.std.proofs.Common.{arith}
use Rattle.book.specs.Readers.{fresh_plain}
use lib.ListN.{get_or-replicate}
use Rattle.book.proofs.Book.fresh.Goals as goal

pub returns : goal.returns
returns c = fresh_plain _ _ (λ d l. get_or-replicate 8768 d 0 0 (omega arith))
