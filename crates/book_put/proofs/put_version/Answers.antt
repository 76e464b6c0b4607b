use Rattle.std.proofs.Common.{rules}
use Rattle.book.specs.PutLaws.{version_put}
use Rattle.book_put.proofs.put_version.Goals as goal

pub returns : goal.returns
returns c = rw (
  c.set_required.ensures.sets,
  c.set_required.ensures.numbers_kept,
  c.set_version.ensures.sets_kept,
  c.set_version.ensures.numbers,
)
    (search (rules, version_put))
