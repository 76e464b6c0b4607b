use Rattle.std.proofs.Common.{rules}
use Rattle.book.specs.PutLaws.{modvar_put}
use Rattle.book_put.proofs.put_modvar.Goals as goal

pub returns : goal.returns
returns c = rw (
  c.set_implementation.ensures.sets_kept,
  c.set_implementation.ensures.numbers,
  c.set_required.ensures.sets,
  c.set_required.ensures.numbers_kept,
  c.set_version.ensures.sets_kept,
  c.set_version.ensures.numbers,
)
    (search (rules, modvar_put))
