use Rattle.std.proofs.Common.{rules}
use Rattle.book.specs.PutLaws.{sysvar_put}
use Rattle.book_put.proofs.put_sysvar.Goals as goal

pub returns : goal.returns
returns c = rw (
  c.set_member_versions.ensures.sets_kept,
  c.set_member_versions.ensures.numbers,
  c.set_members.ensures.sets,
  c.set_members.ensures.numbers_kept,
  c.set_required.ensures.sets,
  c.set_required.ensures.numbers_kept,
  c.set_version.ensures.sets_kept,
  c.set_version.ensures.numbers,
)
    (search (rules, sysvar_put))
