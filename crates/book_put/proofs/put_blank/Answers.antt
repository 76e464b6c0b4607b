use Rattle.std.proofs.Common.{rules}
use Rattle.book_put.specs.SpecLaws.{blank_put}
use Rattle.book_put.proofs.put_blank.Goals as goal

pub returns : goal.returns
returns c = rw (
  c.set_kind.ensures.sets_kept,
  c.set_kind.ensures.numbers,
  c.set_standard.ensures.sets_kept,
  c.set_standard.ensures.numbers,
  c.set_provides.ensures.sets,
  c.set_provides.ensures.numbers_kept,
  c.free_slots.ensures.sets_kept,
  c.free_slots.ensures.numbers,
)
    (search (rules, blank_put))
