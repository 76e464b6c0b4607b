use Rattle.std.proofs.Common.{rules}
use Rattle.book.specs.PutLaws.{held_place, sysvar_out}
use Rattle.book_take.proofs.take_sysvar.Goals as goal

pub unwrap-place-requires : goal.unwrap-place-requires
unwrap-place-requires c = search (rules, held_place)

pub returns-clause-holds : goal.returns-clause-holds
returns-clause-holds c = rw (c.set_version.ensures.sets_kept, c.set_version.ensures.numbers) (search (rules, sysvar_out))
