use Rattle.std.proofs.Common.{rules}
use Rattle.book.specs.PutLaws.{held_place, modvar_out}
use Rattle.book_take.proofs.take_modvar.Goals as goal

pub unwrap-i-requires : goal.unwrap-i-requires
unwrap-i-requires c = search (rules, held_place)

pub returns-clause-holds : goal.returns-clause-holds
returns-clause-holds c = rw (c.set_version.ensures.sets_kept, c.set_version.ensures.numbers) (search (rules, modvar_out))
