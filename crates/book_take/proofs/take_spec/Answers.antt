use Rattle.std.proofs.Common.{rules}
use Rattle.book.specs.DefineLaws.{spec_taken}
use Rattle.book_take.proofs.take_spec.Goals as goal

pub returns-clause-holds : goal.returns-clause-holds
returns-clause-holds c = rw (c.set_kind.ensures.sets_kept, c.set_kind.ensures.numbers) (search (rules, spec_taken))
