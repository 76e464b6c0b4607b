use Rattle.std.proofs.Common.{rules}
use Rattle.book.specs.DefineLaws.{module_put}
use Rattle.book_put.proofs.put_mod.Goals as goal

pub returns-clause-holds : goal.returns-clause-holds
returns-clause-holds c = rw (c.set_kind.ensures.sets_kept, c.set_kind.ensures.numbers, c.loop-j.invariant.2) (search (rules, module_put))
