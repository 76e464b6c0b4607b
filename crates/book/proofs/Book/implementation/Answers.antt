use Rattle.std.proofs.Common.{rules}
use Rattle.book.specs.Readers.{implementation_some}
use Rattle.book.proofs.Book.implementation.Goals as goal

pub returns : goal.returns
returns c = search (rules, implementation_some)
