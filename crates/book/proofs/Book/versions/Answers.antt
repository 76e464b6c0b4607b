use Rattle.std.proofs.Common.{rules}
use Rattle.book.specs.Readers.{versions_are}
use Rattle.book.proofs.Book.versions.Goals as goal

pub returns-in-Some : goal.returns-in-Some
returns-in-Some c = search (rules, versions_are)
