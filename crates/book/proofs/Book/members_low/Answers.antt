use Rattle.std.proofs.Common.{rules}
use Rattle.book.specs.TestLaws.{members_is}
use Rattle.book.proofs.Book.members_low.Goals as goal

pub returns-else-version_at-ge64 : goal.returns-else-version_at-ge64
returns-else-version_at-ge64 c = search (rules, members_is)
