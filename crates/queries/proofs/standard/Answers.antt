use Rattle.std.proofs.Common.{rules}
use Rattle.query_replies.specs.RepliedLaws.{untested}
use Rattle.model.specs.Queries.{STANDARD, the_version}
use Rattle.queries.proofs.standard.Goals as goal

pub returns-in_err-book : goal.returns-in_err-book
returns-in_err-book c = search (rules, untested the_version c.args.book.now.sets c.args.book.now.numbers (STANDARD c.args.c))
