use Rattle.std.proofs.Common.{rules}
use Rattle.book.specs.Plain.{plain}
use Rattle.names.specs.Stored.{tables}
use Rattle.text.specs.Written.{written}
use Rattle.write_book.proofs.text.Goals as goal

pub write_whole-requires-clause-puts : goal.write_whole-requires-clause-puts
write_whole-requires-clause-puts c = (written (plain c.args.book.now) (tables c.args.names.now), λ a b k. search rules)
