use Rattle.std.proofs.Common.{rules}
use Rattle.text.specs.Session.{decimal, row}
use Rattle.write_rows.proofs.put_answer_row.Goals as goal

pub put_rest-requires-clause-puts : goal.put_rest-requires-clause-puts
put_rest-requires-clause-puts c = (row c.args.i (decimal c.args.answer), λ a b k. search rules)

pub returns : goal.returns
returns c = c.put_rest.ensures _ (λ a b k. search rules)
