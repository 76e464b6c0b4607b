use Rattle.std.specs.Prelude.{not}
use Rattle.std.proofs.Common.{ap, rules}
use Rattle.book_test.specs.TestedLaws.{was_tested}
use Rattle.book_text.specs.AnsweredLaws.{given, no_names_lem, untested}
use Rattle.book_text.proofs.text_of.Goals as goal

pub returns-in_err-tested : goal.returns-in_err-tested
returns-in_err-tested c = untested _ _ _ _ _ _ _ _ _ (search rules) (search rules) (search rules)

pub returns-then-not-names_hold : goal.returns-then-not-names_hold
returns-then-not-names_hold c =
    no_names_lem _ _ _ _ _ _ _ (search (rules, was_tested)) c.names_hold.ensures (ap not c.if-not-names_hold.true)

pub returns : goal.returns
returns c =
    let f = ap not c.if-not-names_hold.false in
    rw c.ok_or.ensures.value
    (given _ _ _ _ _ _ _ (search (rules, was_tested)) c.names_hold.ensures f _ c.text.ensures.value c.text.ensures.out_after)
