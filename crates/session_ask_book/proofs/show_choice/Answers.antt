use Rattle.session_rows.specs.AskedLaws.{choice_known, choice_unknown}
use Rattle.session_ask_book.proofs.show_choice.Goals as goal

pub returns-in_default-clause-answers : goal.returns-in_default-clause-answers
returns-in_default-clause-answers c =
    choice_unknown c.args.state.now c.args.reader.now c.read_choice.new.reader
    (rw c.in_default.is at c.in_ok-wanted.ensures) c.put_answer.ensures.puts

pub returns-clause-answers : goal.returns-clause-answers
returns-clause-answers c =
    choice_known c.args.state.now c.args.reader.now c.read_choice.new.reader _ (rw c.in-Some.is at c.in_ok-wanted.ensures) c.put_choice.ensures
