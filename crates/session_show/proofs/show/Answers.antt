use Rattle.read_command.specs.Forms.{asked_of_book, query_reader}
use Rattle.read_tokens.specs.SequenceLaws.{give_read}
use Rattle.session_show.proofs.show.Goals as goal

pub returns-in-ByName-clause-answers : goal.returns-in-ByName-clause-answers
unfolding query_reader
returns-in-ByName-clause-answers c = let e = c.show_named.ensures in rw c.in-ByName.is e.answers

pub returns-in-Choice-clause-answers : goal.returns-in-Choice-clause-answers
unfolding query_reader
returns-in-Choice-clause-answers c = let e = c.show_choice.ensures in rw c.in-Choice.is e.answers

pub returns-in-Whole-clause-answers : goal.returns-in-Whole-clause-answers
unfolding query_reader
returns-in-Whole-clause-answers c = rw c.in-Whole.is (give_read (asked_of_book c.in-Whole.what) c.args.reader.now c.show_book.ensures)
