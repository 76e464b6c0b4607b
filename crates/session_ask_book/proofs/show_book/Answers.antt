use Rattle.read_command.specs.Forms.{asked_of_book}
use Rattle.session_rows.specs.ShownLaws.{components_put, text_carried, undefined_carried, unused_carried}
use Rattle.session_ask_book.proofs.show_book.Goals as goal

pub returns-in-Undefined : goal.returns-in-Undefined
unfolding asked_of_book
returns-in-Undefined c =
    rw c.in-Undefined.is
    (undefined_carried (components_put c.args.state.now _ c.passing.ensures _ _ c.undefined_in-found.ensures c.put_numbers.ensures))

pub returns-in-Unused : goal.returns-in-Unused
unfolding asked_of_book
returns-in-Unused c =
    rw c.in-Unused.is
    (unused_carried (components_put c.args.state.now _ c.passing-in-Unused.ensures _ _ c.unused_in-found.ensures c.put_numbers-in-Unused.ensures))

pub returns-in-Text : goal.returns-in-Text
unfolding asked_of_book
returns-in-Text c = rw c.in-Text.is (text_carried c.args.state.now c.put_answer.ensures.puts c.put_text.ensures)
