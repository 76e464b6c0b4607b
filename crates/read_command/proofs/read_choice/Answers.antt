use Rattle.read_tokens.specs.ProductionLaws.{up_to_absent, up_to_is}
use Rattle.read_tokens.specs.Readers.{key_at}
use Rattle.read_tokens.specs.SequenceLaws.{read_seen}
use Rattle.read_command.specs.ChoiceLaws.{choice_read}
use Rattle.read_command.specs.Choices.{KnownStep, known}
use Rattle.read_command.proofs.read_choice.Goals as goal

pub returns-then-passes_key : goal.returns-then-passes_key
returns-then-passes_key c =
    choice_read _ _ _ c.args.reader.now c.passes_key.new.self
    (up_to_absent (key_at 3) c.args.reader.now c.passes_key.new.self _ _ c.if-passes_key.ensures)

pub returns : goal.returns
unfolding known
returns c =
    choice_read _ _ _ c.args.reader.now c.key.new.self
    (up_to_is (key_at 3) c.args.reader.now c.passes_key.new.self c.if-passes_key.ensures _ c.take_list.new.reader
    (read_seen (λ s. known s.2.facs.now s.2.set) KnownStep _ _ _ c.passes_key.new.self c.take_list.new.reader c.in_ok-known.ensures)
    c.key.new.self c.in_ok-key.ensures)
