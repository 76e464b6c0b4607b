use Rattle.std.proofs.Common.{rules}
use Rattle.read_command.specs.ChoiceLaws.{known_small, known_taken}
use Rattle.read_command.specs.Choices.{known}
use Rattle.read_tokens.specs.TakeLaws.{name_short}
use Rattle.read_command.proofs.KnownEntries.take.Goals as goal

pub lookup-requires : goal.lookup-requires
lookup-requires c = let s = name_short _ _ _ _ c.in_ok-word.ensures.0 in search rules

pub with_known-requires : goal.with_known-requires
with_known-requires c = known_small _ _ _ c.lookup.ensures

pub returns : goal.returns
unfolding known
returns c = known_taken _ _ _ _ _ c.args.reader.now c.name.new.self c.in_ok-word.ensures c.lookup.ensures c.with_known.ensures
