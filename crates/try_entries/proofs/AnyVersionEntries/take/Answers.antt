use Rattle.std.proofs.Common.{refl}
use Rattle.text.specs.Language.{mod_version}
use Rattle.read_tokens.specs.SequenceLaws.{behind_read, give_read, next_read}
use Rattle.read_mod.specs.ModLaws.{impl_read}
use Rattle.try_entries.proofs.AnyVersionEntries.take.Goals as goal

pub returns : goal.returns
unfolding mod_version
returns c =
    let z = c.imp.new.self in
    next_read c.args.reader.now c.name.new.self c.in_ok-name.ensures _ z (λ v e.
    behind_read c.name.new.self c.key.new.self (impl_read c.name.new.self c.key.new.self c.in_ok-key.ensures) _ z
    (next_read c.key.new.self z c.in_ok-imp.ensures _ z (λ i f.
    give_read _ z refl)))
