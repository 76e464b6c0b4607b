use Rattle.text.specs.Language.{mod_version}
use Rattle.read_tokens.specs.SequenceLaws.{behind_read, give_read, next_read}
use Rattle.read_mod.specs.ModLaws.{impl_read}
use Rattle.read_mod.specs.ModSteps.{mod_state}
use Rattle.read_mod.proofs.ModVersionsEntries.take.Goals as goal

pub returns : goal.returns
unfolding mod_version mod_state
returns c =
    let z = c.take_imp.new.reader in
    next_read c.args.reader.now c.take_name.new.reader c.in_ok-v.ensures _ z (λ v e.
    behind_read c.take_name.new.reader c.key.new.self (impl_read c.take_name.new.reader c.key.new.self c.in_ok-key.ensures) _ z
    (next_read c.key.new.self z c.in_ok-i.ensures _ z (λ i f.
    give_read _ z (record { place = _; enters = e; impl = _; impl_enters = f; numbers = c.with_mod_version.ensures }))))
