use Rattle.text.specs.Language.{pair}
use Rattle.read_tokens.specs.SequenceLaws.{behind_read, give_read, next_read}
use Rattle.read_mod.proofs.take_pair.Goals as goal

pub returns : goal.returns
unfolding pair
returns c =
    let z = c.take_name-2.new.reader in
    next_read c.args.reader.now c.take_name.new.reader c.in_ok-c.ensures _ z (λ x e.
    behind_read c.take_name.new.reader c.mark.new.self c.in_ok-mark.ensures _ z
    (next_read c.mark.new.self z c.in_ok-v.ensures _ z (λ v f.
    give_read _ z (record { component = e; version = f }))))
