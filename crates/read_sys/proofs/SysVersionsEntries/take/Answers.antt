use Rattle.text.specs.Language.{compos, sys_version}
use Rattle.read_tokens.specs.SequenceLaws.{behind_read, give_read, next_read}
use Rattle.read_sys.specs.MemberSteps.{member_state}
use Rattle.read_sys.specs.SysSteps.{sys_state}
use Rattle.read_sys.proofs.SysVersionsEntries.take.Goals as goal

pub returns : goal.returns
unfolding sys_version compos sys_state member_state
returns c =
    let z = c.take_members.new.reader in
    next_read c.args.reader.now c.take_name.new.reader c.in_ok-v.ensures _ z (λ x e.
    behind_read c.take_name.new.reader c.mark.new.self c.in_ok-mark.ensures _ z
    (next_read c.mark.new.self z c.in_ok-m.ensures _ z (λ ms b.
    give_read _ z (record { place = _; between = _; enters = e; gathered = _; members = b; with = c.with_sys_version.ensures }))))
