use Rattle.read_tokens.specs.SequenceLaws.{read_seen}
use Rattle.read_sys.specs.MemberSteps.{MemberStep, member_state}
use Rattle.read_sys.specs.SysvarLaws.{members_start}
use Rattle.read_sys.proofs.take_members.Goals as goal

pub returns : goal.returns
returns c =
    rw (members_start c.args.tables.now c.none.result c.none.ensures) at
    (read_seen (λ s. member_state s.0 s.2.0) MemberStep _ _ _ c.args.reader.now c.take_list.new.reader c.in_ok-members.ensures)
