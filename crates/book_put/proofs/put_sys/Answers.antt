use Rattle.std.proofs.Common.{arith, rules}
use Rattle.book_put.specs.SystemLaws.{composed_hit, composed_miss, system_put}
use Rattle.book_put.proofs.put_sys.Goals as goal
use Rattle.book_put.proofs.put_sys.Goals.{else-v-lt64, then-v-lt64}

pub loop-j-preserved : goal.loop-j-preserved
loop-j-preserved c =
    let taken = c.loop-j-test.true in
    let low = c.requires.takes_definition.0.component< in (
      omega arith,
      elim c.if-v-lt64.branch [
        | then-v-lt64 w ↦ rw (w.book-is, w.set_member_versions.ensures.sets_kept, w.set_members.ensures.sets)
            (composed_hit _ _ _ _ _ low _ _ _ taken c.loop-j.invariant.1 c.version_at-v.ensures w.set_members.ensures.sized
            (search rules) w.if-v-lt64.true
            (rw w.set_members.ensures.numbers_kept at w.set_member_versions.ensures.numbers))
        | else-v-lt64 w ↦ rw w.book-is (composed_miss _ _ _ _ _ low _ _ _ taken c.loop-j.invariant.1 c.version_at-v.ensures w.if-v-lt64.false)
      ],
    )

pub returns : goal.returns
returns c = rw (c.set_kind.ensures.sets_kept, c.set_kind.ensures.numbers, c.set_usable.ensures.sets, c.set_usable.ensures.numbers_kept)
    (system_put _ _ _ _ _ _ c.requires.takes_definition.0 c.requires.takes_definition.1 c.requires.by_index _ _ c.set_usable.ensures.sized _
    c.loop-j-test.false c.loop-j.invariant.1)
