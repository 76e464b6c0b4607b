use Rattle.std.proofs.Common.{arith, refl, rules}
use Rattle.book_put.specs.SpecLaws.{spec_asks, spec_begin, spec_end, spec_in_lem, spec_out}
use Rattle.book_put.proofs.put_spec.Goals as goal
use Rattle.book_put.proofs.put_spec.Goals.{else-member, then-member}

pub loop-v-init : goal.loop-v-init
loop-v-init c = (search rules, search (rules, spec_begin))

pub put_version-requires : goal.put_version-requires
put_version-requires c =
    let all_of = spec_asks _ _ _ _ _ _ _ _ _ c.requires.0 c.put_blank.ensures _ _ _ c.loop-v.invariant.1
    (omega arith) c.member.ensures c.if-member.true c.requires.1 in
    record { takes_version = all_of.0; c_value = all_of.1 }

pub loop-v-preserved : goal.loop-v-preserved
loop-v-preserved c =
    let blanked = c.put_blank.ensures in (
      omega arith,
      elim c.if-member.branch [
        | then-member w ↦ rw w.book-is (spec_in_lem _ _ _ _ _ _ _ _ _ c.requires.0 blanked _ _ _ c.loop-v.invariant.1 _ _ _
            c.member.ensures w.if-member.true refl (search rules) w.put_version.ensures)
        | else-member w ↦ rw w.book-is (spec_out _ _ _ _ _ _ _ _ _ c.requires.0 blanked _ _ _ c.loop-v.invariant.1 c.member.ensures w.if-member.false)
      ],
    )

pub returns : goal.returns
returns c = search (rules, spec_end)
