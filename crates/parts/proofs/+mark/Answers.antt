use Rattle.std.proofs.Common.{rules, arith}
use Rattle.book.specs.Plain.{specs_of}
use Rattle.book_rules.specs.TestLaws.{passes_sound}
use Rattle.book_rules.specs.WalkLaws.{member_falls}
use Rattle.parts.specs.MarkLaws.{good_book, marked_found, marking_start, marking_turn, marking_skip, marking_end, marking_is, walk_limits}
use Rattle.parts.proofs.+mark.Goals as goal
use Rattle.parts.proofs.+mark.Goals.{in-Some, in_default}

pub returns-then-member : goal.returns-then-member
returns-then-member t c = marked_found _ _ _ _ c.requires.closed c.member.ensures c.if-member.true

pub loop-m-init : goal.loop-m-init
loop-m-init t c = (search rules, marking_start _ _ _ _ c.requires.closed)

pub mark-requires : goal.mark-requires
mark-requires t c = (
  member_falls (specs_of c.args.passing.book.now.sets c.args.passing.book.now.numbers) _ _ _ _ _ _ (passes_sound _ _ c.args.passing.passes)
      c.decreases c.in-Some.ensures,
  (walk_limits _ (good_book _ _ c.args.passing.passes) _ _ _ _ c.in-Some.ensures, c.loop-m.invariant.1.onto.closed),
)

pub loop-m-preserved : goal.loop-m-preserved
loop-m-preserved t c = (
  omega arith,
  elim c.match-version.branch [
    | in-Some w ↦ marking_is _ _ _ _ _ w.marks-is (marking_turn _ _ _ _ _ _ _ _ c.loop-m.invariant.1 w.in-Some.ensures w.mark.ensures)
    | in_default w ↦ marking_is _ _ _ _ _ w.marks-is (marking_skip _ _ _ _ _ _ c.loop-m.invariant.1 w.in_default.ensures)
  ],
)

pub returns : goal.returns
returns t c =
    marking_end _ _ _ _ _ _ _ (good_book _ _ c.args.passing.passes).system_limits (omega arith) c.loop-m.invariant.1 c.requires.c_bound.0 c.with.ensures
