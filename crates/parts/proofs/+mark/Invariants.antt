-- The walk over members. The measure is the number of systems that can still be met below; the invariant says that the members passed are
-- marked, with what they are made from.
use Rattle.std.proofs.Common.{◌≤◌}
use Rattle.model_laws.specs.Notions.{systems_below}
use Rattle.book.specs.Plain.{systems_of}
use Rattle.parts.specs.Marks.{Marking}
use Rattle.parts.proofs.+mark.Given as goal

abbrev pub decreases-mark : goal.decreases-mark
decreases-mark l = systems_below (systems_of l.passing.book.now.sets l.passing.book.now.numbers) l.c

abbrev pub invariant-loop-m : goal.invariant-loop-m
invariant-loop-m l = (l.m ≤ 32) × Marking (systems_of l.passing.book.now.sets l.passing.book.now.numbers) l.c l.v l.m l.initial.marks l.marks
