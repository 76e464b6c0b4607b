use Rattle.words.specs.SkipLaws.{Skipping}
use Rattle.words.proofs.next_start.Given as goal

abbrev pub invariant-loop-i : goal.invariant-loop-i
invariant-loop-i l = Skipping l.text l.at l.i l.inside
