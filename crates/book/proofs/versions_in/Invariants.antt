use Rattle.std.proofs.Common.{◌≡◌, get_or}
use Rattle.book.specs.Plain.{among_first}
use Rattle.sets.specs.Sets.{bit}
use Rattle.book.proofs.versions_in.Given as goal

abbrev pub invariant-loop-v : goal.invariant-loop-v
invariant-loop-v l = bit l.found ≡ among_first l.v-index (λ j. get_or l.listed j 0)
