use Rattle.std.proofs.Common.{◌≤◌, length}
use Rattle.try_words.proofs.print_tokens.Given as goal

abbrev pub invariant-loop-token : goal.invariant-loop-token
invariant-loop-token l = length l.rest ≤ length l.text

abbrev pub decreases-loop-token : goal.decreases-loop-token
decreases-loop-token l = length l.rest
