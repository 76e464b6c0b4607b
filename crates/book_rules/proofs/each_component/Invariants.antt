use Rattle.std.proofs.Common.{◌≡◌, ◌<◌, ℕ, get_or, length}
use Rattle.book_rules.proofs.each_component.Given as goal

abbrev pub invariant-loop-c : goal.invariant-loop-c
invariant-loop-c g l = (length l.row-items ≡ 32) × ((d : ℕ) → d < l.c → goal.F-post g l.fn.set d (get_or l.row-items d 0))
