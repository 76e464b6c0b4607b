use Rattle.std.proofs.Common.{◌*◌, ◌≤◌, ◌≡◌}
use Rattle.query_replies.specs.Found.{row_in}
use Rattle.sets.specs.Tests.{count}
use Rattle.query_choice.proofs.count_rows.Given as goal

abbrev pub invariant-loop-versions : goal.invariant-loop-versions
invariant-loop-versions l = (l.versions-index ≤ 32) × (l.found ≡ count (l.versions-index * 64) (row_in l.chosen))
