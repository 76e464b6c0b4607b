use Rattle.std.proofs.Common.{rules}
use Rattle.book.specs.TestLaws.{apart_both, apart_high, apart_is, apart_other}
use Rattle.book.proofs.Book.slots_apart.Goals as goal
use Rattle.book.proofs.Book.slots_apart.Goals.{else-v-ge64, then-v-ge64}

pub returns-then-v-version_at : goal.returns-then-v-version_at
returns-then-v-version_at c = elim c.if-v-ge64.branch [
  | then-v-ge64 w ↦ search (rules, apart_high)
  | else-v-ge64 w ↦ search (rules, apart_other)
]

pub returns-else-v-version_at : goal.returns-else-v-version_at
returns-else-v-version_at c = elim c.if-v-ge64.branch [
  | then-v-ge64 w ↦ apart_both _ w.value-is c.if-v-version_at.false w.if-v-ge64.true
  | else-v-ge64 w ↦ search (rules, apart_is)
]
