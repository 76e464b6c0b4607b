use Rattle.std.proofs.Common.{◌∙◌, ap}
use Rattle.book.specs.SlotLaws.{among_in, among_none, among_out}
use Rattle.sets.specs.Sets.{bit}
use Rattle.book.proofs.versions_in.Goals as goal
use Rattle.book.proofs.versions_in.Goals.{else-v-lt64, then-v-lt64}

pub loop-v-init : goal.loop-v-init
loop-v-init c = among_none _

pub loop-v-preserved : goal.loop-v-preserved
loop-v-preserved c = elim c.if-v-lt64.branch [
  | then-v-lt64 w ↦ ap bit w.found-is ∙ among_in _ _ _ _ _ c.loop-v.invariant c.from-v.ensures w.if-v-lt64.true w.with-found.ensures
  | else-v-lt64 w ↦ ap bit w.found-is ∙ among_out _ _ _ _ c.loop-v.invariant c.from-v.ensures w.if-v-lt64.false
]
