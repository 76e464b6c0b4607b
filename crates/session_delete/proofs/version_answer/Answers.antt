use Rattle.std.proofs.Common.{◌∙◌, sym}
use Rattle.session_delete.specs.Removed.{version_answer}
use Rattle.sets.specs.TestLaws.{if-false, if-true}
use Rattle.session_delete.proofs.version_answer.Goals as goal

pub returns-then-is_of_kind : goal.returns-then-is_of_kind
unfolding version_answer
returns-then-is_of_kind c = sym (if-true _ _ _ (sym c.is_of_kind.ensures ∙ c.if-is_of_kind.true))

pub returns-else-is_of_kind : goal.returns-else-is_of_kind
unfolding version_answer
returns-else-is_of_kind c = c.pair_answer.ensures ∙ sym (if-false _ _ _ (sym c.is_of_kind.ensures ∙ c.if-is_of_kind.false))
