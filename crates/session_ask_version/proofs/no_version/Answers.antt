use Rattle.std.proofs.Common.{◌∙◌, sym}
use Rattle.sets.specs.TestLaws.{if-false, if-true}
use Rattle.session_ask_version.proofs.no_version.Goals as goal

pub returns-then-is_specified : goal.returns-then-is_specified
returns-then-is_specified c = sym (if-true _ _ _ (sym c.is_specified.ensures ∙ c.if-is_specified.true))

pub returns-else-is_specified : goal.returns-else-is_specified
returns-else-is_specified c = sym (if-false _ _ _ (sym c.is_specified.ensures ∙ c.if-is_specified.false))
