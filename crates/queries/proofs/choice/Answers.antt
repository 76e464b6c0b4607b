use Rattle.std.proofs.Common.{rules}
use Rattle.query_choice.specs.ChoiceLaws.{choice_untested}
use Rattle.queries.proofs.choice.Goals as goal

pub returns-in_err-book : goal.returns-in_err-book
returns-in_err-book c = choice_untested _ _ _ _ _ _ (search rules) (search rules) (search rules)
