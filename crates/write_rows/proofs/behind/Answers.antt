use Rattle.std.proofs.Common.{◌∙◌, ap, sym}
use Rattle.write_rows.specs.RestLaws.{after, after_less, after_none}
use Rattle.write_rows.proofs.behind.Goals as goal

pub returns-in_err-len : goal.returns-in_err-len
returns-in_err-len c = after_none _ _ c.in_err-len.was c.from_residual.ensures

pub returns-in_err-left : goal.returns-in_err-left
returns-in_err-left c = c.from_residual-in_err-left.ensures ∙ sym (ap (λ l. after l c.args.row) c.in_err-left.was)

pub returns : goal.returns
returns c = after_less _ _ c.in_ok-left.was c.in_ok-len.was c.checked_sub.ensures
