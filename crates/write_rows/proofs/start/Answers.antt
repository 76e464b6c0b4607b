use Rattle.std.proofs.Common.{◌∙◌, ap, sym}
use Rattle.write_rows.specs.RestLaws.{less_as, start_of}
use Rattle.write_rows.proofs.start.Goals as goal

pub returns-in_err-left-clause-value : goal.returns-in_err-left-clause-value
returns-in_err-left-clause-value c = c.from_residual.ensures ∙ sym (ap (λ l. start_of l c.args.n) c.in_err-left.was)

pub returns-clause-value : goal.returns-clause-value
returns-clause-value c = less_as _ _ c.checked_sub.ensures ∙ sym (ap (λ l. start_of l c.args.n) c.in_ok-left.was)
