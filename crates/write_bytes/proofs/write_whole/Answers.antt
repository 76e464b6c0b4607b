use Rattle.std.proofs.Common.{rules}
use Rattle.write_bytes.specs.MeasuredLaws.{bytes_written, left_within, len_written, none_written, untouched}
use Rattle.write_bytes.proofs.write_whole.Goals as goal

pub returns-in_err-left-clause-value : goal.returns-in_err-left-clause-value
returns-in_err-left-clause-value g c =
    λ w h. none_written _ c.measuring-measure.ensures.left (h _ _ c.put.ensures) c.in_err-left.was c.from_residual.ensures

pub returns-in_err-left-clause-out_after : goal.returns-in_err-left-clause-out_after
returns-in_err-left-clause-out_after g c = λ w h. untouched _ c.measuring-measure.ensures.left (h _ _ c.put.ensures) c.in_err-left.was

pub overflow_sub-result : goal.overflow_sub-result
overflow_sub-result g c = left_within _ c.measuring-measure.ensures.left (c.requires.puts.1 _ _ c.put.ensures) c.in_ok-left.was

pub returns-clause-value : goal.returns-clause-value
returns-clause-value g c = λ w h. len_written _ c.measuring-measure.ensures.left (h _ _ c.put.ensures) c.in_ok-left.was

pub returns-clause-out_after : goal.returns-clause-out_after
returns-clause-out_after g c =
    λ w h. bytes_written _ c.measuring-measure.ensures.left (h _ _ c.put.ensures) c.in_ok-left.was c.new.ensures.left c.new.ensures.same_bytes
    (h _ _ c.put-2.ensures) (search rules)
