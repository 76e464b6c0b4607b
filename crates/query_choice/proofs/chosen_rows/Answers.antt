use Rattle.std.proofs.Common.{rules}
use Rattle.query_choice.proofs.chosen_rows.Goals as goal

pub returns : goal.returns
returns c = record {
  size = c.each_component.ensures.size;
  row = λ d l. (let each = c.each_component.ensures.each d l in search rules);
}
