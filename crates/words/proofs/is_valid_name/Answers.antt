use Rattle.std.proofs.Common.{rules}
use Rattle.words.specs.NameLaws.{name_empty, name_none, name_is, name_cut}
use Rattle.words.proofs.is_valid_name.Goals as goal

pub returns-then-is_empty : goal.returns-then-is_empty
returns-then-is_empty c = search (rules, name_empty, name_none)

pub returns-then-run_end-word : goal.returns-then-run_end-word
returns-then-run_end-word c = search (rules, name_is)

pub returns-else-run_end-word : goal.returns-else-run_end-word
returns-else-run_end-word c = search (rules, name_cut)
