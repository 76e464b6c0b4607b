use Rattle.std.proofs.Common.{◌∙◌, ap}
use Rattle.sets.specs.Tests.{◌≤?◌, if?◌then◌else◌}
use Rattle.seqs.specs.SameLaws.{same_is}
use Rattle.text.specs.Bytes.{bytes, keywords, same}
use Rattle.names.specs.Stored.{before, name_in, name_of, table_of, up_to_last}
use Rattle.words.proofs.is_keyword.Goals as goal

pub returns : goal.returns
unfolding table_of up_to_last before name_in name_of if?◌then◌else◌ ◌≤?◌ keywords bytes
returns c = c.eq.ensures ∙ same_is _ _ ∙ ap (same c.args.word.now) c.name.ensures
