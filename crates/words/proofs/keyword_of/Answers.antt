use Rattle.std.specs.Prelude.{not}
use Rattle.std.proofs.Common.{ap}
use Rattle.sets.specs.Tests.{◌≤?◌, if?◌then◌else◌}
use Rattle.text.specs.Bytes.{bytes, keywords}
use Rattle.names.specs.Stored.{before, name_in, name_of, table_of, up_to_last}
use Rattle.words.specs.NameLaws.{hash_none}
use Rattle.words.proofs.keyword_of.Goals as goal

pub returns-then-not-may_be_keyword : goal.returns-then-not-may_be_keyword
returns-then-not-may_be_keyword c = hash_none _ _ c.may_be_keyword.ensures (ap not c.if-not-may_be_keyword.true)

pub returns : goal.returns
unfolding table_of up_to_last before name_in name_of if?◌then◌else◌ ◌≤?◌ keywords bytes
returns c = c.lookup.ensures
