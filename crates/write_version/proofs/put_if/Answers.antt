use Rattle.std.proofs.Common.{sym}
use Rattle.sets.specs.TestLaws.{if-false, if-true}
use Rattle.write_bytes.specs.WritesLaws.{writes_as, writes_none}
use Rattle.write_version.proofs.put_if.Goals as goal

pub returns-then-asked : goal.returns-then-asked
returns-then-asked c = writes_as (sym (if-true _ _ _ c.if-asked.true)) c.put.ensures

pub returns-else-asked : goal.returns-else-asked
returns-else-asked c = writes_as (sym (if-false _ _ _ c.if-asked.false)) (writes_none _)
