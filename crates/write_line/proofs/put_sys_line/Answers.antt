use Rattle.std.proofs.Common.{rules}
use Rattle.text.specs.Bytes.{bytes}
use Rattle.book.specs.Plain.{plain}
use Rattle.names.specs.Stored.{tables}
use Rattle.write_bytes.specs.WritesLaws.{writes_as, writes_then}
use Rattle.write_line.specs.LineLaws.{sys_line_is, versions_of_system}
use Rattle.write_version.specs.Pieces.{sys_version}
use Rattle.write_line.proofs.put_sys_line.Goals as goal

pub returns : goal.returns
unfolding bytes
returns c =
    writes_as (sys_line_is _ _ _ _ _ _ c.name.ensures c.usable.ensures (versions_of_system _ _ _ c.is_system.ensures c.versions_if-versions.ensures))
    (writes_then c.put.ensures (writes_then c.put-2.ensures (writes_then c.put-3.ensures (writes_then c.put_names.ensures
    (c.put_ending.ensures (sys_version (plain c.args.book.now) (tables c.args.names.now) c.args.c) (λ a b v h p. search rules))))))
