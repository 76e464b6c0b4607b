use Rattle.std.proofs.Common.{rules}
use Rattle.text.specs.Bytes.{bytes}
use Rattle.book.specs.Plain.{plain}
use Rattle.names.specs.Stored.{tables}
use Rattle.write_bytes.specs.WritesLaws.{writes_as, writes_then}
use Rattle.write_version.specs.ListedLaws.{listed_is}
use Rattle.write_version.specs.PieceLaws.{in_same, sys_version_is}
use Rattle.write_version.specs.Pieces.{member_text}
use Rattle.write_version.proofs.put_sys_version.Goals as goal

pub put_listed-requires : goal.put_listed-requires
put_listed-requires c = search (rules, in_same)

pub returns : goal.returns
unfolding bytes
returns c =
    writes_as (sys_version_is _ _ _ _ _ _ _ c.name.ensures c.members.ensures)
    (writes_then c.put.ensures (writes_then c.put-2.ensures (writes_as (listed_is _ _ _ _ _)
    (c.put_listed.ensures (member_text (plain c.args.book.now) (tables c.args.names.now) c.args.c c.args.v) (λ a b k h p. search rules)))))
