use Rattle.std.proofs.Common.{rules, arith, ◌*◌, ◌+◌}
use Rattle.std.proofs.lemmas.List.{places}
use Rattle.std.proofs.lemmas.Slice.{put_mid-paste}
use Rattle.std.specs.List.{between}
use Rattle.book.specs.Layout.{row_in}
use Rattle.book.proofs.Book.set_member_versions.Goals as goal

pub returns-clause-numbers : goal.returns-clause-numbers
unfolding row_in
returns-clause-numbers c =
    put_mid-paste _ _ _ _ (between (c.args.v * 32) (c.args.v * 32 + 32) c.args.rows.now) 32 (search rules) (omega arith) (search (rules, places))
