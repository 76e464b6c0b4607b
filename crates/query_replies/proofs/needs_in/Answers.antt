use Rattle.book_rules.specs.TestLaws.{passes_sound}
use Rattle.query_replies.proofs.needs_in.Goals as goal

pub new-needs-requires : goal.new-needs-requires
new-needs-requires c = passes_sound _ _ c.args.passing.passes
