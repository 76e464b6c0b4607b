use Rattle.session_rows.specs.Asked.{query_of_version}
use Rattle.session_rows.specs.ShownLaws.{facilities_put}
use Rattle.session_ask_version.proofs.put_of_version.Goals as goal

pub returns-in-Needs : goal.returns-in-Needs
unfolding query_of_version
returns-in-Needs c = rw c.in-Needs.is (facilities_put c.args.state.now _ c.passing.ensures _ _ c.needs_in-reply.ensures c.put_numbers.ensures)
