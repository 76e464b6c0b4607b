use Rattle.session_rows.specs.Asked.{query_of}
use Rattle.session_rows.specs.ShownLaws.{components_put, facilities_put, version_put}
use Rattle.session_ask_component.proofs.put_of_component.Goals as goal

pub returns-in-Supplies : goal.returns-in-Supplies
unfolding query_of
returns-in-Supplies c =
    rw c.in-Supplies.is (facilities_put c.args.state.now _ c.passing-book.ensures _ _ c.supplies_in.ensures c.put_numbers.ensures)

pub returns-in-Standard : goal.returns-in-Standard
unfolding query_of
returns-in-Standard c =
    rw c.in-Standard.is (version_put c.args.state.now _ c.passing-book.ensures _ _ c.standard_in.ensures c.put_version.ensures)

pub returns-in-WhereUsed : goal.returns-in-WhereUsed
unfolding query_of
returns-in-WhereUsed c =
    rw c.in-WhereUsed.is (components_put c.args.state.now _ c.passing-book.ensures _ _ c.whereused_in.ensures c.put_numbers-in-WhereUsed.ensures)
