use Rattle.std.proofs.Common.{rules}
use Rattle.names.specs.EnterLaws.{new_fits, new_held, new_number, new_table}
use Rattle.names.proofs.filled.Filled.put_new.Goals as goal

pub put-requires : goal.put-requires
put-requires g c =
    let h = c.args.self.now.kept.held in
    let e = c.lowest_free.ensures in
    (search rules, (new_fits _ _ h _ e _ c.in_ok-k.was, (new_number _ _ h _ e _ c.in_ok-k.was, c.requires.word_value)))

pub invariant_of-self : goal.invariant_of-self
invariant_of-self g c = record { kept = record { held = search (rules, new_held) } }

pub returns-clause-names_after : goal.returns-clause-names_after
returns-clause-names_after g c =
    new_table _ _ c.args.self.now.kept.held _ c.lowest_free.ensures _ c.requires.word_value_2 _ c.in_ok-k.was _ c.put.ensures
