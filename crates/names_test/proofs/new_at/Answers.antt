use Rattle.std.proofs.Common.{rules}
use Rattle.names_test.specs.NamedLaws.{new_free, new_is}
use Rattle.names_test.proofs.new_at.Goals as goal

pub returns-then-is_empty : goal.returns-then-is_empty
returns-then-is_empty g c = search (rules, new_free)

pub returns : goal.returns
returns g c = new_is _ _ c.name.ensures (search rules) (c.all.ensures _ (λ k r l p. search rules))
