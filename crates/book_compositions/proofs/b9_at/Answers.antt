use Rattle.book_rules.specs.CompositionLaws.{b9_is}
use Rattle.book_compositions.proofs.b9_at.Goals as goal

pub returns-clause-value : goal.returns-clause-value
returns-clause-value c =
    b9_is _ _ _ _ _ _ _ _ c.args.needs.now.sound c.requires c.of-needed.ensures.value c.provided.ensures c.minus-open.ensures
    c.offered.ensures c.disjoint.ensures
