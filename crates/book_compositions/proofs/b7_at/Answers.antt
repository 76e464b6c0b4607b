use Rattle.book_rules.specs.CompositionLaws.{b7_is}
use Rattle.book_compositions.proofs.b7_at.Goals as goal

pub returns-clause-value : goal.returns-clause-value
returns-clause-value c =
    b7_is _ _ _ _ _ _ _ c.args.needs.now.sound c.requires c.of-needed.ensures.value c.provides.ensures
    c.union.ensures c.all_wanted.ensures
