use Rattle.book_rules.specs.CompositionLaws.{member_usable}
use Rattle.book_compositions.proofs.member_ok.Goals as goal

pub returns-then-member : goal.returns-then-member
returns-then-member c =
    member_usable _ _ _ _ _ _ _ c.in-Some.ensures c.usable.ensures c.member.ensures c.if-member.true c.has_version.ensures
