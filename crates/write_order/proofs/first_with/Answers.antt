use Rattle.std.specs.Prelude.{not}
use Rattle.std.proofs.Common.{◌∙◌, ap, refl, sym}
use Rattle.sets.specs.Answered.{answered}
use Rattle.names.specs.EnterLaws.{found_at, found_nothing}
use Rattle.write_bytes.specs.BeforeLaws.{before_as}
use Rattle.write_bytes.specs.ByNameLaws.{comes_first, not_in_set, only_one, stays_first}
use Rattle.write_order.proofs.first_with.Goals as goal

pub returns-then-not-member : goal.returns-then-not-member
returns-then-not-member g c = not_in_set _ _ _ _ c.member.ensures (ap not c.if-not-member.true)

pub returns-in_default : goal.returns-in_default
unfolding answered
returns-in_default g c =
    only_one _ _ _ _ c.member.ensures (ap not c.if-not-member.false) (found_nothing _ _ refl c.in_default.is)

pub returns-then-lt : goal.returns-then-lt
unfolding answered
returns-then-lt g c =
    comes_first _ _ _ _ c.member.ensures (ap not c.if-not-member.false) _ (found_at _ _ _ refl c.in-Some.is) c.name.ensures c.name-2.ensures
    (before_as _ _ _ c.lt.ensures) c.if-lt.true

pub returns : goal.returns
returns g c =
    ap answered (sym c.in-Some.is)
    ∙ stays_first _ _ _ _ c.member.ensures (ap not c.if-not-member.false) _ (found_at _ _ _ refl c.in-Some.is) c.name.ensures c.name-2.ensures
    (before_as _ _ _ c.lt.ensures) c.if-lt.false
