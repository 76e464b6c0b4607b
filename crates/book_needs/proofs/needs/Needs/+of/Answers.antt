use Rattle.std.specs.Prelude.{not}
use Rattle.std.proofs.Common.{rules, arith, sym, ◌∙◌, ◌<◌, ap, length}
use Rattle.sets.specs.Sets.{bit}
use Rattle.sets.specs.LoopLaws.{union_start}
use Rattle.model_laws.specs.Notions.{systems_below}
use Rattle.book.specs.Plain.{specs_of, systems_of, plain}
use Rattle.book_rules.specs.WalkLaws.{needs_required, needs_absent, needs_summed, member_falls, turn_taken, turn_left, kept_more}
use Rattle.sets.specs.Answered.{answered}
use Rattle.book_needs.specs.declared.needs.Needs.{Needs}
use Rattle.book_needs.proofs.needs.Needs.+of.Goals as goal
use Rattle.book_needs.proofs.needs.Needs.+of.Goals.{in-Some-version, in_default-version}

pub returns-then-not-is_system-clause-value : goal.returns-then-not-is_system-clause-value
returns-then-not-is_system-clause-value t c = search (rules, needs_required)

pub returns-in_default-clause-value : goal.returns-in_default-clause-value
returns-in_default-clause-value t c =
    needs_absent _ _ _ _ c.args.self.now.sound c.is_system.ensures (ap not c.if-not-is_system.false) c.in_default.ensures.place

pub returns-in-Some-found-clause-value : goal.returns-in-Some-found-clause-value
unfolding answered
returns-in-Some-found-clause-value t c = c.args.self.now.kept.found _ _ _ _ (sym c.in-Some.ensures.place) c.in-Some-found.is

pub loop-m-init : goal.loop-m-init
loop-m-init t c = (search rules, search rules, union_start _)

pub of-requires : goal.of-requires
of-requires t c = (
  rw c.loop-m.invariant.1 (member_falls (specs_of c.args.self.now.book.now.sets c.args.self.now.book.now.numbers) _ _ _ _ _ _ c.args.self.now.sound
      c.decreases c.in-Some-version.ensures),
  tt,
)

pub loop-m-preserved : goal.loop-m-preserved
loop-m-preserved t c = (
  omega arith,
  elim c.match-version.branch [
    | in-Some-version w ↦ ap (λ (s : Needs). s.book.now) w.self-is ∙ w.of.ensures.same_book ∙ c.loop-m.invariant.1
    | in_default-version w ↦ ap (λ (s : Needs). s.book.now) w.self-is ∙ c.loop-m.invariant.1
  ],
  elim c.match-version.branch [
    | in-Some-version w ↦ ap bit w.sum-is ∙ turn_taken _ _ _ _ _ _ _ _ _ c.loop-m.invariant.2
        w.in-Some-version.ensures (rw c.loop-m.invariant.1 at w.of.ensures.value) w.union-sum.ensures
    | in_default-version w ↦ ap bit w.sum-is ∙ turn_left _ _ _ _ _ _ c.loop-m.invariant.2 w.in_default-version.ensures
  ],
)

pub returns-clause-value : goal.returns-clause-value
returns-clause-value t c =
    needs_summed (specs_of c.args.self.now.book.now.sets c.args.self.now.book.now.numbers) _ _ _ c.args.self.now.sound c.is_system.ensures
    (ap not c.if-not-is_system.false) _ _ c.loop-m.invariant.0 (omega arith) c.loop-m.invariant.2

pub invariant_of-self-clause-kept : goal.invariant_of-self-clause-kept
invariant_of-self-clause-kept t c =
    let e = c.loop-m.invariant.1 in
    kept_more _ _ _ c.args.c c.args.v _ _ c.loop-m.self.kept (rw e c.in-Some.ensures.place) (rw e
    (needs_summed (specs_of c.args.self.now.book.now.sets c.args.self.now.book.now.numbers) _ _ _ c.args.self.now.sound c.is_system.ensures
    (ap not c.if-not-is_system.false) _ _ c.loop-m.invariant.0 (omega arith) c.loop-m.invariant.2))
