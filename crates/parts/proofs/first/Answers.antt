use Rattle.std.proofs.Common.{arith, zero-le, ap, sym, ◌∙◌, ◌≡◌, ◌-◌, ℕ}
use Rattle.model.specs.Lists.{first_from}
use Rattle.parts.specs.Due.{pair_found}
use Rattle.parts.specs.DueLaws.{first_end, first_stop, first_turn}
use Rattle.parts.proofs.first.Goals as goal

pub loop-k-init : goal.loop-k-init
loop-k-init g c = (zero-le, λ f h. (let e : c.args.n ≡ c.args.n - 0 = omega arith in ap (λ (m : ℕ). first_from m 0 f) e))

pub returns-in-Some : goal.returns-in-Some
unfolding pair_found
returns-in-Some g c f h =
    let found = sym (h _ _ c.loop-k-test.true c.find.ensures) ∙ ap pair_found c.in-Some.is in
    sym (first_stop _ f _ _ c.loop-k-test.true (c.loop-k.invariant.1 f h) found)

pub loop-k-preserved : goal.loop-k-preserved
unfolding pair_found
loop-k-preserved g c = (
  omega arith,
  λ f h. (let found = sym (h _ _ c.loop-k-test.true c.find.ensures) ∙ ap pair_found c.in_default.is in
      first_turn _ f _ c.loop-k-test.true (c.loop-k.invariant.1 f h) found),
)

pub returns : goal.returns
unfolding pair_found
returns g c f h = sym (first_end _ f _ (omega arith) (c.loop-k.invariant.1 f h))
