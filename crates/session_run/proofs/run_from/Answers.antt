use Rattle.std.proofs.Common.{◌∙◌, ap, drop, refl, rules, Bor, List, ℕ}
use Rattle.session_run.specs.RanLaws.{runs_end, runs_on, runs_start}
use Rattle.session_run.proofs.run_from.Goals as goal

pub loop-end-init : goal.loop-end-init
loop-end-init c = record {
  text = refl;
  running = runs_start _ _ _ _ _ c.requires c.args.reader.inside c.new-writer.ensures.left c.new-writer.ensures.same_bytes;
}

pub loop-end-preserved : goal.loop-end-preserved
loop-end-preserved c =
    let rest = c.rest.ensures ∙ ap (λ (t : Bor (List ℕ)). drop c.loop-end.next.at t.now) c.loop-end.invariant.text in
    record {
      text = c.behind-next.ensures.0 ∙ c.loop-end.invariant.text;
      running = runs_on c.loop-end.invariant.running rest c.in-Some.ensures c.behind-next.ensures.1;
    }

pub returns : goal.returns
returns c =
    let rest = c.rest.ensures ∙ ap (λ (t : Bor (List ℕ)). drop c.loop-end.next.at t.now) c.loop-end.invariant.text in
    runs_end c.loop-end.invariant.running rest c.in_default.ensures (search rules)
