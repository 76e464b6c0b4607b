use Rattle.std.proofs.Common.{◌≡◌, ◌≤◌, ℕ, arith, length, rules, replicate, subst, take}
use lib.ListN.{length-replicate}
use Rattle.std.specs.Prelude.{IfOk, Result as Found}
use Rattle.refusal.specs.Numbers.{code, found}
use Rattle.refusal.specs.declared.Refusal.{Refusal}
use Rattle.session_rows.specs.ListedLaws.{choice-room, choice_put, listed_written}
use Rattle.session_ask_book.proofs.put_choice.Goals as goal

pub map-requires : goal.map-requires
map-requires c = λ x e κs y z.
    let room = subst (λ (o : Found ℕ Refusal). found o ≤ length c.choice_in-reply.new.out) e (choice-room _ _ _ _ _ c.choice_in-reply.ensures) in
    omega (arith, room, c.choice_in-reply.auto.out)

pub returns : goal.returns
returns c =
    let same : code c.map.result ≡ code c.choice_in-reply.result = search rules in
    let rows : IfOk c.map.result (λ k. k.now ≡ take (found c.choice_in-reply.result) c.choice_in-reply.new.out) = search rules in
    λ fs e.
    choice_put c.args.state.now c.passing.ensures c.args.wanted c.ranges.wanted.fits fs e (replicate 2048 0) c.choice_in-reply.new.out
    (code c.choice_in-reply.result) (found c.choice_in-reply.result) (length-replicate {A = ℕ} 2048 0) c.choice_in-reply.ensures _
    c.map.result same rows (listed_written c.args.state.now.names _ c.map.result c.put_listed.ensures)
