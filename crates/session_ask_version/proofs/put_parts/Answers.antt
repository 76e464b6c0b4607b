use Rattle.std.proofs.Common.{◌≡◌, ◌≤◌, ℕ, arith, length, rules, replicate, subst, take}
use lib.ListN.{length-replicate}
use Rattle.std.specs.Prelude.{IfOk, Result as Found}
use Rattle.parts.specs.Listed.{depth_found, rows_found}
use Rattle.parts.specs.declared.PartsList.{PartsList}
use Rattle.refusal.specs.Numbers.{code}
use Rattle.refusal.specs.declared.Refusal.{Refusal}
use Rattle.session_rows.specs.ListedLaws.{listed_written, parts-room, parts_put}
use Rattle.session_ask_version.proofs.put_parts.Goals as goal

pub map-requires : goal.map-requires
map-requires c = λ x e κs y z.
    let room = subst (λ (o : Found PartsList Refusal). rows_found o ≤ length c.parts_in-reply.new.out) e
    (parts-room _ _ _ _ _ _ _ _ _ c.parts_in-reply.ensures) in
    omega (arith, room, c.parts_in-reply.auto.out)

pub returns : goal.returns
returns c =
    let same : code c.map.result ≡ code c.parts_in-reply.result = search rules in
    let rows : IfOk c.map.result (λ j. j.now ≡ take (rows_found c.parts_in-reply.result) c.parts_in-reply.new.out) = search rules in
    parts_put c.args.state.now c.passing.ensures c.args.c c.args.v (replicate 256 0) c.parts_in-reply.new.out (code c.parts_in-reply.result)
    (rows_found c.parts_in-reply.result) (depth_found c.parts_in-reply.result) (length-replicate {A = ℕ} 256 0) c.parts_in-reply.ensures _
    c.map.result same rows (listed_written c.args.state.now.names _ c.map.result c.put_listed.ensures)
