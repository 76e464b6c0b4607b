use Rattle.std.proofs.Common.{◌∙◌, ap}
use Rattle.std.specs.Borrow.{Bor}
use Rattle.std.specs.Prelude.{List, ℕ, refl}
use Rattle.names.specs.RowLaws.{name_got}
use Rattle.names.proofs.table.name_of.Goals as goal

pub returns : goal.returns
returns c =
    ap (λ (b : Bor (List ℕ)). b.now) c.unwrap_or.ensures
    ∙ name_got c.args.row.now c.told-row _ c.from-n.ensures _ _ refl c.get.ensures.lookup.0
