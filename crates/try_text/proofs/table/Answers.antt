use Rattle.std.proofs.Common.{Bool, rules, true, ◌∙◌, ◌≡◌, sym}
use Rattle.sets.specs.TestLaws.{and_l}
use Rattle.text.specs.Bytes.{Text, short, valid_implementation}
use Rattle.try_text.proofs.table.Goals as goal

valid_short : (w : Text) {r : Bool} → r ≡ valid_implementation w → r ≡ true → short w ≡ true
unfolding valid_implementation
valid_short w e t = and_l _ _ (sym e ∙ t)

pub enter-requires : goal.enter-requires
enter-requires g c = search (rules, valid_short)
