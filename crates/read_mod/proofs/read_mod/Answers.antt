use Rattle.text.specs.Language.{add_mod}
use Rattle.read_tokens.specs.ListLaws.{each_on}
use Rattle.read_tokens.specs.SequenceLaws.{behind_read, end_read, give_read, next_read}
use Rattle.read_mod.specs.ModLaws.{mod_asked}
use Rattle.read_mod.specs.ModSteps.{ModStep, mod_state}
use Rattle.read_mod.proofs.read_mod.Goals as goal

pub returns : goal.returns
unfolding add_mod
returns c = record {
  by_index = λ f.
      let z = c.key.new.self in
      next_read c.args.reader.now c.take_name.new.reader c.in_ok-c.ensures _ z (λ x e.
      behind_read c.take_name.new.reader c.mark.new.self c.in_ok-mark.ensures _ z
      (next_read c.mark.new.self c.take_list.new.reader c.in_ok-v.ensures _ z (λ is g.
      behind_read c.take_list.new.reader z (end_read c.take_list.new.reader z c.in_ok-key.ensures) _ z
      (give_read _ z (mod_asked _ _ _ _ _ _ _ _ _ f c.none.ensures e
      (each_on (λ s. mod_state s.0.table.rows s.1.table.rows s.2.0) ModStep _ _ is g) c.mod_request.ensures)))));
}
