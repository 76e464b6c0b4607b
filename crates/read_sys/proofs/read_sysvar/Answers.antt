use Rattle.text.specs.Language.{add_sysvar, compos}
use Rattle.read_tokens.specs.SequenceLaws.{behind_read, end_read, give_read, next_read}
use Rattle.read_mod.specs.PairLaws.{pair_entered}
use Rattle.read_sys.specs.SysvarLaws.{sysvar_asked}
use Rattle.read_sys.proofs.read_sysvar.Goals as goal

pub returns : goal.returns
unfolding add_sysvar compos
returns c = record {
  by_index = λ f i.
      let z = c.key.new.self in
      next_read c.args.reader.now c.take_pair.new.reader c.in_ok-p.ensures _ z (λ x e.
      behind_read c.take_pair.new.reader c.mark.new.self c.in_ok-mark.ensures _ z
      (next_read c.mark.new.self c.take_members.new.reader c.in_ok-m.ensures _ z (λ ms b.
      behind_read c.take_members.new.reader z (end_read c.take_members.new.reader z c.in_ok-key.ensures) _ z
      (give_read _ z (sysvar_asked c.args.tables.now c.take_pair.new.tables c.take_members.new.tables _ _ _ f i
      (pair_entered e.component e.version c.pair_of.ensures) b
      c.sysvar_request.ensures)))));
}
