use Rattle.std.proofs.Common.{refl}
use Rattle.text.specs.Language.{add_modvar}
use Rattle.read_tokens.specs.SequenceLaws.{behind_read, first_lacks, give_read, next_lacks, next_read}
use Rattle.read_mod.specs.ModLaws.{behind_impl, impl_read}
use Rattle.read_mod.specs.PairLaws.{modvar_asked, pair_entered}
use Rattle.read_mod.proofs.read_modvar.Goals as goal

pub returns-in_err-i : goal.returns-in_err-i
unfolding add_modvar
returns-in_err-i c =
    let q = c.take_requirements.new.reader in let k = c.key.new.self in
    rw c.from_residual-in_err-i.ensures (
      next_lacks c.args.reader.now c.take_pair.new.reader c.in_ok-p.ensures _ (λ x h.
          next_lacks c.take_pair.new.reader q c.in_ok-q.ensures _ (λ rs h.
          behind_impl _ q k c.in_ok-key.ensures (first_lacks _ k c.in_err-i.ensures.0 _))),
      refl,
    )

pub returns : goal.returns
unfolding add_modvar
returns c =
    let named = impl_read c.take_requirements.new.reader c.key.new.self c.in_ok-key.ensures in
    let z = c.take_imp.new.reader in
    next_read c.args.reader.now c.take_pair.new.reader c.in_ok-p.ensures _ z (λ x e.
    next_read c.take_pair.new.reader c.take_requirements.new.reader c.in_ok-q.ensures _ z (λ rs f.
    behind_read c.take_requirements.new.reader c.key.new.self named _ z
    (next_read c.key.new.self z c.in_ok-i.ensures _ z (λ i g.
    give_read _ z (modvar_asked _ _ _ _ _ _ _ _ _ _ _ (pair_entered e.component e.version c.pair_of.ensures) f g c.modvar_request.ensures)))))
