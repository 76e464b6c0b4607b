use Rattle.std.proofs.Common.{refl}
use Rattle.text.specs.Language.{add_spec}
use Rattle.read_tokens.specs.SequenceLaws.{behind_lacks, behind_read, first_lacks, give_read, next_lacks, next_read}
use Rattle.read_spec.specs.SpecRequestLaws.{provides_read, rest_lacks, rest_read, spec_asked}
use Rattle.read_spec.proofs.read_spec.Goals as goal

pub returns-in_err-p : goal.returns-in_err-p
unfolding add_spec
returns-in_err-p c = λ i.
    rw c.from_residual-in_err-p.ensures (
      next_lacks c.args.reader.now c.take_name.new.reader c.in_ok-c.ensures _ (λ x h.
          behind_lacks c.take_name.new.reader c.key.new.self (provides_read c.take_name.new.reader c.key.new.self c.in_ok-key.ensures) _
          (first_lacks _ c.key.new.self c.in_err-p.ensures.0 _)),
      refl,
    )

pub returns-in_err-b : goal.returns-in_err-b
unfolding add_spec
returns-in_err-b c = λ i.
    rw c.from_residual-in_err-b.ensures (
      next_lacks c.args.reader.now c.take_name.new.reader c.in_ok-c.ensures _ (λ x h.
          behind_lacks c.take_name.new.reader c.key.new.self (provides_read c.take_name.new.reader c.key.new.self c.in_ok-key.ensures) _
          (next_lacks c.key.new.self c.take_provided.new.reader c.in_ok-p.ensures _ (λ ps k.
          rest_lacks x ps c.take_provided.new.reader (first_lacks _ c.take_provided.new.reader c.in_err-b.ensures.0 _)))),
      refl,
    )

pub returns : goal.returns
unfolding add_spec
returns c = λ i.
    let z = c.take_spec_body.new.reader in
    next_read c.args.reader.now c.take_name.new.reader c.in_ok-c.ensures _ z (λ x e.
    behind_read c.take_name.new.reader c.key.new.self (provides_read c.take_name.new.reader c.key.new.self c.in_ok-key.ensures) _ z
    (next_read c.key.new.self c.take_provided.new.reader c.in_ok-p.ensures _ z (λ ps f.
    rest_read x ps c.take_provided.new.reader z (next_read c.take_provided.new.reader z c.in_ok-b.ensures _ z (λ y g.
    give_read _ z (spec_asked _ _ _ _ _ _ _ _ _ _ _ e f g c.spec_request.ensures i))))))
