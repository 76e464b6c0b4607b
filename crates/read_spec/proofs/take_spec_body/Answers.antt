use Rattle.std.proofs.Common.{refl}
use Rattle.read_spec.specs.Asked.{SpecStep, spec_body, spec_state}
use Rattle.read_spec.specs.BodyLaws.{none_standard, one_standard}
use Rattle.read_tokens.specs.SequenceLaws.{behind_lacks, behind_read, end_read, first_lacks, give_read, next_lacks, next_read, read_seen}
use Rattle.read_spec.proofs.take_spec_body.Goals as goal

-- the versions, by what is seen of the tables and of what is gathered
pub returns-in_default : goal.returns-in_default
unfolding spec_body
returns-in_default c =
    let z = c.key.new.self in
    let g = read_seen (λ s. spec_state s.0.table.rows s.1.table.rows s.2) SpecStep _ _ _ c.args.reader.now c.take_list.new.reader c.in_ok-v.ensures in (
      next_lacks c.args.reader.now c.take_list.new.reader g _ (λ vs h.
          behind_lacks c.take_list.new.reader z (end_read c.take_list.new.reader z c.in_ok-key.ensures) _
          (first_lacks _ z (none_standard _ _ _ _ _ _ _ c.no_spec_versions.ensures h c.in_default.not-Once z) _)),
      refl,
    )

pub returns : goal.returns
unfolding spec_body
returns c =
    let z = c.key.new.self in
    let g = read_seen (λ s. spec_state s.0.table.rows s.1.table.rows s.2) SpecStep _ _ _ c.args.reader.now c.take_list.new.reader c.in_ok-v.ensures in
    next_read c.args.reader.now c.take_list.new.reader g _ z (λ vs h.
    behind_read c.take_list.new.reader z (end_read c.take_list.new.reader z c.in_ok-key.ensures) _ z
    (next_read z z (one_standard _ _ _ _ _ _ _ c.no_spec_versions.ensures h _ c.in-Once.is _ c.zip.ensures z) _ z
    (λ w g. give_read _ z g)))
