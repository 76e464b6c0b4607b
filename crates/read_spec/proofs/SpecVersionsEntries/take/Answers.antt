use Rattle.text.specs.Language.{spec_version}
use Rattle.read_tokens.specs.SequenceLaws.{first_lacks, give_read, next_lacks, next_read}
use Rattle.read_spec.specs.SetLaws.{spec_stepped, std_ahead}
use Rattle.read_spec.proofs.SpecVersionsEntries.take.Goals as goal

pub returns-in_err-v : goal.returns-in_err-v
unfolding spec_version
returns-in_err-v c =
    let std = std_ahead c.args.reader.now c.passes_key-std.new.self c.passes_key-std.ensures in
    rw c.from_residual.ensures
    (next_lacks c.args.reader.now c.passes_key-std.new.self std _ (λ x h.
    first_lacks _ c.passes_key-std.new.self c.in_err-v.ensures.0 _))

pub returns-in_err-q : goal.returns-in_err-q
unfolding spec_version
returns-in_err-q c =
    let std = std_ahead c.args.reader.now c.passes_key-std.new.self c.passes_key-std.ensures in
    rw c.from_residual-in_err-q.ensures
    (next_lacks c.args.reader.now c.passes_key-std.new.self std _ (λ x h.
    next_lacks c.passes_key-std.new.self c.take_name.new.reader c.in_ok-v.ensures _ (λ v h.
    first_lacks _ c.take_name.new.reader c.in_err-q.ensures.0 _)))

pub returns : goal.returns
unfolding spec_version
returns c =
    let std = std_ahead c.args.reader.now c.passes_key-std.new.self c.passes_key-std.ensures in
    let z = c.take_requirements.new.reader in
    next_read c.args.reader.now c.passes_key-std.new.self std _ z (λ x d.
    next_read c.passes_key-std.new.self c.take_name.new.reader c.in_ok-v.ensures _ z (λ v e.
    next_read c.take_name.new.reader z c.in_ok-q.ensures _ z (λ rs f.
    give_read _ z (spec_stepped _ _ _ _ _ _ _ d e f c.with_set.ensures c.with.ensures))))
