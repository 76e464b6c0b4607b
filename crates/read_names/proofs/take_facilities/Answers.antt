use Rattle.read_tokens.specs.SequenceLaws.{read_seen}
use Rattle.read_tokens.specs.Steps.{FacilityStep, facility_start, facility_state}
use Rattle.read_names.proofs.take_facilities.Goals as goal

pub returns : goal.returns
unfolding facility_start facility_state
returns c =
    read_seen (λ s. facility_state s.0.table.rows s.2.0) FacilityStep _ _ _ c.args.reader.now c.take_list.new.reader c.in_ok-got.ensures
