use Rattle.std.proofs.Common.{refl}
use Rattle.read_tokens.specs.ProductionLaws.{requirements_none, requirements_rest, requirements_wrong}
use Rattle.read_tokens.specs.Steps.{facility_start, facility_state}
use Rattle.read_names.proofs.take_requirements.Goals as goal

pub returns-then-not-passes_key : goal.returns-then-not-passes_key
unfolding facility_start facility_state
returns-then-not-passes_key c = requirements_none c.args.reader.now c.passes_key.new.self _ _ c.if-not-passes_key.ensures

pub returns-in_err-required : goal.returns-in_err-required
returns-in_err-required c =
    rw c.from_residual.ensures
    (requirements_wrong c.args.reader.now c.passes_key.new.self c.if-not-passes_key.ensures c.in_err-required.ensures.0, refl)

pub returns : goal.returns
returns c =
    requirements_rest c.args.reader.now c.passes_key.new.self c.if-not-passes_key.ensures _ c.take_facilities.new.reader
    c.in_ok-required.ensures
