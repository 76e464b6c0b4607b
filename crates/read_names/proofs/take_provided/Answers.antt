use Rattle.std.proofs.Common.{refl}
use Rattle.read_tokens.specs.ProductionLaws.{up_to_absent, up_to_is, up_to_open, up_to_wrong}
use Rattle.read_tokens.specs.Steps.{facility_start, facility_state}
use Rattle.read_names.proofs.take_provided.Goals as goal

pub returns-then-passes_mark : goal.returns-then-passes_mark
unfolding facility_start facility_state
returns-then-passes_mark c = up_to_absent _ c.args.reader.now c.passes_mark.new.self _ _ c.if-passes_mark.ensures

pub returns-in_err-provided : goal.returns-in_err-provided
returns-in_err-provided c =
    rw c.from_residual.ensures
    (up_to_wrong _ c.args.reader.now c.passes_mark.new.self c.if-passes_mark.ensures c.in_err-provided.ensures.0, refl)

pub returns-in_err-mark : goal.returns-in_err-mark
returns-in_err-mark c =
    rw c.from_residual-in_err-mark.ensures (
      up_to_open _ c.args.reader.now c.passes_mark.new.self c.if-passes_mark.ensures _ c.take_facilities.new.reader
          c.in_ok-provided.ensures c.in_err-mark.ensures.0,
      refl,
    )

pub returns : goal.returns
returns c =
    up_to_is _ c.args.reader.now c.passes_mark.new.self c.if-passes_mark.ensures _ c.take_facilities.new.reader
    c.in_ok-provided.ensures c.mark.new.self c.in_ok-mark.ensures
