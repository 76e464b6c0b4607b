use Rattle.std.proofs.Common.{◌∙◌}
use Rattle.session.specs.PrintLaws.{printed_22, printed_ok, text_too_long}
use Rattle.session.proofs.print.Goals as goal

pub returns-then-text-gt-PROGRAM_BYTES-clause-out_after : goal.returns-then-text-gt-PROGRAM_BYTES-clause-out_after
returns-then-text-gt-PROGRAM_BYTES-clause-out_after c = c.put_22.ensures.out_after ∙ text_too_long _ c.if-text-gt-PROGRAM_BYTES.true

pub returns-in-Ok : goal.returns-in-Ok
returns-in-Ok c =
    let e = c.session.ensures in
    let both = printed_ok _ c.if-text-gt-PROGRAM_BYTES.false _ c.requires e.answer e.slice e.len c.in-Ok.is in
    record { upper_bound = both.0; out_after = both.1 }

pub returns-in-Err-clause-out_after : goal.returns-in-Err-clause-out_after
returns-in-Err-clause-out_after c =
    c.put_22-in-Err.ensures.out_after ∙ printed_22 _ c.if-text-gt-PROGRAM_BYTES.false _ c.requires c.session.ensures.answer c.in-Err.is
