use Rattle.std.proofs.Common.{◌≡◌, ◌∙◌, ap, arith, length, refl}
use Rattle.read_tokens.specs.ReaderLaws.{entry_last, entry_less, entry_on, entry_wrong}
use Rattle.read_tokens.proofs.list.take_list.Goals as goal

pub returns-in_err-got : goal.returns-in_err-got
returns-in_err-got g c =
    rw c.from_residual.ensures
    (entry_wrong _ _ _ g.met.E.Entries.takes c.args.reader.now c.loop-got.ahead _ _ c.loop-got.invariant c.in_err-got.ensures, refl)

pub returns : goal.returns
returns g c =
    entry_last _ _ _ g.met.E.Entries.takes c.args.reader.now c.loop-got.ahead _ _ c.loop-got.invariant _ c.take.new.reader
    c.in_ok-got.ensures.0 c.in_ok-got.ensures.1 c.passes_mark.new.self c.if-not-passes_mark.ensures

pub loop-got-smaller : goal.loop-got-smaller
loop-got-smaller g c =
    let l = entry_less _ _ _ g.met.E.Entries.takes c.args.reader.now c.loop-got.ahead _ _ c.loop-got.invariant _ c.take.new.reader
    c.in_ok-got.ensures.0 c.in_ok-got.ensures.1 c.passes_mark.new.self c.if-not-passes_mark.ensures in
    let m = c.if-not-passes_mark.ensures in
    let same : length c.passes_mark.new.self.text.now ≡ length c.loop-got.ahead.text.now = ap (λ x. length x.now) (m.1 ∙ c.in_ok-got.ensures.1) in
    omega arith

pub loop-got-preserved : goal.loop-got-preserved
loop-got-preserved g c =
    entry_on _ _ _ g.met.E.Entries.takes c.args.reader.now c.loop-got.ahead _ _ c.loop-got.invariant _ c.take.new.reader
    c.in_ok-got.ensures.0 c.in_ok-got.ensures.1 c.passes_mark.new.self c.if-not-passes_mark.ensures
