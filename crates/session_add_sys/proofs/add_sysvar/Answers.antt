use Rattle.std.proofs.Common.{◌∙◌, refl, sym}
use Rattle.session_add.specs.AddingLaws.{copied, ready_asked, ready_named, way_accepted, way_no_place, way_refused}
use Rattle.session_add.specs.AskedLaws.{sysvar_adds, sysvar_called}
use Rattle.session_add_sys.proofs.add_sysvar.Goals as goal

pub returns-in_err-r-clause-answers : goal.returns-in_err-r-clause-answers
returns-in_err-r-clause-answers c = rw c.from_residual.ensures
    (c.in_err-r.ensures.by_index c.args.state.now.names.facs.rows c.args.state.now.names.impls.rows)

pub returns-in_default-clause-answers : goal.returns-in_default-clause-answers
returns-in_default-clause-answers c =
    way_no_place c.args.state.now c.args.reader.now c.read_sysvar.new.reader (c.in_ok-r.ensures.by_index _ _)
    (copied c.args.state.now c.pairs-pairs.result c.pairs-pairs.ensures.comps c.pairs-pairs.ensures.vers refl refl)
    _ _ _ _ (λ x. sysvar_adds _ _ x _) c.in_default.is

pub invariant_of-state : goal.invariant_of-state
invariant_of-state c =
    let s = c.args.state.now in
    record {
      ready = ready_named c.args.state.now c.args.reader.now c.read_sysvar.new.reader (c.in_ok-r.ensures.by_index _ _)
          (copied c.args.state.now c.pairs-pairs.result c.pairs-pairs.ensures.comps c.pairs-pairs.ensures.vers refl refl)
          _ _ _ _ (λ x. sysvar_adds _ _ x _)
          _ c.in-Some.is _ (sysvar_called _ _ _ _ _ _ c.add_sysvar_in-answer.ensures)
          c.read_sysvar.new.tables.comps.kept c.read_sysvar.new.tables.vers.kept s.ready.facs s.ready.impls;
    }

pub invariant_of-state-else-is_ok : goal.invariant_of-state-else-is_ok
invariant_of-state-else-is_ok c = record {
  ready = ready_asked c.args.state.now c.args.reader.now c.read_sysvar.new.reader (c.in_ok-r.ensures.by_index _ _)
      (copied c.args.state.now c.pairs-pairs.result c.pairs-pairs.ensures.comps c.pairs-pairs.ensures.vers refl refl)
      _ _ _ _ (λ x. sysvar_adds _ _ x _)
      _ c.in-Some.is _ (sysvar_called _ _ _ _ _ _ c.add_sysvar_in-answer.ensures);
}

pub returns-then-is_ok-clause-answers : goal.returns-then-is_ok-clause-answers
returns-then-is_ok-clause-answers c =
    way_accepted c.args.state.now c.args.reader.now c.read_sysvar.new.reader (c.in_ok-r.ensures.by_index _ _)
    (copied c.args.state.now c.pairs-pairs.result c.pairs-pairs.ensures.comps c.pairs-pairs.ensures.vers refl refl)
    _ _ _ _ (λ x. sysvar_adds _ _ x _)
    _ c.in-Some.is _ (sysvar_called _ _ _ _ _ _ c.add_sysvar_in-answer.ensures)
    (sym c.is_ok.ensures.value ∙ c.if-is_ok.true)

pub returns-else-is_ok-clause-answers : goal.returns-else-is_ok-clause-answers
returns-else-is_ok-clause-answers c =
    way_refused c.args.state.now c.args.reader.now c.read_sysvar.new.reader (c.in_ok-r.ensures.by_index _ _)
    (copied c.args.state.now c.pairs-pairs.result c.pairs-pairs.ensures.comps c.pairs-pairs.ensures.vers refl refl)
    _ _ _ _ (λ x. sysvar_adds _ _ x _)
    _ c.in-Some.is _ (sysvar_called _ _ _ _ _ _ c.add_sysvar_in-answer.ensures)
    (sym c.is_ok.ensures.value ∙ c.if-is_ok.false)
