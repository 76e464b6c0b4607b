use Rattle.std.proofs.Common.{rules, ◌∙◌, sym, arith}
use Rattle.command_outcome.specs.OutcomeLaws.{accept, refuse_as}
use Rattle.command_add.specs.AddLaws.{spec_answers, spec_component, spec_few, spec_holds, spec_new, spec_standard}
use Rattle.book_rules.specs.TestLaws.{passes-proper}
use Rattle.command_add.proofs.add_spec_in.Goals as goal

pub returns-in_err-spec_answer : goal.returns-in_err-spec_answer
returns-in_err-spec_answer c = λ ps vs pb pe e. refuse_as _ _ _ c.requires c.in_err-spec_answer.field-0.0 _ (search rules) (c.in_err-spec_answer.ensures ∙ sym (spec_answers _ _ _ _ _ ps vs pb pe e))

pub overflow_cast-standard : goal.overflow_cast-standard
overflow_cast-standard c = (let h = spec_standard _ _ _ _ _ (sym c.in_ok-spec_answer.ensures) in omega (arith, h))

pub put_spec-requires : goal.put_spec-requires
put_spec-requires c =
    ((
      record {
        component< = spec_component _ _ _ _ _ (sym c.in_ok-spec_answer.ensures);
        is_proper = passes-proper _ _ c.requires;
        is_unspecified = spec_new _ _ _ _ _ (sym c.in_ok-spec_answer.ensures);
      },
      spec_few _ _ _ _ _ (sym c.in_ok-spec_answer.ensures),
    )
    )

pub returns : goal.returns
returns c = λ ps vs pb pe e. accept _ _ _ c.requires (spec_answers _ _ _ _ _ ps vs pb pe e ∙ (sym c.in_ok-spec_answer.ensures)) (spec_holds _ _ _ _ _ ps vs pb pe e (sym c.in_ok-spec_answer.ensures) c.put_spec.ensures)
