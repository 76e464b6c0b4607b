use Rattle.std.proofs.Common.{rules, ◌∙◌, sym, arith}
use Rattle.command_outcome.specs.OutcomeLaws.{accept, refuse_as}
use Rattle.command_add.specs.AddLaws.{modvar_answers, modvar_component, modvar_holds, modvar_implementation}
use Rattle.command_add.specs.AddLaws.{modvar_module, modvar_new, modvar_room, modvar_version}
use Rattle.model_laws.specs.Good.{passes→good}
use Rattle.book_rules.specs.TestLaws.{passes-proper, passes_plain}
use Rattle.command_add.proofs.add_modvar_in.Goals as goal

pub returns-in_err-modvar_answer : goal.returns-in_err-modvar_answer
returns-in_err-modvar_answer c = λ rs rb e. refuse_as _ _ _ c.requires c.in_err-modvar_answer.field-0.0 _ (search rules) (c.in_err-modvar_answer.ensures ∙ sym (modvar_answers _ _ _ _ _ rs rb e))

pub overflow_cast-i : goal.overflow_cast-i
overflow_cast-i c = (let h = modvar_implementation _ _ _ _ _ (sym c.in_ok-modvar_answer.ensures) in omega (arith, h))

pub put_modvar-requires-clause-takes_version : goal.put_modvar-requires-clause-takes_version
put_modvar-requires-clause-takes_version c =
    record {
      room = record {
        component< = modvar_component _ _ _ _ _ (sym c.in_ok-modvar_answer.ensures);
        is_proper = passes-proper _ _ c.requires;
        is_specified = (passes→good (passes_plain _ _ c.requires)).b2.mod_spec _ (modvar_module _ _ _ _ _ (sym c.in_ok-modvar_answer.ensures));
        is_room = modvar_room _ _ _ _ _ (sym c.in_ok-modvar_answer.ensures);
      };
      version< = modvar_version _ _ _ _ _ (sym c.in_ok-modvar_answer.ensures);
      is_new = modvar_new _ _ _ _ _ (sym c.in_ok-modvar_answer.ensures);
    }

pub put_modvar-requires-clause-c_value : goal.put_modvar-requires-clause-c_value
put_modvar-requires-clause-c_value c = modvar_module _ _ _ _ _ (sym c.in_ok-modvar_answer.ensures)

pub returns : goal.returns
returns c = λ rs rb e. accept _ _ _ c.requires (modvar_answers _ _ _ _ _ rs rb e ∙ (sym c.in_ok-modvar_answer.ensures)) (modvar_holds _ _ _ _ _ rs rb e (search rules) c.put_modvar.ensures)
