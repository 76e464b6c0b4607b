use Rattle.std.proofs.Common.{rules, ◌∙◌, sym}
use Rattle.command_outcome.specs.OutcomeLaws.{accept, refuse_as}
use Rattle.command_add.specs.AddLaws.{mod_answers, mod_component, mod_holds, mod_specified, mod_undefined}
use Rattle.book_rules.specs.TestLaws.{passes-proper, passes_plain}
use Rattle.command_add.proofs.add_mod_in.Goals as goal

pub returns-in_err-mod_answer-clause-called : goal.returns-in_err-mod_answer-clause-called
returns-in_err-mod_answer-clause-called c = λ is e. refuse_as _ _ _ c.requires c.in_err-mod_answer.field-0.0 _ (search rules) (c.in_err-mod_answer.ensures ∙ sym (mod_answers _ _ _ is e))

pub put_mod-requires : goal.put_mod-requires
put_mod-requires c =
    record {
      component< = mod_component _ _ _ (sym c.in_ok-mod_answer.ensures);
      is_proper = passes-proper _ _ c.requires;
      is_specified = mod_specified _ _ _ (sym c.in_ok-mod_answer.ensures);
      is_undefined = mod_undefined _ _ _ (sym c.in_ok-mod_answer.ensures);
    }

pub returns-clause-called : goal.returns-clause-called
returns-clause-called c = λ is e. accept _ _ _ c.requires (mod_answers _ _ _ is e ∙ (sym c.in_ok-mod_answer.ensures)) (mod_holds _ _ _ is e (sym c.in_ok-mod_answer.ensures) (passes_plain _ _ c.requires) c.put_mod.ensures.holds)
