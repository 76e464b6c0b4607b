use Rattle.std.proofs.Common.{◌∙◌, rules, sym}
use Rattle.book_rules.specs.TestLaws.{passes-proper}
use Rattle.command_delete.specs.DeleteLaws.{kind_yes, mod_asked}
use Rattle.command_outcome.specs.OutcomeLaws.{accept, refuse_as}
use Rattle.command_delete.proofs.del_mod_in.Goals as goal

pub returns-in_err-kind_asked-clause-called : goal.returns-in_err-kind_asked-clause-called
returns-in_err-kind_asked-clause-called c = refuse_as _ _ _ c.requires c.in_err-kind_asked.field-0.0 _ (search rules) (mod_asked _ _ _ c.is_module.ensures c.in_err-kind_asked.ensures)

pub take_mod-requires-clause-m_bound : goal.take_mod-requires-clause-m_bound
take_mod-requires-clause-m_bound c = ((kind_yes _ 5 _ c.in_ok-kind_asked.ensures).0, passes-proper _ _ c.requires)

pub take_mod-requires-clause-m_value : goal.take_mod-requires-clause-m_value
take_mod-requires-clause-m_value c = sym c.is_module.ensures ∙ (kind_yes _ 5 _ c.in_ok-kind_asked.ensures).1

pub returns-clause-called : goal.returns-clause-called
returns-clause-called c = accept _ _ _ c.requires (sym (mod_asked _ _ _ c.is_module.ensures c.in_ok-kind_asked.ensures)) c.take_mod.ensures.holds
