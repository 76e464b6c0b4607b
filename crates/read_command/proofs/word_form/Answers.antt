use Rattle.read_command.specs.FormLaws.{form_found}
use Rattle.read_command.specs.Forms.{in_order}
use Rattle.read_command.proofs.word_form.Goals as goal

pub returns : goal.returns
unfolding in_order
returns c = form_found _ _ c.keyword_of.ensures _ c.in_ok-keyword_of.was _ _ c.form_of.ensures
