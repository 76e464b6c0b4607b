-- A call on a Book that is none.
use Rattle.std.specs.Prelude.{List, ◌≡◌, ℕ}
use Rattle.std.proofs.Common.{◌∙◌, subst, sym}
use Rattle.book_rules.specs.Test.{passes}
use Rattle.book_test.specs.TestedLaws.{tested_no}
use Rattle.command_outcome.specs.Outcome.{Called}
use Rattle.command_outcome.specs.OutcomeLaws.{refuse_25}
use Rattle.model.specs.Commands.{Command}
use Rattle.refusal.specs.Numbers.{number}
use Rattle.refusal.specs.declared.Refusal.{Refusal}
use Rattle.sets.specs.TestLaws.{if-false}
use Rattle.sets.specs.Tests.{if?◌then◌else◌}

pub refuse_none : (s n : List ℕ) (k : Command) (e : Refusal) (r : ℕ) → r ≡ number e → number e ≡ (if? passes s n then 0 else 25) → Called s n k r s n
refuse_none s n k e r is asked =
    let none = tested_no s n e asked in
    subst (λ (a : ℕ). Called s n k a s n) (sym (is ∙ asked ∙ if-false _ 0 25 none)) (refuse_25 s n k none)
