use Rattle.std.proofs.Common.{arith, ℕ}
use Rattle.std.specs.Prelude.{None, Option}
use Rattle.book_rules.specs.WalkLaws.{kept_none}
use lib.ListN.{length-replicate, get_or-replicate}
use Rattle.book_needs.proofs.needs.Needs.new.Goals as goal

pub invariant_of-result-clause-kept : goal.invariant_of-result-clause-kept
invariant_of-result-clause-kept c =
    kept_none _ _ _ (length-replicate {A = Option ℕ} 256 None) (λ i l. get_or-replicate {A = Option ℕ} 256 i None None l)
