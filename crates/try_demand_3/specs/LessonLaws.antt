-- What the plain book answers to the calls of the run; and runs one after the other.
use Rattle.std.specs.Prelude.{List, [], ◌++◌, ◌∷◌, map, ◌≡◌, refl, ℕ}
use Rattle.command_lists.specs.Said.{compositions_said, facilities_said, implementations_said, itself, members_said, paired, requirements_said}
use Rattle.command_lists.specs.Said.{version_said}
use Rattle.command_outcome.specs.Calls.{command_of}
use Rattle.model.specs.Book.{empty}
use Rattle.model.specs.PlainBook.{answers}
use Rattle.model.specs.Teaching.{everything}
use Rattle.model_laws.specs.Notions.{Run, called, ended}
use Rattle.sets.specs.Sets.{bit}
use Rattle.try_demand_3.specs.Lesson.{lesson}

-- five accepted; K4: 18, K5: 6, K6: 21; and each of the others accepted
pub lesson-answers : answers empty (map command_of lesson) ≡ 0 ∷ 0 ∷ 0 ∷ 0 ∷ 0 ∷ 18 ∷ 6 ∷ 21 ∷ 0 ∷ 0 ∷ 0 ∷ 0 ∷ 0 ∷ 0 ∷ 0 ∷ 0 ∷ []
unfolding everything command_of facilities_said requirements_said implementations_said members_said compositions_said version_said paired itself bit
lesson-answers = refl

-- a run, and a run from where it ended
pub run_on : {R Q : Type 0} {Call : R → Q → ℕ → R → Type 0} {r r' r'' : R} {qs qs' : List Q} {ns ns' : List ℕ}
    → Run R Q Call r qs ns r' → Run R Q Call r' qs' ns' r'' → Run R Q Call r (qs ++ qs') (ns ++ ns') r''
run_on ended k = k
run_on (called c rest) k = called c (run_on rest k)
