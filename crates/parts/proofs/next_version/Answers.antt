use Rattle.std.proofs.Common.{rules}
use Rattle.parts.specs.Due.{first_version}
use Rattle.parts.specs.DueLaws.{none_open, version_found, version_passed}
use Rattle.parts.proofs.next_version.Goals as goal

pub returns-then-subset : goal.returns-then-subset
returns-then-subset c = search (rules, none_open)

pub returns : goal.returns
unfolding first_version
returns c = c.first.ensures _ (λ k r l e. search (rules, version_found, version_passed))
