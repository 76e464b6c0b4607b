-- The question for 25 of a book with its tables, as the facts that proofs use.
use Rattle.text.specs.Handed.{Named, PassesNamed}
use Rattle.text.specs.Session.{State}
use Rattle.model_laws.specs.Good.{Good, good→passes, passes→good}

pub record NamedGood (s : State) : Type 0 where
  pub good : Good s.book
  pub named : Named s

pub passes→named : {s : State} → PassesNamed s → NamedGood s
passes→named p = record { good = passes→good p.passes; named = p.named }

pub named→passes : {s : State} → NamedGood s → PassesNamed s
named→passes p = record { passes = good→passes p.good; named = p.named }
