use Rattle.demand_3.specs.DemandLaws.{demand-3}
use Rattle.try_demand_3.specs.LessonLaws.{run_on}
use Rattle.try_demand_3.proofs.teach.Goals as goal

pub returns : goal.returns
returns c =
    demand-3 c.fresh-book.ensures
    (run_on c.build-built.ensures c.try_each-tried.ensures)
