-- The queries of a component and of a version, by numbers as they are asked of the Book.
use Rattle.std.specs.Prelude.{ℕ}
use Rattle.model.specs.Queries.{Query}
use Rattle.model.specs.Queries as model
use Rattle.read_command.specs.declared.OfComponent.{OfComponent}
use Rattle.read_command.specs.declared.OfComponent.TheVariants.{Supplies, Standard, WhereUsed}
use Rattle.read_command.specs.declared.OfVersion.{OfVersion}
use Rattle.read_command.specs.declared.OfVersion.TheVariants.{Needs, Parts}

unfoldable pub query_of : OfComponent → ℕ → Query
query_of Supplies = model.SUPPLIES
query_of Standard = model.STANDARD
query_of WhereUsed = model.WHEREUSED

unfoldable pub query_of_version : OfVersion → ℕ → ℕ → Query
query_of_version Needs = model.NEEDS
query_of_version Parts = model.PARTS
