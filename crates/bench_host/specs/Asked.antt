-- The six queries that find a set or a version, by number, so that one function asks each of them.
use Rattle.std.specs.Prelude.{ℕ}
use Rattle.model.specs.Queries.{NEEDS, Query, Reply, STANDARD, SUPPLIES, UNDEFINED, UNUSED, WHEREUSED, the_version}
use Rattle.query_replies.specs.Replied.{components_in, facilities_in}
use Rattle.sets.specs.Tests.{◌=?◌, if?◌then◌else◌}

-- the query that a number stands for, of component c and version v, and what the number that it finds is read as
unfoldable pub asked_by : ℕ → ℕ → ℕ → Query × (ℕ → Reply)
asked_by kind c v =
    if? kind =? 0 then (SUPPLIES c, facilities_in)
    else (if? kind =? 1 then (NEEDS c v, facilities_in)
    else (if? kind =? 2 then (UNDEFINED, components_in)
    else (if? kind =? 3 then (UNUSED, components_in)
    else (if? kind =? 4 then (WHEREUSED c, components_in)
    else (STANDARD c, the_version)))))
