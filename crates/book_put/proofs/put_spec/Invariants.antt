use Rattle.std.proofs.Common.{◌≤◌}
use Rattle.book.specs.Changes.{Holds, with_spec, spec_from}
use Rattle.book.specs.Plain.{plain}
use Rattle.sets.specs.Sets.{bit}
use Rattle.book_put.proofs.put_spec.Given as goal

abbrev pub invariant-loop-v : goal.invariant-loop-v
invariant-loop-v l =
    (l.v ≤ 64)
    × Holds l.book.sets l.book.numbers (with_spec (plain l.initial.book) l.c
    (spec_from (bit l.provides) (bit l.versions) l.requirements l.standard l.v))
