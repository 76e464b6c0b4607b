-- Demand 3, whole: "For every sequence of calls of the ten commands".
use Rattle.std.specs.Prelude.{List, ◌≡◌, ℕ}
use Rattle.book.specs.Plain.{plain_of}
use Rattle.book_rules.specs.TestLaws.{empty_book_passes}
use Rattle.command_outcome.specs.Calls.{Call}
use Rattle.demand_3.specs.Demand.{Arrays, Demand3, Step}
use Rattle.demand_3.specs.EverySequence.{every_sequence, run-passes}
use Rattle.demand_3.specs.PartsLaws.{parts_given}
use Rattle.model.specs.Book.{empty}
use Rattle.model_laws.specs.Notions.{Run}

-- "The first call gets an empty book, each later one the book that the call before handed back, and nobody else writes to it." The first
-- Book is any that means the empty book, as the one of `book::fresh` does.
pub demand-3 : {s₀ n₀ s n : List ℕ} {qs : List Call} {ns : List ℕ} → plain_of s₀ n₀ ≡ empty → Run Arrays Call Step (s₀, n₀) qs ns (s, n)
    → Demand3 qs ns s n
demand-3 {s₀} {n₀} {s} {n} e calls =
    let z = every_sequence e calls in
    let ok = run-passes (empty_book_passes s₀ n₀ e) calls in
    record {
      the_answers = z.0;
      the_book = z.1;
      the_rules = z.2;
      the_parts = λ c v has_it old a rows depth out l. parts_given s n c v old a rows depth out ok has_it l;
    }
