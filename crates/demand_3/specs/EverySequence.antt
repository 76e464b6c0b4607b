-- Demand 3 for the ten calls, as one statement about every list of them, whatever numbers they carry.
use Rattle.std.specs.Prelude.{true, List, map, ◌≡◌, ℕ}
use Rattle.book.specs.Plain.{plain_of}
use Rattle.command_outcome.specs.Calls.{Call, command_of}
use Rattle.command_outcome.specs.OutcomeLaws.{step_right}
use Rattle.demand_3.specs.Demand.{Arrays, Step}
use Rattle.model.specs.Book.{empty, has_version}
use Rattle.model.specs.Limits.{Passes}
use Rattle.model.specs.PlainBook.{answers, reached}
use Rattle.book_rules.specs.Test.{passes}
use Rattle.book_rules.specs.TestLaws.{empty_book_passes}
use Rattle.model_laws.specs.Notions.{Run}
use Rattle.model_laws.specs.PartsRight.{PartsRight}
use Rattle.model_laws.specs.Sequence.{from_empty, run_right}

-- "For every sequence of calls of the ten commands": from the fresh Book each call gets the Book of the one before. The answers one by
-- one and the book in the end are those of the plain book, that book passes the question for 25 (its numbers are below their limits, and
-- B1 to B9 hold), and each stored version has the parts list that demand 3 asks for. (That a call lists these rows is said of the call.)
pub every_sequence : {s n s' n' : List ℕ} {qs : List Call} {ns : List ℕ} → plain_of s n ≡ empty → Run Arrays Call Step (s, n) qs ns (s', n')
    → (ns ≡ answers empty (map command_of qs)) × (plain_of s' n' ≡ reached empty (map command_of qs)) × Passes (plain_of s' n')
    × ((c v : ℕ) → has_version (plain_of s' n').specs c v ≡ true → PartsRight (plain_of s' n') c v)
every_sequence {s} {n} {s'} {n'} e calls =
    from_empty Arrays Call Step (λ b. plain_of b.0 b.1) command_of (λ b. passes b.0 b.1 ≡ true)
    (λ r q a r' ok c. step_right r.0 r.1 (command_of q) a r'.0 r'.1 ok c) calls (empty_book_passes s n e) e

pub run-passes : {s n s' n' : List ℕ} {qs : List Call} {ns : List ℕ} → passes s n ≡ true → Run Arrays Call Step (s, n) qs ns (s', n')
    → passes s' n' ≡ true
run-passes good calls =
    (run_right Arrays Call Step (λ b. plain_of b.0 b.1) command_of (λ b. passes b.0 b.1 ≡ true)
    (λ r q a r' ok c. step_right r.0 r.1 (command_of q) a r'.0 r'.1 ok c) calls good).2
