-- Books that get 25, one or more for each reason of the question for 25: "are its numbers below their limits, has each specified
-- component 1 to 8 different versions, and do B1 to B9 hold?" Each is the Book of K but for a few numbers in its arrays; beside it stand
-- the parts of the test that say no, one alone where the others can hold.
use Rattle.std.specs.Prelude.{true, List, [], ◌++◌, ◌∷◌, ◌≡◌, refl, ℕ, replicate}
use Rattle.book.specs.Plain.{byte, component_set, composition_at, facility_set, kind_is, members_low, module_at, modules_of, place_of}
use Rattle.book.specs.Plain.{plain_of, proper, proper_at, proper_if, sets_low, slot, slot_apart, slot_low, slots_apart, spec_at, specified_at, specs_of}
use Rattle.book.specs.Plain.{system_at, systems_of}
use Rattle.book_rules.specs.Test.{passes}
use Rattle.demand_1_2.specs.Verdict.{Arrays, Change, Gets25, Part, as_number, book_nos, is_value, its_counts, its_numbers}
use Rattle.demand_1_2.specs.Verdict.{kind, member_version, members, nos, provides, requires, rule, standard, usable, version}
use Rattle.demand_1_2.specs.Verdict.{write, write_all}
use Rattle.demand_1_2.specs.VerdictLaws.{gets}
use Rattle.model.specs.Teaching.{cool, everything, hold, light, loop, one, probe, shell, tank, temp, v2, va, valve, vp, vs}
use Rattle.text.specs.Example.{all_of_text, example_input, page}
use Rattle.text.specs.Session.{session}
use Rattle.text.specs.Written.{written}
use Rattle.sets.specs.Sets.{below, bit}
use Rattle.sets.specs.Tests.{◌&◌}

-- the eight slots of c free but for the first
abbrev pub one_version : ℕ → ℕ → List Change
one_version c v =
    version c 0 v ∷ version c 1 64 ∷ version c 2 64 ∷ version c 3 64 ∷ version c 4 64 ∷ version c 5 64 ∷ version c 6 64 ∷
    version c 7 64 ∷ []

-- c specified with one version
abbrev pub spec : ℕ → List ℕ → ℕ → List ℕ → List Change
spec c ps v rs = kind c 1 ∷ provides c ps ∷ standard c v ∷ requires c 0 rs ∷ one_version c v

-- the Book in which nothing is written
abbrev pub fresh : Arrays
fresh = (replicate 576 0, replicate 8768 0)

-- K (document 01, "The teaching book") as arrays
abbrev pub K_arrays : Arrays
K_arrays = write_all fresh (
    spec probe (temp ∷ []) one [] ++ spec valve (cool ∷ []) v2 (temp ∷ []) ++ spec loop (hold ∷ []) vp (temp ∷ cool ∷ []) ++
    spec tank (hold ∷ []) va [] ++
    kind tank 3 ∷ usable tank (loop ∷ probe ∷ valve ∷ []) ∷ members tank 0 (loop ∷ probe ∷ valve ∷ []) ∷
    member_version tank 0 loop vp ∷ member_version tank 0 probe one ∷ member_version tank 0 valve v2 ∷ [])

-- ---- the table: what is written into the Book of K, and the parts of the test that then say no

abbrev pub Row : Type 0
Row = List Change × List Part

-- Facilities and implementations have no number that an array can hold and that is beyond their limit. Nine versions have no place in
-- the eight slots of a component (`PlainBooks25`).
abbrev pub numbers : List Row
numbers =
    -- A number beyond its limit: a kind that is none,
    (kind probe 4 ∷ [], its_numbers ∷ []) ∷
    -- a version,
    (version probe 1 65 ∷ [], its_numbers ∷ []) ∷
    -- a usable component,
    (usable tank (loop ∷ probe ∷ valve ∷ 32 ∷ []) ∷ [], its_numbers ∷ []) ∷
    -- a member,
    (members tank 0 (loop ∷ probe ∷ valve ∷ 32 ∷ []) ∷ [], its_numbers ∷ []) ∷
    -- a standard version: it is none of the component's versions,
    (standard probe 64 ∷ [], rule 1 ∷ []) ∷
    -- a member's version: the member does not have it.
    (member_version tank 0 probe 64 ∷ [], rule 5 ∷ []) ∷
    -- A version twice.
    (version probe 1 one ∷ [], its_numbers ∷ []) ∷
    -- No version; the standard version is then none of the versions.
    (kind shell 1 ∷ one_version shell 64, its_counts ∷ rule 1 ∷ []) ∷ []

abbrev pub rules_1_to_4 : List Row
rules_1_to_4 =
    -- B1: probe.one requires temp, which probe provides.
    (requires probe 0 (temp ∷ []) ∷ [], rule 1 ∷ []) ∷
    -- B1: probe's standard version is v2, which it has not.
    (standard probe v2 ∷ [], rule 1 ∷ []) ∷
    -- B2: shell is usable and not specified.
    (usable tank (loop ∷ probe ∷ valve ∷ shell ∷ []) ∷ [], rule 2 ∷ []) ∷
    -- B2: tank is a system, and its version a requires something.
    (requires tank 0 (light ∷ []) ∷ [], rule 2 ∷ []) ∷
    -- B3: no usable component provides light. With B5, what usable components do not provide no member provides, so B8 says no as well.
    (provides tank (hold ∷ light ∷ []) ∷ [], rule 3 ∷ rule 8 ∷ []) ∷
    -- B3: the one component that provides hold is a member and is not usable, so B5 says no as well.
    (usable tank (probe ∷ valve ∷ []) ∷ [], rule 3 ∷ rule 5 ∷ []) ∷
    -- B4: tank is usable in itself.
    (usable tank (loop ∷ probe ∷ valve ∷ tank ∷ []) ∷ [], rule 4 ∷ []) ∷
    -- B4: tank and the system shell are usable in each other; no composition has either.
    (
      spec shell (hold ∷ []) vs [] ++
          kind shell 3 ∷ usable shell (loop ∷ tank ∷ []) ∷ members shell 0 (loop ∷ []) ∷ member_version shell 0 loop vp ∷
          usable tank (loop ∷ probe ∷ valve ∷ shell ∷ []) ∷ [],
      rule 4 ∷ [],
    ) ∷ []

abbrev pub rules_5_to_9 : List Row
rules_5_to_9 =
    -- B5: the composition of tank.a has no member; tank provides nothing, so that the other rules hold.
    (provides tank [] ∷ members tank 0 [] ∷ [], rule 5 ∷ []) ∷
    -- B5: valve is a member and is not usable.
    (usable tank (loop ∷ probe ∷ []) ∷ [], rule 5 ∷ []) ∷
    -- B5: the member probe has a version that the component probe has not.
    (member_version tank 0 probe v2 ∷ [], rule 5 ∷ []) ∷
    -- B6: the members probe and valve both provide cool.
    (provides probe (temp ∷ cool ∷ []) ∷ [], rule 6 ∷ []) ∷
    -- B7: no member needs cool, and tank does not provide it; so valve provides nothing that counts.
    (requires loop 0 (temp ∷ []) ∷ [], rule 7 ∷ []) ∷
    -- B8: tank provides light, which the usable component shell provides and no member.
    (
      spec shell (light ∷ []) vs [] ++
          usable tank (loop ∷ probe ∷ valve ∷ shell ∷ []) ∷ provides tank (hold ∷ light ∷ []) ∷ [],
      rule 8 ∷ [],
    ) ∷
    -- B9: loop needs cool, which no member provides and the usable component valve does.
    (members tank 0 (loop ∷ probe ∷ []) ∷ [], rule 9 ∷ []) ∷ []

-- each Book of a table gets 25
pub data Each25 : List Row → Type 0 where
  end : Each25 []
  row : {x : Row} {xs : List Row} → Gets25 (write_all K_arrays x.0) x.1 → Each25 xs → Each25 (x ∷ xs)

-- To unfold this is to unfold all that computes.
unfoldable all_of_books : Unit {0}
unfolding
    everything bit below slot kind_is specified_at place_of facility_set component_set byte composition_at spec_at module_at system_at specs_of
    modules_of systems_of slot_low slots_apart slot_apart members_low sets_low proper_at proper_if proper passes
    as_number write write_all is_value book_nos nos
all_of_books = tt

-- With the names of the example, the text of the Book of K is the one that document 01 prints.
pub K_written : written (plain_of K_arrays.0 K_arrays.1) (session example_input).1.tables ≡ page (
    "spec loop provides hold; std p requires cool, temp end" ∷
    "spec probe provides temp; std one end" ∷
    "spec tank provides hold; std a end" ∷
    "spec valve provides cool; std v2 requires temp end" ∷
    "sys tank use loop, probe, valve; a = loop.p, probe.one, valve.v2 end" ∷ [])
unfolding all_of_text all_of_books
K_written = refl

-- The Book of K passes,
pub K_passes : (is_value K_arrays & passes K_arrays.0 K_arrays.1) ≡ true
unfolding all_of_books
K_passes = refl

numbers_25 : Each25 numbers
unfolding all_of_books
numbers_25 =
    row (gets _ refl refl) (row (gets _ refl refl) (row (gets _ refl refl) (row (gets _ refl refl) (
    row (gets _ refl refl) (row (gets _ refl refl) (row (gets _ refl refl) (row (gets _ refl refl) end)))))))

rules_1_to_4_25 : Each25 rules_1_to_4
unfolding all_of_books
rules_1_to_4_25 =
    row (gets _ refl refl) (row (gets _ refl refl) (row (gets _ refl refl) (row (gets _ refl refl) (
    row (gets _ refl refl) (row (gets _ refl refl) (row (gets _ refl refl) (row (gets _ refl refl) end)))))))

rules_5_to_9_25 : Each25 rules_5_to_9
unfolding all_of_books
rules_5_to_9_25 =
    row (gets _ refl refl) (row (gets _ refl refl) (row (gets _ refl refl) (row (gets _ refl refl) (
    row (gets _ refl refl) (row (gets _ refl refl) (row (gets _ refl refl) end))))))

joined : {t u : List Row} → Each25 t → Each25 u → Each25 (t ++ u)
joined end e = e
joined (row g d) e = row g (joined d e)

-- and each Book of the table gets 25.
pub each_25 : Each25 (numbers ++ rules_1_to_4 ++ rules_5_to_9)
each_25 = joined numbers_25 (joined rules_1_to_4_25 rules_5_to_9_25)
