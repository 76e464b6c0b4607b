-- The teaching book (document 01, "The teaching book"): K1 to K12, "Proved as one statement over this table".
use Rattle.std.specs.Prelude.{true, List, [], ◌∷◌, map, ◌≡◌, refl, ℕ}
use Rattle.std.proofs.Math.Option.{none}
use Rattle.model.specs.Book.{Book, composed, composition, empty, has_version, implementation, is_defined, is_member, is_module}
use Rattle.model.specs.Book.{is_system, member, provides, required, requires, specified, standard, usable}
use Rattle.model.specs.Commands.{ADD-SPEC, ADD-SYS, ADD-SYSVAR, Command, DEL-MODVAR, DEL-SPEC, DEL-SYS, Members, after}
use Rattle.model.specs.Commands.{no_facility, stored, with_composition, with_version}
use Rattle.model.specs.Limits.{how_many, one_to_eight}
use Rattle.model.specs.Lists.{beside, elem, every, first_from, firsts, from, greatest, if_found, keep, non_empty, once, rising}
use Rattle.model.specs.Lists.{seconds, set_of}
use Rattle.model.specs.Maps.{and_then, change, else_try, has, if_there, is_some, only_if, option_map, or_else, put}
use Rattle.model.specs.PartsList.{chain_in, due, first_pair, how_many_systems, is_part, listed, longest_chain, members_listed}
use Rattle.model.specs.PartsList.{next_row, part_in, parts, rows_from}
use Rattle.model.specs.PlainBook.{answer, answers, next, reached}
use Rattle.model.specs.Queries.{NEEDS, PARTS, Query, Reply, UNDEFINED, WHEREUSED, asked, choice, found, pairs_from, reply}
use Rattle.model.specs.Queries.{rising_pairs, the_components, the_facilities, the_parts, undefined, unused, where_used}
use Rattle.model.specs.Questions.{each_below, exactly, first_no, free, held_by_none, in_limits, member_below, no_requirements}
use Rattle.model.specs.Questions.{questions, usable_in_none}
use Rattle.model.specs.Rules.{B1, B1_to_B9, B1_at, B2, B2_at, B3, B3_at, B4, B5, B5_to_B9, B5_at, B6, B6_at, B7, B7_at, B8, B8_at}
use Rattle.model.specs.Rules.{B9, B9_at, each_composition, each_specified, each_system, needs, needs_to, offered, p, r, reaches}
use Rattle.model.specs.Rules.{reaches_in}
use Rattle.sets.specs.Sets.{disjoint, meet, minus, subset, union}
use Rattle.sets.specs.Tests.{◌&◌, ◌<?◌, ◌=?◌, ◌or◌, ◌⇒◌, ◌⇔◌, ◌≤?◌, all, any, count, if?◌then◌else◌, one_if, ~◌}

-- ---- names, in the order of the example's text

abbrev pub probe : ℕ
probe = 0

abbrev pub valve : ℕ
valve = 1

abbrev pub loop : ℕ
loop = 2

abbrev pub tank : ℕ
tank = 3

abbrev pub shell : ℕ
shell = 4

abbrev pub room : ℕ
room = 5

-- a component that K does not specify
abbrev pub spare : ℕ
spare = 6

-- facilities
abbrev pub temp : ℕ
temp = 0

abbrev pub cool : ℕ
cool = 1

abbrev pub hold : ℕ
hold = 2

abbrev pub light : ℕ
light = 3

-- versions
abbrev pub one : ℕ
one = 0

abbrev pub v2 : ℕ
v2 = 1

abbrev pub vp : ℕ
vp = 2

abbrev pub va : ℕ
va = 3

abbrev pub vb : ℕ
vb = 4

abbrev pub vs : ℕ
vs = 5

abbrev pub vq : ℕ
vq = 6

-- members with their versions left out
abbrev pub plain : List ℕ → Members
plain cs = map (λ c. (c, none)) cs

-- the example's text, by numbers
abbrev pub input : List Command
input =
    ADD-SPEC probe (temp ∷ []) ((one, []) ∷ []) one ∷
    ADD-SPEC valve (cool ∷ []) ((v2, temp ∷ []) ∷ []) v2 ∷
    ADD-SPEC loop (hold ∷ []) ((vp, temp ∷ cool ∷ []) ∷ []) vp ∷
    ADD-SPEC tank (hold ∷ []) ((va, []) ∷ []) va ∷
    ADD-SYS tank (loop ∷ probe ∷ valve ∷ []) ((va, plain (loop ∷ probe ∷ valve ∷ [])) ∷ []) ∷ []

-- "K is the book above"
abbrev pub K : Book
K = reached empty input

-- ---- tables of calls with what comes back

pub data Call : Type 0 where
  tell : Command → Call
  ask : Query → Call

-- of a command its number comes back, 0 where it is accepted
pub data Back : Type 0 where
  number : ℕ → Back
  answered : Reply → Back

-- a line of a table: calls one after another, each with what comes back
abbrev pub Line : Type 0
Line = List (Call × Back)

-- the command is accepted
abbrev pub yes_to : Command → Call × Back
yes_to k = (tell k, number 0)

-- the command is refused with the number n
abbrev pub no_to : ℕ → Command → Call × Back
no_to n k = (tell k, number n)

abbrev pub reply_to : Query → Reply → Call × Back
reply_to q a = (ask q, answered a)

-- what comes back of a list of calls
unfoldable pub run : Book → List Call → List Back
run b [] = []
run b (tell k ∷ ks) = number (answer b k) ∷ run (next b k) ks
run b (ask q ∷ ks) = answered (reply b q) ∷ run b ks

unfoldable pub calls : Line → List Call
calls l = map (λ x. x.0) l

unfoldable pub backs : Line → List Back
backs l = map (λ x. x.1) l

-- ---- the table: "each line starts from it"

abbrev pub spec_shell : Command
spec_shell = ADD-SPEC shell (hold ∷ []) ((vs, []) ∷ []) vs

-- the system shell, of its one version with one usable component and this one member
abbrev pub shell_of : ℕ → Command
shell_of c = ADD-SYS shell (c ∷ []) ((vs, plain (c ∷ [])) ∷ [])

abbrev pub spec_room : Command
spec_room = ADD-SPEC room (hold ∷ []) ((vq, []) ∷ []) vq

abbrev pub sys_room : Command
sys_room = ADD-SYS room (tank ∷ probe ∷ []) ((vq, plain (tank ∷ probe ∷ [])) ∷ [])

abbrev pub table : List Line
table =
    -- K1 NEEDS tank.a: temp, cool.
    (reply_to (NEEDS tank va) (the_facilities (temp ∷ cool ∷ [])) ∷ []) ∷
    -- K2 UNDEFINED: probe, valve, loop.
    (reply_to UNDEFINED (the_components (probe ∷ valve ∷ loop ∷ [])) ∷ []) ∷
    -- K3 WHEREUSED probe: tank.
    (reply_to (WHEREUSED probe) (the_components (tank ∷ [])) ∷ []) ∷
    -- K4 DEL-SPEC probe: 18.
    (no_to 18 (DEL-SPEC probe) ∷ []) ∷
    -- K5 DEL-MODVAR valve.v2: 6.
    (no_to 6 (DEL-MODVAR valve v2) ∷ []) ∷
    -- K6 ADD-SYSVAR tank.b = loop: 21.
    (no_to 21 (ADD-SYSVAR tank vb (plain (loop ∷ []))) ∷ []) ∷
    -- Spec shell provides hold, version s. K7 usable loop, s = loop: accepted, temp and cool stay open.
    (yes_to spec_shell ∷ yes_to (shell_of loop) ∷ reply_to (NEEDS shell vs) (the_facilities (temp ∷ cool ∷ [])) ∷ []) ∷
    -- K8 usable probe, s = probe: 19.
    (yes_to spec_shell ∷ no_to 19 (shell_of probe) ∷ []) ∷
    -- K9 usable shell, s = shell: 20.
    (yes_to spec_shell ∷ no_to 20 (shell_of shell) ∷ []) ∷
    -- Spec room provides hold, version q; usable tank, probe; q = tank, probe. K10 accepted; parts room.q has 5 rows, longest chain 3.
    (yes_to spec_room ∷ yes_to sys_room ∷
    reply_to (PARTS room vq) (the_parts ((probe, one) ∷ (valve, v2) ∷ (loop, vp) ∷ (tank, va) ∷ (room, vq) ∷ []) 3) ∷ []) ∷
    -- K11 then DEL-SYS tank: 21.
    (yes_to spec_room ∷ yes_to sys_room ∷ no_to 21 (DEL-SYS tank) ∷ []) ∷
    -- K12 spec providing and requiring temp: 13.
    (no_to 13 (ADD-SPEC spare (temp ∷ []) ((one, temp ∷ []) ∷ []) one) ∷ []) ∷ []

-- To unfold this is to unfold all that computes.
unfoldable pub everything : Unit {0}
unfolding
    ~◌ ◌&◌ ◌or◌ if?◌then◌else◌ ◌=?◌ ◌<?◌ ◌≤?◌ ◌⇒◌ ◌⇔◌ all any one_if count
    union subset disjoint meet minus
    is_some has if_there option_map or_else and_then else_try only_if put change
    non_empty every elem once set_of beside firsts seconds keep from rising first_from if_found greatest
    specified provides required has_version requires standard is_module implementation is_system is_defined usable composition composed
    member is_member needs_to needs reaches_in reaches offered p r each_specified each_system each_composition
    B1_at B1 B2_at B2 B3_at B3 B4 B5_at B5 B6_at B6 B7_at B7 B8_at B8 B9_at B9 B5_to_B9 B1_to_B9 how_many one_to_eight
    no_facility stored with_version with_composition after
    each_below member_below in_limits exactly free no_requirements usable_in_none held_by_none first_no questions
    answer next answers reached
    part_in is_part listed members_listed due first_pair next_row rows_from parts chain_in longest_chain how_many_systems
    asked pairs_from rising_pairs choice undefined unused where_used found reply run calls backs
everything = tt

-- K1 to K12
pub teaching : map (λ line. run K (calls line)) table ≡ map backs table
unfolding everything
teaching = refl

-- The example's commands are accepted one by one, and the rules hold in K.
pub K_accepted : answers empty input ≡ 0 ∷ 0 ∷ 0 ∷ 0 ∷ 0 ∷ []
unfolding everything
K_accepted = refl

pub K_rules : (B1_to_B9 K & one_to_eight K.specs) ≡ true
unfolding everything
K_rules = refl
