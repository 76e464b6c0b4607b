-- The questions, in order (document 01). Each has the number of its no; a command is put those that name it, or that name none.
use Rattle.std.specs.Prelude.{Bool, List, [], ◌∷◌, ℕ, length}
use Rattle.std.proofs.Math.Option.{Option}
use Rattle.model.specs.Book.{Book, components, facilities, has_version, implementations, is_defined, is_module, is_system, member}
use Rattle.model.specs.Book.{provides, requires, specified, standard, usable, versions}
use Rattle.model.specs.Commands.{ADD-MOD, ADD-MODVAR, ADD-SPEC, ADD-SYS, ADD-SYSVAR, Command, DEL-MOD, DEL-MODVAR, DEL-SPEC}
use Rattle.model.specs.Commands.{DEL-SYS, DEL-SYSVAR, after}
use Rattle.model.specs.Limits.{how_many}
use Rattle.model.specs.Lists.{elem, every, firsts, non_empty, once, seconds, set_of}
use Rattle.model.specs.Maps.{has, if_there}
use Rattle.model.specs.Rules.{B3, B4, B5_to_B9}
use Rattle.sets.specs.Sets.{Set}
use Rattle.sets.specs.Tests.{◌&◌, ◌<?◌, ◌=?◌, ◌⇔◌, ◌≤?◌, all, if?◌then◌else◌, ~◌}

-- ---- what a question asks

-- "Is each number below its limit?" of a list of numbers
unfoldable pub each_below : ℕ → List ℕ → Bool
each_below n xs = every (λ x. x <? n) xs

-- of a member with its version
unfoldable pub member_below : ℕ × Option ℕ → Bool
member_below m = m.0 <? components & if_there m.1 (λ v. v <? versions)

-- of a command
unfoldable pub in_limits : Command → Bool
in_limits (ADD-SPEC c ps vs s) =
    c <? components & each_below facilities ps & each_below versions (firsts vs) & every (each_below facilities) (seconds vs)
    & s <? versions
in_limits (ADD-MOD c is) = c <? components & each_below versions (firsts is) & each_below implementations (seconds is)
in_limits (ADD-SYS c us ks) =
    c <? components & each_below components us & each_below versions (firsts ks) & every (every member_below) (seconds ks)
in_limits (DEL-SPEC c) = c <? components
in_limits (DEL-MOD c) = c <? components
in_limits (DEL-SYS c) = c <? components
in_limits (ADD-MODVAR c v rs i) = c <? components & v <? versions & each_below facilities rs & i <? implementations
in_limits (ADD-SYSVAR c v ms) = c <? components & v <? versions & every member_below ms
in_limits (DEL-MODVAR c v) = c <? components & v <? versions
in_limits (DEL-SYSVAR c v) = c <? components & v <? versions

-- "are the listed versions exactly the specified ones?"
unfoldable pub exactly : Book → ℕ → List ℕ → Bool
exactly b c vs = all versions (λ v. elem v vs ⇔ has_version b.specs c v)

-- "are the requirements free of its own facilities?"
unfoldable pub free : Set → List ℕ → Bool
free own rs = every (λ f. ~ own f) rs

-- "are all its specified requirements empty?"
unfoldable pub no_requirements : Book → ℕ → Bool
no_requirements b c = all versions (λ v. all facilities (λ f. ~ requires b.specs c v f))

-- "is it usable in no system?"
unfoldable pub usable_in_none : Book → ℕ → Bool
usable_in_none b c = all components (λ s. ~ usable b.systems s c)

-- "does no composition hold this pair?"
unfoldable pub held_by_none : Book → ℕ → ℕ → Bool
held_by_none b c v = all components (λ s. all versions (λ w. ~ has (member b.systems s w c) (λ x. x =? v)))

-- ---- the questions

-- a question: the number of its no, and its answer
abbrev pub Question : Type 0
Question = ℕ × Bool

-- "the number at the first no", 0 without one
unfoldable pub first_no : List Question → ℕ
first_no [] = 0
first_no (q ∷ qs) = let rest = first_no qs in if? q.1 then rest else q.0

-- 25 is not among them. It comes first, and is asked of the Book that a call takes: `answered` (command_outcome), `replied_to`
-- (query_replies), `parts_answer` (parts) and `text_answer` (names_test) have it. A book that was reached always passes.
unfoldable pub questions : Book → Command → List Question
questions b (ADD-SPEC c ps vs s) =
    (1, in_limits (ADD-SPEC c ps vs s)) ∷
    (2, non_empty vs) ∷
    (3, once (firsts vs)) ∷
    (5, ~ specified b.specs c) ∷
    (12, length vs ≤? 8) ∷
    (13, every (free (set_of ps)) (seconds vs)) ∷
    (14, elem s (firsts vs)) ∷ []
questions b (ADD-MOD c is) =
    (1, in_limits (ADD-MOD c is)) ∷
    (2, non_empty is) ∷
    (3, once (firsts is)) ∷
    (4, specified b.specs c) ∷
    (8, ~ is_defined b.modules b.systems c) ∷
    (9, exactly b c (firsts is)) ∷ []
questions b (ADD-SYS c us ks) =
    (1, in_limits (ADD-SYS c us ks)) ∷
    (2, non_empty ks & every non_empty (seconds ks)) ∷
    (3, once (firsts ks) & once us & every (λ ms. once (firsts ms)) (seconds ks)) ∷
    (4, specified b.specs c) ∷
    (8, ~ is_defined b.modules b.systems c) ∷
    (9, exactly b c (firsts ks)) ∷
    (16, no_requirements b c) ∷
    (17, every (specified b.specs) us) ∷
    (19, B3 b.specs (after b (ADD-SYS c us ks)).systems) ∷
    (20, B4 (after b (ADD-SYS c us ks)).systems) ∷
    (21, B5_to_B9 (after b (ADD-SYS c us ks))) ∷ []
questions b (DEL-SPEC c) =
    (1, in_limits (DEL-SPEC c)) ∷
    (4, specified b.specs c) ∷
    (18, usable_in_none b c) ∷ []
questions b (DEL-MOD c) =
    (1, in_limits (DEL-MOD c)) ∷
    (6, is_module b.modules c) ∷ []
questions b (DEL-SYS c) =
    (1, in_limits (DEL-SYS c)) ∷
    (7, is_system b.systems c) ∷
    (21, B5_to_B9 (after b (DEL-SYS c))) ∷ []
questions b (ADD-MODVAR c v rs i) =
    (1, in_limits (ADD-MODVAR c v rs i)) ∷
    (6, is_module b.modules c) ∷
    (11, ~ has_version b.specs c v) ∷
    (12, how_many b.specs c <? 8) ∷
    (13, free (provides b.specs c) rs) ∷ []
questions b (ADD-SYSVAR c v ms) =
    (1, in_limits (ADD-SYSVAR c v ms)) ∷
    (2, non_empty ms) ∷
    (3, once (firsts ms)) ∷
    (7, is_system b.systems c) ∷
    (11, ~ has_version b.specs c v) ∷
    (12, how_many b.specs c <? 8) ∷
    (21, B5_to_B9 (after b (ADD-SYSVAR c v ms))) ∷ []
questions b (DEL-MODVAR c v) =
    (1, in_limits (DEL-MODVAR c v)) ∷
    (6, is_module b.modules c) ∷
    (10, has_version b.specs c v) ∷
    (15, ~ (v =? standard b.specs c)) ∷
    (18, held_by_none b c v) ∷ []
questions b (DEL-SYSVAR c v) =
    (1, in_limits (DEL-SYSVAR c v)) ∷
    (7, is_system b.systems c) ∷
    (10, has_version b.specs c v) ∷
    (15, ~ (v =? standard b.specs c)) ∷
    (18, held_by_none b c v) ∷ []
