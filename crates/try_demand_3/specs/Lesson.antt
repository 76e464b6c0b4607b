-- The calls of the run: the teaching book by numbers (model's Teaching), then each of the ten calls tried on it.
use Rattle.std.specs.Prelude.{List, [], ◌∷◌, ◌++◌, ℕ}
use Rattle.command_lists.specs.Said.{left_out}
use Rattle.command_outcome.specs.Calls.{Call, add_mod, add_modvar, add_spec, add_sys, add_sysvar, del_mod, del_modvar, del_spec, del_sys, del_sysvar}
use Rattle.model.specs.Teaching.{loop, one, probe, tank, v2, va, valve, vb, vp}

-- sets of facilities, as numbers
abbrev pub none : ℕ
none = 0

abbrev pub temp : ℕ
temp = 1

abbrev pub cool : ℕ
cool = 2

abbrev pub temp_and_cool : ℕ
temp_and_cool = 3

abbrev pub hold : ℕ
hold = 4

-- the members of a composition of tank, their versions left out
abbrev pub members : List ℕ
members = loop ∷ probe ∷ valve ∷ []

abbrev pub left_out_list : List ℕ
left_out_list = left_out ∷ left_out ∷ left_out ∷ []

-- the five calls of document 01's example
abbrev pub building : List Call
building =
    add_spec probe temp (one ∷ []) (none ∷ []) one ∷
    add_spec valve cool (v2 ∷ []) (temp ∷ []) v2 ∷
    add_spec loop hold (vp ∷ []) (temp_and_cool ∷ []) vp ∷
    add_spec tank hold (va ∷ []) (none ∷ []) va ∷
    add_sys tank members (va ∷ []) (3 ∷ []) members left_out_list ∷ []

-- K4, K5, K6, and then each of the others, accepted
abbrev pub trying : List Call
trying =
    del_spec probe ∷
    del_modvar valve v2 ∷
    add_sysvar tank vb (loop ∷ []) (left_out ∷ []) ∷
    add_mod probe (one ∷ []) (7 ∷ []) ∷
    add_modvar probe v2 none 8 ∷
    del_modvar probe v2 ∷
    del_mod probe ∷
    add_sysvar tank vb members left_out_list ∷
    del_sysvar tank vb ∷
    del_sys tank ∷
    del_spec tank ∷ []

abbrev pub lesson : List Call
lesson = building ++ trying
