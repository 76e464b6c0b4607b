-- Every question of every command that it names gets its no here, by hand from document 01, and every command its yes. Where two
-- questions would say no, the first gives the number; a refused command changes nothing, so a line goes on from the same book.
use Rattle.std.specs.Prelude.{List, [], ◌++◌, ◌∷◌, map, ◌≡◌, refl, ℕ}
use Rattle.std.proofs.Math.Option.{none, some}
use Rattle.model.specs.Commands.{ADD-MOD, ADD-MODVAR, ADD-SPEC, ADD-SYS, ADD-SYSVAR, Command, DEL-MOD, DEL-MODVAR, DEL-SPEC}
use Rattle.model.specs.Commands.{DEL-SYS, DEL-SYSVAR, Members}
use Rattle.model.specs.Queries.{CHOICE, NEEDS, PARTS, STANDARD, SUPPLIES, UNDEFINED, UNUSED, WHEREUSED, refused}
use Rattle.model.specs.Queries.{the_components, the_facilities, the_pairs, the_parts, the_version}
use Rattle.model.specs.Teaching.{K, Line, backs, calls, cool, everything, hold, light, loop, no_to, one, plain, probe}
use Rattle.model.specs.Teaching.{reply_to, room, run, shell, shell_of, spare, spec_room, spec_shell, sys_room, tank, temp, v2, va}
use Rattle.model.specs.Teaching.{valve, vb, vp, vq, vs, yes_to}

-- versions 8 to 15, and one more, each with x beside it
abbrev eight : {A : Type 0} → A → List (ℕ × A)
eight x = (8, x) ∷ (9, x) ∷ (10, x) ∷ (11, x) ∷ (12, x) ∷ (13, x) ∷ (14, x) ∷ (15, x) ∷ []

abbrev nine : {A : Type 0} → A → List (ℕ × A)
nine x = (7, x) ∷ eight x

-- a list of facilities, of components, of versions with what stands beside each
abbrev nothing : List ℕ
nothing = []

-- the specification of shell in other forms: what it provides, its versions
abbrev shell_with : List ℕ → List (ℕ × List ℕ) → Command
shell_with ps vers = ADD-SPEC shell ps vers vs

-- the system shell in other forms: what it may use, the composition of its one version
abbrev shell_from : List ℕ → Members → Command
shell_from us ms = ADD-SYS shell us ((vs, ms) ∷ [])

abbrev mod_probe : Command
mod_probe = ADD-MOD probe ((one, 0) ∷ [])

-- the composition of tank.a with a version for probe
abbrev tank_with : ℕ → Members
tank_with v = (loop, none) ∷ (probe, some v) ∷ (valve, none) ∷ []

-- ---- one line or more for each command

abbrev add_spec_lines : List Line
add_spec_lines =
    (no_to 1 (ADD-SPEC 32 (hold ∷ []) ((vs, []) ∷ []) vs) ∷
    no_to 1 (shell_with (64 ∷ []) ((vs, []) ∷ [])) ∷
    no_to 1 (shell_with (hold ∷ []) ((vs, []) ∷ (64, []) ∷ [])) ∷
    no_to 1 (shell_with (hold ∷ []) ((vs, 64 ∷ []) ∷ [])) ∷
    no_to 1 (ADD-SPEC shell (hold ∷ []) ((vs, []) ∷ []) 64) ∷
    no_to 1 (ADD-SPEC 32 (hold ∷ []) [] vs) ∷
    no_to 2 (shell_with (hold ∷ []) []) ∷
    no_to 3 (shell_with (hold ∷ []) ((vs, []) ∷ (vb, []) ∷ (vs, []) ∷ [])) ∷
    no_to 3 (ADD-SPEC probe (temp ∷ []) ((one, []) ∷ (one, []) ∷ []) one) ∷
    no_to 5 (ADD-SPEC probe (temp ∷ []) ((one, []) ∷ []) one) ∷
    no_to 5 (ADD-SPEC tank (hold ∷ []) (nine []) 8) ∷
    no_to 12 (ADD-SPEC shell (hold ∷ []) (nine []) 8) ∷
    no_to 12 (ADD-SPEC shell (hold ∷ []) (nine (hold ∷ [])) 8) ∷
    no_to 13 (shell_with (hold ∷ []) ((vs, []) ∷ (vb, temp ∷ hold ∷ []) ∷ [])) ∷
    no_to 13 (ADD-SPEC shell (hold ∷ []) ((vb, hold ∷ []) ∷ []) vs) ∷
    no_to 14 (shell_with (hold ∷ []) ((vb, []) ∷ [])) ∷
    yes_to (ADD-SPEC shell (hold ∷ hold ∷ []) (eight (temp ∷ [])) 8) ∷
    reply_to (SUPPLIES shell) (the_facilities (hold ∷ [])) ∷
    reply_to (STANDARD shell) (the_version 8) ∷
    reply_to (NEEDS shell 15) (the_facilities (temp ∷ [])) ∷
    yes_to (ADD-SPEC spare nothing ((one, []) ∷ []) one) ∷ []) ∷ []

abbrev add_mod_lines : List Line
add_mod_lines =
    (no_to 1 (ADD-MOD 32 ((one, 0) ∷ [])) ∷
    no_to 1 (ADD-MOD probe ((64, 0) ∷ [])) ∷
    no_to 1 (ADD-MOD probe ((one, 256) ∷ [])) ∷
    no_to 1 (ADD-MOD 32 []) ∷
    no_to 2 (ADD-MOD probe []) ∷
    no_to 2 (ADD-MOD shell []) ∷
    no_to 3 (ADD-MOD probe ((one, 0) ∷ (one, 1) ∷ [])) ∷
    no_to 3 (ADD-MOD shell ((vs, 0) ∷ (vs, 0) ∷ [])) ∷
    no_to 4 (ADD-MOD shell ((vs, 0) ∷ [])) ∷
    no_to 8 (ADD-MOD tank ((va, 0) ∷ [])) ∷
    no_to 8 (ADD-MOD tank ((one, 0) ∷ [])) ∷
    no_to 9 (ADD-MOD probe ((v2, 0) ∷ [])) ∷
    no_to 9 (ADD-MOD probe ((one, 0) ∷ (v2, 0) ∷ [])) ∷
    yes_to (ADD-MOD probe ((one, 255) ∷ [])) ∷
    no_to 8 (ADD-MOD probe ((one, 255) ∷ [])) ∷
    reply_to UNDEFINED (the_components (valve ∷ loop ∷ [])) ∷
    yes_to (shell_with (hold ∷ []) ((vs, []) ∷ (vb, []) ∷ [])) ∷
    no_to 9 (ADD-MOD shell ((vs, 0) ∷ [])) ∷
    yes_to (ADD-MOD shell ((vb, 0) ∷ (vs, 0) ∷ [])) ∷
    -- probe is usable in tank
    reply_to UNUSED (the_components (shell ∷ [])) ∷ []) ∷ []

abbrev add_sys_lines : List Line
add_sys_lines =
    (no_to 1 (ADD-SYS 32 (loop ∷ []) ((vs, plain (loop ∷ [])) ∷ [])) ∷
    no_to 1 (shell_from (32 ∷ []) (plain (loop ∷ []))) ∷
    no_to 1 (ADD-SYS shell (loop ∷ []) ((64, plain (loop ∷ [])) ∷ [])) ∷
    no_to 1 (shell_from (loop ∷ []) (plain (32 ∷ []))) ∷
    no_to 1 (shell_from (loop ∷ []) ((loop, some 64) ∷ [])) ∷
    no_to 1 (ADD-SYS 32 nothing []) ∷
    no_to 2 (ADD-SYS shell (loop ∷ loop ∷ []) []) ∷
    no_to 2 (shell_from (loop ∷ []) []) ∷
    no_to 3 (ADD-SYS shell (loop ∷ []) ((vs, plain (loop ∷ [])) ∷ (vs, plain (loop ∷ [])) ∷ [])) ∷
    no_to 3 (shell_from (loop ∷ loop ∷ []) (plain (loop ∷ []))) ∷
    no_to 3 (shell_from (loop ∷ []) (plain (loop ∷ loop ∷ []))) ∷
    no_to 4 (shell_of loop) ∷
    no_to 8 (ADD-SYS tank (loop ∷ []) ((va, plain (loop ∷ [])) ∷ [])) ∷
    no_to 8 (ADD-SYS tank (loop ∷ []) ((vb, plain (loop ∷ [])) ∷ [])) ∷
    no_to 9 (ADD-SYS loop (probe ∷ []) ((vs, plain (probe ∷ [])) ∷ [])) ∷
    no_to 16 (ADD-SYS loop (spare ∷ []) ((vp, plain (spare ∷ [])) ∷ [])) ∷
    yes_to mod_probe ∷
    no_to 8 (ADD-SYS probe (loop ∷ []) ((one, plain (loop ∷ [])) ∷ [])) ∷
    yes_to spec_shell ∷
    no_to 17 (shell_from (spare ∷ []) (plain (spare ∷ []))) ∷
    no_to 17 (shell_from (loop ∷ spare ∷ []) (plain (loop ∷ []))) ∷
    no_to 19 (shell_of probe) ∷
    no_to 19 (shell_from nothing (plain (loop ∷ []))) ∷
    no_to 20 (shell_of shell) ∷
    no_to 20 (shell_from (shell ∷ loop ∷ []) (plain (probe ∷ []))) ∷
    -- B5: a member that is not usable; a version that the member has not; a member that is not specified
    no_to 21 (shell_from (loop ∷ []) (plain (loop ∷ probe ∷ []))) ∷
    no_to 21 (shell_from (loop ∷ []) ((loop, some vb) ∷ [])) ∷
    no_to 21 (shell_from (loop ∷ []) (plain (loop ∷ spare ∷ []))) ∷
    -- B6: loop and tank both provide hold
    no_to 21 (shell_from (loop ∷ tank ∷ []) (plain (loop ∷ tank ∷ []))) ∷
    -- B9: loop needs temp, which the usable probe provides
    no_to 21 (shell_from (loop ∷ probe ∷ []) (plain (loop ∷ []))) ∷
    -- B7: "They think a spare member in a composition does no harm."
    yes_to (ADD-SPEC spare (light ∷ []) ((one, []) ∷ []) one) ∷
    no_to 21 (shell_from (loop ∷ spare ∷ []) (plain (loop ∷ spare ∷ []))) ∷
    yes_to (shell_from (loop ∷ spare ∷ []) (plain (loop ∷ []))) ∷
    reply_to (WHEREUSED loop) (the_components (tank ∷ shell ∷ [])) ∷ []) ∷
    -- B8: shell provides temp and hold, and the composition only temp
    (yes_to (shell_with (temp ∷ hold ∷ []) ((vs, []) ∷ [])) ∷
    no_to 21 (shell_from (probe ∷ loop ∷ []) (plain (probe ∷ []))) ∷ []) ∷
    -- 19 before 20: shell reaches itself through room, and nothing usable provides hold
    (yes_to spec_shell ∷ yes_to (ADD-SPEC room (temp ∷ []) ((vq, []) ∷ []) vq) ∷
    yes_to (ADD-SYS room (probe ∷ shell ∷ []) ((vq, plain (probe ∷ [])) ∷ [])) ∷
    no_to 19 (shell_from (room ∷ probe ∷ []) (plain (probe ∷ []))) ∷ []) ∷
    -- a usable cycle that no composition has
    (yes_to spec_shell ∷ yes_to spec_room ∷ yes_to (ADD-SYS room (shell ∷ loop ∷ []) ((vq, plain (loop ∷ [])) ∷ [])) ∷
    no_to 20 (shell_from (room ∷ loop ∷ []) (plain (loop ∷ []))) ∷
    reply_to (WHEREUSED shell) (the_components (room ∷ [])) ∷ []) ∷
    -- B7 counts each member's own needs: shell provides temp and cool and needs temp, and room holds it for that alone
    (yes_to (shell_with (temp ∷ cool ∷ []) ((vs, []) ∷ [])) ∷ yes_to (shell_from (probe ∷ valve ∷ []) (plain (probe ∷ valve ∷ []))) ∷
    yes_to (ADD-SPEC spare (light ∷ []) ((one, []) ∷ []) one) ∷ yes_to (ADD-SPEC room (light ∷ []) ((vq, []) ∷ []) vq) ∷
    yes_to (ADD-SYS room (spare ∷ shell ∷ []) ((vq, plain (spare ∷ shell ∷ [])) ∷ [])) ∷
    reply_to (NEEDS room vq) (the_facilities (temp ∷ [])) ∷ []) ∷
    -- a system above that already uses the component: room holds shell, which then needs temp, and room may use probe
    (yes_to spec_shell ∷ yes_to spec_room ∷ yes_to (ADD-SYS room (shell ∷ probe ∷ []) ((vq, plain (shell ∷ [])) ∷ [])) ∷
    no_to 21 (shell_of loop) ∷ []) ∷ []

abbrev del_spec_lines : List Line
del_spec_lines =
    (no_to 1 (DEL-SPEC 32) ∷ no_to 4 (DEL-SPEC shell) ∷ no_to 18 (DEL-SPEC probe) ∷
    -- the definition goes too: probe is then usable in no system
    yes_to (DEL-SPEC tank) ∷ no_to 4 (DEL-SPEC tank) ∷ no_to 7 (DEL-SYS tank) ∷ yes_to mod_probe ∷ yes_to (DEL-SPEC probe) ∷
    no_to 6 (DEL-MOD probe) ∷ reply_to UNDEFINED (the_components (valve ∷ loop ∷ [])) ∷ []) ∷ []

abbrev del_mod_lines : List Line
del_mod_lines =
    (no_to 1 (DEL-MOD 32) ∷ no_to 6 (DEL-MOD probe) ∷ no_to 6 (DEL-MOD tank) ∷ no_to 6 (DEL-MOD shell) ∷
    yes_to mod_probe ∷ yes_to (DEL-MOD probe) ∷ no_to 6 (DEL-MOD probe) ∷ []) ∷ []

abbrev del_sys_lines : List Line
del_sys_lines =
    (no_to 1 (DEL-SYS 32) ∷ no_to 7 (DEL-SYS probe) ∷ no_to 7 (DEL-SYS shell) ∷
    yes_to (DEL-SYS tank) ∷ no_to 7 (DEL-SYS tank) ∷ reply_to (NEEDS tank va) (the_facilities []) ∷ []) ∷
    -- K11: "a system above may hold a part only because the lower one needed it"
    (yes_to spec_room ∷ yes_to sys_room ∷ no_to 21 (DEL-SYS tank) ∷ yes_to (DEL-SYS room) ∷ yes_to (DEL-SYS tank) ∷ []) ∷ []

abbrev add_modvar_lines : List Line
add_modvar_lines =
    (no_to 1 (ADD-MODVAR 32 vb nothing 0) ∷ no_to 1 (ADD-MODVAR probe 64 nothing 0) ∷ no_to 1 (ADD-MODVAR probe vb (64 ∷ []) 0) ∷
    no_to 1 (ADD-MODVAR probe vb nothing 256) ∷
    no_to 6 (ADD-MODVAR probe vb nothing 0) ∷ no_to 6 (ADD-MODVAR valve v2 nothing 0) ∷ no_to 6 (ADD-MODVAR tank vb nothing 0) ∷
    yes_to mod_probe ∷
    no_to 11 (ADD-MODVAR probe one nothing 0) ∷ no_to 11 (ADD-MODVAR probe one (temp ∷ []) 0) ∷
    no_to 13 (ADD-MODVAR probe vb (cool ∷ temp ∷ []) 0) ∷
    yes_to (ADD-MODVAR probe vb (cool ∷ []) 255) ∷
    reply_to (NEEDS probe vb) (the_facilities (cool ∷ [])) ∷ reply_to (NEEDS probe one) (the_facilities []) ∷
    reply_to (STANDARD probe) (the_version one) ∷
    reply_to (CHOICE (temp ∷ [])) (the_pairs ((probe, one) ∷ (probe, vb) ∷ [])) ∷
    no_to 11 (ADD-MODVAR probe vb nothing 0) ∷
    yes_to (ADD-SPEC shell (hold ∷ []) (eight []) 8) ∷ yes_to (ADD-MOD shell (eight 0)) ∷
    no_to 11 (ADD-MODVAR shell 8 nothing 0) ∷ no_to 12 (ADD-MODVAR shell vs nothing 0) ∷ no_to 12 (ADD-MODVAR shell vs (hold ∷ []) 0) ∷ []) ∷ []

abbrev add_sysvar_lines : List Line
add_sysvar_lines =
    (no_to 1 (ADD-SYSVAR 32 vb (plain (loop ∷ []))) ∷ no_to 1 (ADD-SYSVAR tank 64 (plain (loop ∷ []))) ∷
    no_to 1 (ADD-SYSVAR tank vb (plain (32 ∷ []))) ∷ no_to 1 (ADD-SYSVAR tank vb (tank_with 64)) ∷ no_to 1 (ADD-SYSVAR 32 vb []) ∷
    no_to 2 (ADD-SYSVAR tank vb []) ∷ no_to 2 (ADD-SYSVAR probe vb []) ∷
    no_to 3 (ADD-SYSVAR tank vb (plain (loop ∷ loop ∷ []))) ∷ no_to 3 (ADD-SYSVAR probe vb (plain (loop ∷ loop ∷ []))) ∷
    no_to 7 (ADD-SYSVAR probe vb (plain (loop ∷ []))) ∷ no_to 7 (ADD-SYSVAR probe one (plain (loop ∷ []))) ∷
    no_to 11 (ADD-SYSVAR tank va (plain (loop ∷ []))) ∷
    -- B9, B5 (a version that probe has not), B7 and B8
    no_to 21 (ADD-SYSVAR tank vb (plain (loop ∷ []))) ∷ no_to 21 (ADD-SYSVAR tank vb (tank_with vb)) ∷
    no_to 21 (ADD-SYSVAR tank vb (plain (probe ∷ valve ∷ []))) ∷
    yes_to (ADD-SYSVAR tank vb (plain (loop ∷ probe ∷ valve ∷ []))) ∷
    no_to 11 (ADD-SYSVAR tank vb (plain (loop ∷ probe ∷ valve ∷ []))) ∷
    reply_to (NEEDS tank vb) (the_facilities (temp ∷ cool ∷ [])) ∷
    reply_to (PARTS tank vb) (the_parts ((probe, one) ∷ (valve, v2) ∷ (loop, vp) ∷ (tank, vb) ∷ []) 2) ∷ []) ∷
    (yes_to (ADD-SPEC shell (hold ∷ []) (eight []) 8) ∷ yes_to (ADD-SYS shell (loop ∷ []) (eight (plain (loop ∷ [])))) ∷
    no_to 11 (ADD-SYSVAR shell 8 (plain (loop ∷ []))) ∷ no_to 12 (ADD-SYSVAR shell vs (plain (loop ∷ []))) ∷
    no_to 12 (ADD-SYSVAR shell vs (plain (probe ∷ []))) ∷ []) ∷ []

abbrev del_modvar_lines : List Line
del_modvar_lines =
    (no_to 1 (DEL-MODVAR 32 one) ∷ no_to 1 (DEL-MODVAR probe 64) ∷ no_to 6 (DEL-MODVAR valve v2) ∷ no_to 6 (DEL-MODVAR valve vb) ∷
    yes_to mod_probe ∷ no_to 10 (DEL-MODVAR probe vb) ∷ no_to 15 (DEL-MODVAR probe one) ∷
    yes_to (ADD-MODVAR probe vb nothing 1) ∷ yes_to (ADD-SYSVAR tank vq (tank_with vb)) ∷
    no_to 18 (DEL-MODVAR probe vb) ∷ yes_to (DEL-SYSVAR tank vq) ∷ yes_to (DEL-MODVAR probe vb) ∷ no_to 10 (DEL-MODVAR probe vb) ∷ []) ∷ []

abbrev del_sysvar_lines : List Line
del_sysvar_lines =
    (no_to 1 (DEL-SYSVAR 32 va) ∷ no_to 1 (DEL-SYSVAR tank 64) ∷ no_to 7 (DEL-SYSVAR probe one) ∷ no_to 7 (DEL-SYSVAR probe vb) ∷
    no_to 10 (DEL-SYSVAR tank vb) ∷ no_to 15 (DEL-SYSVAR tank va) ∷
    yes_to (ADD-SYSVAR tank vb (plain (loop ∷ probe ∷ valve ∷ []))) ∷ yes_to spec_room ∷
    yes_to (ADD-SYS room (tank ∷ probe ∷ []) ((vq, (tank, some vb) ∷ (probe, none) ∷ []) ∷ [])) ∷
    no_to 18 (DEL-SYSVAR tank vb) ∷ yes_to (DEL-SYS room) ∷ yes_to (DEL-SYSVAR tank vb) ∷ no_to 10 (DEL-SYSVAR tank vb) ∷ []) ∷ []

-- the queries' questions
abbrev queries : List Line
queries =
    (reply_to (SUPPLIES 32) (refused 1) ∷ reply_to (SUPPLIES shell) (refused 4) ∷ reply_to (SUPPLIES tank) (the_facilities (hold ∷ [])) ∷
    reply_to (STANDARD 32) (refused 1) ∷ reply_to (STANDARD shell) (refused 4) ∷ reply_to (STANDARD tank) (the_version va) ∷
    reply_to (WHEREUSED 32) (refused 1) ∷ reply_to (WHEREUSED shell) (refused 4) ∷ reply_to (WHEREUSED tank) (the_components []) ∷
    reply_to (NEEDS 32 va) (refused 1) ∷ reply_to (NEEDS tank 64) (refused 1) ∷ reply_to (NEEDS shell va) (refused 4) ∷
    reply_to (NEEDS tank vb) (refused 10) ∷ reply_to (NEEDS valve v2) (the_facilities (temp ∷ [])) ∷
    reply_to (PARTS 32 va) (refused 1) ∷ reply_to (PARTS tank 64) (refused 1) ∷ reply_to (PARTS shell va) (refused 4) ∷
    reply_to (PARTS tank vb) (refused 10) ∷ reply_to (PARTS probe one) (the_parts ((probe, one) ∷ []) 1) ∷
    reply_to (PARTS tank va) (the_parts ((probe, one) ∷ (valve, v2) ∷ (loop, vp) ∷ (tank, va) ∷ []) 2) ∷
    reply_to (CHOICE (64 ∷ [])) (refused 1) ∷ reply_to (CHOICE (hold ∷ [])) (the_pairs ((loop, vp) ∷ (tank, va) ∷ [])) ∷
    reply_to (CHOICE (hold ∷ temp ∷ [])) (the_pairs []) ∷
    reply_to (CHOICE []) (the_pairs ((probe, one) ∷ (valve, v2) ∷ (loop, vp) ∷ (tank, va) ∷ [])) ∷
    reply_to UNUSED (the_components []) ∷ []) ∷ []

abbrev pub answers_table : List Line
answers_table =
    add_spec_lines ++ add_mod_lines ++ add_sys_lines ++ del_spec_lines ++ del_mod_lines ++ del_sys_lines ++ add_modvar_lines ++ add_sysvar_lines ++ del_modvar_lines ++ del_sysvar_lines ++ queries

pub each_answer : map (λ line. run K (calls line)) answers_table ≡ map backs answers_table
unfolding everything
each_answer = refl
