-- The ten calls with the numbers and slices that they carry, the command that each stands for, and the ten by number.
use Rattle.std.specs.Prelude.{List, ℕ}
use Rattle.model.specs.Commands.{ADD-MOD, ADD-MODVAR, ADD-SPEC, ADD-SYS, ADD-SYSVAR, Command, DEL-MOD, DEL-MODVAR, DEL-SPEC, DEL-SYS, DEL-SYSVAR}
use Rattle.sets.specs.Tests.{◌=?◌, if?◌then◌else◌}
use Rattle.command_lists.specs.Said.{compositions_said, facilities_said, implementations_said, members_said, requirements_said}

pub data Call : Type 0 where
  -- component, set of the facilities provided, versions, set of the facilities that each requires, standard version
  add_spec : ℕ → ℕ → List ℕ → List ℕ → ℕ → Call
  -- component, versions, their implementations
  add_mod : ℕ → List ℕ → List ℕ → Call
  -- component, usable components, versions, the lengths of their compositions, members of all compositions, their versions
  add_sys : ℕ → List ℕ → List ℕ → List ℕ → List ℕ → List ℕ → Call
  -- component, version, set of the facilities required, implementation
  add_modvar : ℕ → ℕ → ℕ → ℕ → Call
  -- component, version, members, their versions
  add_sysvar : ℕ → ℕ → List ℕ → List ℕ → Call
  del_spec del_mod del_sys : ℕ → Call
  del_modvar del_sysvar : ℕ → ℕ → Call

unfoldable pub command_of : Call → Command
command_of (add_spec c p vs qs s) = ADD-SPEC c (facilities_said p) (requirements_said vs qs) s
command_of (add_mod c vs is) = ADD-MOD c (implementations_said vs is)
command_of (add_sys c us vs ls ms xs) = ADD-SYS c us (compositions_said vs ls ms xs)
command_of (add_modvar c v q i) = ADD-MODVAR c v (facilities_said q) i
command_of (add_sysvar c v ms xs) = ADD-SYSVAR c v (members_said ms xs)
command_of (del_spec c) = DEL-SPEC c
command_of (del_mod c) = DEL-MOD c
command_of (del_sys c) = DEL-SYS c
command_of (del_modvar c v) = DEL-MODVAR c v
command_of (del_sysvar c v) = DEL-SYSVAR c v

-- The ten by number, so that one function makes each of them. What a call may carry: component c, version v (ADD-SPEC: the standard
-- version), implementation i, set of facilities f; usable components us, versions vs, their implementations is, the lengths of their
-- compositions ls, members ms, their versions xs, sets of facilities qs.
unfoldable pub call_of : ℕ → ℕ → ℕ → ℕ → ℕ → List ℕ → List ℕ → List ℕ → List ℕ → List ℕ → List ℕ → List ℕ → Call
call_of kind c v i f us vs is ls ms xs qs =
    if? kind =? 0 then add_spec c f vs qs v
    else (if? kind =? 1 then add_mod c vs is
    else (if? kind =? 2 then add_sys c us vs ls ms xs
    else (if? kind =? 3 then add_modvar c v f i
    else (if? kind =? 4 then add_sysvar c v ms xs
    else (if? kind =? 5 then del_spec c
    else (if? kind =? 6 then del_mod c
    else (if? kind =? 7 then del_sys c
    else (if? kind =? 8 then del_modvar c v
    else del_sysvar c v))))))))
