-- The lines of the text, each by the number of its component.
use Rattle.std.specs.Prelude.{Bool, ◌++◌, map, ℕ}
use Rattle.std.proofs.Math.Option.{Option}
use Rattle.model.specs.Book.{Book, Systems, components, is_system, usable, versions}
use Rattle.sets.specs.Sets.{Set}
use Rattle.sets.specs.Tests.{◌&◌, ◌⇒◌, all, ~◌}
use Rattle.text.specs.Bytes.{Text, bytes}
use Rattle.text.specs.Tables.{Table, Tables, joined}
use Rattle.text.specs.Written.{by_name, first_of, line, sys_of, systems_in_order}
use Rattle.write_bytes.specs.ByName.{listed}

-- a set, or no number
unfoldable pub if_asked : Bool → Set → Set
if_asked b s x = b & s x

-- from the versions on: those of the set, each with its text
unfoldable pub ending : (ℕ → Text) → Table → Set → Text
ending f vers s = bytes "; " ++ (listed (bytes "; ") f vers versions s ++ bytes " end\n")

-- ---- the order of systems

-- s is not among the systems that are out, and its usable systems are
unfoldable pub is_next : Systems → Set → ℕ → Bool
is_next Y out s = ~ out s & all components (λ c. usable Y s c ⇒ is_system Y c ⇒ out c)

-- the next of some systems
unfoldable pub next_system : Systems → Table → Set → Set → Option ℕ
next_system Y t systems out = first_of (is_next Y out) (by_name t components systems)

unfoldable pub system_lines : Book → Tables → Text
system_lines b t = joined (map (λ c. line (sys_of b t c)) (systems_in_order b t))
