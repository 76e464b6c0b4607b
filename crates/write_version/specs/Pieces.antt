-- The pieces of a line, each by its number in the book.
use Rattle.std.specs.Prelude.{List, [], ◌++◌, ◌∷◌, map, ℕ}
use Rattle.std.proofs.Math.Option.{some}
use Rattle.model.specs.Book.{Book, facilities, implementation, member, requires, standard}
use Rattle.model.specs.Maps.{or_else}
use Rattle.sets.specs.Sets.{Set}
use Rattle.text.specs.Bytes.{Text, bytes}
use Rattle.text.specs.Tables.{Table, Tables, name_at}
use Rattle.text.specs.Written.{by_name, facility_names, member_piece, members_of, mod_piece, parted, requiring, spec_piece, sys_piece}
use Rattle.write_bytes.specs.ByName.{listed}

-- pieces with the text p between each two, and s before the first
unfoldable pub led_by : Text → Text → List Text → Text
led_by s p [] = []
led_by s p (x ∷ xs) = s ++ parted p (x ∷ xs)

-- the names of the numbers that pass the test, with the text s before the first
unfoldable pub names_led : Text → Table → ℕ → Set → Text
names_led s t n test = led_by s (bytes ", ") (map (name_at t) (by_name t n test))

-- the names of the numbers that pass the test
unfoldable pub names_of : Table → ℕ → Set → Text
names_of t n test = listed (bytes ", ") (name_at t) t n test

-- what a version requires
unfoldable pub required_text : Table → Set → Text
required_text facs test = requiring (map (name_at facs) (by_name facs facilities test))

-- a version of the spec of c
unfoldable pub spec_version : Book → Tables → ℕ → ℕ → Text
spec_version b t c v =
    spec_piece (name_at t.vers (standard b.specs c)) (name_at t.vers v, facility_names t (requires b.specs c v))

-- a version of the module c
unfoldable pub mod_version : Book → Tables → ℕ → ℕ → Text
mod_version b t c v = mod_piece (name_at t.vers v, name_at t.impls (or_else (implementation b.modules c v) 0))

-- a member c of the version v of the system s
unfoldable pub member_text : Book → Tables → ℕ → ℕ → ℕ → Text
member_text b t s v c =
    member_piece (name_at t.comps c, some (name_at t.vers (or_else (member b.systems s v c) 0)))

-- a version of the system s
unfoldable pub sys_version : Book → Tables → ℕ → ℕ → Text
sys_version b t s v = sys_piece (name_at t.vers v, members_of b t s v)
