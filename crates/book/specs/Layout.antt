-- Where things stand in the two arrays of a Book. A component has eight slots for versions; i is the place c * 8 + j of slot j of
-- component c. A component or place is read only where it is one (c below 32, i below 256).
--
--   sets      provides at c · usable at 32 + c · requires at 64 + i · members at 320 + i
--   numbers   kind at c (0 unspecified, 1 undefined, 2 module, 3 system) · standard version at 32 + c · version at 64 + i (64: free)
--             implementation at 320 + i · the version of member m at 576 + (i * 32 + m)
use Rattle.std.specs.Prelude.{List, ◌≡◌, ◌*◌, ◌+◌, ℕ, drop, get_or, length, replicate, take}
use Rattle.std.specs.List.{between}
use lib.Seq.{paste}

abbrev pub provides_at : List ℕ → ℕ → ℕ
provides_at s c = get_or s c 0

abbrev pub usable_at : List ℕ → ℕ → ℕ
usable_at s c = get_or s (32 + c) 0

abbrev pub requires_at : List ℕ → ℕ → ℕ
requires_at s i = get_or s (64 + i) 0

abbrev pub members_at : List ℕ → ℕ → ℕ
members_at s i = get_or s (320 + i) 0

abbrev pub kind_at : List ℕ → ℕ → ℕ
kind_at n c = get_or n c 0

abbrev pub standard_at : List ℕ → ℕ → ℕ
standard_at n c = get_or n (32 + c) 0

abbrev pub version_at : List ℕ → ℕ → ℕ
version_at n i = get_or n (64 + i) 0

abbrev pub implementation_at : List ℕ → ℕ → ℕ
implementation_at n i = get_or n (320 + i) 0

abbrev pub member_version_at : List ℕ → ℕ → ℕ → ℕ
member_version_at n i m = get_or n (576 + (i * 32 + m)) 0

-- the eight slots of c
abbrev pub slot_list : List ℕ → ℕ → List ℕ
slot_list n c = take 8 (drop (64 + c * 8) n)

-- the versions in the eight slots of c
abbrev pub slots_of : List ℕ → ℕ → ℕ → ℕ
slots_of n c j = version_at n (c * 8 + j)

-- the eight slots of c without versions
unfoldable pub freed : List ℕ → ℕ → List ℕ
freed n c = paste n (64 + c * 8) (replicate 8 64) 8

-- row v of rows, which has 32 numbers, written at the place i
unfoldable pub row_in : List ℕ → ℕ → List ℕ → ℕ → List ℕ
row_in n i rows v = paste n (576 + i * 32) (between (v * 32) (v * 32 + 32) rows) 32

-- the two arrays have their lengths
pub record Sized (s n : List ℕ) : Type 0 where
  pub sets : length s ≡ 576
  pub numbers : length n ≡ 8768
