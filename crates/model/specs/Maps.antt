-- What may be missing, and maps from numbers.
use Rattle.std.specs.Prelude.{Bool, false, true, ℕ}
use Rattle.std.proofs.Math.Option.{Option, none, some}
use Rattle.sets.specs.Tests.{◌=?◌, if?◌then◌else◌}

unfoldable pub is_some : {A : Type 0} → Option A → Bool
is_some none = false
is_some (some x) = true

-- it is there, and the test passes
unfoldable pub has : {A : Type 0} → Option A → (A → Bool) → Bool
has none t = false
has (some x) t = t x

-- if it is there, the test passes
unfoldable pub if_there : {A : Type 0} → Option A → (A → Bool) → Bool
if_there none t = true
if_there (some x) t = t x

-- what g makes of it, if it is there
unfoldable pub option_map : {A B : Type 0} → (A → B) → Option A → Option B
option_map g none = none
option_map g (some x) = some (g x)

-- it, if it is there, else d
unfoldable pub or_else : {A : Type 0} → Option A → A → A
or_else none d = d
or_else (some x) d = x

-- what g finds of it, if it is there
unfoldable pub and_then : {A B : Type 0} → Option A → (A → Option B) → Option B
and_then none g = none
and_then (some x) g = g x

-- the first of the two that is there
unfoldable pub else_try : {A : Type 0} → Option A → Option A → Option A
else_try none y = y
else_try (some x) y = some x

-- x, where the test passes
unfoldable pub only_if : {A : Type 0} → Bool → A → Option A
only_if true x = some x
only_if false x = none

-- ---- maps

-- A map from numbers: `none` at a number that it does not map.
abbrev pub Map : Type 0 → Type 0
Map A = ℕ → Option A

-- the number n mapped to x (taken out, where x is `none`), and every other number as in m
unfoldable pub put : {A : Type 0} → ℕ → Option A → Map A → Map A
put n x m k = if? k =? n then x else m k

-- the map m with what it holds at n changed by g
unfoldable pub change : {A : Type 0} → ℕ → (A → A) → Map A → Map A
change n g m = put n (option_map g (m n)) m
