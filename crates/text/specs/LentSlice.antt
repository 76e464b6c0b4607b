-- The session on a lent slice, the host's call in C, and the program (document 01, "Text and session").
use Rattle.std.specs.Prelude.{Bool, List, ◌++◌, ℕ, negsuc, pos, ℤ, drop, length, replicate}
use Rattle.sets.specs.Tests.{◌&◌, ◌≤?◌, if?◌then◌else◌}
use Rattle.text.specs.Bytes.{Text, bytes}
use Rattle.text.specs.SameByNames.{accepted}
use Rattle.text.specs.Session.{State, fresh, session}
use Rattle.text.specs.Written.{as_commands}

-- "does the result fit the lent slice?"
unfoldable pub fits_in : List ℕ → Text → Bool
fits_in slice t = length (session t).0 ≤? length slice

-- the listing at the start of the slice, which is long enough, and what stood there behind it
unfoldable pub listing_in : List ℕ → Text → List ℕ
listing_in slice t = (session t).0 ++ drop (length (session t).0) slice

-- "A listing longer than the slice gives 22 and a slice of zeros."
unfoldable pub slice_after : List ℕ → Text → List ℕ
slice_after slice t = if? fits_in slice t then listing_in slice t else replicate (length slice) 0

-- "The library's session also hands back its book and tables as reached; after 22 both are empty."
unfoldable pub state_after : List ℕ → Text → State
state_after slice t = if? fits_in slice t then (session t).1 else fresh

-- ---- reading back

-- "reading back supposes a slice long enough for the rows": these, one with 0 for each command of the book's text
abbrev pub rows_back : State → Text
rows_back s = accepted 1 (length (as_commands s.book s.tables))

-- ---- the host's call

-- "a text or slice beyond 2,147,483,647 bytes gives that and the zeros too"
abbrev pub most_bytes : ℕ
most_bytes = 2147483647

unfoldable pub host_fits : List ℕ → Text → Bool
host_fits slice t = length t ≤? most_bytes & length slice ≤? most_bytes & fits_in slice t

-- "The setpoint screen's host program, written in C, calls the session on text and slice and gets the listing's length, or minus
-- 22"
unfoldable pub host_result : List ℕ → Text → ℤ
host_result slice t = if? host_fits slice t then pos (length (session t).0) else negsuc 21

unfoldable pub host_slice : List ℕ → Text → List ℕ
host_slice slice t = if? host_fits slice t then listing_in slice t else replicate (length slice) 0

-- ---- the program

-- "The program `session` does it for standard input, up to 65,536 bytes, with a slice of that size; where either is too small it
-- prints `0,22`."
abbrev pub program_bytes : ℕ
program_bytes = 65536

unfoldable pub prints : Text → Text
prints t = if? length t ≤? program_bytes & length (session t).0 ≤? program_bytes then (session t).0 else bytes "0,22\n"
