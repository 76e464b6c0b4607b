-- What the code holds of a list means what is gathered of it.
use Rattle.std.specs.Prelude.{Bool, List, [], ◌∷◌, ℕ, suc, zero}
use Rattle.std.proofs.Math.Option.{Option, none, some}
use Rattle.std.specs.Prelude.{None, Option as Found, Some}
use Rattle.book.specs.Plain.{byte, facility_set}
use Rattle.model.specs.Maps.{Map}
use Rattle.command_lists.specs.Gathered.{Gathered, mapped}
use Rattle.command_lists.specs.declared.gathered.Gathered.{Gathered as Kept}
use Rattle.sets.specs.Answered.{answered}
use Rattle.sets.specs.Sets.{Set, bit}
use Rattle.sets.specs.Tests.{if?◌then◌else◌}

-- what an answer of the code says that is something or none
unfoldable pub maybe : {A : Type 0} → Found A → Option A
maybe (Some x) = some x
maybe None = none

-- what stands at the place i, if there is such a place
unfoldable pub entry_at : {A : Type 0} → List A → ℕ → Option A
entry_at [] i = none
entry_at (x ∷ xs) zero = some x
entry_at (x ∷ xs) (suc i) = entry_at xs i

-- what stands at each number of the set s
unfoldable pub given_by : {A : Type 0} → ℕ → List A → Map A
given_by s at v = if? bit s v then entry_at at v else none

unfoldable pub seen : {A : Type 0} → Bool → Bool → Bool → ℕ → List A → Gathered A
seen large empty twice listed at = record { large = large; empty = empty; twice = twice; given = given_by listed at }

abbrev pub view : {A : Type 0} {n : ℕ} → Kept A n → Gathered A
view g = seen g.large g.empty g.twice g.listed g.at

unfoldable pub sets_view : Kept ℕ 64 → Gathered Set
sets_view g = mapped facility_set (view g)

unfoldable pub numbers_view : Kept ℕ 64 → Gathered ℕ
numbers_view g = mapped byte (view g)

unfoldable pub composition_view : Kept (Found ℕ) 32 → Gathered (Option ℕ)
composition_view g = mapped answered (view g)

-- the composition that k holds
unfoldable pub composition_of : Kept (Found ℕ) 32 → Map (Option ℕ)
composition_of k = (composition_view k).given

unfoldable pub compositions_view : Kept (Kept (Found ℕ) 32) 64 → Gathered (Map (Option ℕ))
compositions_view g = mapped composition_of (view g)

unfoldable pub usable_view : Kept (Unit {0}) 32 → Gathered (Unit {0})
usable_view g = view g
