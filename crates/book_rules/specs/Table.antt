-- The table of what was walked: what it holds at the place of a version is what that version needs.
use Rattle.std.specs.Prelude.{List, None, Option, Some, ◌≡◌, ℕ, get_or, length}
use Rattle.std.proofs.Math.Option.{some}
use Rattle.book.specs.Plain.{place_of, specs_of, systems_of}
use Rattle.model.specs.Book.{Specs, Systems, member}
use Rattle.model.specs.Maps.{has}
use Rattle.model.specs.Rules.{needs}
use Rattle.sets.specs.Sets.{Set, bit}

pub record Kept (s n : List ℕ) (t : List (Option ℕ)) : Type 0 where
  pub size : length t ≡ 256
  pub found : (c v i x : ℕ) → place_of n c v ≡ some i → get_or t i None ≡ Some x → bit x ≡ needs (specs_of s n) (systems_of s n) c v

-- what the member d of the version v of c adds to the needs
unfoldable pub member_needs : Specs → Systems → ℕ → ℕ → ℕ → Set
member_needs S Y c v d f = has (member Y c v d) (λ w. needs S Y d w f)
