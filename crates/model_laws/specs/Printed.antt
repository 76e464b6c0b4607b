-- The formula that PRG-31 prints at line 2.35, by lines 2.35 to 2.44. Document 01, of B9: "The formula printed there holds of every
-- composition, so it isn't used."
use Rattle.std.specs.Prelude.{Bool, ℕ}
use Rattle.model.specs.Book.{Specs, Systems, components, facilities, has_version, usable, versions}
use Rattle.model.specs.Rules.{needs, p, r}
use Rattle.sets.specs.Sets.{Set, minus, subset}
use Rattle.sets.specs.Tests.{◌&◌, any}

-- line 2.44, rs: "union{needs(c, v)|c ∈ uses(s) & v ∈ dom req(c)}"
unfoldable pub rs : Specs → Systems → ℕ → Set
rs S Y s f = any components (λ c. usable Y s c & any versions (λ v. has_version S c v & needs S Y c v f))

-- line 2.35: "(r - rs) ⊆ p"
unfoldable pub printed_at : Specs → Systems → ℕ → ℕ → Bool
printed_at S Y s v = subset facilities (minus (r S Y s v) (rs S Y s)) (p S Y s v)
