-- The question for 25, of a book (document 01, "The questions, in order"): "Any call that takes a book: are its numbers below their
-- limits, has each specified component 1 to 8 different versions, and do B1 to B9 hold? .. no: 25"
use Rattle.std.specs.Prelude.{Bool, true, ◌≡◌, ◌<◌, ℕ}
use Rattle.std.proofs.Math.Option.{some}
use Rattle.model.specs.Book.{Book, Modules, Specs, Systems, components, composed, facilities, has_version, implementation}
use Rattle.model.specs.Book.{implementations, is_module, is_system, member, provides, requires, specified, usable, versions}
use Rattle.model.specs.Rules.{B1_to_B9, each_specified}
use Rattle.sets.specs.Tests.{◌&◌, ◌<?◌, ◌≤?◌, count}

-- "are its numbers below their limits": of the specifications,
pub record SpecLimits (S : Specs) : Type 0 where
  pub component< : (c : ℕ) → specified S c ≡ true → c < components
  pub provided< : (c f : ℕ) → provides S c f ≡ true → f < facilities
  pub version< : (c v : ℕ) → has_version S c v ≡ true → v < versions
  pub required< : (c v f : ℕ) → requires S c v f ≡ true → f < facilities

-- of the modules,
pub record ModuleLimits (M : Modules) : Type 0 where
  pub component< : (c : ℕ) → is_module M c ≡ true → c < components
  pub implementation< : (c v i : ℕ) → implementation M c v ≡ some i → (v < versions) × (i < implementations)

-- and of the systems
pub record SystemLimits (Y : Systems) : Type 0 where
  pub component< : (s : ℕ) → is_system Y s ≡ true → s < components
  pub usable< : (s c : ℕ) → usable Y s c ≡ true → c < components
  pub version< : (s v : ℕ) → composed Y s v ≡ true → v < versions
  pub member< : (s v c w : ℕ) → member Y s v c ≡ some w → (c < components) × (w < versions)

-- how many versions c has
unfoldable pub how_many : Specs → ℕ → ℕ
how_many S c = count versions (has_version S c)

-- "has each specified component 1 to 8 different versions"
unfoldable pub one_to_eight : Specs → Bool
one_to_eight S = each_specified S (λ c. 0 <? how_many S c & how_many S c ≤? 8)

-- the answer to the question for 25 is yes
pub record Passes (b : Book) : Type 0 where
  pub spec_limits : SpecLimits b.specs
  pub module_limits : ModuleLimits b.modules
  pub system_limits : SystemLimits b.systems
  pub counts : one_to_eight b.specs ≡ true
  pub rules : B1_to_B9 b ≡ true
