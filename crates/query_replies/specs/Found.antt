-- What the functions of the queries find on the way.
use Rattle.std.specs.Prelude.{Bool, List, map, ◌≡◌, ◌%◌, ◌*◌, ◌/◌, ◌<◌, ℕ, get_or, length}
use Rattle.model.specs.Book.{Book, Specs, Systems, facilities, has_version, is_defined, is_module, provides, specified, usable}
use Rattle.model.specs.Lists.{rising}
use Rattle.model.specs.Rules.{reaches}
use Rattle.seqs.specs.Filled.{filled}
use Rattle.sets.specs.Sets.{Set, bit, subset}
use Rattle.sets.specs.Tests.{◌&◌, ◌=?◌, any, count, ~◌}

-- line 19.1, of c
unfoldable pub undefined_at : Book → ℕ → Bool
undefined_at b c = specified b.specs c & ~ is_defined b.modules b.systems c

-- the components that are usable in some system
unfoldable pub used : Systems → Set
used Y c = any 32 (λ s. usable Y s c)

-- line 20.1, of c
unfoldable pub unused_at : Book → ℕ → Bool
unused_at b c = is_module b.modules c & ~ used b.systems c

-- lines 21.2 to 21.6, of c and the system s
unfoldable pub uses_at : Systems → ℕ → ℕ → Bool
uses_at Y c s = ~ (s =? c) & reaches Y s c

-- ---- CHOICE

-- line 17.2, of c: its versions where it provides all the facilities wanted, else none
unfoldable pub chosen_at : Specs → Set → ℕ → Set
chosen_at S w c v = has_version S c v & subset facilities w (provides S c)

-- the set of versions that is chosen of each component
pub record Chosen (S : Specs) (w : Set) (t : List ℕ) : Type 0 where
  pub size : length t ≡ 32
  pub row : (d : ℕ) → d < 32 → bit (get_or t d 0) ≡ chosen_at S w d

-- a test of pairs as a test of rows
unfoldable pub flat : (ℕ → ℕ → Bool) → ℕ → Bool
flat test k = test (k / 64) (k % 64)

-- the pair of row k is in these sets
unfoldable pub row_in : List ℕ → ℕ → Bool
row_in t = flat (λ c. bit (get_or t c 0))

-- Of the numbers that pass the test f, those below k are written into the slice that held old, n as g n: a of them.
pub record WrittenTo (g : ℕ → ℕ) (f : ℕ → Bool) (old : List ℕ) (k a : ℕ) (out : List ℕ) : Type 0 where
  pub at : a ≡ count k f
  pub is : out ≡ filled (map g (rising k f)) old

-- The rows of the components below c are written into the slice that held old: a of them.
pub record RowsTo (t old : List ℕ) (c a : ℕ) (out : List ℕ) : Type 0 where
  pub at : a ≡ count (c * 64) (row_in t)
  pub is : out ≡ filled (rising (c * 64) (row_in t)) old
