-- A table of pairs: at c stands the set of the versions of c that are marked.
use Rattle.std.specs.Prelude.{Bool, true, List, ◌⊎◌, ◌≡◌, ◌<◌, ℕ, get_or, length}
use Rattle.std.proofs.Math.Option.{some}
use Rattle.model.specs.Book.{Systems, member}
use Rattle.model.specs.PartsList.{is_part}
use Rattle.sets.specs.Sets.{bit}
use Rattle.model_laws.specs.Notions.{MadeFrom}

-- the pair d, w is marked
unfoldable pub marked : List ℕ → ℕ → ℕ → Bool
marked t d w = bit (get_or t d 0) w

-- the members of each marked pair are marked
pub record Closed (Y : Systems) (t : List ℕ) : Type 0 where
  pub size : length t ≡ 32
  pub members : (d w e x : ℕ) → marked t d w ≡ true → member Y d w e ≡ some x → marked t e x ≡ true

-- in t' are marked the pairs of t, and some of what the pair c, v is made from
pub record Onto (Y : Systems) (c v : ℕ) (t t' : List ℕ) : Type 0 where
  pub closed : Closed Y t'
  pub kept : (d w : ℕ) → marked t d w ≡ true → marked t' d w ≡ true
  pub only : (d w : ℕ) → marked t' d w ≡ true → (marked t d w ≡ true) ⊎ MadeFrom Y c v d w

-- and the pair c, v itself
pub record Marked (Y : Systems) (c v : ℕ) (t t' : List ℕ) : Type 0 where
  pub onto : Onto Y c v t t'
  pub itself : marked t' c v ≡ true

-- and its members below m
pub record Marking (Y : Systems) (c v m : ℕ) (t t' : List ℕ) : Type 0 where
  pub onto : Onto Y c v t t'
  pub done : (e x : ℕ) → e < m → member Y c v e ≡ some x → marked t' e x ≡ true

-- the marked pairs are the parts of the pair c, v
pub record PartsIn (Y : Systems) (c v : ℕ) (t : List ℕ) : Type 0 where
  pub size : length t ≡ 32
  pub are : (d w : ℕ) → marked t d w ≡ is_part Y c v d w
