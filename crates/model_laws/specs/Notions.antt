-- The notions in which the theorems are stated: relations with no bound on their steps, and what is claimed of a parts list.
use Rattle.std.specs.Prelude.{Bool, false, true, List, [], ◌∷◌, ◌⊎◌, ◌≡◌, ◌+◌, ◌<◌, ◌≤◌, suc, zero, ℕ}
use Rattle.std.proofs.Math.Option.{some}
use Rattle.model.specs.Book.{Book, Pair, Specs, Systems, components, has_version, is_system, member, requires, usable, versions}
use Rattle.model.specs.PartsList.{listed, members_listed}
use Rattle.model.specs.Questions.{Question}
use Rattle.model.specs.Rules.{r, reaches}
use Rattle.sets.specs.Sets.{Set, meet}
use Rattle.sets.specs.Tests.{◌&◌, ◌=?◌, ◌or◌, count, ~◌}

-- ---- reaching (B4)

-- s reaches c through usable components, in one step or more.
pub data Reaches (Y : Systems) : ℕ → ℕ → Type 0 where
  direct : {s c : ℕ} → usable Y s c ≡ true → Reaches Y s c
  through : {s d c : ℕ} → usable Y s d ≡ true → Reaches Y d c → Reaches Y s c

-- d is a system that can be met at c or below it
unfoldable pub is_below : Systems → ℕ → ℕ → Bool
is_below Y c d = is_system Y d & (c =? d or reaches Y c d)

-- "the number of systems that can still be met below, given by B4": it falls at each step down through usable components (`falls`).
unfoldable pub systems_below : Systems → ℕ → ℕ
systems_below Y c = count components (is_below Y c)

-- ---- needs

-- "Needs (lines 2.47 to 2.52): of a component that is no system, what its version requires; the needs of a system version are the
-- union of its members' needs."
pub data Needs (S : Specs) (Y : Systems) : ℕ → ℕ → ℕ → Type 0 where
  own : {c v f : ℕ} → is_system Y c ≡ false → requires S c v f ≡ true → Needs S Y c v f
  of_member : {c v d w f : ℕ} → is_system Y c ≡ true → member Y c v d ≡ some w → Needs S Y d w f → Needs S Y c v f

-- ---- WHEREUSED

-- line 21.6: the systems that may use one of the components cs
unfoldable pub users : Systems → Set → Set
users Y cs s = is_system Y s & meet components cs (usable Y s)

-- lines 21.3 to 21.6: s is in part(cs), which is cs together with part of the users of cs
pub data InPart (Y : Systems) : Set → ℕ → Type 0 where
  here : {cs : Set} {s : ℕ} → cs s ≡ true → InPart Y cs s
  above : {cs : Set} {s : ℕ} → InPart Y (users Y cs) s → InPart Y cs s

-- the set that holds c alone
unfoldable pub only : ℕ → Set
only c d = d =? c

-- ---- the parts list

-- "what the pair is made from: itself and all pairs reached through compositions"
pub data MadeFrom (Y : Systems) (c v : ℕ) : ℕ → ℕ → Type 0 where
  itself : MadeFrom Y c v c v
  member_of : {d w e x : ℕ} → MadeFrom Y c v d w → member Y d w e ≡ some x → MadeFrom Y c v e x

-- "A chain goes from a pair to one of its members, and so on; its length counts pairs."
pub data Chain (Y : Systems) : ℕ → ℕ → ℕ → Type 0 where
  alone : {c v : ℕ} → Chain Y c v 1
  down : {c v d w n : ℕ} → member Y c v d ≡ some w → Chain Y d w n → Chain Y c v (suc n)

-- each pair stands once
unfoldable pub distinct : List Pair → Bool
distinct [] = true
distinct (q ∷ qs) = ~ listed qs q.0 q.1 & distinct qs

-- each row stands after its own members, where the rows l stand above
unfoldable pub after_members : Systems → List Pair → List Pair → Bool
after_members Y l [] = true
after_members Y l (q ∷ qs) = members_listed Y l q.0 q.1 & after_members Y (q ∷ l) qs

-- the pair q is not behind the pair d, w, by component, then version
abbrev pub NotBehind : Pair → ℕ → ℕ → Type 0
NotBehind q d w = (q.0 < d) ⊎ ((q.0 ≡ d) × (q.1 ≤ w))

-- "At each row stands, of the pairs not yet listed whose members are all listed, the one with the lowest component, then the lowest
-- version", where the rows l stand above
unfoldable pub LowestFirst : Systems → ℕ → ℕ → List Pair → List Pair → Type 0
LowestFirst Y c v l [] = Unit {0}
LowestFirst Y c v l (q ∷ qs) =
    ((d w : ℕ) → MadeFrom Y c v d w → listed l d w ≡ false → members_listed Y l d w ≡ true → NotBehind q d w)
    × LowestFirst Y c v (q ∷ l) qs

-- f 0 + .. + f (n - 1)
unfoldable pub sum : ℕ → (ℕ → ℕ) → ℕ
sum zero f = 0
sum (suc n) f = f n + sum n f

-- how many pairs pass the test
unfoldable pub pairs : (ℕ → ℕ → Bool) → ℕ
pairs test = sum components (λ c. count versions (test c))

-- "where the mission lists or counts versions it means pairs"
unfoldable pub how_many_pairs : Book → ℕ
how_many_pairs b = pairs (has_version b.specs)

-- ---- the first no

-- the number n stands at the first no of the questions
pub data FirstNo : List Question → ℕ → Type 0 where
  no_here : {n : ℕ} {t : Bool} {qs : List Question} → t ≡ false → FirstNo ((n, t) ∷ qs) n
  yes_here : {m n : ℕ} {t : Bool} {qs : List Question} → t ≡ true → FirstNo qs n → FirstNo ((m, t) ∷ qs) n

-- every question has its yes
pub data AllYes : List Question → Type 0 where
  none_left : AllYes []
  yes_all : {n : ℕ} {t : Bool} {qs : List Question} → t ≡ true → AllYes qs → AllYes ((n, t) ∷ qs)

-- ---- sequences of calls

-- "The first call gets an empty book, each later one the book that the call before handed back, and nobody else writes to it."
-- `Call r q n r'` says that the call q on r answers n and leaves r'.
pub data Run (R Q : Type 0) (Call : R → Q → ℕ → R → Type 0) : R → List Q → List ℕ → R → Type 0 where
  ended : {r : R} → Run R Q Call r [] [] r
  called : {r r' r'' : R} {q : Q} {n : ℕ} {qs : List Q} {ns : List ℕ}
      → Call r q n r' → Run R Q Call r' qs ns r'' → Run R Q Call r (q ∷ qs) (n ∷ ns) r''
