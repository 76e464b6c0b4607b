-- A Book as its two arrays with single numbers written into it, and the parts of the test for 25 that say no.
use Rattle.std.specs.Prelude.{Bool, false, true, List, [], ◌∷◌, ◌≡◌, ◌*◌, ◌+◌, ◌^◌, ℕ, length, set}
use Rattle.book.specs.Plain.{plain_of, proper}
use Rattle.book_rules.specs.Test.{passes}
use Rattle.command_outcome.specs.Outcome.{answered}
use Rattle.model.specs.Book.{Book}
use Rattle.model.specs.Commands.{Command}
use Rattle.model.specs.Limits.{one_to_eight}
use Rattle.model.specs.Lists.{every, keep}
use Rattle.model.specs.Rules.{B1, B2, B3, B4, B5, B6, B7, B8, B9}
use Rattle.sets.specs.Tests.{◌&◌, ◌<?◌, ◌=?◌, ~◌}

-- ---- Books as arrays

-- a Book's two arrays: its sets and its numbers
abbrev pub Arrays : Type 0
Arrays = List ℕ × List ℕ

-- the number that stands for the set of these numbers
unfoldable pub as_number : List ℕ → ℕ
as_number [] = 0
as_number (x ∷ xs) = 2 ^ x + as_number xs

-- one number written into the arrays, at its place in the layout of a Book; slot j of the component c
pub data Change : Type 0 where
  provides : (c : ℕ) → List ℕ → Change
  usable : (c : ℕ) → List ℕ → Change
  requires : (c j : ℕ) → List ℕ → Change
  members : (c j : ℕ) → List ℕ → Change
  kind : (c k : ℕ) → Change
  standard : (c v : ℕ) → Change
  version : (c j v : ℕ) → Change
  member_version : (c j m v : ℕ) → Change

unfoldable pub write : Arrays → Change → Arrays
write b (provides c xs) = (set b.0 c (as_number xs), b.1)
write b (usable c xs) = (set b.0 (32 + c) (as_number xs), b.1)
write b (requires c j xs) = (set b.0 (64 + (c * 8 + j)) (as_number xs), b.1)
write b (members c j xs) = (set b.0 (320 + (c * 8 + j)) (as_number xs), b.1)
write b (kind c k) = (b.0, set b.1 c k)
write b (standard c v) = (b.0, set b.1 (32 + c) v)
write b (version c j v) = (b.0, set b.1 (64 + (c * 8 + j)) v)
write b (member_version c j m v) = (b.0, set b.1 (576 + ((c * 8 + j) * 32 + m)) v)

unfoldable pub write_all : Arrays → List Change → Arrays
write_all b [] = b
write_all b (x ∷ xs) = write_all (write b x) xs

-- the arrays have the lengths and hold the numbers that a Book value can have
unfoldable pub is_value : Arrays → Bool
is_value b = length b.0 =? 576 & every (λ x. x <? 2 ^ 64) b.0 & length b.1 =? 8768 & every (λ x. x <? 256) b.1

-- ---- the parts of the test for 25

pub data Part : Type 0 where
  -- the numbers of the arrays are below their limits, and no version stands in two slots (`proper`)
  its_numbers : Part
  -- each specified component has 1 to 8 versions (`one_to_eight`)
  its_counts : Part
  -- B1 to B9
  rule : ℕ → Part

-- those that say no of a plain book,
unfoldable pub book_nos : Book → List Part
book_nos b =
    keep (~ one_to_eight b.specs) its_counts
    (keep (~ B1 b.specs) (rule 1)
    (keep (~ B2 b.specs b.modules b.systems) (rule 2)
    (keep (~ B3 b.specs b.systems) (rule 3)
    (keep (~ B4 b.systems) (rule 4)
    (keep (~ B5 b.specs b.systems) (rule 5)
    (keep (~ B6 b.specs b.systems) (rule 6)
    (keep (~ B7 b.specs b.systems) (rule 7)
    (keep (~ B8 b.specs b.systems) (rule 8)
    (keep (~ B9 b.specs b.systems) (rule 9) [])))))))))

-- and those that say no of a Book
unfoldable pub nos : Arrays → List Part
nos b = keep (~ proper b.0 b.1) its_numbers (book_nos (plain_of b.0 b.1))

-- ---- what comes of a Book

-- The arrays can be a Book's, the parts ps of the test say no of them and the others say yes, so the Book does not pass, and each of
-- the ten commands answers 25.
pub record Gets25 (b : Arrays) (ps : List Part) : Type 0 where
  pub value : is_value b ≡ true
  pub said : nos b ≡ ps
  pub fails : passes b.0 b.1 ≡ false
  pub refused : (k : Command) → answered b.0 b.1 k ≡ 25
