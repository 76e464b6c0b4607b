-- A list of numbers, each with something beside it, taken entry by entry from the left: all that the questions and the change of a
-- command read of it. One definition for the versions of a specification, a module and a system, the members of a composition, and
-- the usable components.
use Rattle.std.specs.Prelude.{Bool, false, true, List, [], ◌∷◌, ℕ}
use Rattle.std.proofs.Math.Option.{none}
use Rattle.model.specs.Maps.{Map, else_try, is_some, only_if, option_map}
use Rattle.sets.specs.Sets.{Set}
use Rattle.sets.specs.Tests.{◌&◌, ◌<?◌, ◌=?◌, ◌or◌, if?◌then◌else◌, ~◌}

pub record Gathered (B : Type 0) : Type 0 where
  -- a number, or what stands beside it, is not below its limit
  pub large : Bool
  -- what stands beside a number is empty
  pub empty : Bool
  -- a number stands twice, or what stands beside one holds a number twice
  pub twice : Bool
  -- what stands beside a number, at its first place
  pub given : Map B

-- the numbers that stand in the list
unfoldable pub listed : {B : Type 0} → Gathered B → Set
listed g v = is_some (g.given v)

-- no entry
abbrev pub nothing : {B : Type 0} → Gathered B
nothing = record { large = false; empty = false; twice = false; given = λ v. none }

-- one entry more, which is not below its limit
unfoldable pub large_of : {B : Type 0} → Gathered B → Gathered B
large_of g = record { large = true; empty = g.empty; twice = g.twice; given = g.given }

-- the same with what f makes of what stands beside each number
unfoldable pub mapped : {A B : Type 0} → (A → B) → Gathered A → Gathered B
mapped f g = record { large = g.large; empty = g.empty; twice = g.twice; given = λ v. option_map f (g.given v) }

-- The numbers are below n. Beside a number stands an a: `good a`, its numbers are below their limits; `full a`, it is not empty;
-- `single a`, no number stands twice in it; `what a` is kept of it.
module _ {A B : Type 0} (n : ℕ) (good full single : A → Bool) (what : A → B) where
  -- one entry more
  unfoldable pub step : Gathered B → ℕ × A → Gathered B
  step g x =
      if? x.0 <? n & good x.1 then record {
        large = g.large;
        empty = g.empty or ~ full x.1;
        twice = g.twice or (listed g x.0 or ~ single x.1);
        given = λ v. else_try (g.given v) (only_if (v =? x.0) (what x.1));
      } else large_of g

  unfoldable pub gather : Gathered B → List (ℕ × A) → Gathered B
  gather g [] = g
  gather g (x ∷ xs) = gather (step g x) xs
