-- The rest of a slice from a on, lent as `&mut s[a..]`: what the whole slice holds when the rest is back.
use mathlib.Core.List.{List, ◌++◌, append-nil}
use Rattle.std.proofs.Common.{◌∙◌, le_refl, drop_of_length-le, length-drop, drop-drop, take_all}
use Rattle.std.specs.Prelude.{◌≡◌, ◌+◌, ◌-◌, ℕ, drop, length}
use Rattle.std.proofs.Math.Path.{ap}
use Rattle.std.proofs.Math.ListN.{take}
use Rattle.seqs.specs.Filled.{filled}

module _ {A : Type 0} where
  -- what the borrower of the rest sees
  pub rest_is : (xs : List A) (a : ℕ) → take (length xs - a) (drop a xs) ≡ drop a xs
  rest_is xs a = take_all (length xs - a) (drop a xs) (rw length-drop (le_refl _))

  -- what comes back in the rest's place, ys, makes up the whole with what stood before it
  pub rest_back : (xs ys : List A) (a : ℕ) → take a xs ++ (ys ++ drop (length xs - a) (drop a xs)) ≡ take a xs ++ ys
  rest_back xs ys a = rw (drop_of_length-le (drop a xs) {i = length xs - a} (rw length-drop (le_refl _)), append-nil)

  -- a writer's `filled w rest`, said of the whole
  pub rest_filled : (xs w ys : List A) (a : ℕ) → ys ≡ filled w (take (length xs - a) (drop a xs))
      → take a xs ++ (ys ++ drop (length xs - a) (drop a xs)) ≡ take a xs ++ (w ++ drop (a + length w) xs)
  unfolding filled
  rest_filled xs w ys a e =
      rest_back xs ys a ∙ ap (λ (l : List A). take a xs ++ l) (e ∙ rw (rest_is xs a, drop-drop))
