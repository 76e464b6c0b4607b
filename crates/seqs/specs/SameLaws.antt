-- Laws of the test that two texts are the same.
use Rattle.std.specs.Prelude.{Bool, false, [], ◌∷◌, ◌≢◌, ◌≡◌, refl, suc, length}
use Rattle.std.proofs.Common.{◌∙◌, ap}
use Rattle.std.specs.Str.{bytes_eq}
use Rattle.sets.specs.TestLaws.{and-false, and_swap}
use Rattle.sets.specs.Tests.{◌&◌, ◌=?◌}
use Rattle.text.specs.Bytes.{Text, same}

-- texts of two lengths differ
pub same_length : (a b : Text) → length a ≢ length b → same a b ≡ false
unfolding same
same_length [] [] h = absurd (h refl)
same_length [] (y ∷ ys) h = refl
same_length (x ∷ xs) [] h = refl
same_length (x ∷ xs) (y ∷ ys) h = and_swap _ _ ∙ and-false _ _ (same_length xs ys (λ e. h (ap suc e)))

-- the test `==` of two slices of bytes
pub same_is : (a b : Text) → bytes_eq a b ≡ same a b
unfolding same ◌=?◌ ◌&◌
same_is [] [] = refl
same_is [] (y ∷ ys) = refl
same_is (x ∷ xs) [] = refl
same_is (x ∷ xs) (y ∷ ys) = ap (λ (r : Bool). x =? y & r) (same_is xs ys)
