-- The order of names is the library's order of lists of bytes.
use Rattle.std.specs.Prelude.{Bool, false, true, ◌∷◌, ◌≡◌, refl, ◌<◌, ℕ}
use Rattle.std.proofs.Common.{◌∙◌, arith}
use Rattle.std.specs.Prelude.{Some}
use Rattle.std.specs.declared.cmp.Ordering.{Ordering}
use Rattle.std.specs.declared.cmp.Ordering.TheVariants.{Equal, Greater, Less}
use Rattle.std.specs.Ordering.{MatchOrdering, is_lt, is_some_and, nat_cmp}
use Rattle.std.specs.Cmp.Lexicographic.{slice_partial_cmp}
use Rattle.std.proofs.lemmas.Cmp.{ranked, same_from_slice_cmp_tested}
use Rattle.sets.specs.TestLaws.{<?_in, <?_out, =?-in, =?-not, and-false, and-true, fails, or-false, or_l, or_swap}
use Rattle.text.specs.Bytes.{Text}
use Rattle.text.specs.Written.{before}

by_bytes : (x y : ℕ) (xs ys : Text) (o : Ordering) → o ≡ nat_cmp x y
    → MatchOrdering o (before (x ∷ xs) (y ∷ ys) ≡ true) (before (x ∷ xs) (y ∷ ys) ≡ before xs ys) (before (x ∷ xs) (y ∷ ys) ≡ false)
unfolding before
by_bytes x y xs ys o e = by o (ranked x y o e)
  where
    by : (o : Ordering) → MatchOrdering o (x < y) (x ≡ y) (y < x)
        → MatchOrdering o (before (x ∷ xs) (y ∷ ys) ≡ true) (before (x ∷ xs) (y ∷ ys) ≡ before xs ys) (before (x ∷ xs) (y ∷ ys) ≡ false)
    by Less h = or_l _ _ (<?_in _ _ h)
    by Equal h = or-false _ _ (fails _ (λ t. let l = <?_out _ _ t in absurd (omega arith))) ∙ and-true _ _ (=?-in _ _ h)
    by Greater h = or_swap _ _ ∙ or-false _ _ (and-false _ _ (=?-not _ _ (λ q. absurd (omega arith))))
        ∙ fails _ (λ t. let l = <?_out _ _ t in absurd (omega arith))

pub before_as : (a b : Text) (r : Bool) → r ≡ is_some_and is_lt (slice_partial_cmp (λ x y. Some (nat_cmp x y)) a b) → r ≡ before a b
unfolding before
before_as = same_from_slice_cmp_tested nat_cmp is_lt before refl (λ _ _. refl) (λ _ _. refl) by_bytes
