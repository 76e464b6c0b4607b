-- Laws of a slice whose start was written: writes follow one another.
use mathlib.Core.List.{List, [], ◌++◌, ◌∷◌, append_assoc}
use Rattle.std.proofs.Common.{sym, length-drop}
use Rattle.std.specs.Prelude.{◌≡◌, ◌+◌, ◌-◌, ◌<◌, ◌≤◌, suc, ℕ, get_or, set, take}
use Rattle.std.proofs.Math.Path.{refl}
use Rattle.std.proofs.Math.Numerals.{add-one}
use native.Mathlib.Omega.{arith}
use Rattle.std.proofs.Math.ListN.{drop, length, length-append}
use Rattle.std.proofs.Math.Seq.{drop_at, drop-cons, drop-drop, set_at, take_at}
use Rattle.seqs.specs.Filled.{filled}

module _ {A : Type 0} where
  pub filled-length : (p old : List A) → length p ≤ length old → length (filled p old) ≡ length old
  unfolding filled
  filled-length p old h =
      rw (length-append, length-drop) (let e : length p + (length old - length p) ≡ length old = omega arith in e)

  pub filled_none : (old : List A) → filled [] old ≡ old
  unfolding filled
  filled_none old = refl

  -- one element more
  pub filled-set : (d : A) (p old : List A) (a : ℕ) (x : A) → a ≡ length p → a < length old
      → set (filled p old) a x ≡ filled (p ++ (x ∷ [])) old
  unfolding filled
  filled-set d p old a x e h =
      rw (
        e,
        drop-cons old (length p) d (rw (← e) h),
        set_at p (get_or old (length p) d) (drop (suc (length p)) old) x (length p) refl,
        length-append,
        append_assoc,
        add-one,
      )

  -- w written at the place where p ends
  pub filled_at : (p w old : List A) (a : ℕ) → a ≡ length p
      → take a (filled p old) ++ (w ++ drop (a + length w) (filled p old)) ≡ filled (p ++ w) old
  unfolding filled
  filled_at p w old a e =
      rw (
        take_at p (drop (length p) old) a (sym e),
        ← drop-drop (length w) a (p ++ drop (length p) old),
        drop_at p (drop (length p) old) a (sym e),
        drop-drop,
        length-append,
        append_assoc,
      )
