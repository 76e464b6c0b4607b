-- Laws of a text that is measured first and then written.
use Rattle.std.proofs.Math.Bool.{false, true}
use Rattle.std.proofs.Math.Option.{none, some}
use Rattle.std.specs.Prelude.{List, ◌++◌, ◌≡◌, ◌-◌, ◌≤◌, ℕ, take}
use Rattle.std.proofs.Common.{◌∙◌, le_refl}
use Rattle.std.proofs.Math.Path.{ap, refl, sym}
use Rattle.std.proofs.Math.Nat.{sub_self}
use native.Mathlib.Omega.{arith}
use Rattle.std.proofs.Math.ListN.{length}
use Rattle.seqs.specs.Filled.{filled}
use Rattle.sets.specs.TestLaws.{and-true, if-false, if-true}
use Rattle.sets.specs.Tests.{◌≤?◌}
use Rattle.text.specs.Bytes.{Text}
use Rattle.write_bytes.specs.Room.{Puts, Room, written_in}
use Rattle.write_bytes.specs.Written.{starting_with, wrote}

abbrev pub whole : List ℕ → Room
whole old = record { fits = true; left = length old }

module _ (w : Text) (old : List ℕ) {m : Room} {a b : List ℕ} (f : Puts w (whole old) m a b) where
  fit : m.fits ≡ (length w ≤? length old)
  fit = f.fits ∙ and-true _ _ refl

  pub does_not_fit : m.fits ≡ false → (none ≡ wrote w old) × (old ≡ starting_with w old)
  unfolding wrote starting_with
  does_not_fit h = let e : (length w ≤? length old) ≡ false = sym fit ∙ h in (sym (if-false _ _ _ e), sym (if-false _ _ _ e))

  module _ (h : m.fits ≡ true) where
    fits : (length w ≤? length old) ≡ true
    fits = sym fit ∙ h

    pub len_of : some (length old - m.left) ≡ wrote w old
    unfolding wrote
    len_of =
        let l = f.left h in let n : length old - m.left ≡ length w = omega arith in
        ap some n ∙ sym (if-true _ _ _ fits)

    pub bytes_of : {q : Room} {new : List ℕ} → Puts w (whole old) q old new → new ≡ starting_with w old
    unfolding starting_with written_in
    bytes_of g =
        g.holds (g.fits ∙ and-true _ _ refl ∙ fits) (le_refl _)
        ∙ ap (λ (i : ℕ). filled (take i old ++ w) old) (sub_self (length old))
        ∙ sym (if-true _ _ _ fits)

pub left_over : {w : Text} {p q : Room} {a b : List ℕ} → Puts w p q a b → q.fits ≡ true → q.left ≤ p.left
left_over f h = let e = f.left h in omega arith
