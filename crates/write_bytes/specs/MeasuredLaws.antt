-- Laws of a text that one writer measures, and another then writes into a slice that is whole.
use Rattle.std.specs.Prelude.{List, None, Option as Found, Some, ◌-◌, ◌≡◌, ◌≤◌, length, refl, ℕ}
use Rattle.std.proofs.Common.{◌∙◌, ap, subst}
use Rattle.sets.specs.Answered.{answered}
use Rattle.text.specs.Bytes.{Text}
use Rattle.write_bytes.specs.Room.{Puts, room_of}
use Rattle.write_bytes.specs.Writes.{Writes}
use Rattle.write_bytes.specs.Written.{starting_with, wrote}
use Rattle.write_bytes.specs.WrittenLaws.{bytes_of, does_not_fit, left_over, len_of, whole}
use Rattle.write_bytes.specs.declared.writer.Writer.{Writer}

-- what a writer of a whole slice leaves
whole_puts : {w : Text} (old : List ℕ) {a b : Writer} {l : Found ℕ} → a.left ≡ Some (length old) → b.left ≡ l → Writes w a b
    → Puts w (whole old) (room_of l) a.out.now b.out.now
whole_puts {w = w} old {a = a} {b = b} {l = l} e h f =
    subst (λ (x : Found ℕ). Puts w (room_of x) (room_of l) a.out.now b.out.now) e
    (subst (λ (y : Found ℕ). Puts w (room_of a.left) (room_of y) a.out.now b.out.now) h f.puts)

module _ {w : Text} (old : List ℕ) {a b : Writer} (e : a.left ≡ Some (length old)) (f : Writes w a b) where
  pub none_written : {r : Found ℕ} → b.left ≡ None → r ≡ None → answered r ≡ wrote w old
  unfolding answered
  none_written h z = ap answered z ∙ (does_not_fit w old (whole_puts old e h f) refl).0

  pub untouched : b.left ≡ None → old ≡ starting_with w old
  untouched h = (does_not_fit w old (whole_puts old e h f) refl).1

  module _ {l : ℕ} (h : b.left ≡ Some l) where
    pub left_within : l ≤ length old
    left_within = left_over (whole_puts old e h f) refl

    pub len_written : answered (Some (length old - l)) ≡ wrote w old
    unfolding answered
    len_written = len_of w old (whole_puts old e h f) refl

    pub bytes_written : {c d : Writer} {new : List ℕ} → c.left ≡ Some (length old) → c.out.now ≡ old → Writes w c d → new ≡ d.out.now
        → new ≡ starting_with w old
    bytes_written {c = c} {d = d} g k y z =
        z
        ∙ bytes_of w old (whole_puts old e h f) refl
        (subst (λ (s : List ℕ). Puts w (whole old) (room_of d.left) s d.out.now) k (whole_puts old g refl y))
