-- Laws of a writer: nothing written, one piece after another, a loop that has written a part, and rows.
use Rattle.std.specs.Prelude.{List, None, Option, Some, [], ◌+◌, ◌-◌, ◌<◌, ◌≤◌, drop, length, take, ◌∷◌, ◌++◌, ◌≡◌, refl, ℕ}
use Rattle.std.proofs.Common.{append_assoc, ◌∙◌, arith, subst, sym}
use Rattle.text.specs.Bytes.{Text, bytes}
use Rattle.text.specs.Session.{decimal, row}
use Rattle.write_bytes.specs.RoomLaws.{Partly, partly_end, partly_more, partly_start, put_after_miss, put_measured, put_miss, put_written}
use Rattle.write_bytes.specs.RoomLaws.{puts_none, puts_then}
use Rattle.write_bytes.specs.Room.{Puts, Room, room_of}
use Rattle.write_bytes.specs.Writes.{Writes}
use Rattle.write_bytes.specs.declared.writer.Writer.{Writer}

-- ---- one word

module _ (w : Text) (a : Writer) where
  -- once something did not fit, no more is written
  pub writes_after_miss : a.left ≡ None → Writes w a a
  writes_after_miss e = record {
    puts = subst (λ (l : Option ℕ). Puts w (room_of l) (room_of l) a.out.now a.out.now) (sym e) (put_after_miss w a.out.now);
    same_slice = refl;
  }

  module _ {n : ℕ} (e : a.left ≡ Some n) where
    -- what was left is n
    from_n : {q : Room} {new : List ℕ} → Puts w (room_of (Some n)) q a.out.now new → Puts w (room_of a.left) q a.out.now new
    from_n {q = q} {new = new} f = subst (λ (l : Option ℕ). Puts w (room_of l) q a.out.now new) (sym e) f

    pub writes_miss : (length w ≤ n → ⊥) → Writes w a (record { out = a.out; left = None })
    writes_miss h = record { puts = from_n (put_miss w a.out.now n (omega (arith, h))); same_slice = refl }

    module _ {m : ℕ} (f : (length w ≤ n) × (m ≡ n - length w)) where
      pub writes_measured : length a.out.now < n → Writes w a (record { out = a.out; left = Some m })
      writes_measured g = record { puts = from_n (put_measured w a.out.now n m (omega (arith, f.0, f.1)) g); same_slice = refl }

      pub word_written : {ys : List ℕ} → n ≤ length a.out.now → ys ≡ w
          → Puts w (room_of a.left) (room_of (Some m)) a.out.now
          (take (length a.out.now - n) a.out.now
          ++ (ys ++ drop (length a.out.now - n + length w - (length a.out.now - n)) (drop (length a.out.now - n) a.out.now)))
      word_written g c = from_n (put_written w a.out.now n m (omega (arith, f.0, f.1)) _ _ g refl c)

-- ---- one piece after another

pub writes_none : (a : Writer) → Writes [] a a
writes_none a = record { puts = puts_none (room_of a.left) a.out.now; same_slice = refl }

pub writes_then : {v w : Text} {a b c : Writer} → Writes v a b → Writes w b c → Writes (v ++ w) a c
writes_then f g = record { puts = puts_then f.puts g.puts; same_slice = g.same_slice ∙ f.same_slice }

-- what was written may be said otherwise
pub writes_as : {v w : Text} {a b : Writer} → v ≡ w → Writes v a b → Writes w a b
writes_as {a = a} {b = b} e f = subst (λ (x : Text). Writes x a b) e f

-- ---- a loop

-- the start of the text `whole` is written, and `todo` is to come
pub record WritesPartly (whole todo : Text) (before after : Writer) : Type 0 where
  pub partly : Partly whole todo (room_of before.left) (room_of after.left) before.out.now after.out.now
  pub same_slice : after.out.ghost_name ≡ before.out.ghost_name

pub writing_start : (w : Text) (a : Writer) → WritesPartly w w a a
writing_start w a = record { partly = partly_start w (room_of a.left) a.out.now; same_slice = refl }

pub writing_more : {whole v todo : Text} {a b c : Writer} → WritesPartly whole (v ++ todo) a b → Writes v b c → WritesPartly whole todo a c
writing_more f g = record { partly = partly_more f.partly g.puts; same_slice = g.same_slice ∙ f.same_slice }

pub writing_as : {whole v w : Text} {a b : Writer} → v ≡ w → WritesPartly whole v a b → WritesPartly whole w a b
writing_as {whole = whole} {a = a} {b = b} e f = subst (λ (x : Text). WritesPartly whole x a b) e f

pub writing_end : {whole : Text} {a b : Writer} → WritesPartly whole [] a b → Writes whole a b
writing_end f = record { puts = partly_end f.partly; same_slice = f.same_slice }

-- ---- rows

pub writes_start : (i : ℕ) {a b c : Writer} → Writes (decimal i) a b → Writes (44 ∷ []) b c → Writes (decimal i ++ bytes ",") a c
unfolding bytes
writes_start i f g = writes_then f g

pub writes_end : {a b : Writer} → Writes (10 ∷ []) a b → Writes (bytes "\n") a b
unfolding bytes
writes_end f = f

pub writes_row : (i : ℕ) {w : Text} {a b c d : Writer} → Writes (decimal i ++ bytes ",") a b → Writes w b c → Writes (bytes "\n") c d
    → Writes (row i w) a d
unfolding row
writes_row i f g h = writes_as (append_assoc (decimal i) _ _) (writes_then f (writes_then g h))

pub writes_pair_row : (i : ℕ) {v w : Text} {a b c d e f : Writer} → Writes (decimal i ++ bytes ",") a b → Writes v b c
    → Writes (44 ∷ []) c d → Writes w d e → Writes (bytes "\n") e f → Writes (row i (v ++ (bytes "," ++ w))) a f
unfolding bytes
writes_pair_row i f g h k l = writes_row i f (writes_then g (writes_then h k)) l
