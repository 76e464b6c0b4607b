-- The row of one of the ten commands; what was read.
use Rattle.std.specs.Prelude.{List, ◌≡◌, suc, zero, ℕ}
use Rattle.std.proofs.Common.{◌∙◌, ap, subst, sym, arith}
use Rattle.std.proofs.Math.Path.{refl}
use Rattle.read_tokens.specs.SequenceLaws.{Read}
use Rattle.read_tokens.specs.declared.reader.Reader.{Reader}
use Rattle.write_bytes.specs.Room.{Puts, Room}
use Rattle.write_bytes.specs.Writes.{Writes}
use Rattle.write_bytes.specs.declared.writer.Writer.{Writer}
use Rattle.model.specs.Book.{Book}
use Rattle.model.specs.Commands.{Command, after}
use Rattle.model.specs.PlainBook.{answer, next}
use Rattle.text.specs.Bytes.{Text}
use Rattle.text.specs.Language.{Reader as Production, Said}
use Rattle.text.specs.Session.{State, afterwards, carry, decided, decimal, lines, row, told}
use Rattle.text.specs.Tables.{Tables}
use Rattle.session_state.specs.Carried.{Carried, CarriedBy, Decides}

decided_lines : (i a : ℕ) (s : State) → lines i (decided a s) ≡ row i (decimal a)
unfolding lines decided
decided_lines i zero s = refl
decided_lines i (suc a) s = refl

decided_state : (a : ℕ) (s s' : State) → ((a ≡ 0 → ⊥) → s' ≡ s) → s' ≡ afterwards s (decided a s')
unfolding afterwards decided
decided_state zero s s' h = refl
decided_state (suc a) s s' h = h (λ e. omega arith)

pub decides_carried : (i a : ℕ) (s s' : State) (p q : Room) (old new : List ℕ) (x : Said) → Decides s s' a x
    → Puts (row i (decimal a)) p q old new → Carried i s s' p q old new x
decides_carried i a s s' p q old new x d r = record {
  rows = subst (λ (w : Text). Puts w p q old new) (sym (ap (lines i) d.is ∙ decided_lines i a s')) r;
  state = decided_state a s s' d.refused ∙ sym (ap (afterwards s) d.is);
}

-- ---- one of the ten commands by numbers

-- the state that counts where the answer is 0 has the plain book's next, which is the changed book there
pub told_next : (b : Book) (t : Tables) (k : Command) → told b t k ≡ decided (answer b k) (record { book = next b k; tables = t })
unfolding told next
told_next b t k = by (answer b k)
  where
    by : (m : ℕ) → decided m (record { book = after b k; tables = t })
        ≡ decided m (record { book = elim m [ zero ↦ after b k | suc x ↦ b ]; tables = t })
    by zero = refl
    by (suc m) = unfold decided in refl

-- ---- what was read

-- it may be said otherwise
pub gives_as : {A : Type 0} {p : Production A} {Q R : A → Type 0} (r s : Reader) → Read p Q r s → ((x : A) → Q x → R x) → Read p R r s
gives_as r s g f = (record { value = g.0.value; is = g.0.is; took = f g.0.value g.0.took; from = g.0.from; inside = g.0.inside }, g.1)

-- ---- a command of which a writer has the rows

module _ {i : ℕ} {s s' : State} {w w' : Writer} {x : Said} where
  pub carried_by : Writes (lines i (carry s x)) w w' → s' ≡ afterwards s (carry s x) → CarriedBy i s s' w w' x
  carried_by r e = record { carried = record { rows = r.puts; state = e }; same_slice = r.same_slice }
