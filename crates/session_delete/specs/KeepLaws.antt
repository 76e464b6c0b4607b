-- One of the ten commands, called on the Book of a session.
use Rattle.std.specs.Prelude.{true, ◌≡◌, refl, suc, zero, ℕ}
use mathlib.Core.List.{List}
use Rattle.std.proofs.Common.{◌∙◌, sym}
use Rattle.std.proofs.Math.Path.{ap, ap₂}
use Rattle.book.specs.Plain.{plain_of}
use Rattle.command_outcome.specs.Outcome.{Called, answered}
use Rattle.model.specs.Book.{Book}
use Rattle.model.specs.Commands.{Command}
use Rattle.model.specs.PlainBook.{answer, next}
use Rattle.names.specs.Stored.{tables}
use Rattle.book_rules.specs.Test.{passes}
use Rattle.sets.specs.TestLaws.{if-true}
use Rattle.session_state.specs.Carried.{Decides}
use Rattle.session_state.specs.CarriedLaws.{told_next}
use Rattle.session_state.specs.State.{plain_state, state_of}
use Rattle.session_state.specs.declared.state.State.{State as Held}
use Rattle.text.specs.Language.{Said}
use Rattle.text.specs.Session.{State, carry, changed, decided, refused, told}

-- ---- what was called

module _ (s n : List ℕ) (k : Command) (a : ℕ) (s' n' : List ℕ) (h : Called s n k a s' n') where
  called_answer : passes s n ≡ true → a ≡ answer (plain_of s n) k
  unfolding answered
  called_answer p = h.answer_is ∙ if-true _ _ _ p

-- ---- one of the ten commands in a session

refused_is : (m : ℕ) (x : State) → (m ≡ 0 → ⊥) → refused m ≡ decided m x
unfolding decided
refused_is zero x ne = absurd (ne refl)
refused_is (suc m) x ne = refl

-- no command was carried out
pub unchanged : (x : State) (m : ℕ) (k : Said) → (m ≡ 0 → ⊥) → carry x k ≡ refused m → Decides x x m k
unchanged x m k ne e = record { is = e ∙ refused_is m x ne; refused = λ _. refl }

decided_same : (m : ℕ) (x y : State) → (m ≡ 0 → x ≡ y) → decided m x ≡ decided m y
unfolding decided
decided_same zero x y e = ap changed (e refl)
decided_same (suc m) x y e = refl

module _ (s : Held) (k : Command) (a : ℕ) (b n : List ℕ) (h : Called s.book.sets s.book.numbers k a b n) where
  abbrev holding : Book → State
  holding book = record { book = book; tables = tables s.names }

  -- a command that comes to k
  pub carried_out : (x : Said) → carry (plain_state s) x ≡ told (plain_of s.book.sets s.book.numbers) (tables s.names) k
      → Decides (plain_state s) (state_of b n s.names.comps.rows s.names.vers.rows s.names.facs.rows s.names.impls.rows) a x
  unfolding state_of
  carried_out x e = record {
    is = e ∙ told_next (plain_of s.book.sets s.book.numbers) (tables s.names) k
        ∙ ap (λ (m : ℕ). decided m (holding (next (plain_of s.book.sets s.book.numbers) k))) (sym (called_answer _ _ k a b n h s.ready.passes))
        ∙ decided_same a _ _ (λ z. ap holding (sym (h.accepted z).0));
    refused = λ ne. ap₂ (λ (x y : List ℕ). holding (plain_of x y)) (h.refused ne).0 (h.refused ne).1;
  }
