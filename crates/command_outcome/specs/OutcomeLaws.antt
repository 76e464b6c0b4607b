-- How a command's questions, asked one after the other, give its outcome.
use Rattle.std.specs.Prelude.{false, true, List, ◌≢◌, ◌≡◌, refl}
use Rattle.std.proofs.Common.{◌∙◌, ap₂, subst, sym, arith}
use Rattle.std.proofs.Math.Path.{ap}
use Prim.Native.Nat.{suc, zero, ℕ}
use Rattle.book.specs.Changes.{Holds}
use Rattle.book.specs.Plain.{plain_of}
use Rattle.command_outcome.specs.Outcome.{Called, answered}
use Rattle.model.specs.Commands.{Command, after}
use Rattle.model.specs.Limits.{Passes}
use Rattle.model.specs.PlainBook.{answer, next}
use Rattle.book_rules.specs.Test.{passes}
use Rattle.book_rules.specs.TestLaws.{passes_plain, plain_passes}
use Rattle.sets.specs.TestLaws.{if-false, if-true}
use Rattle.model_laws.specs.Sequence.{next_passes}
use Rattle.refusal.specs.NumberLaws.{no_number_0}
use Rattle.refusal.specs.Numbers.{number}
use Rattle.refusal.specs.declared.Refusal.{Refusal}

-- ---- outcomes on a Book that passes

module _ (s n : List ℕ) (k : Command) (good : passes s n ≡ true) where
  answered_is : answered s n k ≡ answer (plain_of s n) k
  unfolding answered
  answered_is = if-true _ _ _ good

  pub refuse : (m : ℕ) → answer (plain_of s n) k ≡ suc m → Called s n k (suc m) s n
  refuse m e = record {
    answer_is = sym (answered_is ∙ e);
    refused = λ _. (refl, refl);
    accepted = λ z. absurd (omega (arith, z));
  }

  next_is : answer (plain_of s n) k ≡ 0 → next (plain_of s n) k ≡ after (plain_of s n) k
  unfolding next
  next_is e = ap (λ (m : ℕ). elim m [ zero ↦ after (plain_of s n) k | suc x ↦ plain_of s n ]) e

  pub accept : {s' n' : List ℕ} → answer (plain_of s n) k ≡ 0 → Holds s' n' (after (plain_of s n) k) → Called s n k 0 s' n'
  accept {s'} {n'} e h =
      let next' : plain_of s' n' ≡ next (plain_of s n) k = h.is ∙ sym (next_is e) in
      record {
        answer_is = sym (answered_is ∙ e);
        refused = λ z. absurd (z refl);
        accepted = λ z. (next', plain_passes s' n' h.is_proper (subst Passes (sym next') (next_passes (plain_of s n) k (passes_plain s n good))));
      }

  -- the answer of the questions, put by a function of their own
  pub refuse_any : (r : ℕ) → r ≡ answer (plain_of s n) k → r ≢ 0 → Called s n k r s n
  refuse_any r e ne = record { answer_is = e ∙ sym answered_is; refused = λ _. (refl, refl); accepted = λ z. absurd (ne z) }

  -- the refusal e, handed on
  pub refuse_as : (e : Refusal) (r : ℕ) → r ≡ number e → number e ≡ answer (plain_of s n) k → Called s n k r s n
  refuse_as e r is asked = refuse_any r (is ∙ asked) (λ z. no_number_0 e (sym is ∙ z))

-- a Book that is none
pub refuse_25 : (s n : List ℕ) (k : Command) → passes s n ≡ false → Called s n k 25 s n
unfolding answered
refuse_25 s n k e = record { answer_is = sym (if-false _ _ _ e); refused = λ _. (refl, refl); accepted = λ z. absurd (omega (arith, z)) }

-- ---- a call in a sequence

module _ (s n : List ℕ) (k : Command) (a : ℕ) (s' n' : List ℕ) (good : passes s n ≡ true) (c : Called s n k a s' n') where
  answer_is : a ≡ answer (plain_of s n) k
  unfolding answered
  answer_is = c.answer_is ∙ if-true _ _ _ good

  next_kept : (m : ℕ) → answer (plain_of s n) k ≡ suc m → next (plain_of s n) k ≡ plain_of s n
  unfolding next
  next_kept m e = ap (λ (x : ℕ). elim x [ zero ↦ after (plain_of s n) k | suc y ↦ plain_of s n ]) e

  -- a call on a Book that passes answers as the plain book does, and leaves a Book that holds the plain book's next and passes
  pub step_right : (a ≡ answer (plain_of s n) k) × (plain_of s' n' ≡ next (plain_of s n) k) × (passes s' n' ≡ true)
  step_right = by a refl
    where
      by : (x : ℕ) → a ≡ x → (a ≡ answer (plain_of s n) k) × (plain_of s' n' ≡ next (plain_of s n) k) × (passes s' n' ≡ true)
      by zero e = (answer_is, (c.accepted e).0, (c.accepted e).1)
      by (suc m) e =
          let q = c.refused (λ z. omega (arith, z, e)) in
          (answer_is, ap₂ plain_of q.0 q.1 ∙ sym (next_kept m (sym answer_is ∙ e)), ap₂ passes q.0 q.1 ∙ good)
