-- Laws of a number written in base ten: a last digit after the digits before it.
use Rattle.std.specs.Prelude.{[], ◌∷◌, ◌≡◌, ◌%◌, ◌+◌, ◌/◌, ◌<◌, ◌≤◌, ℕ}
use Rattle.std.proofs.Common.{◌∙◌, ap, subst, sym, arith}
use Rattle.sets.specs.TestLaws.{<?_in, <?_out, fails, if-false, if-true}
use Rattle.text.specs.Session.{decimal}
use Rattle.text_laws.specs.Bounds.{decimal_step}
use Rattle.write_bytes.specs.Writes.{Writes}
use Rattle.write_bytes.specs.WritesLaws.{writes_as, writes_then}
use Rattle.write_bytes.specs.declared.writer.Writer.{Writer}

pub one_digit : (n : ℕ) {a b c : Writer} → n < 10 → b ≡ a → Writes ((48 + n % 10) ∷ []) b c → Writes (decimal n) a c
one_digit n {c = c} h e f =
    let d : n % 10 ≡ n = omega arith in
    writes_as (ap (λ (m : ℕ). (48 + m) ∷ []) d ∙ sym (decimal_step n ∙ if-true _ _ _ (<?_in _ _ h)))
    (subst (λ (x : Writer). Writes ((48 + n % 10) ∷ []) x c) e f)

pub last_digit : (n : ℕ) {a b c d : Writer} → 10 ≤ n → Writes (decimal (n / 10)) a b → c ≡ b → Writes ((48 + n % 10) ∷ []) c d
    → Writes (decimal n) a d
last_digit n {d = d} h f e g =
    writes_as (sym (decimal_step n ∙ if-false _ _ _ (fails _ (λ t. let l = <?_out n 10 t in absurd (omega arith)))))
    (writes_then f (subst (λ (x : Writer). Writes ((48 + n % 10) ∷ []) x d) e g))
