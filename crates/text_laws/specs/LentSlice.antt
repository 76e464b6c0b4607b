-- The session on a lent slice, and how long a slice reading back needs.
use Rattle.std.specs.Prelude.{false, List, [], ◌++◌, ◌∷◌, map, ◌≡◌, ◌%◌, ◌*◌, ◌+◌, ◌/◌, ◌<◌, ◌≤◌, suc, zero, ℕ, length}
use Rattle.std.proofs.Common.{inl, inr, ◌∙◌, ap, subst, sym, zero-le, le_refl, le_trans}
use Rattle.std.proofs.Math.Option.{Option, none, some}
use Rattle.std.proofs.Math.Path.{refl}
use native.Mathlib.Omega.{arith}
use Rattle.std.proofs.Math.ListN.{length-append}
use Rattle.model.specs.Book.{Systems, components, is_module, is_system, specified}
use Rattle.model.specs.Lists.{if_found}
use Rattle.sets.specs.TestLaws.{<?_in, <?_out, bool?, count_le, if-false, if-true, ≤?_in}
use Rattle.sets.specs.Tests.{◌<?◌, if?◌then◌else◌}
use Rattle.text.specs.Bytes.{Text, bytes}
use Rattle.text.specs.Handed.{PassesNamed}
use Rattle.text.specs.LentSlice.{fits_in, rows_back, state_after}
use Rattle.text.specs.SameByNames.{Same, accepted, holds, text_of}
use Rattle.text.specs.Session.{State, decimal, digits, row}
use Rattle.text.specs.Written.{as_commands, by_name, mod_of, spec_of, sys_of, systems_from, systems_in_order}
use Rattle.text_laws.specs.BookReadsBack.{reads_back}
use Rattle.text_laws.specs.Listed.{lists_length}
use Rattle.text_laws.specs.Mentions.{cs_lists, ms_lists}
use Rattle.text_laws.specs.NamedGood.{NamedGood, passes→named}
use Rattle.text_laws.specs.TextLaws.{length-map}

-- ---- the rows of a book that is read back

digits_one : (k n : ℕ) → n < 10 → digits (suc k) n ≡ (48 + n) ∷ []
unfolding digits
digits_one k n h = if-true _ _ _ (<?_in _ _ h)

digits_two : (k n : ℕ) → (n <? 10) ≡ false → n < 100 → digits (suc (suc k)) n ≡ (48 + n / 10) ∷ ((48 + n % 10) ∷ [])
unfolding digits
digits_two k n e h = if-false _ _ _ e ∙ ap (λ (w : Text). w ++ ((48 + n % 10) ∷ [])) (digits_one k (n / 10) (omega arith))

decimal_short : (n : ℕ) → n < 100 → length (decimal n) ≤ 2
unfolding decimal
decimal_short zero h = subst (λ (w : Text). length w ≤ 2) (sym (digits_one 0 0 (omega arith))) (omega arith)
decimal_short (suc n) h =
    elim (bool? (suc n <? 10)) [
      | inl e ↦ subst (λ (w : Text). length w ≤ 2) (sym (digits_one (suc n) (suc n) (<?_out _ _ e))) (omega arith)
      | inr e ↦ subst (λ (w : Text). length w ≤ 2) (sym (digits_two n (suc n) e h)) (le_refl 2)
    ]

row_short : (i : ℕ) → i < 100 → length (row i (decimal 0)) ≤ 5
unfolding row bytes
row_short i h =
    let a = decimal_short i h in let z : length (decimal 0) ≡ 1 = unfold decimal digits if?◌then◌else◌ ◌<?◌ in refl in
    let e = length-append (decimal i) (44 ∷ (decimal 0 ++ (10 ∷ []))) in let f = length-append (decimal 0) (10 ∷ []) in
    omega arith

accepted_short : (n i : ℕ) → i + n ≤ 100 → length (accepted i n) ≤ 5 * n
unfolding accepted
accepted_short zero i h = zero-le
accepted_short (suc n) i h =
    let a = row_short i (omega arith) in let b = accepted_short n (suc i) (omega arith) in
    let e = length-append (row i (decimal 0)) (accepted (suc i) n) in omega arith

found_few : (n : ℕ) (f : ℕ → List ℕ) (o : Option ℕ) → ((s : ℕ) → length (f s) ≤ n) → length (if_found o (λ s. s ∷ f s)) ≤ suc n
unfolding if_found
found_few n f none h = zero-le
found_few n f (some s) h = let k = h s in omega arith

systems_few : (n : ℕ) (Y : Systems) (ss out : List ℕ) → length (systems_from n Y ss out) ≤ n
unfolding systems_from
systems_few zero Y ss out = zero-le
systems_few (suc n) Y ss out = found_few n (λ s. systems_from n Y ss (s ∷ out)) _ (λ s. systems_few n Y ss (s ∷ out))

-- 32 specs, 32 modules and 32 systems at most
commands_few : (s : State) → NamedGood s → length (as_commands s.book s.tables) ≤ 96
unfolding as_commands systems_in_order
commands_few s p =
    let cs = by_name s.tables.comps components (specified s.book.specs) in
    let ms = by_name s.tables.comps components (is_module s.book.modules) in
    let ss = systems_from components s.book.systems (by_name s.tables.comps components (is_system s.book.systems)) [] in
    let a = le_trans (lists_length components cs _ (cs_lists s p)
    (λ n e. p.good.spec_limits.component< n e)) (count_le components _) in
    let b = le_trans (lists_length components ms _ (ms_lists s p)
    (λ n e. p.good.module_limits.component< n e)) (count_le components _) in
    let c = systems_few components s.book.systems (by_name s.tables.comps components (is_system s.book.systems)) [] in
    let la = length-map (spec_of s.book s.tables) cs in let lb = length-map (mod_of s.book s.tables) ms in
    let lc = length-map (sys_of s.book s.tables) ss in
    let d = length-append (map (spec_of s.book s.tables) cs) (map (mod_of s.book s.tables) ms
    ++ map (sys_of s.book s.tables) ss) in
    let e = length-append (map (mod_of s.book s.tables) ms) (map (sys_of s.book s.tables) ss) in
    omega arith

-- 480 bytes are always enough for the rows
pub rows_short : (s : State) → PassesNamed s → length (rows_back s) ≤ 480
rows_short s p =
    let n = commands_few s (passes→named p) in
    le_trans (accepted_short (length (as_commands s.book s.tables)) 1 (omega arith)) (omega arith)

-- A book written as text and read into an empty session with a slice long enough for the rows is the same book by names.
pub reads_back_in : (s : State) → PassesNamed s → (slice : List ℕ) → length (rows_back s) ≤ length slice → Same (state_after slice (text_of s)) s
unfolding state_after fits_in
reads_back_in s p slice h x =
    let r = reads_back s p in
    ap (λ (z : State). holds z x) (if-true _ _ _ (≤?_in _ _ (subst (λ (w : Text). length w ≤ length slice) (sym r.0) h))) ∙ r.1 x
