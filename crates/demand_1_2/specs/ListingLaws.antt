-- Demand 1 of the library's session: every text's listing is one of `Listing`, for every slice.
use Rattle.std.specs.Prelude.{true, List, [], ◌++◌, ◌∷◌, ◌⊎◌, ◌≡◌, refl, ◌<◌, ◌≤◌, suc, zero, ℕ, drop, length, take}
use Rattle.std.proofs.Common.{inl, inr, ◌∙◌, ap, sym, le_refl, arith, length-append, length-drop, drop_at, take_at}
use Rattle.std.proofs.Math.Path.{subst}
use Rattle.std.proofs.lemmas.List.{length-replicate}
use Rattle.sets.specs.TestLaws.{≤_or_<}
use Rattle.sets.specs.Tests.{◌&◌, ◌≤?◌}
use Rattle.refusal.specs.Numbers.{code, found}
use Rattle.svcd.specs.Reached.{SessionCall}
use Rattle.svcd.specs.declared.SessionEnd.{SessionEnd}
use Rattle.text.specs.Bytes.{Text}
use Rattle.text.specs.Language.{Read, Said, command, command_of, over, said, wrong}
use Rattle.text.specs.Session.{Result, State, afterwards, carry, changed, decimal, fresh, lines, on_read, refused, row, rows, session}
use Rattle.text.specs.Session.{session_from, text}
use Rattle.text.specs.Tables.{fits}
use Rattle.text.specs.Tokens.{next_token, skip, skipped, token_at}
use Rattle.text_laws.specs.Changes.{Changes, adds, carry_changes, stays, tells}
use Rattle.text_laws.specs.Left.{left_length}
use Rattle.text_laws.specs.Takes.{LeftR, command_left}
use Rattle.text_laws.specs.ValidNames.{ValidRead, command_valid}
use Rattle.demand_1_2.specs.Listing.{Demand1, Entry, Listing, acceptance, answered, broken_off, ended, goes_on, put_out, refusal}
use Rattle.demand_1_2.specs.Refused.{May, carry_may}
use Rattle.demand_1_2.specs.Sessions.{listed, too_long_lem}
use Rattle.demand_1_2.specs.WholeLaws.{WholeRead, command_whole, whole}

-- ---- one command

-- what a command that was read gives and leaves, in a state whose tables hold no more names than they have places
entry : (i : ℕ) (s : State) (k : Said) → fits s.tables ≡ true → whole k ≡ true
    → Entry i s k (lines i (carry s k)) (afterwards s (carry s k))
entry i s k f w = by (carry s k) refl (carry_may s k f w)
  where
    by : (x : Result) → carry s k ≡ x → May s k x → Entry i s k (lines i x) (afterwards s x)
    by (refused n) e m = unfold lines afterwards in refusal n e m
    by (changed s') e m = unfold lines afterwards in acceptance s' e
    by (rows rs) e m = unfold lines afterwards in answered rs e
    by (text w) e m = unfold lines afterwards in
        subst (λ (z : Text). Entry i s k (row i (decimal 0) ++ z) s) (sym m.1) (put_out m.0)

-- ---- the listing

none_over : command [] ≡ over
unfolding command command_of next_token skip skipped token_at
none_over = refl

no_text : (t : Text) → length t ≤ 0 → t ≡ []
no_text [] h = refl
no_text (c ∷ cs) h = absurd (omega arith)

fits_kept : (s s' : State) → Changes s s' → fits s.tables ≡ true → fits s'.tables ≡ true
fits_kept s s' stays h = h
fits_kept s s' (tells k p e) h = h
fits_kept s s' (adds m k v p f e) h = f

on_read_lem : (go : State → Text → Text × State) (i : ℕ) (s : State) (t : Text) (x : Read) → command t ≡ x → LeftR 1 t x → ValidRead x
    → WholeRead x → fits s.tables ≡ true
    → ((s' : State) (rest : Text) → length rest < length t → fits s'.tables ≡ true
    → Listing (suc i) s' rest (go s' rest).0 (go s' rest).1)
    → Listing i s t (on_read go i s x).0 (on_read go i s x).1
unfolding on_read
on_read_lem go i s t over e l v w f h = ended e
on_read_lem go i s t wrong e l v w f h = broken_off e
on_read_lem go i s t (said k rest) e l v w f h =
    goes_on e (entry i s k f w) (h (afterwards s (carry s k)) rest (let j = left_length l in omega arith)
    (fits_kept s _ (carry_changes s k v) f))

-- the bound n is no less than the number of commands
listed_from : (n i : ℕ) (s : State) (t : Text) → fits s.tables ≡ true → length t ≤ n
    → Listing i s t (session_from n i s t).0 (session_from n i s t).1
unfolding session_from
listed_from zero i s t f h = ended (ap command (no_text t h) ∙ none_over)
listed_from (suc n) i s t f h = on_read_lem _ i s t (command t) refl (command_left t) (command_valid t) (command_whole t) f
    (λ s' rest l g. listed_from n (suc i) s' rest g (omega arith))

-- the listing of a text, by the definitions
pub session_listing : (t : Text) → Listing 1 fresh t (session t).0 (session t).1
unfolding session
session_listing t = listed_from (length t) 1 fresh t (unfold fits ◌≤?◌ ◌&◌ in refl) (le_refl _)

-- ---- the call

module _ {t : Text} {old new : List ℕ} {r : SessionEnd} (k : SessionCall t old new r) where
  fits_or : (length (session t).0 ≤ length old) ⊎ (length old < length (session t).0)
  fits_or = ≤_or_< _ _

  fits-if : code r.answer ≡ 0 → length (session t).0 ≤ length old
  fits-if z = elim fits_or [ inl h ↦ h | inr h ↦ absurd (let e = (too_long_lem k h).0 in omega arith) ]

  short_if : code r.answer ≡ 22 → length old < length (session t).0
  short_if z = elim fits_or [ inl h ↦ absurd (let e = (listed k h).0 in omega arith) | inr h ↦ h ]

  -- demand 1 of the library's session, for every text and every slice
  pub demand-1 : Demand1 t old new r
  demand-1 = record {
    answers = elim fits_or [ inl h ↦ inl (listed k h).0 | inr h ↦ inr (too_long_lem k h).0 ];
    listing = λ z. (let l = listed k (fits-if z) in
        subst (λ (s : State). Listing 1 fresh t (take (found r.answer) new) s) (sym l.3)
        (subst (λ (w : Text). Listing 1 fresh t w (session t).1)
        (sym (ap (take (found r.answer)) l.2 ∙ take_at (session t).0 _ (found r.answer) (sym l.1))) (session_listing t)));
    as_long = elim fits_or [
      | inl h ↦ ap length (listed k h).2 ∙ all-filled h
      | inr h ↦ ap length (too_long_lem k h).2 ∙ length-replicate (length old) 0
    ];
    behind = λ z. (let l = listed k (fits-if z) in
        ap (drop (found r.answer)) l.2 ∙ drop_at (session t).0 _ (found r.answer) (sym l.1) ∙ ap (λ (n : ℕ). drop n old) (sym l.1));
    zeroed = λ z. (let l = too_long_lem k (short_if z) in (l.1, l.2, l.3));
  }
    where
      all-filled : length (session t).0 ≤ length old → length ((session t).0 ++ drop (length (session t).0) old) ≡ length old
      all-filled h =
          let a = length-append (session t).0 (drop (length (session t).0) old) in let b = length-drop (length (session t).0) old in
          omega arith
