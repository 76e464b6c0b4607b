-- Demand 2: "A book written as text and read into an empty session is the same book by names; two books have equal texts exactly when they
-- are the same by names." Of the calls `text_of` (`TextCall`) and `session` (`SessionCall`).
use Rattle.std.specs.Prelude.{List, ◌↔◌, ◌≡◌, refl, ◌<◌, ◌≤◌, ℕ, length, replicate, take}
use Rattle.std.proofs.Common.{inl, inr, ◌∙◌, ap, subst, sym, arith, take_at}
use Rattle.model.specs.Book.{is_module, is_system, specified}
use Rattle.model.specs.Lists.{from, if_found, keep, rising}
use Rattle.model.specs.Maps.{is_some}
use Rattle.sets.specs.TestLaws.{≤_or_<}
use Rattle.names.specs.Stored.{Rows}
use Rattle.names_test.specs.Answered.{TextCall, handed}
use Rattle.names_test.specs.Demand.{answered_named, answered_text}
use Rattle.names_test.specs.Demand as demand
use Rattle.refusal.specs.Numbers.{code, found}
use Rattle.session_state.specs.State.{plain_state}
use Rattle.svcd.specs.Reached.{SessionCall}
use Rattle.svcd.specs.declared.SessionEnd.{SessionEnd}
use Rattle.text.specs.Bytes.{Text}
use Rattle.text.specs.Handed.{PassesNamed}
use Rattle.text.specs.LentSlice.{rows_back}
use Rattle.text.specs.SameByNames.{Same, accepted, text_of}
use Rattle.text.specs.Session.{State, fresh, session, session_from}
use Rattle.text.specs.Written.{as_commands, by_name, first_of, sorted, systems_from, systems_in_order}
use Rattle.text_laws.specs.BookReadsBack.{reads_back}
use Rattle.text_laws.specs.EqualTexts as texts
use Rattle.text_laws.specs.LentSlice.{reads_back_in, rows_short}
use Rattle.text_laws.specs.SessionPasses.{states_pass}
use Rattle.demand_1_2.specs.Sessions.{fresh_passes, hands_back_good, listed, too_long_lem}

-- ---- the text of a state, read by `session`

-- an empty book has no rows
no_rows : length (rows_back fresh) ≡ 0
unfolding accepted as_commands systems_in_order systems_from first_of if_found by_name sorted rising from keep specified is_module is_system is_some
no_rows = refl

-- "reading back supposes a slice long enough for the rows": these are `rows_back`.
module _ {s : State} (p : PassesNamed s) {slice after : List ℕ} {r : SessionEnd} (q : SessionCall (text_of s) slice after r) where
  rows_listed : length (session (text_of s)).0 ≡ length (rows_back s)
  rows_listed = ap length (reads_back s p).0

  all_listed : length (rows_back s) ≤ length slice → (code r.answer ≡ 0) × (take (found r.answer) after ≡ rows_back s)
  all_listed h =
      let l = listed q (let e = rows_listed in omega arith) in
      (l.0, ap (take (found r.answer)) l.2 ∙ take_at (session (text_of s)).0 _ (found r.answer) (sym l.1) ∙ (reads_back s p).0)

  short_refused : length slice < length (rows_back s)
      → (code r.answer ≡ 22) × (found r.answer ≡ 0) × (after ≡ replicate (length slice) 0) × (plain_state r.state ≡ fresh)
  short_refused h = too_long_lem q (let e = rows_listed in omega arith)

  -- a book that is the same as none by names has no rows
  none_same : Same fresh s → length (rows_back s) ≡ 0
  none_same e =
      sym rows_listed ∙ ap (λ (w : Text). length (session w).0) (sym ((texts.equal_texts fresh s fresh_passes p).1 e))
      ∙ ap length (reads_back fresh fresh_passes).0 ∙ no_rows

  back_exactly : (length (rows_back s) ≤ length slice) ↔ Same (plain_state r.state) s
  back_exactly = (
    λ h. subst (λ (x : State). Same x s) (sym q.state) (reads_back_in s p slice h),
    λ e. elim (≤_or_< (length (rows_back s)) (length slice)) [
      | inl h ↦ h
      | inr h ↦ absurd (let n = none_same (subst (λ (x : State). Same x s) (short_refused h).3 e) in omega arith)
    ],
  )

-- ---- what `text_of` wrote, read by `session`

module _ {s n : List ℕ} {c v f i : Rows} {old : List ℕ} {a len : ℕ} {new : List ℕ} (k : TextCall s n c v f i old a len new) (z : a ≡ 0)
    {slice after : List ℕ} {r : SessionEnd} (q : SessionCall (take len new) slice after r) where
  of_the_text : SessionCall (text_of (handed s n c v f i)) slice after r
  of_the_text = subst (λ (x : Text). SessionCall x slice after r) (answered_text k z) q

  -- With a slice long enough for the rows, and only then, the book that the session hands back is the same by names.
  pub read_back : (length (rows_back (handed s n c v f i)) ≤ length slice) ↔ Same (plain_state r.state) (handed s n c v f i)
  read_back = back_exactly (answered_named k z) of_the_text

  -- Each of its commands is then accepted: the listing has a row with 0 for each, and nothing else.
  pub all_accepted : length (rows_back (handed s n c v f i)) ≤ length slice
      → (code r.answer ≡ 0) × (take (found r.answer) after ≡ rows_back (handed s n c v f i))
  all_accepted h = all_listed (answered_named k z) of_the_text h

  -- With a shorter slice the session itself is refused.
  pub too_short : length slice < length (rows_back (handed s n c v f i))
      → (code r.answer ≡ 22) × (found r.answer ≡ 0) × (after ≡ replicate (length slice) 0) × (plain_state r.state ≡ fresh)
  too_short h = short_refused (answered_named k z) of_the_text h

-- A slice of 480 bytes is long enough for the rows of every book that `text_of` wrote.
pub always_enough : {s n : List ℕ} {c v f i : Rows} {old : List ℕ} {a len : ℕ} {new : List ℕ} → TextCall s n c v f i old a len new → a ≡ 0
    → length (rows_back (handed s n c v f i)) ≤ 480
always_enough k z = rows_short _ (answered_named k z)

-- ---- equal texts

-- what two calls of `text_of` wrote is equal exactly when their books are the same by names
pub equal_texts : {s n : List ℕ} {c v f i : Rows} {old : List ℕ} {a len : ℕ} {new : List ℕ} {s' n' : List ℕ} {c' v' f' i' : Rows}
    {old' : List ℕ} {a' len' : ℕ} {new' : List ℕ}
    → TextCall s n c v f i old a len new → a ≡ 0 → TextCall s' n' c' v' f' i' old' a' len' new' → a' ≡ 0
    → (take len new ≡ take len' new') ↔ Same (handed s n c v f i) (handed s' n' c' v' f' i')
equal_texts = demand.equal_texts

-- ---- every state that a session reaches

-- The text that `out` writes after any number of commands of any text, read by a session with a slice long enough for the rows, and only
-- then, gives the same book by names.
pub out_read_back : (n : ℕ) (t : Text) {slice after : List ℕ} {r : SessionEnd} → SessionCall (text_of (session_from n 1 fresh t).1) slice after r
    → (length (rows_back (session_from n 1 fresh t).1) ≤ length slice) ↔ Same (plain_state r.state) (session_from n 1 fresh t).1
out_read_back n t q = back_exactly (states_pass n t) q

-- and so does the text of what a session hands back, read again
pub handed_back_read_back : {t : Text} {old new : List ℕ} {r : SessionEnd} → SessionCall t old new r → {slice after : List ℕ} {r' : SessionEnd}
    → SessionCall (text_of (plain_state r.state)) slice after r' → (length (rows_back (plain_state r.state)) ≤ length slice) ↔ Same (plain_state r'.state) (plain_state r.state)
handed_back_read_back k q = back_exactly (hands_back_good k) q
