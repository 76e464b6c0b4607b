-- What a query replies, and the rows that show it. `Held` is the state of the code.
use Rattle.std.specs.Prelude.{Err, List, Ok, Result as Found, ◌≡◌, ℕ}
use Rattle.std.proofs.Common.{◌∙◌}
use Rattle.std.proofs.Math.Path.{ap, refl, sym}
use Rattle.book.specs.Plain.{plain_of}
use Rattle.book.specs.declared.Book.{Book as TheBook}
use Rattle.write_bytes.specs.Writes.{Writes}
use Rattle.write_bytes.specs.WritesLaws.{writes_as, writes_then}
use Rattle.write_bytes.specs.declared.writer.Writer.{Writer}
use Rattle.model.specs.Book.{components, facilities, versions}
use Rattle.model.specs.Queries.{Query, Reply, reply, the_components, the_facilities, the_pairs, the_parts, the_version}
use Rattle.model.specs.Queries as queries
use Rattle.names.specs.Stored.{table_of, tables, tables_of}
use Rattle.query_replies.specs.Replied.{Replied, components_in, facilities_in, replied_to}
use Rattle.query_replies.specs.RepliedLaws.{to_reply}
use Rattle.refusal.specs.NumberLaws.{no_number_0}
use Rattle.refusal.specs.Numbers.{code, found, number}
use Rattle.refusal.specs.declared.Refusal.{Refusal}
use Rattle.sets.specs.TestLaws.{=?-not, =?-same, if-false, if-true}
use Rattle.session_state.specs.Carried.{CarriedBy}
use Rattle.session_state.specs.CarriedLaws.{carried_by}
use Rattle.session_state.specs.State.{plain_state, state_of}
use Rattle.session_state.specs.declared.state.State.{State as Held}
use Rattle.text.specs.Bytes.{Text}
use Rattle.text.specs.Language.{OUT, Said, UNDEFINED, UNUSED}
use Rattle.text.specs.Session.{Result, State, afterwards, asked, carry, decimal, lines, refused, row, rows, shown, text}
use Rattle.text.specs.Tables.{Tables}
use Rattle.text.specs.Written.{written}
use Rattle.session_rows.specs.Rows.{comes_of, names_in, one_of}

-- ---- a reply

-- accepted, `read x` is shown as the rows `ws x`
module _ (t : Tables) (read : ℕ → Reply) (ws : ℕ → List Text) (shows : (x : ℕ) → shown t (read x) ≡ rows (ws x)) where
  comes_shown : (r : Found ℕ Refusal) (w : Reply) → Replied read (code r) (found r) w → comes_of ws r ≡ shown t w
  unfolding comes_of
  comes_shown (Ok x) w z = sym (shows x) ∙ ap (shown t) (sym (if-true _ _ _ (=?-same 0)) ∙ z.is)
  comes_shown (Err e) w z = is_refused ∙ ap (shown t) (sym (if-false _ _ _ (=?-not (number e) 0 (no_number_0 e))) ∙ z.is)
    where
      is_refused : refused (number e) ≡ shown t (queries.refused (number e))
      is_refused = unfold shown in refl

-- ---- the state of a session

module _ (s : Held) (q : Query) where
  pub asked_is : asked (plain_state s) q ≡ shown (tables s.names) (replied_to s.book.sets s.book.numbers q)
  unfolding asked state_of
  asked_is = ap (shown (tables s.names)) (sym (to_reply s.book.sets s.book.numbers q s.ready.passes))

  -- the book that was asked is the state's
  module _ {book : TheBook} (same : book ≡ s.book) (i : ℕ) (r : Found ℕ Refusal) {a b : Writer} where
    replied_put : (read : ℕ → Reply) (ws : ℕ → List Text) → ((x : ℕ) → shown (tables s.names) (read x) ≡ rows (ws x))
        → Replied read (code r) (found r) (replied_to book.sets book.numbers q) → Writes (lines i (comes_of ws r)) a b
        → Writes (lines i (asked (plain_state s) q)) a b
    replied_put read ws shows z f =
        writes_as (ap (lines i) (comes_shown (tables s.names) read ws shows r _ z
        ∙ ap (λ (b : TheBook). shown (tables s.names) (replied_to b.sets b.numbers q)) same
        ∙ sym asked_is)) f

    pub facilities_put : Replied facilities_in (code r) (found r) (replied_to book.sets book.numbers q)
        → Writes (lines i (comes_of (names_in (table_of facilities s.names.facs.rows)) r)) a b → Writes (lines i (asked (plain_state s) q)) a b
    unfolding tables_of
    facilities_put z f =
        let shows : (x : ℕ) → shown (tables s.names) (facilities_in x) ≡ rows (names_in (table_of facilities s.names.facs.rows) x) =
        λ x. unfold shown facilities_in names_in in refl in replied_put facilities_in _ shows z f

    pub components_put : Replied components_in (code r) (found r) (replied_to book.sets book.numbers q)
        → Writes (lines i (comes_of (names_in (table_of components s.names.comps.rows)) r)) a b → Writes (lines i (asked (plain_state s) q)) a b
    unfolding tables_of
    components_put z f =
        let shows : (x : ℕ) → shown (tables s.names) (components_in x) ≡ rows (names_in (table_of components s.names.comps.rows) x) =
        λ x. unfold shown components_in names_in in refl in replied_put components_in _ shows z f

    pub version_put : Replied the_version (code r) (found r) (replied_to book.sets book.numbers q)
        → Writes (lines i (comes_of (one_of (table_of versions s.names.vers.rows)) r)) a b → Writes (lines i (asked (plain_state s) q)) a b
    unfolding tables_of
    version_put z f =
        let shows : (x : ℕ) → shown (tables s.names) (the_version x) ≡ rows (one_of (table_of versions s.names.vers.rows) x) =
        λ x. unfold shown one_of in refl in replied_put the_version _ shows z f

-- ---- a command that leaves the state as it was

-- only an accepted one of the ten commands changes the state
shown_keeps : (s : State) (t : Tables) (r : Reply) → afterwards s (shown t r) ≡ s
unfolding afterwards shown
shown_keeps s t (queries.refused n) = refl
shown_keeps s t (the_facilities fs) = refl
shown_keeps s t (the_components cs) = refl
shown_keeps s t (the_version v) = refl
shown_keeps s t (the_pairs ps) = refl
shown_keeps s t (the_parts ps d) = refl

pub asked_keeps : (s : State) (q : Query) → afterwards s (asked s q) ≡ s
unfolding asked
asked_keeps s q = shown_keeps s s.tables (reply s.book q)

module _ {i : ℕ} {s : State} {a b : Writer} where
  pub carried : (x : Said) (r : Result) → carry s x ≡ r → afterwards s r ≡ s → Writes (lines i r) a b → CarriedBy i s s a b x
  carried x r e k f = carried_by (writes_as (ap (lines i) (sym e)) f) (sym (ap (afterwards s) e ∙ k))

  pub asked_carried : (x : Said) (q : Query) → carry s x ≡ asked s q → Writes (lines i (asked s q)) a b → CarriedBy i s s a b x
  asked_carried x q e f = carried x (asked s q) e (asked_keeps s q) f

  pub undefined_carried : Writes (lines i (asked s queries.UNDEFINED)) a b → CarriedBy i s s a b UNDEFINED
  unfolding carry
  undefined_carried f = asked_carried UNDEFINED queries.UNDEFINED refl f

  pub unused_carried : Writes (lines i (asked s queries.UNUSED)) a b → CarriedBy i s s a b UNUSED
  unfolding carry
  unused_carried f = asked_carried UNUSED queries.UNUSED refl f

pub text_carried : {i : ℕ} (s : Held) {x y z : Writer} → Writes (row i (decimal 0)) x y
    → Writes (written (plain_of s.book.sets s.book.numbers) (tables s.names)) y z → CarriedBy i (plain_state s) (plain_state s) x z OUT
unfolding carry state_of afterwards lines
text_carried s g h = carried OUT (text (written (plain_of s.book.sets s.book.numbers) (tables s.names))) refl refl (writes_then g h)
