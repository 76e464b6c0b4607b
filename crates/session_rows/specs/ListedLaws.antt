-- The pairs of "choice" and "parts", from the numbers in a lent slice. `Held` is the state of the code.
use Rattle.std.specs.Prelude.{Bool, Err, IfOk, Ok, Result as Found, ◌≡◌, drop, take}
use Rattle.std.specs.Borrow.{Bor}
use Rattle.std.proofs.Math.Bool.{true}
use mathlib.Core.List.{List, [], ◌++◌, ◌∷◌, map}
use Rattle.std.proofs.Common.{inl, inr, ◌∙◌, ap₂, subst, length-append, take_at}
use Rattle.std.proofs.Math.Path.{ap, refl, sym}
use Prim.Native.Nat.{◌%◌, ◌*◌, ◌+◌, ◌/◌, ◌<◌, ◌^◌, ◌≤◌, suc, zero, zero-le, ℕ}
use native.Mathlib.Omega.{arith}
use Rattle.std.proofs.Math.ListN.{length}
use Rattle.std.proofs.lemmas.List.{length-map}
use Rattle.book.specs.Plain.{plain_of}
use Rattle.book.specs.declared.Book.{Book as TheBook}
use Rattle.model.specs.Book.{Book, Pair, facilities, has_version, provides, versions}
use Rattle.model.specs.Lists.{every, rising, set_of}
use Rattle.model.specs.PartsList.{listed, next_row, parts, rows_from}
use Rattle.model.specs.Queries.{CHOICE, PARTS, Reply, asked, choice, found, pairs_from, rising_pairs, the_pairs}
use Rattle.model.specs.Queries as queries
use Rattle.model.specs.Questions.{each_below, first_no}
use Rattle.names.specs.Stored.{tables, tables_of}
use Rattle.names.specs.declared.Names.{Names}
use Rattle.parts.specs.Listed.{parts_answer, parts_asked, row_number}
use Rattle.parts.specs.Listed as parts_call
use Rattle.query_replies.specs.Found.{flat}
use Rattle.query_replies.specs.Listed.{Listed, answer_of, fitted, row_of, rows_of}
use Rattle.query_replies.specs.Replied.{numbers_in, replied_to}
use Rattle.query_replies.specs.RepliedLaws.{to_found, to_refused}
use Rattle.query_replies.specs.RowLaws.{rows_flat}
use Rattle.refusal.specs.NumberLaws.{no_number_0}
use Rattle.refusal.specs.Numbers.{code, number}
use Rattle.refusal.specs.declared.Refusal.{Refusal}
use Rattle.model_laws.specs.FirstNoLaws.{none-asked, none_left, others_asked, yes_at}
use Rattle.model_laws.specs.ListLaws.{every_listed}
use Rattle.book_rules.specs.TestLaws.{passes_plain}
use Rattle.seqs.specs.Filled.{filled}
use Rattle.sets.specs.SetLaws.{bit_limit}
use Rattle.sets.specs.Sets.{Set, bit, subset}
use Rattle.sets.specs.TestLaws.{<?_in, <?_out, =?-same, and_in, and_l, and_r, count_le, if-true, or_l, or_r, same?, ≤?_in}
use Rattle.sets.specs.Tests.{◌&◌, ◌<?◌, ◌≤?◌}
use Rattle.session_state.specs.State.{plain_state}
use Rattle.session_state.specs.declared.state.State.{State as Held}
use Rattle.text.specs.Bytes.{Text}
use Rattle.text.specs.Session.{lines, pair_row, refused, rows, shown}
use Rattle.text.specs.Session as session
use Rattle.text.specs.Tables.{Tables}
use Rattle.text_laws.specs.TextLaws.{every_append, every_map}
use Rattle.model_laws.specs.Accepted.{Numbered, all_yes}
use Rattle.model_laws.specs.Good.{passes→good}
use Rattle.model_laws.specs.MapLaws.{option?}
use Rattle.model_laws.specs.Parts.{pair_limits, part_has_version, parts_only, rows_from_end, rows_from_row, rows_from_zero}
use Rattle.model_laws.specs.RisingLaws.{rising_below, rising-length, rising-set}
use Rattle.write_bytes.specs.Writes.{Writes}
use Rattle.write_bytes.specs.WritesLaws.{writes_as}
use Rattle.write_bytes.specs.declared.writer.Writer.{Writer}
use Rattle.session_rows.specs.Rows.{comes_of, listed_in, pair_in, pair_tables, pairs_in}
use Rattle.session_rows.specs.ShownLaws.{asked_is}

-- ---- the two tables of a row, and all four

pub listed_written : (n : Names) (i : ℕ) (m : Found (Bor (List ℕ)) Refusal) {x y : Writer}
    → Writes (lines i (comes_of (listed_in (pair_tables n.comps n.vers)) m)) x y → Writes (lines i (comes_of (listed_in (tables n)) m)) x y
unfolding comes_of listed_in pairs_in pair_in pair_row tables_of
listed_written n i (Ok k) f = f
listed_written n i (Err e) f = f

-- ---- a pair and its number

low : Pair → Bool
low p = p.1 <? versions

pair_back : (t : Tables) (p : Pair) → p.1 < 64 → pair_in t (row_of p) ≡ pair_row t p
unfolding pair_in row_of
pair_back t p l =
    let e : (p.0 * 64 + p.1) / 64 ≡ p.0 = omega arith in let e' : (p.0 * 64 + p.1) % 64 ≡ p.1 = omega arith in
    ap₂ (λ (c v : ℕ). pair_row t (c, v)) e e'

pairs_back : (t : Tables) (xs : List Pair) → every low xs ≡ true → pairs_in t (map row_of xs) ≡ map (pair_row t) xs
unfolding every low pairs_in
pairs_back t [] h = refl
pairs_back t (p ∷ xs) h =
    ap₂ (λ (w : Text) (ws : List Text). w ∷ ws) (pair_back t p (<?_out _ _ (and_l _ _ h))) (pairs_back t xs (and_r _ _ h))

slice_rows : (xs : List Pair) (old new : List ℕ) (n : ℕ) → n ≡ length (map row_of xs) → new ≡ filled (map row_of xs) old → take n new ≡ map row_of xs
unfolding filled
slice_rows xs old new n e d = ap (take n) d ∙ take_at (map row_of xs) (drop (length (map row_of xs)) old) n (sym e)

filled_enough : (ws old new : List ℕ) (n : ℕ) → n ≡ length ws → new ≡ filled ws old → n ≤ length new
unfolding filled
filled_enough ws old new n e d =
    let l = ap length d ∙ length-append ws (drop (length ws) old) in omega arith

-- the pairs xs, of which the first rows of a slice are the numbers
pairs_shown : (t : Tables) (xs : List Pair) (old new : List ℕ) (n : ℕ) → every low xs ≡ true → n ≡ length (map row_of xs)
    → new ≡ filled (map row_of xs) old → pairs_in t (take n new) ≡ map (pair_row t) xs
pairs_shown t xs old new n h e d = ap (pairs_in t) (slice_rows xs old new n e d) ∙ pairs_back t xs h

-- ---- "choice"

module _ (test : ℕ → ℕ → Bool) where
  from_low : (k c : ℕ) → every low (pairs_from k c test) ≡ true
  unfolding pairs_from
  from_low zero c = unfold every in refl
  from_low (suc k) c =
      every_append low (map (λ v. (c, v)) (rising versions (test c))) (pairs_from k (suc c) test)
      (every_map (λ v. (c, v)) low (rising versions (test c)) ∙ below) (from_low k (suc c))
    where
      below : every (λ v. low (c, v)) (rising versions (test c)) ≡ true
      below = unfold low in (unfold each_below in rising_below versions (test c))

  pairs_low : every low (rising_pairs test) ≡ true
  unfolding rising_pairs
  pairs_low = from_low 32 0

  pairs_few : length (rising_pairs test) ≤ 2048
  pairs_few =
      let e : length (rising_pairs test) ≡ _ =
      sym (length-map (rising_pairs test) row_of) ∙ ap length (rows_flat test) ∙ rising-length 2048 (flat test) in
      let l = count_le 2048 (flat test) in omega arith

pub choice-room : (old : List ℕ) (a n : ℕ) (new : List ℕ) (r : Reply) → Listed old a n new r → n ≤ length new
choice-room old a n new r z = filled_enough (rows_of r) old new n z.rows_are z.slice_is

module _ (s : Held) (w : ℕ) (w< : w < 2 ^ 64) (fs : List ℕ) (e : bit w ≡ set_of fs) where
  abbrev chosen : List Pair
  chosen = choice (plain_of s.book.sets s.book.numbers) fs

  abbrev replied : List ℕ → Reply
  replied gs = replied_to s.book.sets s.book.numbers (CHOICE gs)

  fs_below : each_below facilities fs ≡ true
  unfolding each_below set_of
  fs_below = every_listed (λ x. x <? facilities) fs (λ k h. <?_in _ _ (bit_limit 64 w k w< (ap (λ (g : Set). g k) e ∙ h)))

  said_choice : (gs : List ℕ) → each_below facilities gs ≡ true → replied gs ≡ the_pairs (choice (plain_of s.book.sets s.book.numbers) gs)
  unfolding asked found
  said_choice gs h = to_found s.book.sets s.book.numbers (CHOICE gs) s.ready.passes (yes_at 1 _ _ h ∙ none_left)

  same_choice : choice (plain_of s.book.sets s.book.numbers) (numbers_in w) ≡ chosen
  unfolding choice numbers_in
  same_choice =
      let b = plain_of s.book.sets s.book.numbers in
      ap (λ (g : Set). rising_pairs (λ d u. has_version b.specs d u & subset facilities g (provides b.specs d))) (rising-set w w< ∙ e)

  choice_fits : (k : ℕ) → k ≡ 2048 → fitted k (replied (numbers_in w)) ≡ the_pairs chosen
  unfolding fitted
  choice_fits k d = ap (fitted k) choice_reply ∙ if-true _ _ _ (≤?_in _ _ (subst (λ (j : ℕ). length chosen ≤ j) (sym d) few))
    where
      choice_reply : replied (numbers_in w) ≡ the_pairs chosen
      choice_reply = said_choice (numbers_in w) (unfold numbers_in in rising_below 64 (bit w)) ∙ ap the_pairs same_choice

      few : length chosen ≤ 2048
      few = unfold choice in pairs_few _

  module _ (old new : List ℕ) (a n : ℕ) (l : length old ≡ 2048) (z : Listed old a n new (fitted (length old) (replied (numbers_in w)))) where
    is : Listed old a n new (the_pairs chosen)
    is = subst (Listed old a n new) (choice_fits (length old) l) z

    choice_rows : pairs_in (tables s.names) (take n new) ≡ map (pair_row (tables s.names)) chosen
    choice_rows =
        let low_pairs : every low chosen ≡ true = unfold choice in pairs_low _ in
        let n_is : n ≡ length (map row_of chosen) = unfold rows_of in is.rows_are in
        let new_is : new ≡ filled (map row_of chosen) old = unfold rows_of in is.slice_is in
        pairs_shown (tables s.names) chosen old new n low_pairs n_is new_is

    accepted : a ≡ 0
    unfolding answer_of
    accepted = is.answer_is

    choice_comes : (m : Found (Bor (List ℕ)) Refusal) → code m ≡ a → IfOk m (λ k. k.now ≡ take n new)
        → comes_of (listed_in (tables s.names)) m ≡ shown (tables s.names) (the_pairs chosen)
    unfolding comes_of listed_in shown
    choice_comes (Ok k) e h = ap rows (ap (pairs_in (tables s.names)) h ∙ choice_rows)
    choice_comes (Err r) e h = absurd (no_number_0 r (e ∙ accepted))

    choice_written : (i : ℕ) (m : Found (Bor (List ℕ)) Refusal) {x y : Writer} → code m ≡ a → IfOk m (λ k. k.now ≡ take n new)
        → Writes (lines i (comes_of (listed_in (tables s.names)) m)) x y → Writes (lines i (session.asked (plain_state s) (CHOICE fs))) x y
    choice_written i m e h f = writes_as
        (ap (lines i) (choice_comes m e h ∙ sym (asked_is s (CHOICE fs) ∙ ap (shown (tables s.names)) (said_choice fs fs_below)))) f

-- the book that was asked is the state's
pub choice_put : (s : Held) {book : TheBook} → book ≡ s.book → (w : ℕ) → w < 2 ^ 64 → (fs : List ℕ) → bit w ≡ set_of fs → (old new : List ℕ) (a n : ℕ)
    → length old ≡ 2048 → Listed old a n new (fitted (length old) (replied_to book.sets book.numbers (CHOICE (numbers_in w))))
    → (i : ℕ) (m : Found (Bor (List ℕ)) Refusal) {x y : Writer} → code m ≡ a → IfOk m (λ k. k.now ≡ take n new)
    → Writes (lines i (comes_of (listed_in (tables s.names)) m)) x y → Writes (lines i (session.asked (plain_state s) (CHOICE fs))) x y
choice_put s same w w< fs e old new a n l z =
    choice_written s w w< fs e old new a n l
    (subst (λ (b : TheBook). Listed old a n new (fitted (length old) (replied_to b.sets b.numbers (CHOICE (numbers_in w))))) same z)

-- ---- "parts"

rows_few : (n : ℕ) (b : Book) (c v : ℕ) (l : List Pair) → length (rows_from n b c v l) ≤ n
rows_few zero b c v l = rw rows_from_zero zero-le
rows_few (suc n) b c v l = elim (option? (next_row b c v l)) [
  | inl e ↦ rw (rows_from_end n b c v l e) zero-le
  | inr q ↦ rw (rows_from_row n b c v l q.0 q.1) (omega (arith, rows_few n b c v (q.0 ∷ l)))
]

listed_low : (xs : List Pair) → ((d w : ℕ) → listed xs d w ≡ true → w < versions) → every low xs ≡ true
unfolding every listed low
listed_low [] h = refl
listed_low (q ∷ xs) h =
    and_in _ _ (<?_in _ _ (h q.0 q.1 (or_l _ _ (and_in _ _ (=?-same q.0) (=?-same q.1))))) (listed_low xs (λ d w t. h d w (or_r _ _ t)))

pub parts-room : (s n : List ℕ) (d u : ℕ) (old : List ℕ) (a k depth : ℕ) (new : List ℕ) → parts_call.Listed s n d u old a k depth new → k ≤ length new
parts-room s n d u old a k depth new z = elim (same? a 0) [
  | inl e ↦ filled_enough (map row_number (parts (plain_of s n) d u)) old new k
      ((z.found e).rows_are ∙ sym (length-map (parts (plain_of s n) d u) row_number)) (z.found e).out_is
  | inr ne ↦ (let e = (z.refused ne).1 in omega arith)
]

module _ (s : Held) (d u : ℕ) where
  abbrev book : Book
  book = plain_of s.book.sets s.book.numbers

  numbered : Numbered (asked book (PARTS d u))
  unfolding asked
  numbered = (omega arith, (omega arith, (omega arith, tt)))

  -- the slice has a row for each pair of the list
  parts-asked : (k : ℕ) → k ≡ 256 → first_no (parts_asked book d u k) ≡ first_no (asked book (PARTS d u))
  unfolding parts_asked
  parts-asked k e = by (first_no (asked book (PARTS d u))) refl
    where
      enough : (length (parts book d u) ≤? k) ≡ true
      enough = ≤?_in _ _ (subst (λ (j : ℕ). length (parts book d u) ≤ j) (sym e) (unfold parts in rows_few 256 book d u []))

      by : (a : ℕ) → first_no (asked book (PARTS d u)) ≡ a → first_no (asked book (PARTS d u) ++ ((22, length (parts book d u) ≤? k) ∷ [])) ≡ a
      by zero h = others_asked (asked book (PARTS d u)) ((22, length (parts book d u) ≤? k) ∷ []) numbered h ∙ yes_at 22 _ [] enough ∙ none_left
      by (suc a) h = none-asked (asked book (PARTS d u)) ((22, length (parts book d u) ≤? k) ∷ []) a h

  has_it : first_no (asked book (PARTS d u)) ≡ 0 → has_version book.specs d u ≡ true
  unfolding asked
  has_it h = (all_yes (asked book (PARTS d u)) numbered h).1.1.0

  parts_low : first_no (asked book (PARTS d u)) ≡ 0 → every low (parts book d u) ≡ true
  parts_low h =
      let g = passes→good (passes_plain s.book.sets s.book.numbers s.ready.passes) in
      listed_low (parts book d u)
      (λ x w t. (pair_limits book g d u (has_it h) x w
      (part_has_version book g d u (has_it h) x w (parts_only book g d u (has_it h) x w t))).1)

  module _ (old new : List ℕ) (a k depth : ℕ) (l : length old ≡ 256)
      (z : parts_call.Listed s.book.sets s.book.numbers d u old a k depth new) where
    answer_is : a ≡ first_no (asked book (PARTS d u))
    answer_is =
        let e : parts_answer s.book.sets s.book.numbers d u (length old) ≡ first_no (parts_asked book d u (length old)) =
        unfold parts_answer in if-true _ _ _ s.ready.passes in
        z.answer_is ∙ e ∙ parts-asked (length old) l

    abbrev replied_parts : Reply
    replied_parts = replied_to s.book.sets s.book.numbers (PARTS d u)

    parts_rows : a ≡ 0 → rows (pairs_in (tables s.names) (take k new)) ≡ shown (tables s.names) replied_parts
    parts_rows e =
        let list = z.found e in
        let h : first_no (asked book (PARTS d u)) ≡ 0 = sym answer_is ∙ e in
        let same : map row_number (parts book d u) ≡ map row_of (parts book d u) = unfold row_number row_of in refl in
        ap rows (pairs_shown (tables s.names) (parts book d u) old new k (parts_low h)
        (list.rows_are ∙ sym (length-map (parts book d u) row_of)) (list.out_is ∙ ap (λ (ws : List ℕ). filled ws old) same))
        ∙ as_rows (to_found s.book.sets s.book.numbers (PARTS d u) s.ready.passes h)
      where
        as_rows : replied_parts ≡ found book (PARTS d u)
            → rows (map (pair_row (tables s.names)) (parts book d u)) ≡ shown (tables s.names) replied_parts
        as_rows e = unfold shown found in ap (shown (tables s.names)) (sym e)

    parts_comes : (m : Found (Bor (List ℕ)) Refusal) → code m ≡ a → IfOk m (λ j. j.now ≡ take k new)
        → comes_of (listed_in (tables s.names)) m ≡ shown (tables s.names) replied_parts
    unfolding comes_of listed_in
    parts_comes (Ok j) e h = ap (λ (ks : List ℕ). rows (pairs_in (tables s.names) ks)) h ∙ parts_rows (sym e)
    parts_comes (Err r) e h =
        is_refused ∙ ap (shown (tables s.names)) (sym (to_refused s.book.sets s.book.numbers (PARTS d u) s.ready.passes (number r)
        (e ∙ answer_is) (no_number_0 r)))
      where
        is_refused : refused (number r) ≡ shown (tables s.names) (queries.refused (number r))
        is_refused = unfold shown in refl

    parts_written : (i : ℕ) (m : Found (Bor (List ℕ)) Refusal) {x y : Writer} → code m ≡ a → IfOk m (λ j. j.now ≡ take k new)
        → Writes (lines i (comes_of (listed_in (tables s.names)) m)) x y → Writes (lines i (session.asked (plain_state s) (PARTS d u))) x y
    parts_written i m e h f = writes_as (ap (lines i) (parts_comes m e h ∙ sym (asked_is s (PARTS d u)))) f

pub parts_put : (s : Held) {book : TheBook} → book ≡ s.book → (d u : ℕ) (old new : List ℕ) (a k depth : ℕ) → length old ≡ 256
    → parts_call.Listed book.sets book.numbers d u old a k depth new → (i : ℕ) (m : Found (Bor (List ℕ)) Refusal) {x y : Writer} → code m ≡ a
    → IfOk m (λ j. j.now ≡ take k new) → Writes (lines i (comes_of (listed_in (tables s.names)) m)) x y
    → Writes (lines i (session.asked (plain_state s) (PARTS d u))) x y
parts_put s same d u old new a k depth l z =
    parts_written s d u old new a k depth l (subst (λ (b : TheBook). parts_call.Listed b.sets b.numbers d u old a k depth new) same z)
