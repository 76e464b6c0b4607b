-- How a reply and a lent slice give what a call hands back; and the laws of a loop that writes rows.
use Rattle.std.specs.Prelude.{Bool, false, true, List, [], ◌++◌, ◌∷◌, map, ◌≡◌, refl, ◌*◌, ◌+◌, ◌-◌, ◌<◌, ◌≤◌, suc, zero, ℕ, drop, get_or, length, set, take}
use Rattle.std.proofs.Common.{inl, inr, ◌∙◌, ap, ap₂, le_antisymm, arith}
use Rattle.std.proofs.Math.Path.{subst, sym}
use Rattle.std.proofs.lemmas.List.{length-map}
use Rattle.model.specs.Book.{Pair}
use Rattle.model.specs.Lists.{from, rising}
use Rattle.model.specs.Queries.{Reply, refused, the_pairs}
use Rattle.query_replies.specs.Found.{RowsTo, WrittenTo, row_in}
use Rattle.query_replies.specs.Listed.{Listed, answer_of, fitted, row_of, rows_of}
use Rattle.seqs.specs.Filled.{filled}
use Rattle.query_replies.specs.RowLaws.{map-append, rows_counted, rows_more}
use Rattle.seqs.specs.FilledLaws.{filled_at, filled-length, filled_none, filled-set}
use Rattle.seqs.specs.RestLaws.{rest_filled}
use Rattle.sets.specs.LoopLaws.{count_hit, count_miss, count_start}
use Rattle.sets.specs.Sets.{bit}
use Rattle.sets.specs.TestLaws.{≤?_in, ≤?_out, count_le, fails, if-false, if-true, one_if_up, same?}
use Rattle.sets.specs.Tests.{count, one_if}
use Rattle.model_laws.specs.RisingLaws.{rising_hit, rising-length, rising_miss, rising_narrow}

-- ---- what a call hands back

module _ (old : List ℕ) where
  is_refused : (m : ℕ) → Listed old m 0 old (refused m)
  unfolding answer_of rows_of
  is_refused m = record { answer_is = refl; rows_are = refl; slice_is = sym (filled_none old) }

  pub list_refused : (m : ℕ) {r : Reply} → r ≡ refused m → Listed old m 0 old (fitted (length old) r)
  unfolding fitted
  list_refused m e = subst (λ (r : Reply). Listed old m 0 old (fitted (length old) r)) (sym e) (is_refused m)

  module _ (xs : List Pair) {r : Reply} (e : r ≡ the_pairs xs) (n : ℕ) (en : n ≡ length xs) where
    -- the slice is too short
    pub list_full : length old < n → Listed old 22 0 old (fitted (length old) r)
    unfolding fitted
    list_full l =
        subst (λ (r : Reply). Listed old 22 0 old (fitted (length old) r)) (sym e)
        (subst (Listed old 22 0 old) (sym (if-false _ _ _ (fails _ (λ t. omega (arith, ≤?_out _ _ t, en, l))))) (is_refused 22))

    pub list_written : {new : List ℕ} → n ≤ length old → new ≡ filled (map row_of xs) old → Listed old 0 n new (fitted (length old) r)
    unfolding fitted
    list_written {new} l w =
        subst (λ (r : Reply). Listed old 0 n new (fitted (length old) r)) (sym e)
        (subst (Listed old 0 n new) (sym (if-true _ _ _ (≤?_in _ _ (omega (arith, en, l))))) accepted)
      where
        accepted : Listed old 0 n new (the_pairs xs)
        accepted = record {
          answer_is = unfold answer_of in refl;
          rows_are = unfold rows_of in (en ∙ sym (length-map xs row_of));
          slice_is = unfold rows_of in w;
        }

-- ---- a loop that writes the numbers n that pass the test f as r, each as g n; a is where the next goes

-- fewer numbers are counted below than above
count_up : (f : ℕ → Bool) (m k : ℕ) → k ≤ m → count k f ≤ count m f
unfolding count
count_up f zero k l = let e : k ≡ 0 = omega arith in rw e (omega arith)
count_up f (suc m) k l =
    elim (same? k (suc m)) [
      | inl e ↦ rw e (omega arith)
      | inr ne ↦ (let h = count_up f m k (omega arith) in let u = one_if_up (f m) (count m f) in omega arith)
    ]

hit : (f : ℕ → Bool) (k : ℕ) → f k ≡ true → count (suc k) f ≡ suc (count k f)
unfolding count one_if
hit f k e = ap (λ (b : Bool). one_if b (count k f)) e

module _ (g : ℕ → ℕ) (f : ℕ → Bool) (old : List ℕ) where
  written_many : (k : ℕ) → length (map g (rising k f)) ≡ count k f
  written_many k = length-map (rising k f) g ∙ rising-length k f

  pub write_low : (k a : ℕ) (out : List ℕ) → WrittenTo g f old k a out → a ≤ k
  write_low k a out w = let e = w.at in let l = count_le k f in omega arith

  -- no number passes
  pub write_none : (n : ℕ) → ((d : ℕ) → f d ≡ false) → WrittenTo g f old n 0 old
  write_none n miss = record {
    at = sym (ap length none) ∙ rising-length n f;
    is = sym (filled_none old) ∙ ap (λ (p : List ℕ). filled (map g p) old) (sym none);
  }
    where
      none : rising n f ≡ []
      none = rising_narrow 0 n f f (omega arith) (λ d l. refl) (λ d l. miss d) ∙ (unfold rising from in refl)

  module _ (n : ℕ) (fits : count n f ≤ length old) where
    pub write_start : WrittenTo g f old 0 0 old
    unfolding rising from
    write_start = record { at = count_start f; is = sym (filled_none old) }

    pub write_length : (k a : ℕ) (out : List ℕ) → k ≤ n → WrittenTo g f old k a out → length out ≡ length old
    write_length k a out l w =
        let e = written_many k in let h = count_up f n k l in
        ap length w.is ∙ filled-length (map g (rising k f)) old (omega arith)

    module _ (k a : ℕ) (out : List ℕ) {r : Bool} (k< : k < n) (w : WrittenTo g f old k a out) (er : r ≡ f k) where
      same_length : length out ≡ length old
      same_length = write_length k a out (omega arith) w

      pub write_room : r ≡ true → a < length out
      write_room t =
          let h = count_up f n (suc k) k< in let s = hit f k (sym er ∙ t) in let l = same_length in let q = w.at in omega arith

      -- a' and out' are what a and the slice hold after the turn
      pub write_hit : (x : ℕ) {a' : ℕ} {out' : List ℕ} → r ≡ true → x ≡ g k → a' ≡ a + 1 → out' ≡ set out a x
          → WrittenTo g f old (k + 1) a' out'
      write_hit x t ex ea eo = record {
        at = ea ∙ count_hit k a f w.at er t;
        is =
            eo ∙ ap₂ (λ (xs : List ℕ) (y : ℕ). set xs a y) w.is ex
            ∙ filled-set 0 (map g (rising k f)) old a (g k) (w.at ∙ sym (written_many k))
            (let h = write_room t in let l = same_length in omega arith)
            ∙ ap (λ (p : List ℕ). filled p old) (sym (ap (map g) (rising_hit k f (sym er ∙ t)) ∙ map-append g (rising k f) (k ∷ [])));
      }

      pub write_miss : {a' : ℕ} {out' : List ℕ} → r ≡ false → a' ≡ a → out' ≡ out → WrittenTo g f old (k + 1) a' out'
      write_miss t ea eo = record {
        at = ea ∙ count_miss k a f w.at er t;
        is = eo ∙ w.is ∙ ap (λ (p : List ℕ). filled (map g p) old) (sym (rising_miss k f (sym er ∙ t)));
      }

    pub write_end : (k a : ℕ) (out : List ℕ) → k ≤ n → n ≤ k → WrittenTo g f old k a out → WrittenTo g f old n a out
    write_end k a out h l w = subst (λ (m : ℕ). WrittenTo g f old m a out) (le_antisymm h l) w

-- ---- a loop that writes the rows of one component after those of another

module _ (t old : List ℕ) where
  pub rows_start : RowsTo t old 0 0 old
  unfolding rising from
  rows_start = record { at = count_start (row_in t); is = sym (filled_none old) }

  pub rows_low : (c a : ℕ) (out : List ℕ) → RowsTo t old c a out → a ≤ c * 64
  rows_low c a out w = let e = w.at in let l = count_le (c * 64) (row_in t) in omega arith

  module _ (fits : count 2048 (row_in t) ≤ length old) (c a : ℕ) (out : List ℕ) (w : RowsTo t old c a out) where
    pub rows_length : c ≤ 32 → length out ≡ length old
    rows_length l =
        let e = rising-length (c * 64) (row_in t) in let h = count_up (row_in t) 2048 (c * 64) (omega arith) in
        ap length w.is ∙ filled-length (rising (c * 64) (row_in t)) old (omega arith)

    pub rows_room : c < 32 → a + count 64 (bit (get_or t c 0)) ≤ length out
    rows_room l =
        let e = rows_length (omega arith) in let h = count_up (row_in t) 2048 ((c + 1) * 64) (omega arith) in
        let q = rows_counted t c a _ w.at refl in
        omega arith

    -- the rest from a on is lent, and holds ys then
    pub rows_turn : (n : ℕ) {ys : List ℕ} → n ≡ count 64 (bit (get_or t c 0))
        → ys ≡ filled (map (λ v. row_of (c, v)) (rising 64 (bit (get_or t c 0)))) (take (length out - a) (drop a out))
        → RowsTo t old (c + 1) (a + n) (take a out ++ (ys ++ drop (length out - a) (drop a out)))
    rows_turn n {ys} en ey = record {
      at = rows_counted t c a n w.at en;
      is =
          rest_filled out more ys a ey ∙ ap (λ (z : List ℕ). take a z ++ (more ++ drop (a + length more) z)) w.is
          ∙ filled_at (rising (c * 64) (row_in t)) more old a (w.at ∙ sym (rising-length (c * 64) (row_in t)))
          ∙ ap (λ (p : List ℕ). filled p old) (sym (rows_more t c));
    }
      where
        more : List ℕ
        more = map (λ v. row_of (c, v)) (rising 64 (bit (get_or t c 0)))

  pub rows_end : (c a : ℕ) (out : List ℕ) → c ≤ 32 → 32 ≤ c → RowsTo t old c a out → out ≡ filled (rising 2048 (row_in t)) old
  rows_end c a out h l w = w.is ∙ ap (λ (m : ℕ). filled (rising (m * 64) (row_in t)) old) (le_antisymm h l)
