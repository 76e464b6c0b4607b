-- Laws of the loop that finds the rows.
use Rattle.std.specs.Prelude.{Bool, None, Some, true, List, [], ◌++◌, ◌∷◌, map, ◌≡◌, refl}
use Rattle.std.specs.Prelude.{◌*◌, ◌+◌, ◌-◌, ◌<◌, ◌≤◌, suc, ℕ, get_or, length, replicate, set, take}
use Rattle.std.proofs.Common.{append_assoc, append-nil, ◌∙◌, ap₂, subst, arith, length-append, length-set}
use Rattle.std.proofs.lemmas.List.{map-append, length-map, length-replicate}
use Rattle.std.proofs.Math.Path.{ap, sym}
use Rattle.std.proofs.Math.Seq.{take_at}
use Rattle.model.specs.Book.{Book, Pair, has_version}
use Rattle.model.specs.PartsList.{first_pair, listed, next_row, parts, rows_from}
use Rattle.parts.specs.Due.{due_in, pair_found}
use Rattle.parts.specs.DueLaws.{next_same, pair_low}
use Rattle.parts.specs.Listed.{row_number}
use Rattle.parts.specs.MarkLaws.{mark_one, no_marks}
use Rattle.parts.specs.Marks.{PartsIn}
use Rattle.parts.specs.Rows.{AllRows, RowsTo}
use Rattle.seqs.specs.Filled.{filled}
use Rattle.seqs.specs.FilledLaws.{filled-length, filled_none, filled-set}
use Rattle.sets.specs.Sets.{bit, with}
use Rattle.sets.specs.Tests.{◌&◌, ◌=?◌, ◌or◌}
use Rattle.model_laws.specs.Good.{Good}
use Rattle.model_laws.specs.Parts.{rows_from_end, rows_from_row, rows_from_zero}

listed_more : (q : Pair) (l : List Pair) (d w : ℕ) → listed (q ∷ l) d w ≡ ((d =? q.0 & w =? q.1) or listed l d w)
unfolding listed
listed_more q l d w = refl

pub rows_start : (b : Book) (c v : ℕ) → RowsTo b c v 0 (replicate 32 0) (replicate 256 0)
rows_start b c v = record {
  above = [];
  back = [];
  size = length-replicate {A = ℕ} 32 0;
  table = λ d w. no_marks d w ∙ (unfold listed in refl);
  goes_on = unfold parts in refl;
  count = refl;
  array = sym (filled_none _);
}

-- the list ends where the rows end
ended : (b : Book) (c v k : ℕ) (t a : List ℕ) (z : RowsTo b c v k t a) → k ≤ 256 → rows_from (256 - k) b c v z.back ≡ [] → AllRows b c v k a
ended b c v k t a z h e =
    let whole : z.above ≡ parts b c v = sym (append-nil z.above) ∙ ap (λ (l : List Pair). z.above ++ l) (sym e) ∙ z.goes_on in
    record {
      count = z.count ∙ ap length whole;
      few = h;
      array = z.array ∙ ap (λ (l : List Pair). filled (map row_number l) (replicate 256 0)) whole;
    }

pub rows_full : (b : Book) (c v k : ℕ) (t a : List ℕ) → RowsTo b c v k t a → k ≤ 256 → 256 ≤ k → AllRows b c v 256 a
rows_full b c v k t a z h h' =
    let e : 256 - k ≡ 0 = omega arith in
    let k_is : k ≡ 256 = omega arith in
    subst (λ (n : ℕ). AllRows b c v n a) k_is
    (ended b c v k t a z h (ap (λ (n : ℕ). rows_from n b c v z.back) e ∙ rows_from_zero b c v z.back))

module _ (b : Book) (g : Good b) (c v : ℕ) (has_it : has_version b.specs c v ≡ true) (m : List ℕ) (pm : PartsIn b.systems c v m)
    (k : ℕ) (t a : List ℕ) (z : RowsTo b c v k t a) (l : k < 256) where
  next_is : next_row b c v z.back ≡ first_pair (due_in b.systems m t)
  next_is = next_same b g c v has_it m t z.back pm z.table

  one_more_lem : 256 - k ≡ suc (256 - (k + 1))
  one_more_lem = omega arith

  pub rows_end : pair_found None ≡ first_pair (due_in b.systems m t) → AllRows b c v k a
  unfolding pair_found
  rows_end e = ended b c v k t a z (omega (arith, l)) (ap (λ (n : ℕ). rows_from n b c v z.back) one_more_lem
      ∙ rows_from_end (256 - (k + 1)) b c v z.back (next_is ∙ sym e))

  pub rows_turn : (d w x y : ℕ) → pair_found (Some (d, w)) ≡ first_pair (due_in b.systems m t) → bit y ≡ with (bit (get_or t d 0)) w → x ≡ d * 64 + w
      → RowsTo b c v (k + 1) (set t d y) (set a k x)
  unfolding pair_found row_number
  rows_turn d w x y e ey ex =
      let q : Pair = (d, w) in
      record {
        above = z.above ++ (q ∷ []);
        back = q ∷ z.back;
        size = length-set t d y ∙ z.size;
        table = λ i j. mark_one t d w y z.size (pair_low (due_in b.systems m t) q e).0 ey i j
            ∙ ap (λ (o : Bool). (i =? d & j =? w) or o) (z.table i j) ∙ sym (listed_more q z.back i j);
        goes_on = append_assoc z.above (q ∷ []) _
            ∙ ap (λ (r : List Pair). z.above ++ r) (sym (rows_from_row (256 - (k + 1)) b c v z.back q (next_is ∙ sym e)))
            ∙ ap (λ (n : ℕ). z.above ++ rows_from n b c v z.back) (sym one_more_lem) ∙ z.goes_on;
        count = ap (λ (i : ℕ). i + 1) z.count ∙ sym (length-append z.above (q ∷ []));
        array = ap₂ (λ (l : List ℕ) (i : ℕ). set l k i) z.array ex
            ∙ filled-set 0 (map row_number z.above) (replicate 256 0) k (row_number q) (z.count ∙ sym (length-map z.above row_number))
            (omega (arith, l, length-replicate {A = ℕ} 256 0))
            ∙ ap (λ (r : List ℕ). filled r (replicate 256 0)) (sym (map-append row_number z.above (q ∷ [])));
      }

-- ---- the rows that were found

module _ (b : Book) (c v k : ℕ) (a : List ℕ) (z : AllRows b c v k a) where
  row_count : length (map row_number (parts b c v)) ≡ k
  row_count = length-map (parts b c v) row_number ∙ sym z.count

  pub rows_within : k ≤ length a
  rows_within =
      let e : length a ≡ length (replicate {A = ℕ} 256 0) = ap length z.array
      ∙ filled-length (map row_number (parts b c v)) (replicate 256 0) (omega (arith, row_count, z.few, length-replicate {A = ℕ} 256 0)) in
      omega (arith, e, z.few, length-replicate {A = ℕ} 256 0)

  pub rows_are : take k a ≡ map row_number (parts b c v)
  unfolding filled
  rows_are = ap (take k) z.array ∙ take_at (map row_number (parts b c v)) _ k row_count
