-- How the rows are completed, place by place.
use Rattle.std.specs.Prelude.{None, Option as Found, Some, true, ◌≡◌, ◌≢◌, List, ◌%◌, ◌*◌, ◌+◌, ◌/◌, ◌<◌, ◌≤◌, ℕ, get_or, length, replicate, set}
use Rattle.std.proofs.Math.Logic.{inl, inr}
use Rattle.std.proofs.Math.Option.{Option, some}
use Rattle.std.proofs.Common.{◌∙◌, Fits, w8, arith, get_or-set_other, get_or-set_same, length-set, not-suc-le-zero}
use Rattle.std.proofs.Math.Path.{ap, ap₂, refl, sym}
use lib.ListN.{get_or-replicate, length-replicate}
use Rattle.std.proofs.lemmas.List.Edits.{length-paste}
use Rattle.book.specs.Plain.{plain_of}
use Rattle.book.specs.PutLaws.{paste_other, paste_within}
use Rattle.book_rules.specs.Test.{passes}
use Rattle.book_rules.specs.TestLaws.{passes_plain}
use Rattle.command_candidates.specs.Completed.{Filled, RowsBefore, members_at, row_number, row_put, stored_at, stored_in}
use Rattle.command_lists.specs.Answers.{stores}
use Rattle.command_lists.specs.Gathered.{mapped}
use Rattle.command_lists.specs.Views.{composition_of, composition_view, compositions_view, maybe, view}
use Rattle.command_lists.specs.declared.gathered.Gathered.{Gathered as Kept}
use Rattle.model.specs.Book.{Specs, standard}
use Rattle.model.specs.Maps.{Map, and_then, option_map, or_else}
use Rattle.model_laws.specs.Good.{passes→good}
use Rattle.model_laws.specs.KeepSystems.{standard_lim}
use Rattle.sets.specs.Answered.{answered}
use Rattle.sets.specs.TestLaws.{<?_no, <?_out, bool?, same?}
use Rattle.sets.specs.Tests.{◌<?◌}

-- ---- one version

pub version_given : (S : Specs) (m x : ℕ) (o : Found ℕ) → o ≡ Some x → x ≡ or_else (answered o) (standard S m)
unfolding answered or_else
version_given S m x o e = rw e refl

pub version_left_out : (S : Specs) (m r : ℕ) (o : Found ℕ) → o ≡ None → r ≡ standard S m → r ≡ or_else (answered o) (standard S m)
unfolding answered or_else
version_left_out S m r o e q = rw e q

-- the standard version is a byte
pub standard_fits : (s n : List ℕ) (m : ℕ) {r : ℕ} → passes s n ≡ true → r ≡ standard (plain_of s n).specs m → Fits w8 r
standard_fits s n m t e = let h = standard_lim (plain_of s n) (passes→good (passes_plain s n t)) m in rw e (omega (arith, h))

module _ (S : Specs) (k : Kept (Found ℕ) 32) (m : ℕ) where
  abbrev In : ℕ → Type 0
  In x = x ≡ stored_in S (composition_of k) m

  pub stored_no_member : maybe None ≡ (view k).given m → In 0
  unfolding stored_in composition_of composition_view mapped maybe option_map or_else stores
  stored_no_member e = ap (λ o. or_else (option_map (λ x. or_else x (standard S m)) (option_map answered o)) 0) e

  pub stored_member : (x : ℕ) (given : Found ℕ) → maybe (Some given) ≡ (view k).given m → x ≡ or_else (answered given) (standard S m) → In x
  unfolding stored_in composition_of composition_view mapped maybe option_map or_else stores
  stored_member x given e q = q ∙ ap (λ o. or_else (option_map (λ x. or_else x (standard S m)) (option_map answered o)) 0) e

module _ (S : Specs) (g : Kept (Kept (Found ℕ) 32) 64) (v m : ℕ) where
  pub stored_none : maybe None ≡ (view g).given v → 0 ≡ stored_at S (compositions_view g).given v m
  unfolding stored_at compositions_view mapped maybe and_then or_else option_map
  stored_none e = ap (λ o. or_else (and_then (option_map composition_of o) (λ k. stores S k m)) 0) e

  pub at_composition : (k : Kept (Found ℕ) 32) → maybe (Some k) ≡ (view g).given v
      → stored_in S (composition_of k) m ≡ stored_at S (compositions_view g).given v m
  unfolding stored_in stored_at compositions_view mapped maybe and_then option_map
  at_composition k here = ap (λ o. or_else (and_then (option_map composition_of o) (λ k. stores S k m)) 0) here

-- ---- the numbers filled in, place by place

module _ (f : ℕ → ℕ) (size : ℕ) (xs : List ℕ) where
  pub filled_start : length xs ≡ size → Filled f size xs 0
  filled_start h = record { long = h; is = λ i l. absurd (not-suc-le-zero l) }

  pub filled_turn : (i x : ℕ) → i < size → Filled f size xs i → x ≡ f i → Filled f size (set xs i x) (i + 1)
  filled_turn i x h r e = record {
    long = length-set xs i x ∙ r.long;
    is = λ j l. elim (same? j i) [
      | inl q ↦ rw q (get_or-set_same xs i x 0 (omega (arith, h, r.long)) ∙ e)
      | inr q ↦ get_or-set_other xs i j x 0 q ∙ r.is j (omega (arith, l, q))
    ];
  }

  pub filled_end : (i : ℕ) → size ≤ i → Filled f size xs i → Filled f size xs size
  filled_end i h r = record { long = r.long; is = λ j l. r.is j (omega (arith, l, h)) }

-- ---- a row, and the members at a version

pub row_stored : (S : Specs) (given : Map (Map (Option ℕ))) (rows : List ℕ) (v m : ℕ) → Filled (row_number S given) 2048 rows 2048 → v < 64 → m < 32
    → get_or rows (v * 32 + m) 0 ≡ stored_at S given v m
row_stored S given rows v m r hv hm = r.is (v * 32 + m) (omega (arith, hv, hm)) ∙ ap₂ (stored_at S given) quotient rest
  where
    quotient : (v * 32 + m) / 32 ≡ v
    quotient = omega (arith, hm)

    rest : (v * 32 + m) % 32 ≡ m
    rest = omega (arith, hm)

-- a row of 32 that is put in
module _ (rows row : List ℕ) (v : ℕ) (v< : v < 64) (long : length rows ≡ 2048) (row_long : length row ≡ 32) where
  start< : v * 32 ≤ length rows
  start< = omega (arith, v<, long)

  put_long : length (row_put rows v row) ≡ 2048
  unfolding row_put
  put_long = length-paste rows (v * 32) row 32 (omega (arith, v<, long)) (omega (arith, row_long)) ∙ long

  put_within : (i m : ℕ) → m < 32 → i ≡ v * 32 + m → get_or (row_put rows v row) i 0 ≡ get_or row m 0
  unfolding row_put
  put_within i m m< e = paste_within rows row (v * 32) 32 i start< row_long m m< e

  put_elsewhere : (i : ℕ) → ((m : ℕ) → m < 32 → i ≢ v * 32 + m) → get_or (row_put rows v row) i 0 ≡ get_or rows i 0
  unfolding row_put
  put_elsewhere i ne = paste_other rows row (v * 32) 32 i start< row_long ne

pub one_row : (S : Specs) (k : Map (Option ℕ)) (rows row : List ℕ) (v m : ℕ) → length rows ≡ 2048 → Filled (stored_in S k) 32 row 32 → v < 64 → m < 32
    → get_or (row_put rows v row) (v * 32 + m) 0 ≡ stored_in S k m
one_row S k rows row v m long filled v< m< = put_within rows row v v< long filled.long (v * 32 + m) m m< refl ∙ filled.is m m<

module _ (S : Specs) (g : Kept (Kept (Found ℕ) 32) 64) where
  abbrev Before : List ℕ → ℕ → Type 0
  Before = RowsBefore S (compositions_view g).given

  pub rows_start : Before (replicate 2048 0) 0
  rows_start = record {
    long = length-replicate {A = ℕ} 2048 0;
    filled_in = λ i l. absurd (omega (arith, l));
    empty = λ i h l. get_or-replicate 2048 i 0 0 l;
  }

  module _ (rows : List ℕ) (v : ℕ) (r : Before rows v) (v< : v < 64) where
    at_version : (i : ℕ) → v * 32 ≤ i → i < (v + 1) * 32 → i / 32 ≡ v
    at_version i h l = omega (arith, h, l)

    pub rows_without : maybe None ≡ (view g).given v → Before rows (v + 1)
    rows_without e = record {
      long = r.long;
      filled_in = λ i l. elim (bool? (i <? v * 32)) [
        | inl t ↦ r.filled_in i (<?_out _ _ t)
        | inr f ↦ r.empty i (<?_no _ _ f) (omega (arith, l, v<)) ∙ stored_none S g v (i % 32) e
            ∙ ap (λ (w : ℕ). stored_at S (compositions_view g).given w (i % 32)) (sym (at_version i (<?_no _ _ f) l))
      ];
      empty = λ i h. r.empty i (omega (arith, h));
    }

    module _ (k : Kept (Found ℕ) 32) (row then : List ℕ) (filled : Filled (stored_in S (composition_of k)) 32 row 32)
        (put : then ≡ row_put rows v row) where
      elsewhere : (i : ℕ) → ((m : ℕ) → m < 32 → i ≢ v * 32 + m) → get_or then i 0 ≡ get_or rows i 0
      elsewhere = rw put (put_elsewhere rows row v v< r.long filled.long)

      in_row : (i : ℕ) → v * 32 ≤ i → i < (v + 1) * 32 → get_or then i 0 ≡ stored_in S (composition_of k) (i % 32)
      in_row i h l = rw put (put_within rows row v v< r.long filled.long i (i % 32) (omega arith) (omega (arith, h, l)) ∙ filled.is (i % 32) (omega arith))

      pub rows_with : maybe (Some k) ≡ (view g).given v → Before then (v + 1)
      rows_with here = record {
        long = rw put (put_long rows row v v< r.long filled.long);
        filled_in = λ i l. elim (bool? (i <? v * 32)) [
          | inl t ↦ elsewhere i (λ m h q. omega (arith, <?_out _ _ t, q)) ∙ r.filled_in i (<?_out _ _ t)
          | inr f ↦ in_row i (<?_no _ _ f) l ∙ at_composition S g v (i % 32) k here
              ∙ ap (λ (w : ℕ). stored_at S (compositions_view g).given w (i % 32)) (sym (at_version i (<?_no _ _ f) l))
        ];
        empty = λ i h l. elsewhere i (λ m hm q. omega (arith, h, hm, q)) ∙ r.empty i (omega (arith, h)) l;
      }

  pub rows_end : (rows : List ℕ) (v : ℕ) → 64 ≤ v → Before rows v → Filled (row_number S (compositions_view g).given) 2048 rows 2048
  rows_end rows v h r = record { long = r.long; is = λ i l. r.filled_in i (omega (arith, l, h)) }

module _ (given : Map (Kept (Found ℕ) 32)) (v : ℕ) where
  pub members_listed : (k : Kept (Found ℕ) 32) → given v ≡ some k → members_at given v ≡ k.listed
  unfolding members_at option_map or_else
  members_listed k e = ap (λ o. or_else (option_map (λ (z : Kept (Found ℕ) 32). z.listed) o) 0) e

  pub members_some : (k : Kept (Found ℕ) 32) → maybe (Some k) ≡ given v → k.listed ≡ members_at given v
  unfolding maybe
  members_some k e = sym (members_listed k (sym e))

  pub members_none : maybe None ≡ given v → 0 ≡ members_at given v
  unfolding maybe members_at option_map or_else
  members_none e = ap (λ o. or_else (option_map (λ (z : Kept (Found ℕ) 32). z.listed) o) 0) e

pub ruleset version = (version_given, version_left_out, standard_fits)

pub ruleset place = (stored_no_member, stored_member)

pub ruleset places = (filled_start, filled_turn, filled_end)

pub ruleset rows = (rows_start, rows_without, rows_with, rows_end)

pub ruleset members = (members_some, members_none)
