-- Laws of the rows of an answer, and of the loops that write them.
use Rattle.std.specs.Prelude.{Bool, Err, None, Ok, Option, Result as Found, Some, ◌≡◌, get_or, length}
use Rattle.std.specs.Result.{result_ok}
use Rattle.std.proofs.Math.Bool.{false, true}
use mathlib.Core.List.{List, [], ◌++◌, ◌∷◌, map}
use Rattle.std.proofs.Common.{append-nil, ◌∙◌, sym, drop_of_length-le, drop-cons}
use Rattle.std.proofs.Math.Path.{ap, refl}
use Prim.Native.Nat.{◌%◌, ◌+◌, ◌-◌, ◌/◌, ◌<◌, ◌≤◌, suc, ℕ}
use native.Mathlib.Omega.{arith}
use Rattle.std.proofs.Math.ListN.{drop}
use Rattle.write_bytes.specs.Writes.{Writes}
use Rattle.write_bytes.specs.WritesLaws.{WritesPartly, writes_as, writes_none, writes_then, writing_as, writing_end, writing_more, writing_start}
use Rattle.write_bytes.specs.declared.writer.Writer.{Writer}
use Rattle.model.specs.Lists.{from, keep, rising}
use Rattle.query_replies.specs.Replied.{numbers_in}
use Rattle.refusal.specs.Numbers.{code}
use Rattle.refusal.specs.declared.Refusal.{Refusal}
use Rattle.sets.specs.Sets.{bit}
use Rattle.sets.specs.TestLaws.{if-false, if-true}
use Rattle.sets.specs.Tests.{if?◌then◌else◌}
use Rattle.text.specs.Bytes.{Text}
use Rattle.text.specs.Session.{decimal, lines, pair_row, row}
use Rattle.text.specs.Tables.{Table, Tables, joined, name_at}
use Rattle.session_rows.specs.Rows.{comes_of, names_in, one_of, pair_in, pairs_in, rows_of}

-- ---- the numbers of a set

module _ (i : ℕ) (t : Table) (set k : ℕ) {m : Bool} (e : m ≡ bit set k) where
  pub row_missed : (a : Writer) → m ≡ false → Writes (if? bit set k then row i (name_at t k) else []) a a
  row_missed a h = writes_as (sym (if-false _ _ _ (sym e ∙ h))) (writes_none a)

  pub row_put : {a b : Writer} → m ≡ true → Writes (row i (name_at t k)) a b → Writes (if? bit set k then row i (name_at t k) else []) a b
  row_put h f = writes_as (sym (if-true _ _ _ (sym e ∙ h))) f

-- the numbers from k on are to come
unfoldable pub numbers_from : ℕ → ℕ → List ℕ
numbers_from set k = from (64 - k) k (bit set)

module _ (i : ℕ) (t : Table) (set : ℕ) where
  first_of : (b : Bool) (x : ℕ) (xs : List ℕ)
      → rows_of i (map (name_at t) (keep b x xs)) ≡ (if? b then row i (name_at t x) else []) ++ rows_of i (map (name_at t) xs)
  unfolding keep rows_of joined if?◌then◌else◌
  first_of true x xs = refl
  first_of false x xs = refl

  numbers_next : (k : ℕ) → k < 64 → numbers_from set k ≡ keep (bit set k) k (numbers_from set (k + 1))
  unfolding numbers_from from
  numbers_next k h =
      let e : 64 - k ≡ suc (64 - (k + 1)) = omega arith in let e' : suc k ≡ k + 1 = omega arith in
      ap (λ (m : ℕ). from m k (bit set)) e ∙ ap (λ (j : ℕ). keep (bit set k) k (from (64 - (k + 1)) j (bit set))) e'

  pub set_start : (a : Writer) → WritesPartly (rows_of i (names_in t set)) (rows_of i (map (name_at t) (numbers_from set 0))) a a
  unfolding names_in numbers_in numbers_from rising
  set_start a = writing_start _ a

  module _ (k : ℕ) {a b : Writer} (f : WritesPartly (rows_of i (names_in t set)) (rows_of i (map (name_at t) (numbers_from set k))) a b) where
    pub set_turn : {c : Writer} → k < 64 → Writes (if? bit set k then row i (name_at t k) else []) b c
        → WritesPartly (rows_of i (names_in t set)) (rows_of i (map (name_at t) (numbers_from set (k + 1)))) a c
    set_turn h g =
        writing_more (writing_as (ap (λ (l : List ℕ). rows_of i (map (name_at t) l)) (numbers_next k h) ∙ first_of (bit set k) k _) f) g

    pub set_end : 64 ≤ k → Writes (rows_of i (names_in t set)) a b
    unfolding numbers_from from rows_of joined
    set_end h = let e : 64 - k ≡ 0 = omega arith in
        writing_end (writing_as (ap (λ (m : ℕ). rows_of i (map (name_at t) (from m k (bit set)))) e) f)

-- ---- an answer, with the rows of what was found

module _ {A : Type 0} (i : ℕ) (ws : A → List Text) {x y : Writer} where
  -- by the row of the answer
  pub rows_put : (r : Found A Refusal) (v : A) → Some v ≡ result_ok r → {z : Writer} → Writes (row i (decimal (code r))) x y
      → Writes (rows_of i (ws v)) y z → Writes (lines i (comes_of ws r)) x z
  unfolding lines comes_of rows_of
  rows_put (Ok u) v e {z = z} f g =
      writes_as (ap (λ (o : Option A). elim o [ Some w ↦ row i (decimal 0) ++ rows_of i (ws w) | None ↦ [] ]) e)
      (writes_then f g)
  rows_put (Err e) v q f g = cc

  pub rows_none : (r : Found A Refusal) → None ≡ result_ok r → Writes (row i (decimal (code r))) x y → Writes (lines i (comes_of ws r)) x y
  unfolding lines comes_of
  rows_none (Ok u) e f = cc
  rows_none (Err e) q f = f

pub one_put : (i : ℕ) (t : Table) (k : ℕ) {a b : Writer} → Writes (row i (name_at t k)) a b → Writes (rows_of i (one_of t k)) a b
unfolding rows_of one_of joined
one_put i t k f = writes_as (sym (append-nil (row i (name_at t k)))) f

-- ---- pairs

pub pair_put : (i : ℕ) (t : Tables) {k x : ℕ} → k ≡ x → {a b : Writer} → Writes (row i (pair_row t (k / 64, k % 64))) a b
    → Writes (row i (pair_in t x)) a b
unfolding pair_in
pair_put i t e f = writes_as (ap (λ (n : ℕ). row i (pair_row t (n / 64, n % 64))) e) f

-- those from k on are to come
module _ (i : ℕ) (t : Tables) (ks : List ℕ) where
  unfoldable pub pairs_from : ℕ → Text
  pairs_from k = rows_of i (map (pair_in t) (drop k ks))

  pub pairs_start : (a : Writer) → WritesPartly (rows_of i (pairs_in t ks)) (pairs_from 0) a a
  unfolding pairs_in pairs_from
  pairs_start a = writing_start _ a

  module _ (k : ℕ) {a b : Writer} (f : WritesPartly (rows_of i (pairs_in t ks)) (pairs_from k) a b) where
    pairs_next : k < length ks → pairs_from k ≡ row i (pair_in t (get_or ks k 0)) ++ pairs_from (k + 1)
    unfolding pairs_from rows_of joined
    pairs_next l =
        let e : suc k ≡ k + 1 = omega arith in
        ap (λ (xs : List ℕ). rows_of i (map (pair_in t) xs))
        (drop-cons ks k 0 l ∙ ap (λ (m : ℕ). get_or ks k 0 ∷ drop m ks) e)

    pub pairs_turn : {c : Writer} → k < length ks → Writes (row i (pair_in t (get_or ks k 0))) b c
        → WritesPartly (rows_of i (pairs_in t ks)) (pairs_from (k + 1)) a c
    pairs_turn l g = writing_more (writing_as (pairs_next l) f) g

    pub pairs_end : length ks ≤ k → Writes (rows_of i (pairs_in t ks)) a b
    unfolding pairs_from rows_of joined
    pairs_end l = writing_end (writing_as (ap (λ (xs : List ℕ). rows_of i (map (pair_in t) xs)) (drop_of_length-le ks l)) f)
