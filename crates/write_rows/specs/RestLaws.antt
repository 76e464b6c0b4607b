-- A row at the start of the rest of a slice, said of the whole slice and its room.
use Rattle.std.specs.Prelude.{◌⊎◌, List, None, Option, Some, SomeIff, ◌++◌, ◌≡◌, refl, ◌+◌, ◌-◌, ◌<◌, ◌≤◌, ℕ, drop, take}
use Rattle.std.proofs.Math.Bool.{false, true}
use Rattle.std.proofs.Common.{append_assoc, ◌∙◌, arith, length-append, length-drop, subst}
use Rattle.std.proofs.Math.Logic.{inl, inr}
use Rattle.std.proofs.Math.Option.{none, some, some-injective}
use Rattle.std.proofs.Math.Path.{ap, sym}
use Rattle.std.proofs.Math.ListN.{length}
use Rattle.std.proofs.Math.Seq.{length-take-le}
use Rattle.model_laws.specs.MapLaws.{no_some}
use Rattle.write_bytes.specs.Room.{Puts, room_of, written_in}
use Rattle.write_bytes.specs.Written.{starting_with, wrote}
use Rattle.seqs.specs.Filled.{filled}
use Rattle.seqs.specs.FilledLaws.{filled-length}
use Rattle.seqs.specs.RestLaws.{rest_back, rest_filled, rest_is}
use Rattle.sets.specs.Answered.{answered}
use Rattle.sets.specs.TestLaws.{and-true, bool?, clash, fails, if-false, if-true, ≤?_in, ≤?_out}
use Rattle.sets.specs.Tests.{◌≤?◌, if?◌then◌else◌}
use Rattle.text.specs.Bytes.{Text}
use Rattle.write_bytes.specs.declared.writer.Writer.{Writer}

-- n - k, and none where k is more
unfoldable pub less : ℕ → ℕ → Option ℕ
less n k = if? k ≤? n then Some (n - k) else None

-- where the bytes that are left start in a slice of n bytes: none where it is shorter, or something did not fit
abbrev pub start_of : Option ℕ → ℕ → Option ℕ
start_of (Some left) n = less n left
start_of None n = None

-- what is left behind a row
abbrev pub after : Option ℕ → Option ℕ → Option ℕ
after (Some left) (Some len) = less left len
after (Some left) None = None
after None row = None

-- ---- laws of these

found : {a b : ℕ} → Some a ≡ Some b → a ≡ b
unfolding answered
found e = some-injective _ _ (ap answered e)

lost : {A : Type 0} {a : ℕ} → None ≡ Some a → A
unfolding answered
lost e = no_some (ap answered e)

pub less_as : (n k : ℕ) {r : Option ℕ} → SomeIff r (k ≤ n) (n - k) → r ≡ less n k
unfolding less
less_as n k {r = r} h = by r h
  where
    by : (r : Option ℕ) → SomeIff r (k ≤ n) (n - k) → r ≡ (if? k ≤? n then Some (n - k) else None)
    by (Some x) e = ap Some e.1 ∙ sym (if-true _ _ _ (≤?_in _ _ e.0))
    by None e = sym (if-false _ _ _ (fails _ (λ t. e (≤?_out _ _ t))))

pub after_none : (l row : Option ℕ) {r : Option ℕ} → row ≡ None → r ≡ None → r ≡ after l row
after_none l row e f = f ∙ by l ∙ sym (ap (after l) e)
  where
    by : (l : Option ℕ) → None ≡ after l None
    by (Some k) = refl
    by None = refl

pub after_less : (l row : Option ℕ) {r : Option ℕ} {n k : ℕ} → l ≡ Some n → row ≡ Some k → SomeIff r (k ≤ n) (n - k) → r ≡ after l row
after_less l row {n = n} {k = k} e f h = less_as n k h ∙ sym (ap (λ (x : Option ℕ). after x row) e ∙ ap (after (Some n)) f)

less_some : (n k : ℕ) → k ≤ n → less n k ≡ Some (n - k)
unfolding less
less_some n k h = if-true _ _ _ (≤?_in _ _ h)

pub started : (l : Option ℕ) {r : Option ℕ} {n at : ℕ} → r ≡ start_of l n → r ≡ Some at → (k : ℕ) × (l ≡ Some k) × (k + at ≡ n)
unfolding less
started l {n = n} {at = at} e f = by l (sym e ∙ f)
  where
    by : (l : Option ℕ) → start_of l n ≡ Some at → (k : ℕ) × (l ≡ Some k) × (k + at ≡ n)
    by (Some k) g = elim (bool? (k ≤? n)) [
      | inl y ↦ (let h = ≤?_out _ _ y in let z : n - k ≡ at = found (sym (if-true _ _ _ y) ∙ g) in (k, refl, omega arith))
      | inr y ↦ lost (sym (if-false _ _ _ y) ∙ g)
    ]
    by None g = lost g

-- ---- what is lent on, the last n bytes of the slice from `at` on, and the whole slice when it is back

module _ (w : Text) (n at : ℕ) (old : List ℕ) (l : n + at ≡ length old) where
  abbrev rest : List ℕ
  rest = take (length old - at) (drop at old)

  rest_length : length rest ≡ n
  rest_length = ap length (rest_is old at) ∙ length-drop at old ∙ omega arith

  abbrev whole : List ℕ → List ℕ
  whole ys = take at old ++ (ys ++ drop (length old - at) (drop at old))

  whole_written : (ys : List ℕ) → ys ≡ filled w rest → whole ys ≡ written_in n w old
  unfolding written_in filled
  whole_written ys e =
      let t : length (take at old) ≡ at = length-take-le at old (omega arith) in
      let s : length old - n ≡ at = omega arith in
      rest_filled old w ys at e ∙ rw (s, length-append, t, append_assoc)

  whole_length : (ys : List ℕ) → length ys ≡ n → length (whole ys) ≡ length old
  whole_length ys e =
      let t : length (take at old) ≡ at = length-take-le at old (omega arith) in
      let a = ap length (rest_back old ys at) in
      let b = length-append (take at old) ys in omega arith

  row_fits : (ys : List ℕ) → length w ≤ n → ys ≡ filled w rest → Puts w (room_of (Some n)) (room_of (Some (n - length w))) old (whole ys)
  row_fits ys h u = record {
    fits = sym (and-true _ _ refl ∙ ≤?_in _ _ h);
    left = λ t. omega arith;
    keeps = whole_length ys (ap length u ∙ filled-length w rest (let m = rest_length in omega arith) ∙ rest_length);
    holds = λ t j. whole_written ys u;
  }

  row_misses : (ys : List ℕ) → n < length w → ys ≡ rest → Puts w (room_of (Some n)) (room_of None) old (whole ys)
  row_misses ys h u = record {
    fits = sym (and-true _ _ refl ∙ fails _ (λ t. let m = ≤?_out _ _ t in absurd (omega arith)));
    left = λ t. clash t refl;
    keeps = whole_length ys (ap length u ∙ rest_length);
    holds = λ t j. clash t refl;
  }

  more : (length w ≤? length rest) ≡ false → n < length w
  more y = let b = rest_length in omega (arith, λ (h : length w ≤ length rest). clash {A = ⊥} (≤?_in _ _ h) y)

  row_puts : (row : Option ℕ) (ys : List ℕ) → answered row ≡ wrote w rest → ys ≡ starting_with w rest
      → Puts w (room_of (Some n)) (room_of (after (Some n) row)) old (whole ys)
  unfolding wrote starting_with answered
  row_puts row ys e d = by row (bool? (length w ≤? length rest)) e
    where
      by : (row : Option ℕ) → ((length w ≤? length rest) ≡ true) ⊎ ((length w ≤? length rest) ≡ false)
          → answered row ≡ (if? length w ≤? length rest then some (length w) else none)
          → Puts w (room_of (Some n)) (room_of (after (Some n) row)) old (whole ys)
      by (Some len) (inl y) z =
          let k : len ≡ length w = some-injective _ _ (z ∙ if-true _ _ _ y) in
          let h : length w ≤ n = (let a = ≤?_out _ _ y in let b = rest_length in omega arith) in
          subst (λ (q : Option ℕ). Puts w (room_of (Some n)) (room_of q) old (whole ys))
          (ap (λ (x : ℕ). Some (n - x)) (sym k) ∙ sym (less_some n len (omega arith)))
          (row_fits ys h (d ∙ if-true _ _ _ y))
      by (Some len) (inr y) z = no_some (sym (z ∙ if-false _ _ _ y))
      by None (inl y) z = no_some (z ∙ if-true _ _ _ y)
      by None (inr y) z = row_misses ys (more y) (d ∙ if-false _ _ _ y)

-- the row that a writer lends the rest of its slice to
pub rest_puts : (w : Text) (a : Writer) {at : ℕ} {l : Option ℕ} (row : Option ℕ) {q : Option ℕ} {ys : List ℕ}
    → l ≡ start_of a.left (length a.out.now) → l ≡ Some at
    → answered row ≡ wrote w (take (length a.out.now - at) (drop at a.out.now))
    → ys ≡ starting_with w (take (length a.out.now - at) (drop at a.out.now)) → q ≡ after a.left row
    → Puts w (room_of a.left) (room_of q) a.out.now
    (take at a.out.now ++ (ys ++ drop (length a.out.now - at) (drop at a.out.now)))
rest_puts w a {at = at} row {q = q} {ys = ys} e f g h z =
    let k = started a.left e f in
    subst (λ (x : Option ℕ). Puts w (room_of a.left) (room_of x) a.out.now whole_of) (sym z)
    (subst (λ (x : Option ℕ). Puts w (room_of x) (room_of (after x row)) a.out.now whole_of) (sym k.1)
    (row_puts w k.0 at a.out.now k.2 row ys g h))
  where
    whole_of : List ℕ
    whole_of = take at a.out.now ++ (ys ++ drop (length a.out.now - at) (drop at a.out.now))
