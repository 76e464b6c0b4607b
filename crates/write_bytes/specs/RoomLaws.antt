-- Laws of writing piece by piece: one word, one piece after another, and a loop that has written a part.
use Rattle.std.specs.Prelude.{Bool, None, Some, false, not, true, List, [], ◌++◌, ◌≡◌, refl, ◌+◌, ◌-◌, ◌<◌, ◌≤◌, ℕ}
use Rattle.std.proofs.Common.{append_assoc, append-nil, ◌∙◌, subst, zero-le, add-zero, arith, length-append, take-append-drop}
use Rattle.std.proofs.Math.Path.{ap, sym}
use Rattle.std.proofs.lemmas.Bool.{not-false, not-true}
use Rattle.std.proofs.Math.ListN.{drop, length, take}
use Rattle.std.proofs.Math.Seq.{drop-drop, length-take-le}
use Rattle.seqs.specs.Filled.{filled}
use Rattle.seqs.specs.FilledLaws.{filled_at, filled-length}
use Rattle.sets.specs.TestLaws.{and-false, and-true, and_in, and_l, and_r, clash, fails, if-false, if-true, iff→≡, ≤?_in, ≤?_out}
use Rattle.sets.specs.Tests.{◌&◌, ◌≤?◌, if?◌then◌else◌}
use Rattle.text.specs.Bytes.{Text}
use Rattle.write_bytes.specs.Room.{Puts, Room, room_of, written_in}

-- ---- one word

module _ (w : Text) (old : List ℕ) where
  pub put_after_miss : Puts w (room_of None) (room_of None) old old
  put_after_miss = record {
    fits = sym (and-false _ _ refl);
    left = λ t. clash t refl;
    keeps = refl;
    holds = λ t l. clash t refl;
  }

  module _ (n : ℕ) where
    pub put_miss : n < length w → Puts w (room_of (Some n)) (room_of None) old old
    put_miss h = record {
      fits = sym (and-true _ _ refl ∙ fails _ (λ t. let l = ≤?_out _ _ t in absurd (omega arith)));
      left = λ t. clash t refl;
      keeps = refl;
      holds = λ t l. clash t refl;
    }

    module _ (m : ℕ) (e : m + length w ≡ n) where
      fit : true ≡ (true & length w ≤? n)
      fit = sym (and_in _ _ refl (≤?_in _ _ (omega arith)))

      -- a slice that is too short is not written
      pub put_measured : length old < n → Puts w (room_of (Some n)) (room_of (Some m)) old old
      put_measured g = record {
        fits = fit;
        left = λ t. e;
        keeps = refl;
        holds = λ t l. absurd (omega arith);
      }

      pub put_written : (a : ℕ) (ys : List ℕ) → n ≤ length old → a ≡ length old - n → ys ≡ w
          → Puts w (room_of (Some n)) (room_of (Some m)) old (take a old ++ (ys ++ drop (a + length w - a) (drop a old)))
      unfolding written_in filled
      put_written a ys g d c =
          let l : length (take a old) ≡ a = length-take-le a old (omega arith) in
          let z : a + length w - a ≡ length w = omega arith in
          let q : take a old ++ (ys ++ drop (a + length w - a) (drop a old)) ≡ filled (take a old ++ w) old =
          rw (c, z, drop-drop, length-append, l, append_assoc) refl in
          record {
            fits = fit;
            left = λ t. e;
            keeps = ap length q ∙ filled-length (take a old ++ w) old (rw (length-append, l) (omega arith));
            holds = λ t k. q ∙ ap (λ (i : ℕ). filled (take i old ++ w) old) d;
          }

-- ---- one piece after another

part : (j : ℕ) (w b : Text) → j ≤ length b → filled (take j b ++ w) b ≡ take j b ++ (w ++ drop (j + length w) b)
unfolding filled
part j w b h = rw (length-append, length-take-le j b h, append_assoc)

written_none : (n : ℕ) (a : Text) → written_in n [] a ≡ a
unfolding written_in
written_none n a = part (length a - n) [] a (omega arith) ∙ rw add-zero (take-append-drop (length a - n) a)

written_then : (n m : ℕ) (v w a b : Text) → n ≤ length a → m + length v ≡ n → length b ≡ length a → b ≡ written_in n v a
    → written_in m w b ≡ written_in n (v ++ w) a
unfolding written_in
written_then n m v w a b h e k f =
    part (length b - m) w b (omega arith)
    ∙ ap (λ (x : Text). take (length b - m) x ++ (w ++ drop (length b - m + length w) x)) f
    ∙ filled_at (take (length a - n) a ++ v) w a (length b - m) long
    ∙ ap (λ (x : Text). filled x a) (append_assoc (take (length a - n) a) v w)
  where
    long : length b - m ≡ length (take (length a - n) a ++ v)
    long =
        let l : length (take (length a - n) a) ≡ length a - n = length-take-le (length a - n) a (omega arith) in
        let s = length-append (take (length a - n) a) v in omega arith

pub puts_none : (p : Room) (old : List ℕ) → Puts [] p p old old
puts_none p old = record {
  fits = iff→≡ _ _ (λ t. and_in _ _ t (≤?_in _ _ zero-le)) (λ t. and_l _ _ t);
  left = λ t. omega arith;
  keeps = refl;
  holds = λ t l. sym (written_none p.left old);
}

pub puts_then : {v w : Text} {p q r : Room} {a b c : List ℕ} → Puts v p q a b → Puts w q r b c → Puts (v ++ w) p r a c
puts_then {v = v} {w = w} {p = p} {q = q} {r = r} {a = a} {b = b} {c = c} f g = record {
  fits = iff→≡ _ _ there back;
  left = λ t. let k = f.left (first t) in let l = g.left t in let m = length-append v w in omega arith;
  keeps = g.keeps ∙ f.keeps;
  holds = both;
}
  where
    first : r.fits ≡ true → q.fits ≡ true
    first t = and_l _ _ (sym g.fits ∙ t)

    there : r.fits ≡ true → (p.fits & length (v ++ w) ≤? p.left) ≡ true
    there t =
        let k = f.left (first t) in let l = g.left t in let m = length-append v w in
        and_in _ _ (and_l _ _ (sym f.fits ∙ first t)) (≤?_in _ _ (omega arith))

    back : (p.fits & length (v ++ w) ≤? p.left) ≡ true → r.fits ≡ true
    back t =
        let m = length-append v w in
        let h = ≤?_out _ _ (and_r _ _ t) in
        let s : q.fits ≡ true = f.fits ∙ and_in _ _ (and_l _ _ t) (≤?_in _ _ (omega arith)) in
        let k = f.left s in
        g.fits ∙ and_in _ _ s (≤?_in _ _ (omega arith))

    both : r.fits ≡ true → p.left ≤ length a → c ≡ written_in p.left (v ++ w) a
    both t h =
        let k = f.left (first t) in let m = f.keeps in
        g.holds t (omega arith) ∙ written_then p.left q.left v w a b h k m (f.holds (first t) h)

-- what was written may be said otherwise
pub puts_as : {v w : Text} {p q : Room} {a b : List ℕ} → v ≡ w → Puts v p q a b → Puts w p q a b
puts_as {p = p} {q = q} {a = a} {b = b} e f = subst (λ (x : Text). Puts x p q a b) e f

pub if-asked : (b : Bool) {w : Text} {p q : Room} {a c : List ℕ} → not b ≡ false → Puts w p q a c
    → Puts (if? b then w else []) p q a c
if-asked b h f = puts_as (sym (if-true _ _ _ (not-false _ h))) f

pub if-not-asked : (b : Bool) (w : Text) {p : Room} {a : List ℕ} → not b ≡ true → Puts (if? b then w else []) p p a a
if-not-asked b w {p = p} {a = a} h = puts_as (sym (if-false _ _ _ (not-true _ h))) (puts_none p a)

-- ---- a loop

-- the start of the text `whole` is written, and `todo` is to come
pub record Partly (whole todo : Text) (p q : Room) (old new : List ℕ) : Type 0 where
  pub done : Text
  pub is : done ++ todo ≡ whole
  pub puts : Puts done p q old new

pub partly_start : (w : Text) (p : Room) (old : List ℕ) → Partly w w p p old old
partly_start w p old = record { done = []; is = refl; puts = puts_none p old }

pub partly_more : {whole v todo : Text} {p q r : Room} {a b c : List ℕ} → Partly whole (v ++ todo) p q a b → Puts v q r b c
    → Partly whole todo p r a c
partly_more {v = v} {todo = todo} f g = record {
  done = f.done ++ v;
  is = append_assoc f.done v todo ∙ f.is;
  puts = puts_then f.puts g;
}

pub partly_as : {whole v w : Text} {p q : Room} {a b : List ℕ} → v ≡ w → Partly whole v p q a b → Partly whole w p q a b
partly_as {whole = whole} {p = p} {q = q} {a = a} {b = b} e f = subst (λ (x : Text). Partly whole x p q a b) e f

pub partly_end : {whole : Text} {p q : Room} {a b : List ℕ} → Partly whole [] p q a b → Puts whole p q a b
partly_end f = puts_as (sym (append-nil f.done) ∙ f.is) f.puts

pub partly_keeps : {whole todo : Text} {p q : Room} {a b : List ℕ} → Partly whole todo p q a b → length b ≡ length a
partly_keeps f = f.puts.keeps
