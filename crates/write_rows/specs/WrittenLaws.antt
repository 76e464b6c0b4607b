-- A list with w written over its elements from b on: what it holds before, at and behind them; and when two lists agree in a
-- part.
use Rattle.std.specs.Prelude.{List, ◌++◌, ◌≡◌, ◌+◌, ◌-◌, ◌<◌, ◌≤◌, ℕ, drop, get_or, length, take}
use Rattle.std.proofs.Common.{◌∙◌, ap, sym, arith, length-append, length-drop, length-take, drop_at, ext_get_or, get_or-append-add, get_or-drop, get_or-take, length-take-le}
use Rattle.std.proofs.Math.ListN.{get_or-append}
use Rattle.std.proofs.Math.Seq.{take-append_seam}

module _ (xs w : List ℕ) (b : ℕ) (h : b + length w ≤ length xs) where
  start_length : length (take b xs) ≡ b
  start_length = length-take-le b xs (omega arith)

  pub written_length : length (take b xs ++ (w ++ drop (b + length w) xs)) ≡ length xs
  written_length =
      rw (length-append, length-append, length-drop, start_length)
      (let e : b + (length w + (length xs - (b + length w))) ≡ length xs = omega arith in e)

  pub written_before : (j : ℕ) → j < b → get_or (take b xs ++ (w ++ drop (b + length w) xs)) j 0 ≡ get_or xs j 0
  written_before j l =
      get_or-append (take b xs) _ 0 j (rw start_length l) ∙ get_or-take b xs j 0 l

  pub written_at : take (length w) (drop b (take b xs ++ (w ++ drop (b + length w) xs))) ≡ w
  written_at = rw (drop_at (take b xs) (w ++ drop (b + length w) xs) b start_length) (take-append_seam w _)

  pub written_behind : (j : ℕ) → b + length w ≤ j → get_or (take b xs ++ (w ++ drop (b + length w) xs)) j 0 ≡ get_or xs j 0
  written_behind j l =
      let m = j - (b + length w) in
      let e : length (take b xs) + (length w + m) ≡ j = (let s = start_length in omega arith) in
      let f : b + length w + m ≡ j = omega arith in
      ap (λ (i : ℕ). get_or (take b xs ++ (w ++ drop (b + length w) xs)) i 0) (sym e)
      ∙ get_or-append-add (take b xs) _ (length w + m) 0 ∙ get_or-append-add w _ m 0 ∙ get_or-drop (b + length w) xs m 0
      ∙ ap (λ (i : ℕ). get_or xs i 0) f

pub part_same : (n a : ℕ) (xs ys : List ℕ) → length xs ≡ length ys
    → ((j : ℕ) → a ≤ j → j < a + n → get_or xs j 0 ≡ get_or ys j 0) → take n (drop a xs) ≡ take n (drop a ys)
part_same n a xs ys e h =
    ext_get_or 0 _ _ (rw (length-take, length-take, length-drop, length-drop, e)) (λ i l. at i (lower i l))
  where
    lower : (i : ℕ) → i < length (take n (drop a xs)) → i < n
    lower i l = let q = length-take n (drop a xs) in omega arith

    at : (i : ℕ) → i < n → get_or (take n (drop a xs)) i 0 ≡ get_or (take n (drop a ys)) i 0
    at i l =
        get_or-take n (drop a xs) i 0 l ∙ get_or-drop a xs i 0 ∙ h (a + i) (omega arith) (omega arith)
        ∙ sym (get_or-take n (drop a ys) i 0 l ∙ get_or-drop a ys i 0)
