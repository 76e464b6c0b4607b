-- Where a word stands that was read.
use Rattle.std.specs.Prelude.{◌≡◌, ◌<◌, ◌≤◌, ℕ, length}
use Rattle.text.specs.Bytes.{Text}
use Rattle.words.specs.Reading.{part}

-- the word w is the part of the text t up to position e, of a byte at least; it starts at the position `at` or behind it
pub record StandsTo (t : Text) (at e : ℕ) (w : Text) : Type 0 where
  pub start : ℕ
  pub from : at ≤ start
  pub is : w ≡ part t start e
  pub some_bytes : start < e
  pub inside : e ≤ length t

-- two words, one behind the other
pub record BothStand (t : Text) (at e : ℕ) (w x : Text) : Type 0 where
  pub between : ℕ
  pub first : StandsTo t at between w
  pub second : StandsTo t between e x
