-- What the code answers that reads from a position of the text: it stands for a reader of crate text, `p`.
use Rattle.std.specs.Prelude.{Bool, ◌≡◌, ◌≤◌, ℕ, drop, length}
use Rattle.std.proofs.Math.Option.{some}
use Rattle.text.specs.Bytes.{Text, keywords}
use Rattle.text.specs.Language.{Reader}
use Rattle.text.specs.Tables.{name_at}
use Rattle.text.specs.Tokens.{Token, word}

-- from `at` on p reads a value up to position e, and R holds of the value
pub record Got {A : Type 0} (p : Reader A) (R : A → Type 0) (t : Text) (at e : ℕ) : Type 0 where
  pub value : A
  pub is : p (drop at t) ≡ some (value, drop e t)
  pub took : R value
  pub from : at ≤ e
  pub inside : e ≤ length t

-- nothing more is said of the value
pub record Any {A : Type 0} (x : A) : Type 0 where

-- the value is this flag
pub record Told (b : Bool) (x : Bool) : Type 0 where
  pub is : x ≡ b

-- ---- tokens

-- the keyword k as a token
unfoldable pub key_at : ℕ → Token
key_at k = word (name_at keywords k)
