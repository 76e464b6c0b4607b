-- Laws of a list written by name: one number after another until none is left.
use Rattle.std.specs.Prelude.{true, ◌≡◌, ◌<◌, ℕ, length}
use mathlib.Core.List.{List, [], ◌++◌, ◌∷◌, append_assoc, append-nil, map}
use Rattle.std.proofs.Common.{◌∙◌}
use Rattle.std.proofs.Math.Option.{none, some}
use Rattle.std.proofs.Math.Path.{ap, refl, sym}
use Rattle.sets.specs.Sets.{Set, without}
use Rattle.sets.specs.TestLaws.{and_r}
use Rattle.text.specs.Bytes.{Text, bytes}
use Rattle.text.specs.Tables.{Table, name_at}
use Rattle.text.specs.Written.{by_name, parted}
use Rattle.write_bytes.specs.ByName.{first_by_name, listed}
use Rattle.write_bytes.specs.ByNameLaws.{fewer, first_none, first_passes, next_is}
use Rattle.write_bytes.specs.Writes.{Writes}
use Rattle.write_bytes.specs.WritesLaws.{WritesPartly, writes_then, writing_as, writing_end, writing_more}
use Rattle.write_bytes.specs.declared.writer.Writer.{Writer}
use Rattle.write_version.specs.Pieces.{led_by, names_led, names_of}

-- the next of some pieces, and those behind it
next_piece : (s p x : Text) (xs : List Text) → led_by s p (x ∷ xs) ≡ (s ++ x) ++ led_by p p xs
unfolding led_by parted
next_piece s p x [] = sym (append-nil (s ++ x))
next_piece s p x (y ∷ ys) = sym (append_assoc s x (p ++ parted p (y ∷ ys)))

led_by_none : (p : Text) (xs : List Text) → led_by [] p xs ≡ parted p xs
unfolding led_by parted
led_by_none p [] = refl
led_by_none p (x ∷ xs) = refl

-- the names of the numbers, where nothing stands before the first
pub not_led : (t : Table) (n : ℕ) (s : Set) → names_led [] t n s ≡ names_of t n s
unfolding names_led names_of listed
not_led t n s = led_by_none (bytes ", ") (map (name_at t) (by_name t n s))

-- the numbers that are left of those of s₀
pub record Within (s s₀ : Set) : Type 0 where
  pub within : (x : ℕ) → s x ≡ true → s₀ x ≡ true

pub within_start : (s : Set) → Within s s
within_start s = record { within = λ x h. h }

module _ (t : Table) (n : ℕ) (s : Set) {k : ℕ} (e : first_by_name t n s ≡ some k) where
  pub next_in : {s₀ : Set} → Within s s₀ → s₀ k ≡ true
  next_in w = w.within k (first_passes t n s k e)

  module _ {s' : Set} (d : s' ≡ without s k) where
    pub within_turn : {s₀ : Set} → Within s s₀ → Within s' s₀
    unfolding without
    within_turn w = record { within = λ x z. w.within x (and_r _ _ (sym (ap (λ (r : Set). r x) d) ∙ z)) }

    -- there are fewer then
    pub list_less : length (by_name t n s') < length (by_name t n s)
    list_less = fewer t n k s s' e d

    pub list_turn : (p : Text) (f : ℕ → Text) {whole sep : Text} {i j q r : Writer}
        → WritesPartly whole (led_by sep p (map f (by_name t n s))) i j → Writes sep j q → Writes (f k) q r
        → WritesPartly whole (led_by p p (map f (by_name t n s'))) i r
    list_turn p f {sep = sep} g o o' = writing_more (writing_as apart g) (writes_then o o')
      where
        apart : led_by sep p (map f (by_name t n s)) ≡ (sep ++ f k) ++ led_by p p (map f (by_name t n s'))
        apart = ap (λ (l : List ℕ). led_by sep p (map f l)) (next_is t n k s s' e d) ∙ next_piece sep p (f k) (map f (by_name t n s'))

-- none is left
pub list_end : (t : Table) (n : ℕ) (s : Set) (sep p : Text) (f : ℕ → Text) {whole : Text} {i j : Writer} → first_by_name t n s ≡ none
    → WritesPartly whole (led_by sep p (map f (by_name t n s))) i j → Writes whole i j
unfolding led_by
list_end t n s sep p f h g =
    writing_end (writing_as (ap (λ (l : List ℕ). led_by sep p (map f l)) (first_none t n s h)) g)

-- nothing stands before the first
pub listed_is : (p : Text) (f : ℕ → Text) (t : Table) (n : ℕ) (s : Set) → led_by [] p (map f (by_name t n s)) ≡ listed p f t n s
unfolding listed
listed_is p f t n s = led_by_none p _
