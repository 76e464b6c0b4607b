-- Laws of the pieces of a line: what each writer's calls write, one after the other, is the piece.
use Rattle.std.specs.Prelude.{Bool, true, List, [], ◌++◌, ◌∷◌, map, ◌≡◌, refl, ℕ}
use Rattle.std.proofs.lemmas.Simd.{map-map}
use Rattle.std.specs.Prelude.{None, Option as Found, Some}
use Rattle.std.specs.Option.{unwrap_or}
use Rattle.sets.specs.Answered.{answered}
use Rattle.std.proofs.Math.Option.{Option, some}
use Rattle.std.proofs.Common.{◌∙◌}
use Rattle.std.proofs.Math.Path.{ap, ap₂, sym}
use Rattle.model.specs.Book.{Book, components, facilities, implementation, is_member, member, requires, standard, versions}
use Rattle.model.specs.Maps.{or_else}
use Rattle.names.specs.Stored.{Rows, table_of, tables_of}
use Rattle.seqs.specs.SameLaws.{same_is}
use Rattle.std.specs.Str.{bytes_eq}
use Rattle.sets.specs.Sets.{Set}
use Rattle.sets.specs.Tests.{if?◌then◌else◌}
use Rattle.text.specs.Bytes.{Text, bytes, same}
use Rattle.text.specs.Tables.{Table, name_at}
use Rattle.text.specs.Written.{by_name, commas, facility_names, member_piece, members_of, mod_piece, parted, requiring, spec_piece, sys_piece}
use Rattle.text_laws.specs.TextLaws.{or_at}
use Rattle.write_bytes.specs.ByName.{listed}
use Rattle.write_version.specs.Pieces.{led_by, member_text, mod_version, names_led, required_text, spec_version, sys_version}

or_zero : (r : Found ℕ) → unwrap_or r 0 ≡ or_else (answered r) 0
unfolding or_else answered
or_zero (Some k) = refl
or_zero None = refl

led_requiring : (l : List Text) → led_by (bytes " requires ") (bytes ", ") l ≡ requiring l
unfolding led_by requiring commas
led_requiring [] = refl
led_requiring (x ∷ xs) = refl

pub required_is : (facs : Table) (s : Set) → names_led (bytes " requires ") facs facilities s ≡ required_text facs s
unfolding names_led required_text
required_is facs s = led_requiring _

module _ (cs vs fs is : Rows) (b : Book) (c v : ℕ) where
  pub spec_version_is : {w u : Text} {k : ℕ} {d : Bool} {s : Set} → w ≡ name_at (table_of versions vs) v → k ≡ standard b.specs c
      → u ≡ name_at (table_of versions vs) k → d ≡ bytes_eq w u → s ≡ requires b.specs c v
      → (if? d then bytes "std " else []) ++ (w ++ required_text (table_of facilities fs) s) ≡ spec_version b (tables_of cs vs fs is) c v
  unfolding spec_version spec_piece tables_of required_text facility_names
  spec_version_is e f g h i =
      ap₂ (λ (x y : Text). x ++ y)
      (ap (λ (a : Bool). if? a then bytes "std " else [])
      (h ∙ same_is _ _ ∙ ap₂ same e (g ∙ ap (name_at (table_of versions vs)) f)))
      (ap₂ (λ (x y : Text). x ++ y) e (ap (required_text (table_of facilities fs)) i))

  pub mod_version_is : {w u : Text} (r : Found ℕ) {i n : ℕ} → w ≡ name_at (table_of versions vs) v
      → answered r ≡ implementation b.modules c v → i ≡ unwrap_or r 0 → n ≡ i → u ≡ name_at (table_of 256 is) n
      → w ++ (bytes " impl \"" ++ (u ++ bytes "\"")) ≡ mod_version b (tables_of cs vs fs is) c v
  unfolding mod_version mod_piece tables_of
  mod_version_is r e f g h k =
      ap₂ (λ (x y : Text). x ++ (bytes " impl \"" ++ (y ++ bytes "\""))) e
      (k ∙ ap (name_at (table_of 256 is)) (h ∙ g ∙ or_zero r ∙ ap (λ (o : Option ℕ). or_else o 0) f))

pub member_is : (cs vs fs is : Rows) (b : Book) (s v c : ℕ) {w u : Text} {n : ℕ} → w ≡ name_at (table_of components cs) c
    → member b.systems s v c ≡ some n → u ≡ name_at (table_of versions vs) n
    → w ++ (bytes "." ++ u) ≡ member_text b (tables_of cs vs fs is) s v c
unfolding member_text member_piece tables_of
member_is cs vs fs is b s v c e f g =
    ap₂ (λ (x y : Text). x ++ (bytes "." ++ y)) e (g ∙ ap (name_at (table_of versions vs)) (sym (or_at _ _ f)))

module _ (cs vs fs is : Rows) (b : Book) (c v : ℕ) where
  members_text : commas (map member_piece (members_of b (tables_of cs vs fs is) c v))
      ≡ listed (bytes ", ") (member_text b (tables_of cs vs fs is) c v) (table_of components cs) components (is_member b.systems c v)
  unfolding commas members_of tables_of listed member_text
  members_text = ap (parted (bytes ", ")) (map-map member_piece _ (by_name (table_of components cs) components (is_member b.systems c v)))

  pub sys_version_is : {w : Text} {s : Set} → w ≡ name_at (table_of versions vs) v → s ≡ is_member b.systems c v
      → w ++ (bytes " = " ++ listed (bytes ", ") (member_text b (tables_of cs vs fs is) c v) (table_of components cs) components s)
      ≡ sys_version b (tables_of cs vs fs is) c v
  unfolding sys_version sys_piece tables_of
  sys_version_is e f =
      ap₂ (λ (x y : Text). x ++ (bytes " = " ++ y)) e
      (ap (listed (bytes ", ") (member_text b (tables_of cs vs fs is) c v) (table_of components cs) components) f ∙ sym members_text)

-- a number of a set is in the same set
pub in_same : {s r : Set} {k : ℕ} → s ≡ r → s k ≡ true → r k ≡ true
in_same {k = k} e h = sym (ap (λ (a : Set). a k) e) ∙ h
