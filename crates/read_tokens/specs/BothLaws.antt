-- Laws of what may be missing.
use Rattle.std.specs.Option.{option_zip}
use Rattle.std.specs.Prelude.{None, Option, Some, true, ◌≡◌, is_some, option_map, unwrap_or}
use Rattle.std.proofs.Math.Path.{ap, refl}
use Rattle.sets.specs.TestLaws.{clash}
use Rattle.sets.specs.Tests.{◌&◌}
use Rattle.read_tokens.specs.Entering.{both}

pub none_some : {A B : Type 0} {x : A} → None ≡ Some x → B
none_some e = clash (ap is_some e) refl

pub some_same : {A : Type 0} {x y : A} → Some x ≡ Some y → x ≡ y
some_same {x = x} e = ap (λ o. unwrap_or o x) e

pub some_out : {A : Type 0} (o : Option A) → is_some o ≡ true → (x : A) × (o ≡ Some x)
some_out None e = clash e refl
some_out (Some x) e = (x, refl)

module _ {A B : Type 0} (f : A → B) where
  pub map_there : (o : Option A) → is_some (option_map f o) ≡ is_some o
  map_there None = refl
  map_there (Some x) = refl

  pub map_out : (o : Option A) {y : B} → option_map f o ≡ Some y → (x : A) × (o ≡ Some x) × (f x ≡ y)
  map_out None e = none_some e
  map_out (Some x) e = (x, refl, some_same e)

module _ {A B C : Type 0} (f : A → B → C) where
  pub both_there : (a : Option A) (b : Option B) → is_some (both f a b) ≡ (is_some a & is_some b)
  unfolding both ◌&◌
  both_there None b = refl
  both_there (Some x) None = refl
  both_there (Some x) (Some y) = refl

  pub both_out : (a : Option A) (b : Option B) {z : C} → both f a b ≡ Some z → (x : A) × (y : B) × (a ≡ Some x) × (b ≡ Some y) × (f x y ≡ z)
  unfolding both
  both_out None b e = none_some e
  both_out (Some x) None e = none_some e
  both_out (Some x) (Some y) e = (x, y, refl, refl, some_same e)

-- two that are there
module _ {A B : Type 0} where
  pub zip_there : (a : Option A) (b : Option B) → is_some (option_zip a b) ≡ (is_some a & is_some b)
  unfolding ◌&◌
  zip_there None b = refl
  zip_there (Some x) None = refl
  zip_there (Some x) (Some y) = refl

  pub zip_out : (a : Option A) (b : Option B) {z : A × B} → option_zip a b ≡ Some z
      → (x : A) × (y : B) × (a ≡ Some x) × (b ≡ Some y) × ((x, y) ≡ z)
  zip_out None b e = none_some e
  zip_out (Some x) None e = none_some e
  zip_out (Some x) (Some y) e = (x, y, refl, refl, some_same e)
