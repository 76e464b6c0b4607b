-- Laws of readers read one after the other.
use Rattle.std.proofs.Math.Option.{Option, none, some}
use Rattle.std.specs.Prelude.{◌≡◌}
use Rattle.std.proofs.Math.Path.{refl}
use Rattle.model.specs.Maps.{and_then}
use Rattle.text.specs.Bytes.{Text}
use Rattle.text.specs.Language.{Reader, ◌>>=◌, ◌>>◌, give}

module _ {A B C : Type 0} where
  pub bind_bind : (p : Reader A) (f : A → Reader B) (g : B → Reader C) (u : Text) → ((p >>= f) >>= g) u ≡ (p >>= (λ x. f x >>= g)) u
  unfolding ◌>>=◌
  bind_bind p f g u = by (p u)
    where
      by : (o : Option (A × Text)) → and_then (and_then o (λ x. f x.0 x.1)) (λ y. g y.0 y.1)
          ≡ and_then o (λ x. and_then (f x.0 x.1) (λ y. g y.0 y.1))
      by none = unfold and_then in refl
      by (some x) = unfold and_then in refl

  pub then_bind : (p : Reader A) (q : Reader B) (g : B → Reader C) (u : Text) → ((p >> q) >>= g) u ≡ (p >> (q >>= g)) u
  unfolding ◌>>=◌ ◌>>◌
  then_bind p q g u = by (p u)
    where
      by : (o : Option (A × Text)) → and_then (and_then o (λ x. q x.1)) (λ y. g y.0 y.1)
          ≡ and_then o (λ x. and_then (q x.1) (λ y. g y.0 y.1))
      by none = unfold and_then in refl
      by (some x) = unfold and_then in refl

module _ {A B : Type 0} where
  pub bind_same : (p : Reader A) (f g : A → Reader B) → ((x : A) (v : Text) → f x v ≡ g x v) → (u : Text) → (p >>= f) u ≡ (p >>= g) u
  unfolding ◌>>=◌ and_then
  bind_same p f g h u = by (p u)
    where
      by : (o : Option (A × Text)) → and_then o (λ x. f x.0 x.1) ≡ and_then o (λ x. g x.0 x.1)
      by none = refl
      by (some x) = h x.0 x.1

  pub then_same : (p : Reader A) (q r : Reader B) → ((v : Text) → q v ≡ r v) → (u : Text) → (p >> q) u ≡ (p >> r) u
  unfolding ◌>>◌ and_then
  then_same p q r h u = by (p u)
    where
      by : (o : Option (A × Text)) → and_then o (λ x. q x.1) ≡ and_then o (λ x. r x.1)
      by none = refl
      by (some x) = h x.1

  pub give_bind : (a : A) (f : A → Reader B) (u : Text) → (give a >>= f) u ≡ f a u
  unfolding ◌>>=◌ and_then give
  give_bind a f u = refl
