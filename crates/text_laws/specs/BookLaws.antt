-- What follows from what a book says.
use Rattle.std.specs.Prelude.{true, ◌≡◌, ℕ}
use Rattle.std.proofs.Math.Option.{some}
use Rattle.model.specs.Book.{Modules, Specs, implementation, is_module, provides, specified}
use Rattle.model_laws.specs.MapLaws.{and_then_out, has_out, is_some_in}

pub provides_specified : (S : Specs) (c f : ℕ) → provides S c f ≡ true → specified S c ≡ true
unfolding provides specified
provides_specified S c f e = is_some_in _ (has_out _ _ e).1

pub implementation_module : (M : Modules) (c v i : ℕ) → implementation M c v ≡ some i → is_module M c ≡ true
unfolding implementation is_module
implementation_module M c v i e = is_some_in _ (and_then_out _ _ i e).1
