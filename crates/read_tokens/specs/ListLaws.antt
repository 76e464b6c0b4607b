-- A list parted by a mark, read entry by entry in a loop: for every reader of an entry, and all that is carried.
use Rattle.std.specs.Prelude.{Bool, false, List, [], ◌∷◌, ◌≡◌, refl, ◌≤◌, ℕ, length}
use Rattle.std.proofs.Math.Bool.{true}
use Rattle.std.proofs.Math.Option.{none, some}
use Rattle.std.proofs.Common.{◌∙◌, le_refl}
use Rattle.std.proofs.Math.Path.{ap}
use Rattle.model.specs.Maps.{and_then}
use Rattle.text.specs.Bytes.{Text}
use Rattle.text.specs.Language.{Reader, ◌>>=◌, ahead, give, list_of, when}
use Rattle.text.specs.Tokens.{Token}
use Rattle.text_laws.specs.Bounds.{list_step}
use Rattle.text_laws.specs.Takes.{Takes}
use Rattle.read_tokens.specs.Steps.{Each, Leads}

module _ {A : Type 0} (k : Token) (p : Reader A) (takes : Takes 1 p) where
  step_of : (u v w : Text) (x : A) (on : Bool) → p u ≡ some (x, v) → ahead k v ≡ some (on, w)
      → list_of k p u ≡ (when on [] (list_of k p) >>= (λ xs. give (x ∷ xs))) w
  unfolding ◌>>=◌ and_then
  step_of u v w x on e a = list_step k p takes u ∙ rw (e, a)

  pub list_none : (u : Text) → p u ≡ none → list_of k p u ≡ none
  unfolding ◌>>=◌ and_then
  list_none u e = list_step k p takes u ∙ rw e

  pub list_one : (u v w : Text) (x : A) → p u ≡ some (x, v) → ahead k v ≡ some (false, w) → list_of k p u ≡ some (x ∷ [], w)
  list_one u v w x e a = step_of u v w x false e a ∙ (unfold ◌>>=◌ and_then when give in refl)

  pub list_cons : (u v w z : Text) (x : A) (xs : List A) → p u ≡ some (x, v) → ahead k v ≡ some (true, w) → list_of k p w ≡ some (xs, z)
      → list_of k p u ≡ some (x ∷ xs, z)
  unfolding ◌>>=◌ and_then when give
  list_cons u v w z x xs e a q = step_of u v w x true e a ∙ rw q

  pub list_broken : (u v w : Text) (x : A) → p u ≡ some (x, v) → ahead k v ≡ some (true, w) → list_of k p w ≡ none
      → list_of k p u ≡ none
  unfolding ◌>>=◌ and_then when
  list_broken u v w x e a q = step_of u v w x true e a ∙ rw q

pub leads_start : {S A : Type 0} (k : Token) (p : Reader A) (R : S → S → A → Type 0) (t : Text) (at : ℕ) (s : S) → at ≤ length t
    → Leads k p R t at s at s
leads_start k p R t at s h = record { from = le_refl at; inside = h; on = λ e s' g. g; off = λ q. q }

-- the entries of a list, of states seen by f
pub each_on : {S T A : Type 0} (f : S → T) (R : T → T → A → Type 0) (s s'' : S) (xs : List A) → Each (λ s s' x. R (f s) (f s') x) s s'' xs
    → Each R (f s) (f s'') xs
unfolding Each
each_on f R s s'' [] e = ap f e
each_on f R s s'' (x ∷ xs) e = (f e.0, e.1, each_on f R e.0 s'' xs e.2)
