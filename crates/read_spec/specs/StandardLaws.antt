-- "Exactly one version of a spec carries "std"."
use Rattle.std.specs.Prelude.{true, List, [], Option, Some, ◌∷◌, ◌≡◌, ℕ, is_some}
use Rattle.std.proofs.Math.Logic.{inl, inr}
use Rattle.std.proofs.Common.{◌∙◌, ap₂}
use Rattle.std.proofs.Math.Path.{ap, subst, sym}
use Rattle.sets.specs.TestLaws.{bool?, if-false, if-true}
use Rattle.text.specs.Language.{Name, standards}
use Rattle.text.specs.Tables.{Table, number}
use Rattle.model.specs.Book.{versions}
use Rattle.read_tokens.specs.Growth.{Longer}
use Rattle.read_tokens.specs.GrowthLaws.{enters_longer, enters_number, longer_same, longer_then}
use Rattle.read_tokens.specs.Steps.{Each}
use Rattle.read_spec.specs.Asked.{SpecState, SpecStep, carried}
use Rattle.read_spec.specs.SpecLaws.{Version, sets_before, step_room}
use Rattle.read_spec.specs.declared.Standard.{Standard}
use Rattle.read_spec.specs.declared.Standard.TheVariants.{Missing, Once, Twice}

pub once_same : {o p : Option ℕ} → Once o ≡ Once p → o ≡ p
once_same {o = o} e = ap (λ s. place o s) e
  where
    place : Option ℕ → Standard → Option ℕ
    place o Missing = o
    place o (Once p) = p
    place o Twice = o

vers_longer : (s s' : SpecState) (xs : List Version) → Each SpecStep s s' xs → Longer s.vers s'.vers
unfolding Each
vers_longer s s' [] e = subst (λ (z : SpecState). Longer s.vers z.vers) e (longer_same s.vers)
vers_longer s s' (x ∷ xs) e =
    longer_then _ _ _ (enters_longer versions s.vers e.0.vers e.1.place x.1.0 e.1.enters) (vers_longer e.0 s' xs e.2)

-- after two versions with "std"
twice_stays : (s s' : SpecState) (xs : List Version) → Each SpecStep s s' xs → s.standard ≡ Twice → s'.standard ≡ Twice
unfolding Each carried
twice_stays s s' [] e y = ap (λ (z : SpecState). z.standard) (sym e) ∙ y
twice_stays s s' (x ∷ xs) e y = twice_stays e.0 s' xs e.2 (elim (bool? x.0) [
  | inl b ↦ e.1.standard ∙ ap₂ (λ a c. carried a c e.1.place) b y
  | inr b ↦ e.1.standard ∙ ap₂ (λ a c. carried a c e.1.place) b y
])

-- after one: the names of those that carry it too
Once_then : Option ℕ → SpecState → List Name → Type 0
Once_then o s [] = s.standard ≡ Once o
Once_then o s (w ∷ ws) = s.standard ≡ Twice

once_then : (s s' : SpecState) (xs : List Version) (o : Option ℕ) → Each SpecStep s s' xs → s.standard ≡ Once o → Once_then o s' (standards xs)
unfolding Each standards carried Once_then
once_then s s' [] o e y = ap (λ (z : SpecState). z.standard) (sym e) ∙ y
once_then s s' (x ∷ xs) o e y = elim (bool? x.0) [
  | inl b ↦ subst (Once_then o s') (sym (if-true _ _ _ b))
      (twice_stays e.0 s' xs e.2 (e.1.standard ∙ ap₂ (λ a c. carried a c e.1.place) b y))
  | inr b ↦ subst (Once_then o s') (sym (if-false _ _ _ b)) (once_then e.0 s' xs o e.2 (e.1.standard ∙ ap₂ (λ a c. carried a c e.1.place) b y))
]

-- the standard version w at the place o
pub record Carries (s : SpecState) (o : Option ℕ) (w : Name) : Type 0 where
  pub once : s.standard ≡ Once o
  pub there : is_some s.sets ≡ true → is_some o ≡ true
  pub number_is : (k : ℕ) → o ≡ Some k → (u : Table) → Longer s.vers u → number u w ≡ k

abbrev pub StandardIs : SpecState → List Name → Type 0
StandardIs s [] = s.standard ≡ Missing
StandardIs s (w ∷ []) = (o : Option ℕ) × Carries s o w
StandardIs s (w ∷ (v ∷ vs)) = s.standard ≡ Twice

first : (s s' s'' : SpecState) (x : Version) (xs : List Version) (f : SpecStep s s' x) → Each SpecStep s' s'' xs → (l : List Name)
    → Once_then f.place s'' l → StandardIs s'' (x.1.0 ∷ l)
unfolding Once_then
first s s' s'' x xs f e [] h = (
  f.place,
  record {
    once = h;
    there = λ y. (step_room s s' x f (sets_before s' s'' xs e y)).1;
    number_is = λ k q u l.
        enters_number versions s.vers s'.vers f.place x.1.0 f.enters k q u (longer_then _ _ _ (vers_longer s' s'' xs e) l);
  },
)
first s s' s'' x xs f e (v ∷ vs) h = h

pub standard_is : (s s' : SpecState) (xs : List Version) → Each SpecStep s s' xs → s.standard ≡ Missing → StandardIs s' (standards xs)
unfolding Each standards carried
standard_is s s' [] e n = ap (λ (z : SpecState). z.standard) (sym e) ∙ n
standard_is s s' (x ∷ xs) e n = elim (bool? x.0) [
  | inl b ↦ subst (StandardIs s') (sym (if-true _ _ _ b)) (first s e.0 s' x xs e.1 e.2 (standards xs)
      (once_then e.0 s' xs e.1.place e.2 (e.1.standard ∙ ap₂ (λ a c. carried a c e.1.place) b n)))
  | inr b ↦ subst (StandardIs s') (sym (if-false _ _ _ b)) (standard_is e.0 s' xs e.2 (e.1.standard ∙ ap₂ (λ a c. carried a c e.1.place) b n))
]
