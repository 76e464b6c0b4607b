-- What a book says under other numbers.
use Rattle.std.specs.Prelude.{Bool, false, true, List, [], ◌∷◌, ◌≡◌, ℕ}
use Rattle.std.proofs.Common.{inl, inr, ◌∙◌, ap, sym}
use Rattle.std.proofs.Math.Option.{Option, none, some}
use Rattle.std.proofs.Math.Path.{fun_ext, refl}
use Rattle.model.specs.Book.{Book, Modules, Spec, Specs, System, Systems, composed, composition, has_version, implementation}
use Rattle.model.specs.Book.{is_module, is_system, member, provides, required, requires, specified, usable}
use Rattle.model.specs.Lists.{elem}
use Rattle.model.specs.Maps.{Map, and_then, has, is_some, option_map, put}
use Rattle.sets.specs.TestLaws.{=?-out, bool?, clash, fails, if-false, if-true, or-false, or_l}
use Rattle.sets.specs.Tests.{◌=?◌, if?◌then◌else◌}
use Rattle.text_laws.specs.Renamed.{Renumbering}
use Rattle.text_laws.specs.TextLaws.{has-map}
use Rattle.model_laws.specs.MapLaws.{is_some_no, option_map-some}

-- ---- what is put in so far: the part of a map at the numbers of a list

unfoldable pub only : {A : Type 0} → List ℕ → Map A → Map A
only l m n = if? elem n l then m n else none

pub only_in : {A : Type 0} (l : List ℕ) (m : Map A) (n : ℕ) → elem n l ≡ true → only l m n ≡ m n
unfolding only
only_in l m n e = if-true _ _ _ e

pub only_out : {A : Type 0} (l : List ℕ) (m : Map A) (n : ℕ) → elem n l ≡ false → only l m n ≡ none
unfolding only
only_out l m n e = if-false _ _ _ e

pub put_only : {A : Type 0} (l : List ℕ) (m : Map A) (c : ℕ) (y : A) → m c ≡ some y → put c (some y) (only l m) ≡ only (c ∷ l) m
unfolding put only elem
put_only l m c y e = fun_ext (λ k. elim (bool? (k =? c)) [
  | inl q ↦ if-true _ _ _ q ∙ sym (ap m (=?-out _ _ q) ∙ e) ∙ sym (if-true _ _ _ (or_l _ _ q))
  | inr q ↦ if-false _ _ _ q ∙ sym (ap (λ (z : Bool). if? z then m k else none) (or-false _ _ q))
])

pub only_all : {A : Type 0} (l : List ℕ) (m : Map A) → ((n : ℕ) → is_some (m n) ≡ true → elem n l ≡ true) → only l m ≡ m
only_all l m h = fun_ext (λ k. elim (bool? (elem k l)) [
  | inl q ↦ only_in l m k q
  | inr q ↦ only_out l m k q ∙ sym (is_some_no _ (fails _ (λ e. clash {A = ⊥} (h k e) q)))
])

pub only_none : {A : Type 0} (m : Map A) → only [] m ≡ (λ n. none)
unfolding only elem
only_none m = fun_ext (λ n. if-false _ _ _ refl)

-- ---- a book under other numbers

unfoldable pub renumber_spec : (old_v old_f new_v : ℕ → ℕ) → Spec → Spec
renumber_spec old_v old_f new_v x = record {
  prov = λ f. x.prov (old_f f);
  req = λ v. option_map (λ q f. q (old_f f)) (x.req (old_v v));
  std = new_v x.std;
}

unfoldable pub renumber_system : (old_c old_v new_v : ℕ → ℕ) → System → System
renumber_system old_c old_v new_v y = record {
  uses = λ c. y.uses (old_c c);
  comp = λ v. option_map (λ m c. option_map new_v (m (old_c c))) (y.comp (old_v v));
}

unfoldable pub renumber_module : (old_v new_i : ℕ → ℕ) → Map ℕ → Map ℕ
renumber_module old_v new_i i v = option_map new_i (i (old_v v))

module _ (b : Book) (re : Renumbering b.specs b.modules) where
  abbrev S : Specs
  S = b.specs

  abbrev M : Modules
  M = b.modules

  abbrev Y : Systems
  Y = b.systems

  abbrev old_c : ℕ → ℕ
  old_c = re.old_c

  abbrev old_v : ℕ → ℕ
  old_v = re.old_v

  abbrev new_v : ℕ → ℕ
  new_v = re.new_v

  abbrev old_f : ℕ → ℕ
  old_f = re.old_f

  abbrev new_i : ℕ → ℕ
  new_i = re.new_i

  -- the book under the new numbers
  unfoldable pub new_specs : Specs
  new_specs c = option_map (renumber_spec old_v old_f new_v) (S (old_c c))

  unfoldable pub new_modules : Modules
  new_modules c = option_map (renumber_module old_v new_i) (M (old_c c))

  unfoldable pub new_systems : Systems
  new_systems s = option_map (renumber_system old_c old_v new_v) (Y (old_c s))

  -- ---- what it says

  pub specified' : (c : ℕ) → specified new_specs c ≡ specified S (old_c c)
  unfolding specified new_specs
  specified' c = option_map-some _ _

  pub provides' : (c f : ℕ) → provides new_specs c f ≡ provides S (old_c c) (old_f f)
  unfolding provides new_specs renumber_spec
  provides' c f = has-map _ (S (old_c c)) _

  version_by : (o : Option Spec) (v : ℕ)
      → is_some (and_then (option_map (renumber_spec old_v old_f new_v) o) (λ x. x.req v)) ≡ is_some (and_then o (λ x. x.req (old_v v)))
  unfolding and_then option_map renumber_spec
  version_by none v = refl
  version_by (some x) v = option_map-some _ _

  pub has_version' : (c v : ℕ) → has_version new_specs c v ≡ has_version S (old_c c) (old_v v)
  unfolding has_version required new_specs
  has_version' c v = version_by (S (old_c c)) v

  requires_by : (o : Option Spec) (v f : ℕ) → has (and_then (option_map (renumber_spec old_v old_f new_v) o) (λ x. x.req v)) (λ q. q f)
      ≡ has (and_then o (λ x. x.req (old_v v))) (λ q. q (old_f f))
  unfolding and_then option_map renumber_spec has
  requires_by none v f = refl
  requires_by (some x) v f = has-map _ (x.req (old_v v)) _

  pub requires' : (c v f : ℕ) → requires new_specs c v f ≡ requires S (old_c c) (old_v v) (old_f f)
  unfolding requires required new_specs
  requires' c v f = requires_by (S (old_c c)) v f

  pub is_module' : (c : ℕ) → is_module new_modules c ≡ is_module M (old_c c)
  unfolding is_module new_modules
  is_module' c = option_map-some _ _

  implementation_by : (o : Option (Map ℕ)) (v : ℕ)
      → and_then (option_map (renumber_module old_v new_i) o) (λ i. i v) ≡ option_map new_i (and_then o (λ i. i (old_v v)))
  unfolding and_then option_map renumber_module
  implementation_by none v = refl
  implementation_by (some x) v = refl

  pub implementation' : (c v : ℕ) → implementation new_modules c v ≡ option_map new_i (implementation M (old_c c) (old_v v))
  unfolding implementation new_modules
  implementation' c v = implementation_by (M (old_c c)) v

  pub is_system' : (s : ℕ) → is_system new_systems s ≡ is_system Y (old_c s)
  unfolding is_system new_systems
  is_system' s = option_map-some _ _

  pub usable' : (s c : ℕ) → usable new_systems s c ≡ usable Y (old_c s) (old_c c)
  unfolding usable new_systems renumber_system
  usable' s c = has-map _ (Y (old_c s)) _

  composed_by : (o : Option System) (v : ℕ) → is_some (and_then (option_map (renumber_system old_c old_v new_v) o) (λ y. y.comp v))
      ≡ is_some (and_then o (λ y. y.comp (old_v v)))
  unfolding and_then option_map renumber_system
  composed_by none v = refl
  composed_by (some y) v = option_map-some _ _

  pub composed' : (s v : ℕ) → composed new_systems s v ≡ composed Y (old_c s) (old_v v)
  unfolding composed composition new_systems
  composed' s v = composed_by (Y (old_c s)) v

  member_by' : (o : Option (Map ℕ)) (c : ℕ) → and_then (option_map {B = Map ℕ} (λ m c. option_map new_v (m (old_c c))) o) (λ m. m c)
      ≡ option_map new_v (and_then o (λ m. m (old_c c)))
  unfolding and_then option_map
  member_by' none c = refl
  member_by' (some m) c = refl

  member_by : (o : Option System) (v c : ℕ)
      → and_then (and_then (option_map (renumber_system old_c old_v new_v) o) (λ y. y.comp v)) (λ m. m c)
      ≡ option_map new_v (and_then (and_then o (λ y. y.comp (old_v v))) (λ m. m (old_c c)))
  unfolding and_then option_map renumber_system
  member_by none v c = refl
  member_by (some y) v c = member_by' (y.comp (old_v v)) c

  pub member' : (s v c : ℕ) → member new_systems s v c ≡ option_map new_v (member Y (old_c s) (old_v v) (old_c c))
  unfolding member composition new_systems
  member' s v c = member_by (Y (old_c s)) v c
