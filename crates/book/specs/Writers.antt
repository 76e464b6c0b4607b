-- What the writers leave, as the plain book sees it.
use Rattle.std.specs.Prelude.{Bool, false, true, List, ◌≢◌, ◌≡◌, refl}
use Rattle.std.proofs.Math.Logic.{inl, inr}
use Rattle.std.proofs.Math.Option.{Option, none, some}
use Rattle.std.proofs.Common.{◌∙◌, ap₂, arith}
use Rattle.std.proofs.Math.Path.{ap, fun_ext, sym}
use Prim.Native.Nat.{◌*◌, ◌+◌, ◌<◌, ℕ}
use Rattle.book.specs.Layout.{implementation_at, requires_at, slots_of}
use Rattle.book.specs.Plain.{byte, component_set, composition_at, facility_set, module_at, modules_of, place_of, slot, spec_at}
use Rattle.book.specs.Plain.{specified_at, specs_of, system_at, systems_of}
use Rattle.book.specs.ReadLaws.{place-limit}
use Rattle.book.specs.Readers.{place_below}
use Rattle.book.specs.Same.{AtPlace, SameComponent, SameHead, SamePlace, composition_same, heads, kind_same, other_components}
use Rattle.book.specs.Same.{other_modules, other_places, other_specs, other_systems, place-slot, specified_same, specs_ext}
use Rattle.book.specs.Same.{system_ext}
use Rattle.model.specs.Book.{components, versions}
use Rattle.model.specs.Commands.{with_composition, with_version}
use Rattle.model.specs.Maps.{Map, change, only_if, option_map, put}
use Rattle.sets.specs.TestLaws.{if-true, same?}
use Rattle.sets.specs.Tests.{if?◌then◌else◌}
use Rattle.model_laws.specs.MapLaws.{put_other, put_same}

-- ---- maps

change_ext : {A : Type 0} (m m' : Map A) (c : ℕ) (g : A → A) → ((d : ℕ) → d ≢ c → m' d ≡ m d) → m' c ≡ option_map g (m c) → m' ≡ change c g m
unfolding change
change_ext m m' c g off at = fun_ext (λ d. elim (same? d c) [
  | inl e ↦ rw e (at ∙ sym (put_same c (option_map g (m c)) m))
  | inr n ↦ off d n ∙ sym (put_other c (option_map g (m c)) m d n)
])

pub put_ext : {A : Type 0} (m m' : Map A) (c : ℕ) (x : Option A) → ((d : ℕ) → d ≢ c → m' d ≡ m d) → m' c ≡ x → m' ≡ put c x m
put_ext m m' c x off at = fun_ext (λ d. elim (same? d c) [
  | inl e ↦ rw e (at ∙ sym (put_same c x m))
  | inr n ↦ off d n ∙ sym (put_other c x m d n)
])

-- what is not there is not changed
pub change_none : {A : Type 0} (m : Map A) (c : ℕ) (g : A → A) → m c ≡ none → change c g m ≡ m
unfolding option_map
change_none m c g e = sym (change_ext m m c g (λ d n. refl) (e ∙ sym (ap (option_map g) e)))

pub put_none : {A : Type 0} (m : Map A) (c : ℕ) → m c ≡ none → put c none m ≡ m
put_none m c e = sym (put_ext m m c none (λ d n. refl) e)

map_only : {A B : Type 0} (g : A → B) (t : Bool) (x : A) → option_map g (only_if t x) ≡ only_if t (g x)
unfolding option_map only_if
map_only g true x = refl
map_only g false x = refl

map_agree : {A : Type 0} (g g' : ℕ → A) (o : Option ℕ) → ((a : ℕ) → o ≡ some a → g' a ≡ g a) → option_map g' o ≡ option_map g o
unfolding option_map
map_agree g g' none h = refl
map_agree g g' (some a) h = ap some (h a refl)

-- things at places, where one version gets a place (loses it, where o is `none`) and the others keep theirs
map_put : {A : Type 0} (P P' : ℕ → Option ℕ) (g g' : ℕ → A) (v : ℕ) (o : Option ℕ) → P' ≡ put v o P
    → ((u a : ℕ) → u ≢ v → P u ≡ some a → g' a ≡ g a) → (λ u. option_map g' (P' u)) ≡ put v (option_map g' o) (λ u. option_map g (P u))
map_put P P' g g' v o e h = put_ext _ _ v (option_map g' o)
    (λ u n. ap (λ (p : ℕ → Option ℕ). option_map g' (p u)) e ∙ ap (option_map g') (put_other v o P u n) ∙ map_agree g g' (P u) (λ a q. h u a n q))
    (ap (λ (p : ℕ → Option ℕ). option_map g' (p v)) e ∙ ap (option_map g') (put_same v o P))

-- ---- one place changes: the version v of c gets it or loses it

module _ (s n s' n' : List ℕ) (c j v : ℕ) (o : Option ℕ) (c< : c < components) (j< : j < 8) (there : specified_at n c ≡ true)
    (k : AtPlace s n s' n' (c * 8 + j)) (slots : slot (slots_of n' c) ≡ put v o (slot (slots_of n c)))
    (apart : (u : ℕ) → u ≢ v → u < versions → slots_of n c j ≢ u) where
  i : ℕ
  i = c * 8 + j

  i< : c * 8 + j < 256
  i< = omega arith

  head : SameHead s n s' n' c
  head = heads s n s' n' (c * 8 + j) i< k c c<

  places : place_of n' c ≡ put v (option_map (λ j. c * 8 + j) o) (place_of n c)
  unfolding place_of
  places = fun_ext (λ u. if-true _ _ _ (specified_same n n' c head.kind ∙ there) ∙ ap (λ (f : ℕ → Option ℕ). option_map (λ j. c * 8 + j) (f u)) slots ∙ at u)
    where
      at : (u : ℕ) → option_map (λ j. c * 8 + j) (put v o (slot (slots_of n c)) u)
          ≡ put v (option_map (λ j. c * 8 + j) o) (λ u. if? specified_at n c then option_map (λ j. c * 8 + j) (slot (slots_of n c) u) else none) u
      at u = elim (same? u v) [
        | inl e ↦ rw e (ap (option_map (λ j. c * 8 + j)) (put_same v o _) ∙ sym (put_same v _ _))
        | inr ne ↦ ap (option_map (λ j. c * 8 + j)) (put_other v o _ u ne) ∙ sym (put_other v _ _ u ne ∙ if-true _ _ _ there)
      ]

  -- what stands at the places of the other versions
  kept : {A : Type 0} (g g' : ℕ → A) → ((a : ℕ) → SamePlace s n s' n' a → g' a ≡ g a) → (u a : ℕ) → u ≢ v → place_of n c u ≡ some a → g' a ≡ g a
  kept g g' h u a ne e =
      let z = place-slot n c u a e in
      let other : z.0 ≢ j = λ q. apart u ne (place-limit n c u a e).1 (ap (slots_of n c) (sym q) ∙ z.3) in
      h a (other_places s n s' n' (c * 8 + j) i< k a (place_below n c u a e) (λ q. other (omega (arith, z.2, q))))

  off : (d : ℕ) → d < 32 → d ≢ c → SameComponent s n s' n' d
  off d d< ne = other_components s n s' n' (c * 8 + j) i< k c j d j< refl d< ne

  pub pair_specs : specs_of s' n' ≡ change c (with_version v (option_map (λ i. facility_set (requires_at s' i)) (option_map (λ j. c * 8 + j) o))) (specs_of s n)
  unfolding specs_of spec_at with_version
  pair_specs = change_ext _ _ c _ (other_specs s n s' n' c off)
      (ap₂ only_if (specified_same n n' c head.kind) (specs_ext (ap facility_set head.provides)
      (map_put _ _ _ _ v _ places (kept _ _ (λ a p. ap facility_set p.requires))) head.standard) ∙ sym (map_only _ _ _))

  pub pair_modules : modules_of n' ≡ change c (put v (option_map (λ i. byte (implementation_at n' i)) (option_map (λ j. c * 8 + j) o))) (modules_of n)
  unfolding modules_of module_at
  pair_modules = change_ext _ _ c _ (other_modules s n s' n' c off)
      (ap₂ only_if (kind_same n n' 2 c head.kind) (map_put _ _ _ _ v _ places (kept _ _ (λ a p. ap byte p.implementation))) ∙ sym (map_only _ _ _))

  pub pair_systems : systems_of s' n' ≡ change c (with_composition v (option_map (composition_at s' n') (option_map (λ j. c * 8 + j) o))) (systems_of s n)
  unfolding systems_of system_at with_composition
  pair_systems = change_ext _ _ c _ (other_systems s n s' n' c off)
      (ap₂ only_if (kind_same n n' 3 c head.kind) (system_ext (ap component_set head.usable)
      (map_put _ _ _ _ v _ places (kept _ _ (λ a p. composition_same s n s' n' a p)))) ∙ sym (map_only _ _ _))
