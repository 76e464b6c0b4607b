-- What is read of a book where one component of it is put in, taken out or changed.
use Rattle.std.specs.Prelude.{true, ◌≢◌, ◌⊎◌, ◌≡◌, refl, ℕ}
use Rattle.std.proofs.Math.Logic.{inl, inr}
use Rattle.std.proofs.Math.Option.{Option, some}
use Rattle.std.proofs.Common.{◌∙◌}
use Rattle.std.proofs.Math.Path.{ap, sym}
use Rattle.model.specs.Book.{Modules, Spec, Specs, System, Systems, composed, composition, has_version, implementation, is_module}
use Rattle.model.specs.Book.{is_system, member, provides, required, requires, specified, standard, usable}
use Rattle.model.specs.Commands.{with_composition, with_version}
use Rattle.model.specs.Maps.{Map, and_then, change, has, is_some, option_map, or_else, put}
use Rattle.sets.specs.Sets.{Set}
use Rattle.sets.specs.TestLaws.{same?}
use Rattle.model_laws.specs.MapLaws.{and_then_in, is_some_out, put_other, put_same}

-- a component that two books hold alike
module _ (S S' : Specs) (d : ℕ) (e : S' d ≡ S d) where
  pub specified_same : specified S' d ≡ specified S d
  unfolding specified
  specified_same = ap is_some e

  pub provides_same : (f : ℕ) → provides S' d f ≡ provides S d f
  unfolding provides
  provides_same f = ap (λ (o : Option Spec). has o (λ x. x.prov f)) e

  pub required_same : (v : ℕ) → required S' d v ≡ required S d v
  unfolding required
  required_same v = ap (λ (o : Option Spec). and_then o (λ x. x.req v)) e

  pub has_version_same : (v : ℕ) → has_version S' d v ≡ has_version S d v
  unfolding has_version
  has_version_same v = ap is_some (required_same v)

  pub requires_same : (v f : ℕ) → requires S' d v f ≡ requires S d v f
  unfolding requires
  requires_same v f = ap (λ (o : Option Set). has o (λ q. q f)) (required_same v)

  pub standard_same : standard S' d ≡ standard S d
  unfolding standard
  standard_same = ap (λ (o : Option Spec). or_else (option_map (λ x. x.std) o) 0) e

module _ (Y Y' : Systems) (s : ℕ) (e : Y' s ≡ Y s) where
  pub is_system_same : is_system Y' s ≡ is_system Y s
  unfolding is_system
  is_system_same = ap is_some e

  pub usable_same : (c : ℕ) → usable Y' s c ≡ usable Y s c
  unfolding usable
  usable_same c = ap (λ (o : Option System). has o (λ y. y.uses c)) e

  pub composition_same : (v : ℕ) → composition Y' s v ≡ composition Y s v
  unfolding composition
  composition_same v = ap (λ (o : Option System). and_then o (λ y. y.comp v)) e

  pub composed_same : (v : ℕ) → composed Y' s v ≡ composed Y s v
  unfolding composed
  composed_same v = ap is_some (composition_same v)

  pub member_same : (v c : ℕ) → member Y' s v c ≡ member Y s v c
  unfolding member
  member_same v c = ap (λ (o : Option (Map ℕ)). and_then o (λ m. m c)) (composition_same v)

-- what is read of a component that stands in the book
module _ (S : Specs) (d : ℕ) (x : Spec) (e : S d ≡ some x) where
  pub provides_at_lem : (f : ℕ) → provides S d f ≡ x.prov f
  unfolding provides has
  provides_at_lem f = ap (λ (o : Option Spec). has o (λ x. x.prov f)) e

  pub required_at : (v : ℕ) → required S d v ≡ x.req v
  unfolding required
  required_at v = and_then_in _ _ x e

  pub has_version_at : (v : ℕ) → has_version S d v ≡ is_some (x.req v)
  unfolding has_version
  has_version_at v = ap is_some (required_at v)

  pub requires_at_lem : (v f : ℕ) → requires S d v f ≡ has (x.req v) (λ q. q f)
  unfolding requires
  requires_at_lem v f = ap (λ (o : Option Set). has o (λ q. q f)) (required_at v)

  pub standard_at_lem : standard S d ≡ x.std
  unfolding standard or_else option_map
  standard_at_lem = ap (λ (o : Option Spec). or_else (option_map (λ x. x.std) o) 0) e

-- one entry of what a map holds at c is changed: once for versions, implementations and compositions
module _ {A B : Type 0} (get : A → Map B) (h : A → A) (v : ℕ) (x : Option B) (law : (a : A) → get (h a) ≡ put v x (get a))
    (m : Map A) (c : ℕ) (there : is_some (m c) ≡ true) where
  old : A
  old = (is_some_out (m c) there).0

  at : change c h m c ≡ some (h old)
  unfolding change option_map old
  at = put_same c _ m ∙ ap (option_map h) (is_some_out (m c) there).1

  off : (d : ℕ) → d ≢ c → change c h m d ≡ m d
  unfolding change
  off d n = put_other c _ m d n

  pub change_other : {D : Type 0} (F : Option A → D) → ((a : A) → F (some (h a)) ≡ F (some a)) → (d : ℕ) → F (change c h m d) ≡ F (m d)
  unfolding old
  change_other F k d =
      elim (same? d c) [
        | inl e ↦ rw e (ap F at ∙ k old ∙ ap F (sym (is_some_out (m c) there).1))
        | inr n ↦ ap F (off d n)
      ]

  pub change_at : and_then (change c h m c) (λ a. get a v) ≡ x
  change_at = and_then_in _ _ (h old) at ∙ ap (λ (g : Map B). g v) (law old) ∙ put_same v x (get old)

  pub change_off : (d w : ℕ) → (d ≡ c → w ≢ v) → and_then (change c h m d) (λ a. get a w) ≡ and_then (m d) (λ a. get a w)
  unfolding old
  change_off d w n =
      elim (same? d c) [
        | inl e ↦ rw e (and_then_in _ _ (h old) at ∙ ap (λ (g : Map B). g w) (law old) ∙ put_other v x (get old) w (n e) ∙ sym (and_then_in _ _ old (is_some_out (m c) there).1))
        | inr k ↦ ap (λ (o : Option A). and_then o (λ a. get a w)) (off d k)
      ]

-- a pair is the pair c, v or another
pub pair? : (c v d w : ℕ) → ((d ≡ c) × (w ≡ v)) ⊎ (d ≡ c → w ≢ v)
pair? c v d w =
    elim (same? d c) [
      | inl e ↦ elim (same? w v) [ inl k ↦ inl (e, k) | inr n ↦ inr (λ z. n) ]
      | inr n ↦ inr (λ z. absurd (n z))
    ]

module _ (S : Specs) (c v : ℕ) (q : Option Set) (there : specified S c ≡ true) where
  pub spec_specified : (d : ℕ) → specified (change c (with_version v q) S) d ≡ specified S d
  unfolding specified with_version is_some
  spec_specified d = change_other (λ x. x.req) (with_version v q) v q (λ x. refl) S c there is_some (λ x. refl) d

  pub spec_provides : (d f : ℕ) → provides (change c (with_version v q) S) d f ≡ provides S d f
  unfolding specified provides with_version has
  spec_provides d f = change_other (λ x. x.req) (with_version v q) v q (λ x. refl) S c there (λ o. has o (λ x. x.prov f)) (λ x. refl) d

  pub spec_standard : (d : ℕ) → standard (change c (with_version v q) S) d ≡ standard S d
  unfolding specified standard with_version or_else option_map
  spec_standard d = change_other (λ x. x.req) (with_version v q) v q (λ x. refl) S c there (λ o. or_else (option_map (λ x. x.std) o) 0) (λ x. refl) d

  pub spec_at_lem : required (change c (with_version v q) S) c v ≡ q
  unfolding specified required with_version
  spec_at_lem = change_at (λ x. x.req) (with_version v q) v q (λ x. refl) S c there

  pub spec_off : (d w : ℕ) → (d ≡ c → w ≢ v) → required (change c (with_version v q) S) d w ≡ required S d w
  unfolding specified required with_version
  spec_off d w n = change_off (λ x. x.req) (with_version v q) v q (λ x. refl) S c there d w n

  pub spec_version_lem : (d w : ℕ) → (d ≡ c → w ≢ v) → has_version (change c (with_version v q) S) d w ≡ has_version S d w
  unfolding has_version
  spec_version_lem d w n = ap is_some (spec_off d w n)

  pub spec_requires : (d w f : ℕ) → (d ≡ c → w ≢ v) → requires (change c (with_version v q) S) d w f ≡ requires S d w f
  unfolding requires
  spec_requires d w f n = ap (λ (o : Option Set). has o (λ q. q f)) (spec_off d w n)

module _ (M : Modules) (c v : ℕ) (i : Option ℕ) (there : is_module M c ≡ true) where
  pub mod_is : (d : ℕ) → is_module (change c (put v i) M) d ≡ is_module M d
  unfolding is_module is_some
  mod_is d = change_other (λ x. x) (put v i) v i (λ x. refl) M c there is_some (λ x. refl) d

  pub mod_at : implementation (change c (put v i) M) c v ≡ i
  unfolding is_module implementation
  mod_at = change_at (λ x. x) (put v i) v i (λ x. refl) M c there

  pub mod_off : (d w : ℕ) → (d ≡ c → w ≢ v) → implementation (change c (put v i) M) d w ≡ implementation M d w
  unfolding is_module implementation
  mod_off d w n = change_off (λ x. x) (put v i) v i (λ x. refl) M c there d w n

module _ (Y : Systems) (c v : ℕ) (m : Option (Map ℕ)) (there : is_system Y c ≡ true) where
  pub sys_is : (d : ℕ) → is_system (change c (with_composition v m) Y) d ≡ is_system Y d
  unfolding is_system with_composition is_some
  sys_is d = change_other (λ x. x.comp) (with_composition v m) v m (λ x. refl) Y c there is_some (λ x. refl) d

  pub sys_usable : (s d : ℕ) → usable (change c (with_composition v m) Y) s d ≡ usable Y s d
  unfolding is_system usable with_composition has
  sys_usable s d = change_other (λ x. x.comp) (with_composition v m) v m (λ x. refl) Y c there (λ o. has o (λ y. y.uses d)) (λ x. refl) s

  pub sys_at : composition (change c (with_composition v m) Y) c v ≡ m
  unfolding is_system composition with_composition
  sys_at = change_at (λ x. x.comp) (with_composition v m) v m (λ x. refl) Y c there

  pub sys_off : (d w : ℕ) → (d ≡ c → w ≢ v) → composition (change c (with_composition v m) Y) d w ≡ composition Y d w
  unfolding is_system composition with_composition
  sys_off d w n = change_off (λ x. x.comp) (with_composition v m) v m (λ x. refl) Y c there d w n

  pub sys_member : (d w e : ℕ) → (d ≡ c → w ≢ v) → member (change c (with_composition v m) Y) d w e ≡ member Y d w e
  unfolding member
  sys_member d w e n = ap (λ (o : Option (Map ℕ)). and_then o (λ m. m e)) (sys_off d w n)

  pub sys_composed : (d w : ℕ) → (d ≡ c → w ≢ v) → composed (change c (with_composition v m) Y) d w ≡ composed Y d w
  unfolding composed
  sys_composed d w n = ap is_some (sys_off d w n)
