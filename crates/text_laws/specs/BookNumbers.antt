-- The numbers in a book: each was in the book before the command, or the command carries it.
use Rattle.std.specs.Prelude.{Bool, List, ◌≡◌, refl, ℕ}
use Rattle.std.proofs.Math.Bool.{true}
use Rattle.std.proofs.Common.{inl, inr, ◌∙◌, sym}
use Rattle.std.proofs.Math.Option.{Option, some-injective, none, some}
use Rattle.std.proofs.Math.Path.{ap, subst}
use Rattle.model.specs.Book.{Book, Spec}
use Rattle.model.specs.Commands.{ADD-MOD, ADD-MODVAR, ADD-SPEC, ADD-SYS, ADD-SYSVAR, Command, DEL-MOD, DEL-MODVAR, DEL-SPEC}
use Rattle.model.specs.Commands.{DEL-SYS, DEL-SYSVAR, after, no_facility, with_version}
use Rattle.model.specs.Lists.{beside, every, seconds, set_of}
use Rattle.model.specs.Maps.{Map, change, option_map, put}
use Rattle.sets.specs.Sets.{Set}
use Rattle.sets.specs.TestLaws.{and_l, and_r, clash, same?}
use Rattle.sets.specs.Tests.{◌&◌}
use Rattle.text_laws.specs.FourTables.{Kind, a_component, a_facility, a_version, an_implementation}
use Rattle.model_laws.specs.Accepted.{beside_pair}
use Rattle.model_laws.specs.ListLaws.{beside_second, every-elem}
use Rattle.model_laws.specs.MapLaws.{no_some, option_map_out, put_other, put_same}

-- the numbers of a specification are in the sets of their kinds
pub record SpecNumbers (sets : Kind → Set) (x : Spec) : Type 0 where
  pub prov : (f : ℕ) → x.prov f ≡ true → sets a_facility f ≡ true
  pub req : (v : ℕ) (q : Set) → x.req v ≡ some q → (sets a_version v ≡ true) × ((f : ℕ) → q f ≡ true → sets a_facility f ≡ true)

-- the numbers in a book are in the sets of their kinds
pub record BookNumbers (sets : Kind → Set) (b : Book) : Type 0 where
  pub specs : (c : ℕ) (x : Spec) → b.specs c ≡ some x → (sets a_component c ≡ true) × SpecNumbers sets x
  pub modules : (c : ℕ) (m : Map ℕ) → b.modules c ≡ some m → (v i : ℕ) → m v ≡ some i → sets an_implementation i ≡ true

-- and what a command puts into a book is
unfoldable pub puts : (Kind → Set) → Command → Bool
puts sets (ADD-SPEC c ps vs s) =
    sets a_component c & every (sets a_facility) ps & every (λ x. sets a_version x.0 & every (sets a_facility) x.1) vs
puts sets (ADD-MOD c is) = every (sets an_implementation) (seconds is)
puts sets (ADD-SYS c us ks) = true
puts sets (ADD-MODVAR c v rs i) = sets a_version v & every (sets a_facility) rs & sets an_implementation i
puts sets (ADD-SYSVAR c v ms) = sets a_version v
puts sets (DEL-SPEC c) = true
puts sets (DEL-MOD c) = true
puts sets (DEL-SYS c) = true
puts sets (DEL-MODVAR c v) = true
puts sets (DEL-SYSVAR c v) = true

-- ---- maps that change in one place

put_all : {A : Type 0} (P : ℕ → A → Type 0) (m : Map A) → ((k : ℕ) (x : A) → m k ≡ some x → P k x) → (n : ℕ) (o : Option A)
    → ((x : A) → o ≡ some x → P n x) → (k : ℕ) (x : A) → put n o m k ≡ some x → P k x
put_all P m h n o g k x e =
    elim (same? k n) [
      | inl q ↦ subst (λ (i : ℕ). P i x) (sym q) (g x (sym (put_same n o m) ∙ ap (put n o m) (sym q) ∙ e))
      | inr q ↦ h k x (sym (put_other n o m k q) ∙ e)
    ]

change_all : {A : Type 0} (P : ℕ → A → Type 0) (m : Map A) → ((k : ℕ) (x : A) → m k ≡ some x → P k x) → (n : ℕ) (g : A → A)
    → ((x : A) → P n x → P n (g x)) → (k : ℕ) (x : A) → change n g m k ≡ some x → P k x
unfolding change
change_all P m h n g f = put_all P m h n (option_map g (m n))
    (λ x e. let q = option_map_out g (m n) x e in subst (P n) q.2 (f q.0 (h n q.0 q.1)))

-- ---- a book under the ten commands

module _ (sets : Kind → Set) where
  abbrev in_c : Set
  in_c = sets a_component

  abbrev in_v : Set
  in_v = sets a_version

  abbrev in_f : Set
  in_f = sets a_facility

  abbrev in_i : Set
  in_i = sets an_implementation

  abbrev SpecAt : ℕ → Spec → Type 0
  SpecAt c x = (in_c c ≡ true) × SpecNumbers sets x

  abbrev ModuleAt : ℕ → Map ℕ → Type 0
  ModuleAt c m = (v i : ℕ) → m v ≡ some i → in_i i ≡ true

  with_version_lem : (v : ℕ) (q : Option Set) → ((r : Set) → q ≡ some r → (in_v v ≡ true) × ((f : ℕ) → r f ≡ true → in_f f ≡ true))
      → (x : Spec) → SpecNumbers sets x → SpecNumbers sets (with_version v q x)
  unfolding with_version
  with_version_lem v q h x s = record {
    prov = s.prov;
    req = put_all (λ k r. (in_v k ≡ true) × ((f : ℕ) → r f ≡ true → in_f f ≡ true)) x.req s.req v q h;
  }

  with_implementation : (v : ℕ) (o : Option ℕ) → ((i : ℕ) → o ≡ some i → in_i i ≡ true) → (c : ℕ) (m : Map ℕ)
      → ModuleAt c m → ModuleAt c (put v o m)
  with_implementation v o h c m a = put_all (λ k i. in_i i ≡ true) m a v o h

  new_spec : (ps : List ℕ) (vs : List (ℕ × List ℕ)) (s : ℕ) → every in_f ps ≡ true
      → every (λ x. in_v x.0 & every in_f x.1) vs ≡ true
      → SpecNumbers sets (record { prov = set_of ps; req = λ v. option_map set_of (beside vs v); std = s })
  unfolding set_of
  new_spec ps vs s hp hv = record {
    prov = λ f e. every-elem in_f ps hp f e;
    req = λ v q e. (let o = option_map_out set_of (beside vs v) q e in
        let h = beside_pair (λ x. in_v x.0 & every in_f x.1) vs hv v o.0 o.1 in
        (and_l _ _ h, λ f k. every-elem in_f o.0 (and_r _ _ h) f (ap (λ (z : Set). z f) o.2 ∙ k)));
  }

  -- an accepted command: what the book holds afterwards was there or is put in
  pub after_numbers : (b : Book) (k : Command) → BookNumbers sets b → puts sets k ≡ true
      → BookNumbers sets (after b k)
  unfolding after puts set_of no_facility
  after_numbers b (ADD-SPEC c ps vs s) n h = record {
    specs = put_all SpecAt b.specs n.specs c _ (λ x e.
        subst (SpecAt c) (some-injective _ _ e)
        (and_l _ _ h, new_spec ps vs s (and_l _ _ (and_r _ _ h)) (and_r _ _ (and_r _ _ h))));
    modules = n.modules;
  }
  after_numbers b (ADD-MOD c is) n h = record {
    specs = n.specs;
    modules = put_all ModuleAt b.modules n.modules c _ (λ m e v i k.
        beside_second in_i is h v i (ap (λ (z : Map ℕ). z v) (some-injective _ _ e) ∙ k));
  }
  after_numbers b (ADD-SYS c us ks) n h = record { specs = n.specs; modules = n.modules }
  after_numbers b (DEL-SPEC c) n h = record {
    specs = put_all SpecAt b.specs n.specs c none (λ x e. no_some e);
    modules = put_all ModuleAt b.modules n.modules c none (λ x e. no_some e);
  }
  after_numbers b (DEL-MOD c) n h = record {
    specs = n.specs;
    modules = put_all ModuleAt b.modules n.modules c none (λ x e. no_some e);
  }
  after_numbers b (DEL-SYS c) n h = record { specs = n.specs; modules = n.modules }
  after_numbers b (ADD-MODVAR c v rs i) n h = record {
    specs = change_all SpecAt b.specs n.specs c _ (λ x a. (
      a.0,
      with_version_lem v _ (λ r e. (
        and_l _ _ h,
        λ f k. every-elem in_f rs (and_l _ _ (and_r _ _ h)) f (ap (λ (z : Set). z f) (some-injective _ _ e) ∙ k),
      )) x a.1,
    ));
    modules = change_all ModuleAt b.modules n.modules c _ (with_implementation v (some i) (λ j e.
        ap in_i (sym (some-injective _ _ e)) ∙ and_r _ _ (and_r _ _ h)) c);
  }
  after_numbers b (ADD-SYSVAR c v ms) n h = record {
    specs = change_all SpecAt b.specs n.specs c _ (λ x a. (
      a.0,
      with_version_lem v _ (λ r e. (h, λ f k. clash (ap (λ (z : Set). z f) (some-injective _ _ e) ∙ k) refl)) x a.1,
    ));
    modules = n.modules;
  }
  after_numbers b (DEL-MODVAR c v) n h = record {
    specs = change_all SpecAt b.specs n.specs c _ (λ x a. (a.0, with_version_lem v none (λ r e. no_some e) x a.1));
    modules = change_all ModuleAt b.modules n.modules c _ (with_implementation v none (λ j e. no_some e) c);
  }
  after_numbers b (DEL-SYSVAR c v) n h = record {
    specs = change_all SpecAt b.specs n.specs c _ (λ x a. (a.0, with_version_lem v none (λ r e. no_some e) x a.1));
    modules = n.modules;
  }

-- larger sets
pub more_numbers : (sets sets' : Kind → Set) → ((k : Kind) (n : ℕ) → sets k n ≡ true → sets' k n ≡ true) → (b : Book)
    → BookNumbers sets b → BookNumbers sets' b
more_numbers sets sets' h b n = record {
  specs = λ c x e. (
    h a_component c (n.specs c x e).0,
    record {
      prov = λ f p. h a_facility f ((n.specs c x e).1.prov f p);
      req = λ v q r. (let z = (n.specs c x e).1.req v q r in (h a_version v z.0, λ f p. h a_facility f (z.1 f p)));
    },
  );
  modules = λ c m e v i p. h an_implementation i (n.modules c m e v i p);
}
