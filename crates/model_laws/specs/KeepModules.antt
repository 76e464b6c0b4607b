-- ADD-MOD and DEL-MOD keep a book good: nothing but B2 looks at modules.
use Rattle.std.specs.Prelude.{true, List, ◌≢◌, ◌≡◌, ℕ}
use Rattle.std.proofs.Common.{inl, inr, ◌∙◌, sym, arith}
use Rattle.std.proofs.Math.Option.{Option, none, some}
use Rattle.std.proofs.Math.Path.{ap}
use Rattle.model.specs.Book.{Book, Modules, implementation, implementations, is_module, versions}
use Rattle.model.specs.Commands.{ADD-MOD, DEL-MOD, after}
use Rattle.model.specs.Limits.{ModuleLimits}
use Rattle.model.specs.Lists.{beside, firsts}
use Rattle.model.specs.Maps.{Map, and_then, is_some, put}
use Rattle.model.specs.PlainBook.{answer}
use Rattle.model.specs.Questions.{in_limits, questions}
use Rattle.sets.specs.TestLaws.{<?_out, and_l, and_r, clash, same?}
use Rattle.model_laws.specs.Accepted.{all_yes, below_elem, below_seconds, exactly-all, not_defined}
use Rattle.model_laws.specs.Good.{B2Facts, Good}
use Rattle.model_laws.specs.ListLaws.{beside_elem}
use Rattle.model_laws.specs.MapLaws.{is_some_in, no_some, put_other, put_same}

pub new_modules_lem : (b : Book) (M' : Modules) → Good b → ModuleLimits M' → B2Facts b.specs M' b.systems → Good (record { specs = b.specs; modules = M'; systems = b.systems })
new_modules_lem b M' g l t = record {
  spec_limits = g.spec_limits;
  module_limits = l;
  system_limits = g.system_limits;
  b1 = g.b1;
  b2 = t;
  b3 = g.b3;
  b4 = g.b4;
  b5 = g.b5;
  b6 = g.b6;
  b7 = g.b7;
  b8 = g.b8;
  b9 = g.b9;
}

module _ (M : Modules) (c : ℕ) (i : Option (Map ℕ)) where
  pub module_off : (d : ℕ) → d ≢ c → is_module (put c i M) d ≡ is_module M d
  unfolding is_module
  module_off d n = ap is_some (put_other c i M d n)

  pub module_at_lem : is_module (put c i M) c ≡ is_some i
  unfolding is_module
  module_at_lem = ap is_some (put_same c i M)

  pub implementation_off : (d v : ℕ) → d ≢ c → implementation (put c i M) d v ≡ implementation M d v
  unfolding implementation
  implementation_off d v n = ap (λ (o : Option (Map ℕ)). and_then o (λ i. i v)) (put_other c i M d n)

  pub implementation_at_lem : (v : ℕ) → implementation (put c i M) c v ≡ and_then i (λ i. i v)
  unfolding implementation
  implementation_at_lem v = ap (λ (o : Option (Map ℕ)). and_then o (λ i. i v)) (put_same c i M)

pub add_mod : (b : Book) (c : ℕ) (is : List (ℕ × ℕ)) → Good b → answer b (ADD-MOD c is) ≡ 0 → Good (after b (ADD-MOD c is))
unfolding answer questions after in_limits and_then
add_mod b c is g h =
    let y = all_yes (questions b (ADD-MOD c is)) (omega arith) h in
    let l = y.0 in
    let M = b.modules in let new : Option (Map ℕ) = some (beside is) in
    let vs< = and_l _ _ (and_r _ _ l) in
    let is< = and_r _ _ (and_r _ _ l) in
    let ex = exactly-all b c (firsts is) g.spec_limits vs< y.1.1.1.1.1.0 in
    new_modules_lem b (put c new M) g
    (record {
      component< = λ d t. elim (same? d c) [ inl q ↦ rw q (<?_out _ _ (and_l _ _ l)) | inr n ↦ g.module_limits.component< d (sym (module_off M c new d n) ∙ t) ];
      implementation< = λ d v i e. elim (same? d c) [
        | inl q ↦ (let k = sym (implementation_at_lem M c new v) ∙ rw q at e in
            (below_elem versions (firsts is) vs< v (sym (beside_elem is v) ∙ is_some_in _ k), below_seconds implementations is is< v i k))
        | inr n ↦ g.module_limits.implementation< d v i (sym (implementation_off M c new d v n) ∙ e)
      ];
    })
    (record {
      mod_spec = λ d t. elim (same? d c) [ inl q ↦ rw q y.1.1.1.0 | inr n ↦ g.b2.mod_spec d (sym (module_off M c new d n) ∙ t) ];
      mod_sys = λ d t. elim (same? d c) [ inl q ↦ rw q (not_defined _ _ c y.1.1.1.1.0).1 | inr n ↦ g.b2.mod_sys d (sym (module_off M c new d n) ∙ t) ];
      mod_covers = λ d v t. elim (same? d c) [
        | inl q ↦ rw q (ap is_some (implementation_at_lem M c new v) ∙ beside_elem is v ∙ ex v)
        | inr n ↦ ap is_some (implementation_off M c new d v n) ∙ g.b2.mod_covers d v (sym (module_off M c new d n) ∙ t)
      ];
      sys_spec = g.b2.sys_spec;
      use_spec = g.b2.use_spec;
      sys_covers = g.b2.sys_covers;
      sys_bare = g.b2.sys_bare;
    })

module _ (b : Book) (g : Good b) (c : ℕ) where
  -- a module that is left is another one
  pub gone : (d : ℕ) → is_module (put c none b.modules) d ≡ true → d ≢ c
  unfolding is_some
  gone d t e = clash {A = ⊥} (rw e at t) (module_at_lem b.modules c none)

  pub gone_implementation : (d v i : ℕ) → implementation (put c none b.modules) d v ≡ some i → d ≢ c
  unfolding and_then
  gone_implementation d v i t e = no_some (sym (implementation_at_lem b.modules c none v) ∙ rw e at t)

  pub less_modules : ModuleLimits (put c none b.modules)
  less_modules = record {
    component< = λ d t. g.module_limits.component< d (sym (module_off _ c none d (gone d t)) ∙ t);
    implementation< = λ d v i e. g.module_limits.implementation< d v i (sym (implementation_off _ c none d v (gone_implementation d v i e)) ∙ e);
  }

pub del_mod : (b : Book) (c : ℕ) → Good b → answer b (DEL-MOD c) ≡ 0 → Good (after b (DEL-MOD c))
unfolding after
del_mod b c g h =
    let M = b.modules in
    new_modules_lem b (put c none M) g (less_modules b g c)
    (record {
      mod_spec = λ d t. g.b2.mod_spec d (sym (module_off M c none d (gone b g c d t)) ∙ t);
      mod_sys = λ d t. g.b2.mod_sys d (sym (module_off M c none d (gone b g c d t)) ∙ t);
      mod_covers = λ d v t. ap is_some (implementation_off M c none d v (gone b g c d t)) ∙ g.b2.mod_covers d v (sym (module_off M c none d (gone b g c d t)) ∙ t);
      sys_spec = g.b2.sys_spec;
      use_spec = g.b2.use_spec;
      sys_covers = g.b2.sys_covers;
      sys_bare = g.b2.sys_bare;
    })
