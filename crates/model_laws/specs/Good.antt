-- A book that passes the question for 25, by facts that proofs can use.
use Rattle.std.specs.Prelude.{Bool, false, ◌≡◌, ◌<◌, ◌≤◌, suc, zero, ℕ}
use Rattle.std.proofs.Math.Bool.{true}
use Rattle.std.proofs.Math.Logic.{inl, inr}
use Rattle.std.proofs.Common.{◌∙◌, zero-le, arith}
use Rattle.std.proofs.Math.Path.{sym}
use Rattle.std.proofs.Math.Nat.{le_trans}
use Rattle.model.specs.Book.{Book, Modules, Specs, Systems, components, composed, has_version, implementation, is_defined, is_module}
use Rattle.model.specs.Book.{is_system, provides, required, requires, specified, standard, usable, versions}
use Rattle.model.specs.Limits.{ModuleLimits, Passes, SpecLimits, SystemLimits, how_many, one_to_eight}
use Rattle.model.specs.Maps.{is_some}
use Rattle.model.specs.Rules.{B1, B1_to_B9, B1_at, B2, B2_at, B3, B4, B5, B5_to_B9, B6, B7, B8, B9, each_specified, p}
use Rattle.sets.specs.Sets.{disjoint}
use Rattle.sets.specs.TestLaws.{<?_in, all_in, all_out, and_in, and_l, and_r, bool?, clash, count_mono, count_none, fails, iff_in}
use Rattle.sets.specs.TestLaws.{iff_out, iff→≡, imp_in, imp_out, not_in, not_out, or_l, or_out, or_r, same?, ≤?_in, ≤?_out}
use Rattle.sets.specs.Tests.{count, one_if}
use Rattle.model_laws.specs.Heights.{usable_system}
use Rattle.model_laws.specs.MapLaws.{and_then_out, has_out, is_some_in, is_some_out}

-- B1 and the number of versions
pub record B1Facts (S : Specs) : Type 0 where
  pub apart : (c v f : ℕ) → requires S c v f ≡ true → provides S c f ≡ false
  pub std_in : (c : ℕ) → specified S c ≡ true → has_version S c (standard S c) ≡ true
  pub few : (c : ℕ) → count versions (has_version S c) ≤ 8

-- B2
pub record B2Facts (S : Specs) (M : Modules) (Y : Systems) : Type 0 where
  pub mod_spec : (c : ℕ) → is_module M c ≡ true → specified S c ≡ true
  pub mod_sys : (c : ℕ) → is_module M c ≡ true → is_system Y c ≡ false
  pub mod_covers : (c v : ℕ) → is_module M c ≡ true → is_some (implementation M c v) ≡ has_version S c v
  pub sys_spec : (s : ℕ) → is_system Y s ≡ true → specified S s ≡ true
  pub use_spec : (s c : ℕ) → usable Y s c ≡ true → specified S c ≡ true
  pub sys_covers : (s v : ℕ) → is_system Y s ≡ true → composed Y s v ≡ has_version S s v
  pub sys_bare : (s v f : ℕ) → is_system Y s ≡ true → requires S s v f ≡ false

pub record Good (b : Book) : Type 0 where
  pub spec_limits : SpecLimits b.specs
  pub module_limits : ModuleLimits b.modules
  pub system_limits : SystemLimits b.systems
  pub b1 : B1Facts b.specs
  pub b2 : B2Facts b.specs b.modules b.systems
  pub b3 : B3 b.specs b.systems ≡ true
  pub b4 : B4 b.systems ≡ true
  pub b5 : B5 b.specs b.systems ≡ true
  pub b6 : B6 b.specs b.systems ≡ true
  pub b7 : B7 b.specs b.systems ≡ true
  pub b8 : B8 b.specs b.systems ≡ true
  pub b9 : B9 b.specs b.systems ≡ true

pub version_specified : (S : Specs) (c v : ℕ) → has_version S c v ≡ true → specified S c ≡ true
unfolding has_version required specified
version_specified S c v t = let q = is_some_out _ t in is_some_in _ (and_then_out _ _ q.0 q.1).1

version_counts : (n : ℕ) (f : ℕ → Bool) (k : ℕ) → k < n → f k ≡ true → 0 < count n f
unfolding count one_if
version_counts zero f k l t = omega arith
version_counts (suc n) f k l t =
    elim (same? k n) [
      | inl e ↦ rw (sym e) (rw t (omega arith))
      | inr ne ↦ more (f n) (version_counts n f k (omega arith) t)
    ]
  where
    more : (a : Bool) → 0 < count n f → 0 < one_if a (count n f)
    more true h = omega arith
    more false h = h

-- ---- from the facts to the question

pub good→passes : {b : Book} → Good b → Passes b
good→passes {b} g = record {
  spec_limits = g.spec_limits;
  module_limits = g.module_limits;
  system_limits = g.system_limits;
  counts = counts;
  rules = rules;
}
  where
    counts : one_to_eight b.specs ≡ true
    counts = unfold one_to_eight each_specified how_many in all_in _ _ (λ c l. imp_in _ _ (λ t. and_in _ _
        (<?_in _ _ (version_counts versions _ _ (g.spec_limits.version< c _ (g.b1.std_in c t)) (g.b1.std_in c t)))
        (≤?_in _ _ (g.b1.few c))))

    rule1 : B1 b.specs ≡ true
    rule1 = unfold B1 B1_at each_specified disjoint in all_in _ _ (λ c l. imp_in _ _ (λ t. and_in _ _
        (all_in _ _ (λ v k. all_in _ _ (λ f j. imp_in _ _ (λ q. not_in _ (g.b1.apart c v f q)))))
        (g.b1.std_in c t)))

    defined_specified : (c : ℕ) → is_defined b.modules b.systems c ≡ true → specified b.specs c ≡ true
    defined_specified c t = unfold is_defined in elim (or_out (is_module b.modules c) (is_system b.systems c) t) [
      | inl y ↦ g.b2.mod_spec c y
      | inr y ↦ g.b2.sys_spec c y
    ]

    rule2 : B2 b.specs b.modules b.systems ≡ true
    rule2 = unfold B2 B2_at in all_in _ _ (λ c l.
        and_in _ _ (imp_in _ _ (defined_specified c))
        (and_in _ _ (all_in _ _ (λ d k. imp_in _ _ (λ u. g.b2.use_spec c d u)))
        (and_in _ _ (imp_in _ _ (λ y. not_in _ (g.b2.mod_sys c y)))
        (and_in _ _ (imp_in _ _ (λ y. all_in _ _ (λ v k. iff_in _ _ (g.b2.mod_covers c v y))))
        (and_in _ _ (imp_in _ _ (λ y. all_in _ _ (λ v k. iff_in _ _ (g.b2.sys_covers c v y))))
        (imp_in _ _ (λ y. all_in _ _ (λ v k. all_in _ _ (λ f j. not_in _ (g.b2.sys_bare c v f y))))))))))

    rules : B1_to_B9 b ≡ true
    rules = unfold B1_to_B9 B5_to_B9 in
        and_in _ _ rule1 (and_in _ _ rule2 (and_in _ _ g.b3 (and_in _ _ g.b4
        (and_in _ _ g.b5 (and_in _ _ g.b6 (and_in _ _ g.b7 (and_in _ _ g.b8 g.b9)))))))

-- ---- from the question to the facts

pub requires_version : (S : Specs) (c v f : ℕ) → requires S c v f ≡ true → has_version S c v ≡ true
unfolding requires has_version
requires_version S c v f t = is_some_in _ (has_out _ _ t).1

module _ (S : Specs) (sl : SpecLimits S) where
  b1_facts : one_to_eight S ≡ true → B1 S ≡ true → B1Facts S
  unfolding one_to_eight how_many B1 B1_at each_specified disjoint
  b1_facts n t =
      let at : (c : ℕ) → specified S c ≡ true → _ = λ c k. imp_out _ _ (all_out _ _ t c (sl.component< c k)) k in
      record {
        apart = λ c v f k. (let h = requires_version S c v f k in
            not_out _ (imp_out _ _ (all_out _ _ (all_out _ _ (and_l _ _ (at c (version_specified S c v h))) v (sl.version< c v h)) f
            (sl.required< c v f k)) k));
        std_in = λ c k. and_r _ _ (at c k);
        few = λ c. elim (bool? (specified S c)) [
          | inl k ↦ ≤?_out _ _ (and_r _ _ (imp_out _ _ (all_out _ _ n c (sl.component< c k)) k))
          | inr z ↦ le_trans (count_mono versions (has_version S c) (λ i. false) (λ v l k. clash (version_specified S c v k) z)) (rw count_none zero-le)
        ];
      }

  module _ (M : Modules) (Y : Systems) (ml : ModuleLimits M) (yl : SystemLimits Y) where
    b2_facts : B2 S M Y ≡ true → B2Facts S M Y
    unfolding B2 B2_at is_defined
    b2_facts t =
        let at : (c : ℕ) → c < components → _ = λ c l. all_out _ _ t c l in
        let of_module : (c : ℕ) → is_module M c ≡ true → _ = λ c k. at c (ml.component< c k) in
        let of_system : (s : ℕ) → is_system Y s ≡ true → _ = λ s k. at s (yl.component< s k) in
        record {
          mod_spec = λ c k. imp_out _ _ (and_l _ _ (of_module c k)) (or_l _ _ k);
          mod_sys = λ c k. not_out _ (imp_out _ _ (and_l _ _ (and_r _ _ (and_r _ _ (of_module c k)))) k);
          mod_covers = λ c v k. (let covers = imp_out _ _ (and_l _ _ (and_r _ _ (and_r _ _ (and_r _ _ (of_module c k))))) k in iff→≡ _ _
              (λ i. (let n = is_some_out _ i in sym (iff_out _ _ (all_out _ _ covers v (ml.implementation< c v n.0 n.1).0)) ∙ i))
              (λ h. iff_out _ _ (all_out _ _ covers v (sl.version< c v h)) ∙ h));
          sys_spec = λ s k. imp_out _ _ (and_l _ _ (of_system s k)) (or_r _ _ k);
          use_spec = λ s d u. imp_out _ _ (all_out _ _ (and_l _ _ (and_r _ _ (of_system s (usable_system Y s d u)))) d (yl.usable< s d u)) u;
          sys_covers = λ s v k. (let covers = imp_out _ _ (and_l _ _ (and_r _ _ (and_r _ _ (and_r _ _ (and_r _ _ (of_system s k)))))) k in iff→≡ _ _
              (λ i. sym (iff_out _ _ (all_out _ _ covers v (yl.version< s v i))) ∙ i)
              (λ h. iff_out _ _ (all_out _ _ covers v (sl.version< s v h)) ∙ h));
          sys_bare = λ s v f k. (let bare = imp_out _ _ (and_r _ _ (and_r _ _ (and_r _ _ (and_r _ _ (and_r _ _ (of_system s k)))))) k in
              fails _ (λ q. clash q (not_out _ (all_out _ _ (all_out _ _ bare v (sl.version< s v (requires_version S s v f q))) f (sl.required< s v f q)))));
        }

pub passes→good : {b : Book} → Passes b → Good b
passes→good {b} p = unfold B1_to_B9 B5_to_B9 in
    let t2 = and_r _ _ p.rules in let t3 = and_r _ _ t2 in let t4 = and_r _ _ t3 in let t5 = and_r _ _ t4 in
    record {
      spec_limits = p.spec_limits;
      module_limits = p.module_limits;
      system_limits = p.system_limits;
      b1 = b1_facts _ p.spec_limits p.counts (and_l _ _ p.rules);
      b2 = b2_facts _ p.spec_limits _ _ p.module_limits p.system_limits (and_l _ _ t2);
      b3 = and_l _ _ t3;
      b4 = and_l _ _ t4;
      b5 = and_l _ _ t5;
      b6 = and_l _ _ (and_r _ _ t5);
      b7 = and_l _ _ (and_r _ _ (and_r _ _ t5));
      b8 = and_l _ _ (and_r _ _ (and_r _ _ (and_r _ _ t5)));
      b9 = and_r _ _ (and_r _ _ (and_r _ _ (and_r _ _ t5)));
    }
