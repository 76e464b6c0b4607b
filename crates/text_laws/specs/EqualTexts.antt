-- Demand 2: two books have equal texts exactly when they are the same by names.
use Rattle.std.proofs.Math.Bool.{Bool, true}
use mathlib.Core.List.{List, [], ◌++◌, ◌∷◌, map}
use Rattle.std.specs.Prelude.{◌↔◌, ◌⊎◌, ◌≡◌, length}
use Rattle.std.proofs.Math.Logic.{inl, inr}
use Rattle.std.proofs.Math.Option.{Option, none, some}
use Rattle.std.proofs.Common.{◌∙◌, arith}
use Rattle.std.proofs.Math.Path.{ap, ap₂, refl, sym}
use Prim.Native.Nat.{◌<◌, suc, zero, ℕ}
use Rattle.std.proofs.Math.Dec.{T}
use Rattle.model.specs.Book.{Modules, Specs, Systems, components, composed, facilities, has_version, implementation, is_member}
use Rattle.model.specs.Book.{is_module, is_system, member, provides, requires, specified, usable, versions}
use Rattle.model.specs.Lists.{elem, non_empty}
use Rattle.model.specs.Maps.{is_some, or_else}
use Rattle.sets.specs.TestLaws.{=?-same, bool?, if-false, if-true, iff→≡, or_l, or_r}
use Rattle.sets.specs.Tests.{◌&◌, ~◌}
use Rattle.text.specs.Bytes.{Text}
use Rattle.text.specs.Handed.{PassesNamed}
use Rattle.text.specs.Language.{MOD, Name, NamedMembers, SPEC, SYS, Said}
use Rattle.text.specs.SameByNames.{IsModule, IsSpecified, IsSystem, Same, at, holds, text_of}
use Rattle.text.specs.Session.{State, session}
use Rattle.text.specs.Tables.{joined, name_at}
use Rattle.text.specs.Written.{as_commands, by_name, facility_names, first_of, line, members_of, mod_of, ready, spec_of, sys_of}
use Rattle.text.specs.Written.{systems_from, systems_in_order, written}
use Rattle.text_laws.specs.BookReadsBack.{reads_back}
use Rattle.text_laws.specs.Mentions.{cs_lists, li_lists, lk_lists, lm_lists, lv_lists, ms_lists, ys_lists}
use Rattle.text_laws.specs.NamedGood.{NamedGood, passes→named}
use Rattle.text_laws.specs.Order.{from-none, from_some, systems_are}
use Rattle.text_laws.specs.SameNames.{Alike, SameName, at_cong, composed_same, elem_fwd, impl_fwd, is_member_fwd}
use Rattle.text_laws.specs.SameNames.{member_fwd, member_of_lem, names_same, provides_same, ready_fwd, requires_same}
use Rattle.text_laws.specs.SameNames.{standard_same, sys_version_lem, usable_same, use_c, use_p, use_q, use_v, version_same}
use Rattle.text_laws.specs.TextLaws.{or_at}
use Rattle.text_laws.specs.Unique.{map_along}
use Rattle.model_laws.specs.MapLaws.{is_some_out}
use denote.Triple.Walked.{says}

first_same : (N N' : ℕ → Name) (test test' : ℕ → Bool) (l l' : List ℕ) → map N l ≡ map N' l'
    → ((x x' : ℕ) → elem x l ≡ true → elem x' l' ≡ true → N x ≡ N' x' → test x ≡ test' x')
    → ((first_of test l ≡ none) × (first_of test' l' ≡ none)) ⊎
    ((x : ℕ) × (x' : ℕ) × (first_of test l ≡ some x) × (first_of test' l' ≡ some x') × (N x ≡ N' x') × (elem x l ≡ true) ×
    (elem x' l' ≡ true))
unfolding first_of elem
first_same N N' test test' [] [] e h = inl (refl, refl)
first_same N N' test test' [] (y ∷ ys) e h = absurd (let z : ◌≡◌ {A = ℕ} 0 (suc (length (map N' ys))) = ap length e in
    omega arith)
first_same N N' test test' (x ∷ xs) [] e h = absurd (let z : ◌≡◌ {A = ℕ} (suc (length (map N xs))) 0 = ap length e in omega arith)
first_same N N' test test' (x ∷ xs) (y ∷ ys) e h =
    let a : N x ≡ N' y = cc in let b : map N xs ≡ map N' ys = cc in
    let t = h x y (or_l _ _ (=?-same x)) (or_l _ _ (=?-same y)) a in
    elim (bool? (test x)) [
      | inl q ↦ inr (x, y, if-true _ _ _ q, if-true _ _ _ (sym t ∙ q), a, or_l _ _ (=?-same x), or_l _ _ (=?-same y))
      | inr q ↦ elim (first_same N N' test test' xs ys b (λ n n' i j w. h n n' (or_r _ _ i) (or_r _ _ j) w)) [
        | inl z ↦ inl (if-false _ _ _ q ∙ z.0, if-false _ _ _ (sym t ∙ q) ∙ z.1)
        | inr z ↦ inr (
          z.0,
          z.1,
          if-false _ _ _ q ∙ z.2,
          if-false _ _ _ (sym t ∙ q) ∙ z.3,
          z.4,
          or_r _ _ z.5,
          or_r _ _ z.6,
        )
      ]
    ]

module _ (s s' : State) (A : Alike s s') where
  abbrev p : NamedGood s
  p = A.left

  abbrev p' : NamedGood s'
  p' = A.right

  abbrev S : Specs
  S = s.book.specs

  abbrev S' : Specs
  S' = s'.book.specs

  abbrev M : Modules
  M = s.book.modules

  abbrev M' : Modules
  M' = s'.book.modules

  abbrev Y : Systems
  Y = s.book.systems

  abbrev Y' : Systems
  Y' = s'.book.systems

  -- the names of components and of versions
  abbrev N : ℕ → Name
  N = name_at s.tables.comps

  abbrev N' : ℕ → Name
  N' = name_at s'.tables.comps

  abbrev W : ℕ → Name
  W = name_at s.tables.vers

  abbrev W' : ℕ → Name
  W' = name_at s'.tables.vers

  abbrev SameC : ℕ → ℕ → Type 0
  SameC = SameName s s' A

  abbrev back : Alike s' s
  back = record { left = p'; right = p; says = λ x. sym (A.says x) }

  same_back : (c c' : ℕ) → SameC c c' → SameName s' s back c' c
  same_back c c' k = record { there = k.there'; there' = k.there; named = sym k.named }

  facs_same : (test test' : ℕ → Bool)
      → ((n : ℕ) → test n ≡ true → (n < facilities) × (non_empty (name_at s.tables.facs n) ≡ true))
      → ((n : ℕ) → test' n ≡ true → (n < facilities) × (non_empty (name_at s'.tables.facs n) ≡ true))
      → ((w : Name) → at s.tables.facs w test ≡ at s'.tables.facs w test')
      → facility_names s.tables test ≡ facility_names s'.tables test'
  unfolding facility_names
  facs_same test test' u u' h = names_same _ _ p.named.facs_once p'.named.facs_once facilities test test' u u' h

  spec_same : (c c' : ℕ) → SameC c c' → spec_of s.book s.tables c ≡ spec_of s'.book s'.tables c'
  unfolding spec_of
  spec_same c c' k =
      let e₁ = facs_same (provides S c) (provides S' c') (use_p s p c) (use_p s' p' c') (provides_same s s' A c c' k) in
      let e₂ = map_along {A = Name × List Name} W W' (λ v. (W v, facility_names s.tables (requires S c v)))
      (λ v. (W' v, facility_names s'.tables (requires S' c' v)))
      (by_name s.tables.vers versions (has_version S c)) (by_name s'.tables.vers versions (has_version S' c'))
      (names_same _ _ p.named.vers_once p'.named.vers_once versions (has_version S c) (has_version S' c')
      (use_v s p c) (use_v s' p' c') (version_same s s' A c c' k)) (λ v v' a a' w.
      let h = sym ((lv_lists s p c).each v) ∙ a in
      let h' = sym ((lv_lists s' p' c').each v') ∙ a' in
      let q = facs_same (requires S c v) (requires S' c' v') (use_q s p c v) (use_q s' p' c' v')
      (requires_same s s' A c c' k v v' h h' w) in
      λ i. (w i, q i)) in
      λ i. SPEC (k.named i) (e₁ i) (e₂ i) (standard_same s s' A c c' k i)

  mod_same : (c c' : ℕ) → SameC c c' → is_module M c ≡ true → is_module M' c' ≡ true
      → mod_of s.book s.tables c ≡ mod_of s'.book s'.tables c'
  unfolding mod_of
  mod_same c c' k m m' =
      let T : ℕ → Bool = λ v. is_some (implementation M c v) in
      let T' : ℕ → Bool = λ v. is_some (implementation M' c' v) in
      let cov : (v : ℕ) → T v ≡ has_version S c v = λ v. p.good.b2.mod_covers c v m in
      let cov' : (v : ℕ) → T' v ≡ has_version S' c' v = λ v. p'.good.b2.mod_covers c' v m' in
      let e₂ = map_along {A = Name × Name} W W' (λ v. (W v, name_at s.tables.impls (or_else (implementation M c v) 0)))
      (λ v. (W' v, name_at s'.tables.impls (or_else (implementation M' c' v) 0))) (by_name s.tables.vers versions T)
      (by_name s'.tables.vers versions T')
      (names_same _ _ p.named.vers_once p'.named.vers_once versions T T' (λ v e. use_v s p c v (sym (cov v) ∙ e))
      (λ v e. use_v s' p' c' v (sym (cov' v) ∙ e)) (λ w. at_cong _ w T (has_version S c) cov ∙ version_same s s' A c c' k w
      ∙ sym (at_cong _ w T' (has_version S' c') cov'))) (λ v v' a a' w.
      let h = sym ((li_lists s p c).each v) ∙ a in
      let h' = sym ((li_lists s' p' c').each v') ∙ a' in
      let i = is_some_out _ h in
      let r = impl_fwd s s' A c c' k v v' (sym (cov v) ∙ h) (sym (cov' v') ∙ h') w i.0 i.1 in
      let q : name_at s.tables.impls (or_else (implementation M c v) 0)
      ≡ name_at s'.tables.impls (or_else (implementation M' c' v') 0) =
      ap (name_at s.tables.impls) (or_at _ i.0 i.1) ∙ sym r.2
      ∙ sym (ap (name_at s'.tables.impls) (or_at _ r.0 r.1)) in
      λ i. (w i, q i)) in
      λ i. MOD (k.named i) (e₂ i)

  members_same : (c c' : ℕ) → SameC c c' → (v v' : ℕ) → has_version S c v ≡ true → has_version S' c' v' ≡ true
      → W v ≡ W' v' → members_of s.book s.tables c v ≡ members_of s'.book s'.tables c' v'
  unfolding members_of
  members_same c c' k v v' h h' e =
      map_along {A = Name × Option Name} N N' (λ d. (N d, some (W (or_else (member Y c v d) 0))))
      (λ d. (N' d, some (W' (or_else (member Y' c' v' d) 0)))) (by_name s.tables.comps components (is_member Y c v))
      (by_name s'.tables.comps components (is_member Y' c' v'))
      (names_same _ _ p.named.comps_once p'.named.comps_once components (is_member Y c v)
      (is_member Y' c' v') (λ d a. use_c s p d (there_in s p c v d a)) (λ d a. use_c s' p' d (there_in s' p' c' v' d a))
      (λ w. iff→≡ _ _ (is_member_fwd s s' A c c' k v v' h h' e w)
      (is_member_fwd s' s back c' c (same_back c c' k) v' v h' h (sym e) w))) (λ d d' a a' w.
      let x = held s c v d (sym ((lm_lists s p c v).each d) ∙ a) in
      let r = member_fwd s s' A c c' k v v' h h' e d x.0 x.1 in
      let z : r.0 ≡ d' = p'.named.comps_once r.0 d'
      (use_c s' p' r.0 (member_of_lem s' p' c' v' r.0 r.1 r.2).0).1 (r.3 ∙ w) in
      let q : W (or_else (member Y c v d) 0) ≡ W' (or_else (member Y' c' v' d') 0) =
      ap W (or_at _ x.0 x.1) ∙ sym r.4 ∙ sym (ap W' (or_at _ r.1 (ap (member Y' c' v') (sym z) ∙ r.2))) in
      λ i. (w i, some (q i)))
    where
      held : (x : State) (c v d : ℕ) → is_member x.book.systems c v d ≡ true
          → (w : ℕ) × (member x.book.systems c v d ≡ some w)
      held x c v d e = unfold is_member in is_some_out (member x.book.systems c v d) e

      there_in : (x : State) → (q : NamedGood x) → (c v d : ℕ) → is_member x.book.systems c v d ≡ true
          → specified x.book.specs d ≡ true
      there_in x q c v d e = let h = held x c v d e in (member_of_lem x q c v d h.0 h.1).0

  sys_same : (c c' : ℕ) → SameC c c' → is_system Y c ≡ true → is_system Y' c' ≡ true
      → sys_of s.book s.tables c ≡ sys_of s'.book s'.tables c'
  unfolding sys_of
  sys_same c c' k y y' =
      let e₁ = names_same _ _ p.named.comps_once p'.named.comps_once components (usable Y c) (usable Y' c')
      (λ d a. use_c s p d (p.good.b2.use_spec c d a)) (λ d a. use_c s' p' d (p'.good.b2.use_spec c' d a))
      (usable_same s s' A c c' k) in
      let e₂ = map_along {A = Name × NamedMembers} W W' (λ v. (W v, members_of s.book s.tables c v))
      (λ v. (W' v, members_of s'.book s'.tables c' v)) (by_name s.tables.vers versions (composed Y c))
      (by_name s'.tables.vers versions (composed Y' c'))
      (names_same _ _ p.named.vers_once p'.named.vers_once versions (composed Y c) (composed Y' c')
      (λ v a. use_v s p c v (sys_version_lem s p c v y a)) (λ v a. use_v s' p' c' v (sys_version_lem s' p' c' v y' a))
      (composed_same s s' A c c' k)) (λ v v' a a' w.
      let h = sys_version_lem s p c v y (sym ((lk_lists s p c).each v) ∙ a) in
      let h' = sys_version_lem s' p' c' v' y' (sym ((lk_lists s' p' c').each v') ∙ a') in
      let q = members_same c c' k v v' h h' w in
      λ i. (w i, q i)) in
      λ i. SYS (k.named i) (e₁ i) (e₂ i)

  -- ---- systems in order

  same_name : (c c' : ℕ) → is_system Y c ≡ true → is_system Y' c' ≡ true → N c ≡ N' c' → SameC c c'
  same_name c c' y y' e = record { there = p.good.b2.sys_spec c y; there' = p'.good.b2.sys_spec c' y'; named = e }

  test_same : (out out' : List ℕ) → map N out ≡ map N' out' → (x x' : ℕ) → SameC x x'
      → (~ elem x out & ready Y out x) ≡ (~ elem x' out' & ready Y' out' x')
  test_same out out' e x x' k = ap₂ ◌&◌
      (ap ~◌ (iff→≡ _ _ (elem_fwd s s' A out out' e x x' k) (elem_fwd s' s back out' out (sym e) x' x (same_back x x' k))))
      (iff→≡ _ _ (ready_fwd s s' A out out' e x x' k) (ready_fwd s' s back out' out (sym e) x' x (same_back x x' k)))

  abbrev ls : List ℕ
  ls = by_name s.tables.comps components (is_system Y)

  abbrev ls' : List ℕ
  ls' = by_name s'.tables.comps components (is_system Y')

  in_ls : (x : ℕ) → elem x ls ≡ true → is_system Y x ≡ true
  in_ls x e = sym ((ys_lists s p).each x) ∙ e

  in_ls' : (x : ℕ) → elem x ls' ≡ true → is_system Y' x ≡ true
  in_ls' x e = sym ((ys_lists s' p').each x) ∙ e

  names_ls : map N ls ≡ map N' ls'
  names_ls = names_same _ _ p.named.comps_once p'.named.comps_once components _ _
      (λ n a. use_c s p n (p.good.b2.sys_spec n a)) (λ n a. use_c s' p' n (p'.good.b2.sys_spec n a)) (λ w. system_fact w)
    where
      system_fact : (w : Name) → at s.tables.comps w (is_system Y) ≡ at s'.tables.comps w (is_system Y')
      system_fact w = unfold holds in A.says (IsSystem w)

  order_same : (n : ℕ) (out out' : List ℕ) → map N out ≡ map N' out'
      → map N (systems_from n Y ls out) ≡ map N' (systems_from n Y' ls' out')
  order_same zero out out' e = unfold systems_from in refl
  order_same (suc n) out out' e =
      elim (first_same N N' (λ x. ~ elem x out & ready Y out x) (λ x. ~ elem x out' & ready Y' out' x) ls ls' names_ls
      (λ x x' a a' w. test_same out out' e x x' (same_name x x' (in_ls x a) (in_ls' x' a') w))) [
        | inl z ↦ ap (map N) (from-none n _ ls out z.0) ∙ sym (ap (map N') (from-none n _ ls' out' z.1))
        | inr z ↦ ap (map N) (from_some n _ ls out z.0 z.2)
            ∙ ap₂ (λ (a : Name) (l : List Name). a ∷ l) z.4
            (order_same n (z.0 ∷ out) (z.1 ∷ out') (ap₂ (λ (a : Name) (l : List Name). a ∷ l) z.4 e))
            ∙ sym (ap (map N') (from_some n _ ls' out' z.1 z.3))
      ]

  -- ---- the text

  specified_fact : (w : Name) → at s.tables.comps w (specified S) ≡ at s'.tables.comps w (specified S')
  unfolding holds
  specified_fact w = A.says (IsSpecified w)

  module_fact : (w : Name) → at s.tables.comps w (is_module M) ≡ at s'.tables.comps w (is_module M')
  unfolding holds
  module_fact w = A.says (IsModule w)

  commands_same : as_commands s.book s.tables ≡ as_commands s'.book s'.tables
  unfolding as_commands systems_in_order
  commands_same =
      let e₁ = map_along N N' (spec_of s.book s.tables) (spec_of s'.book s'.tables)
      (by_name s.tables.comps components (specified S)) (by_name s'.tables.comps components (specified S'))
      (names_same _ _ p.named.comps_once p'.named.comps_once components _ _ (use_c s p) (use_c s' p') specified_fact)
      (λ c c' a a' w. spec_same c c'
      (record {
        there = sym ((cs_lists s p).each c) ∙ a;
        there' = sym ((cs_lists s' p').each c') ∙ a';
        named = w;
      })) in
      let e₂ = map_along N N' (mod_of s.book s.tables) (mod_of s'.book s'.tables)
      (by_name s.tables.comps components (is_module M)) (by_name s'.tables.comps components (is_module M'))
      (names_same _ _ p.named.comps_once p'.named.comps_once components _ _
      (λ n a. use_c s p n (p.good.b2.mod_spec n a)) (λ n a. use_c s' p' n (p'.good.b2.mod_spec n a)) module_fact)
      (λ c c' a a' w. let m = sym ((ms_lists s p).each c) ∙ a in
      let m' = sym ((ms_lists s' p').each c') ∙ a' in
      mod_same c c' (record { there = p.good.b2.mod_spec c m; there' = p'.good.b2.mod_spec c' m'; named = w }) m m') in
      let e₃ = map_along N N' (sys_of s.book s.tables) (sys_of s'.book s'.tables)
      (systems_from components Y ls []) (systems_from components Y' ls' []) (order_same components [] [] refl)
      (λ c c' a a' w. let y = systems_are s.book p.good ls (ys_lists s p) components [] c a in
      let y' = systems_are s'.book p'.good ls' (ys_lists s' p') components [] c' a' in
      sys_same c c' (same_name c c' y y' w) y y') in
      λ i. e₁ i ++ (e₂ i ++ e₃ i)

  texts_same : text_of s ≡ text_of s'
  unfolding written
  texts_same = ap (λ (ks : List Said). joined (map line ks)) commands_same

-- "two books have equal texts exactly when they are the same by names"
pub equal_texts : (s s' : State) → PassesNamed s → PassesNamed s' → (text_of s ≡ text_of s') ↔ Same s s'
equal_texts s s' p p' = (
  λ e x. sym ((reads_back s p).1 x) ∙ ap (λ (w : Text). holds (session w).1 x) e ∙ (reads_back s' p').1 x,
  λ F. texts_same s s' (record { left = passes→named p; right = passes→named p'; says = F }),
)
