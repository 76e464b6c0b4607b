-- Two books that are the same by names: what components and versions of the same name have.
use Rattle.std.proofs.Math.Bool.{Bool}
use Rattle.std.specs.Prelude.{true, List, map, ◌≡◌, refl}
use Rattle.std.proofs.Math.Option.{Option, some}
use Rattle.std.proofs.Common.{◌∙◌}
use Rattle.std.proofs.Math.Path.{ap, sym}
use Prim.Native.Nat.{◌<◌, ℕ}
use Rattle.model.specs.Book.{components, composed, facilities, has_version, implementation, is_member, is_system, member, provides}
use Rattle.model.specs.Book.{requires, specified, standard, usable, versions}
use Rattle.model.specs.Lists.{elem, non_empty}
use Rattle.model.specs.Maps.{has}
use Rattle.sets.specs.TestLaws.{=?-out, =?-same, all_in, all_out, and_in, and_r, imp_in, imp_out}
use Rattle.sets.specs.Tests.{◌&◌, ◌=?◌}
use Rattle.text.specs.Bytes.{among}
use Rattle.text.specs.Handed.{Once}
use Rattle.text.specs.Language.{Name}
use Rattle.text.specs.SameByNames.{Composed, Fact, Implemented, IsSystem, Member, Provides, Requires, Same, Standard, Usable}
use Rattle.text.specs.SameByNames.{Version, at, holds}
use Rattle.text.specs.Session.{State}
use Rattle.text.specs.Tables.{Table, name_at, place}
use Rattle.text.specs.Written.{by_name, ready}
use Rattle.text_laws.specs.Mentions.{impl_some, valid-some}
use Rattle.text_laws.specs.NamedGood.{NamedGood}
use Rattle.text_laws.specs.Places.{place_name, place_of}
use Rattle.text_laws.specs.TextLaws.{among_names_in, among_names_out}
use Rattle.text_laws.specs.Unique.{by_name-among, by_name-rises, unique}
use Rattle.model_laws.specs.Frame.{mem_usable}
use Rattle.model_laws.specs.MapLaws.{has_cong, has_in, has_out, is_some_in, is_some_out}

at_here : (t : Table) (w : Name) (n : ℕ) (P : ℕ → Bool) → place t w ≡ some n → at t w P ≡ P n
unfolding at has
at_here t w n P e = ap (λ (o : Option ℕ). has o P) e

at_out : (t : Table) (w : Name) (P : ℕ → Bool) → at t w P ≡ true → (n : ℕ) × (name_at t n ≡ w) × (P n ≡ true)
unfolding at
at_out t w P e = let q = has_out _ _ e in (q.0, (place_name t w q.0 q.1).0, q.2)

pub at_cong : (t : Table) (w : Name) (P Q : ℕ → Bool) → ((n : ℕ) → P n ≡ Q n) → at t w P ≡ at t w Q
unfolding at
at_cong t w P Q h = has_cong _ (λ n e. h n)

pub names_same : (t t' : Table) → Once t → Once t' → (L : ℕ) (test test' : ℕ → Bool)
    → ((n : ℕ) → test n ≡ true → (n < L) × (non_empty (name_at t n) ≡ true))
    → ((n : ℕ) → test' n ≡ true → (n < L) × (non_empty (name_at t' n) ≡ true))
    → ((w : Name) → at t w test ≡ at t' w test') → map (name_at t) (by_name t L test) ≡ map (name_at t') (by_name t' L test')
unfolding at
names_same t t' o o' L test test' u u' h = unique _ _ (by_name-rises t o L test (λ n e. (u n e).0) (λ n e. (u n e).1))
    (by_name-rises t' o' L test' (λ n e. (u' n e).0) (λ n e. (u' n e).1))
    (λ w. by_name-among t o L test (λ n e. (u n e).0) (λ n e. (u n e).1) w ∙ h w
    ∙ sym (by_name-among t' o' L test' (λ n e. (u' n e).0) (λ n e. (u' n e).1) w))

-- ---- one state: the numbers of its names

module _ (s : State) (p : NamedGood s) where
  pub use_c : (c : ℕ) → specified s.book.specs c ≡ true → (c < components) × (non_empty (name_at s.tables.comps c) ≡ true)
  use_c c e = (p.good.spec_limits.component< c e, valid-some _ (p.named.component c e))

  pub use_v : (c v : ℕ) → has_version s.book.specs c v ≡ true → (v < versions) × (non_empty (name_at s.tables.vers v) ≡ true)
  use_v c v e = (p.good.spec_limits.version< c v e, valid-some _ (p.named.version c v e))

  pub use_p : (c f : ℕ) → provides s.book.specs c f ≡ true → (f < facilities) × (non_empty (name_at s.tables.facs f) ≡ true)
  use_p c f e = (p.good.spec_limits.provided< c f e, valid-some _ (p.named.provided c f e))

  pub use_q : (c v f : ℕ) → requires s.book.specs c v f ≡ true
      → (f < facilities) × (non_empty (name_at s.tables.facs f) ≡ true)
  use_q c v f e = (p.good.spec_limits.required< c v f e, valid-some _ (p.named.required c v f e))

  is_c : (c : ℕ) → specified s.book.specs c ≡ true → place s.tables.comps (name_at s.tables.comps c) ≡ some c
  is_c c e = place_of _ p.named.comps_once c (use_c c e).1

  is_v : (c v : ℕ) → has_version s.book.specs c v ≡ true → place s.tables.vers (name_at s.tables.vers v) ≡ some v
  is_v c v e = place_of _ p.named.vers_once v (use_v c v e).1

  is_i : (c v i : ℕ) → implementation s.book.modules c v ≡ some i
      → place s.tables.impls (name_at s.tables.impls i) ≡ some i
  is_i c v i e = place_of _ p.named.impls_once i (impl_some _ (p.named.implemented c v i e))

  pub sys_version_lem : (c v : ℕ) → is_system s.book.systems c ≡ true → composed s.book.systems c v ≡ true
      → has_version s.book.specs c v ≡ true
  sys_version_lem c v y e = sym (p.good.b2.sys_covers c v y) ∙ e

  pub member_of_lem : (c v d w : ℕ) → member s.book.systems c v d ≡ some w
      → (specified s.book.specs d ≡ true) × (has_version s.book.specs d w ≡ true)
  member_of_lem c v d w e = let u = mem_usable _ _ p.good.system_limits p.good.b5 c v d w e in
      (p.good.b2.use_spec c d u.0, u.1)

-- ---- two states that say the same

-- two books with their tables, both passing the question for 25, that are the same by names
pub record Alike (s s' : State) : Type 0 where
  pub left : NamedGood s
  pub right : NamedGood s'
  pub says : Same s s'

module _ (s s' : State) (A : Alike s s') where
  abbrev p : NamedGood s
  p = A.left

  abbrev p' : NamedGood s'
  p' = A.right

  abbrev N : ℕ → Name
  N = name_at s.tables.comps

  abbrev N' : ℕ → Name
  N' = name_at s'.tables.comps

  abbrev W : ℕ → Name
  W = name_at s.tables.vers

  abbrev W' : ℕ → Name
  W' = name_at s'.tables.vers

  -- a component with the same name in both
  pub record SameName (c c' : ℕ) : Type 0 where
    pub there : specified s.book.specs c ≡ true
    pub there' : specified s'.book.specs c' ≡ true
    pub named : N c ≡ N' c'

  module _ (c c' : ℕ) (k : SameName c c') where
    -- a fact on them, read off in each state
    read : (x : Name → Fact) (P : ℕ → Bool) (P' : ℕ → Bool) → ((w : Name) → holds s (x w) ≡ at s.tables.comps w P)
        → ((w : Name) → holds s' (x w) ≡ at s'.tables.comps w P') → P c ≡ P' c'
    read x P P' h h' =
        sym (at_here _ _ c P (is_c s p c k.there)) ∙ sym (h (N c)) ∙ A.says (x (N c))
        ∙ ap (λ (w : Name). holds s' (x w)) k.named ∙ h' (N' c') ∙ at_here _ _ c' P' (is_c s' p' c' k.there')

    pub provides_same : (w : Name)
        → at s.tables.facs w (provides s.book.specs c) ≡ at s'.tables.facs w (provides s'.book.specs c')
    unfolding holds
    provides_same w = read (λ c. Provides c w) (λ c. at s.tables.facs w (provides s.book.specs c))
        (λ c. at s'.tables.facs w (provides s'.book.specs c)) (λ w. refl) (λ w. refl)

    pub version_same : (w : Name)
        → at s.tables.vers w (has_version s.book.specs c) ≡ at s'.tables.vers w (has_version s'.book.specs c')
    unfolding holds
    version_same w = read (λ c. Version c w) (λ c. at s.tables.vers w (has_version s.book.specs c))
        (λ c. at s'.tables.vers w (has_version s'.book.specs c)) (λ w. refl) (λ w. refl)

    pub usable_same : (w : Name)
        → at s.tables.comps w (usable s.book.systems c) ≡ at s'.tables.comps w (usable s'.book.systems c')
    unfolding holds
    usable_same w = read (λ c. Usable c w) (λ c. at s.tables.comps w (usable s.book.systems c))
        (λ c. at s'.tables.comps w (usable s'.book.systems c)) (λ w. refl) (λ w. refl)

    pub composed_same : (w : Name)
        → at s.tables.vers w (composed s.book.systems c) ≡ at s'.tables.vers w (composed s'.book.systems c')
    unfolding holds
    composed_same w = read (λ c. Composed c w) (λ c. at s.tables.vers w (composed s.book.systems c))
        (λ c. at s'.tables.vers w (composed s'.book.systems c)) (λ w. refl) (λ w. refl)

    pub standard_same : W (standard s.book.specs c) ≡ W' (standard s'.book.specs c')
    unfolding holds
    standard_same =
        let d = standard s.book.specs c in
        let P : (x : State) → Name → ℕ → Bool = λ x w c. at x.tables.vers w (λ v. specified x.book.specs c
        & v =? standard x.book.specs c) in
        let e = sym (read (λ c. Standard c (W d)) (P s (W d)) (P s' (W d)) (λ w. refl) (λ w. refl))
        ∙ at_here _ _ d _ (is_v s p c d (p.good.b1.std_in c k.there)) ∙ and_in _ _ k.there (=?-same d) in
        let q = at_out _ _ _ e in
        sym q.1 ∙ ap W' (=?-out _ _ (and_r _ _ q.2))

    -- a version with the same name in both
    module _ (v v' : ℕ) (h : has_version s.book.specs c v ≡ true) (h' : has_version s'.book.specs c' v' ≡ true) (e : W v
        ≡ W' v') where
      pub requires_same : (w : Name)
          → at s.tables.facs w (requires s.book.specs c v) ≡ at s'.tables.facs w (requires s'.book.specs c' v')
      unfolding holds
      requires_same w =
          sym (at_here _ _ v _ (is_v s p c v h)) ∙ read (λ c. Requires c (W v) w)
          (λ c. at s.tables.vers (W v) (λ v. at s.tables.facs w (requires s.book.specs c v)))
          (λ c. at s'.tables.vers (W v) (λ v. at s'.tables.facs w (requires s'.book.specs c v))) (λ w. refl)
          (λ w. refl)
          ∙ ap (λ (z : Name). at s'.tables.vers z (λ v. at s'.tables.facs w (requires s'.book.specs c' v))) e
          ∙ at_here _ _ v' _ (is_v s' p' c' v' h')

      pub impl_fwd : (i : ℕ) → implementation s.book.modules c v ≡ some i
          → (i' : ℕ) × (implementation s'.book.modules c' v' ≡ some i') × (name_at s'.tables.impls i'
          ≡ name_at s.tables.impls i)
      unfolding holds
      impl_fwd i a =
          let I = name_at s.tables.impls i in
          let Q : (x : State) → ℕ → ℕ → Bool = λ x c v. at x.tables.impls I
          (λ i. has (implementation x.book.modules c v) (λ j. i =? j)) in
          let P : (x : State) → ℕ → Bool = λ x c. at x.tables.vers (W v) (Q x c) in
          let e₁ = sym (read (λ c. Implemented c (W v) I) (P s) (P s') (λ w. refl) (λ w. refl))
          ∙ at_here _ _ v (Q s c) (is_v s p c v h) ∙ at_here _ _ i _ (is_i s p c v i a) ∙ has_in _ _ i a (=?-same i) in
          let e₂ = sym (at_here _ _ v' (Q s' c') (is_v s' p' c' v' h'))
          ∙ ap (λ (z : Name). at s'.tables.vers z (Q s' c')) (sym e) ∙ e₁ in
          let q = at_out _ _ _ e₂ in let r = has_out _ _ q.2 in
          (r.0, r.1, ap (name_at s'.tables.impls) (sym (=?-out _ _ r.2)) ∙ q.1)

      pub member_fwd : (d w : ℕ) → member s.book.systems c v d ≡ some w
          → (d' : ℕ) × (w' : ℕ) × (member s'.book.systems c' v' d' ≡ some w') × (N' d' ≡ N d) × (W' w' ≡ W w)
      unfolding holds
      member_fwd d w a =
          let R : (x : State) → ℕ → ℕ → ℕ
          → Bool = λ x c v d. at x.tables.vers (W w) (λ w. has (member x.book.systems c v d) (λ x. w =? x)) in
          let Q : (x : State) → ℕ → ℕ → Bool = λ x c v. at x.tables.comps (N d) (R x c v) in
          let P : (x : State) → ℕ → Bool = λ x c. at x.tables.vers (W v) (Q x c) in
          let m = member_of_lem s p c v d w a in
          let e₁ = sym (read (λ c. Member c (W v) (N d) (W w)) (P s) (P s') (λ w. refl) (λ w. refl))
          ∙ at_here _ _ v (Q s c) (is_v s p c v h) ∙ at_here _ _ d (R s c v) (is_c s p d m.0)
          ∙ at_here _ _ w _ (is_v s p d w m.1) ∙ has_in _ _ w a (=?-same w) in
          let e₂ = sym (at_here _ _ v' (Q s' c') (is_v s' p' c' v' h'))
          ∙ ap (λ (z : Name). at s'.tables.vers z (Q s' c')) (sym e) ∙ e₁ in
          let q = at_out _ _ _ e₂ in let r = at_out _ _ _ q.2 in let z = has_out _ _ r.2 in
          (q.0, z.0, z.1, q.1, ap W' (sym (=?-out _ _ z.2)) ∙ r.1)

      pub is_member_fwd : (n : Name) → at s.tables.comps n (is_member s.book.systems c v) ≡ true
          → at s'.tables.comps n (is_member s'.book.systems c' v') ≡ true
      unfolding is_member
      is_member_fwd n a =
          let q = at_out _ _ _ a in let x = is_some_out (member s.book.systems c v q.0) q.2 in
          let r = member_fwd q.0 x.0 x.1 in
          let m = member_of_lem s' p' c' v' r.0 r.1 r.2 in
          ap (λ (z : Name). at s'.tables.comps z (is_member s'.book.systems c' v')) (sym (r.3 ∙ q.1))
          ∙ at_here _ _ r.0 _ (is_c s' p' r.0 m.0) ∙ is_some_in _ r.2

  system_same : (c c' : ℕ) → SameName c c' → is_system s.book.systems c ≡ is_system s'.book.systems c'
  unfolding holds
  system_same c c' k = read c c' k IsSystem (is_system s.book.systems) (is_system s'.book.systems) (λ w. refl) (λ w. refl)

  -- ---- the order of systems

  pub elem_fwd : (out out' : List ℕ) → map N out ≡ map N' out' → (x x' : ℕ) → SameName x x' → elem x out ≡ true
      → elem x' out' ≡ true
  elem_fwd out out' e x x' k a =
      let r = among_names_out N' out' (N x) (ap (among (N x)) (sym e) ∙ among_names_in N out x a) in
      ap (λ (z : ℕ). elem z out') (p'.named.comps_once x' r.0 (use_c s' p' x' k.there').1 (sym k.named ∙ r.2)) ∙ r.1

  pub ready_fwd : (out out' : List ℕ) → map N out ≡ map N' out' → (x x' : ℕ) → SameName x x'
      → ready s.book.systems out x ≡ true
      → ready s'.book.systems out' x' ≡ true
  unfolding ready
  ready_fwd out out' e x x' k a = all_in _ _ (λ c' l. imp_in _ _ (λ u'. imp_in _ _ (λ y'.
      let t' = p'.good.b2.use_spec x' c' u' in
      let q = at_out _ _ _ (usable_same x x' k (N' c') ∙ at_here _ _ c' (usable s'.book.systems x') (is_c s' p' c' t') ∙ u') in
      let c = q.0 in
      let tw : SameName c c' = record { there = p.good.b2.use_spec x c q.2; there' = t'; named = q.1 } in
      elem_fwd out out' e c c' tw (imp_out _ _ (imp_out _ _ (all_out _ _ a c (p.good.system_limits.usable< x c q.2)) q.2)
      (system_same c c' tw ∙ y')))))
