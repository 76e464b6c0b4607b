-- When a book changes only where no system looks, B3 to B9 are kept.
use Rattle.std.specs.Prelude.{Bool, true, ◌≡◌}
use Rattle.std.proofs.Common.{inl, inr, ◌∙◌, sym}
use Rattle.std.proofs.Math.Option.{Option, some}
use Rattle.std.proofs.Math.Path.{ap, ap₂, fun_ext}
use Prim.Native.Nat.{suc, zero, ℕ}
use Rattle.model.specs.Book.{Specs, Systems, components, composed, composition, facilities, has_version, is_member, is_system, member}
use Rattle.model.specs.Book.{provides, requires, usable}
use Rattle.model.specs.Limits.{SystemLimits}
use Rattle.model.specs.Maps.{has, if_there, is_some}
use Rattle.model.specs.Rules.{B3, B3_at, B4, B5, B5_at, B6, B6_at, B7, B7_at, B8, B8_at, B9, B9_at, each_composition, each_system, needs}
use Rattle.model.specs.Rules.{needs_to, offered, p, r, reaches, reaches_in}
use Rattle.sets.specs.Sets.{disjoint, meet, minus, subset, union}
use Rattle.sets.specs.TestLaws.{all_cong, all_in, all_out, and_cong, and_in, and_l, and_r, any_cong, any_in, any_out, clash, fails}
use Rattle.sets.specs.TestLaws.{imp_cong, imp_in, imp_out, not_in, not_out, or_l, or_out, or_r}
use Rattle.sets.specs.Tests.{◌&◌, ◌⇒◌, all, any, if?◌then◌else◌}
use Rattle.model_laws.specs.MapLaws.{and_then_out, has_cong, if_there_cong, if_there_out, is_some_in, is_some_out}
use Rattle.model_laws.specs.Notions.{own}

pub member_composed : (Y : Systems) (s v c w : ℕ) → member Y s v c ≡ some w → composed Y s v ≡ true
unfolding member composed
member_composed Y s v c w e = is_some_in _ (and_then_out _ _ w e).1

pub composed_system : (Y : Systems) (s v : ℕ) → composed Y s v ≡ true → is_system Y s ≡ true
unfolding composed composition is_system
composed_system Y s v t = let q = is_some_out _ t in is_some_in (Y s) (and_then_out _ _ q.0 q.1).1

pub composition_out : (Y : Systems) (test : ℕ → ℕ → Bool) → SystemLimits Y → each_composition Y test ≡ true → (s v : ℕ) → composed Y s v ≡ true → test s v ≡ true
unfolding each_composition
composition_out Y test l t s v k = imp_out _ _ (all_out _ _ (all_out _ _ t s (l.component< s (composed_system Y s v k))) v (l.version< s v k)) k

pub composition_in : (Y : Systems) (test : ℕ → ℕ → Bool) → ((s v : ℕ) → composed Y s v ≡ true → test s v ≡ true) → each_composition Y test ≡ true
unfolding each_composition
composition_in Y test h = all_in _ _ (λ s i. all_in _ _ (λ v j. imp_in _ _ (h s v)))

pub system_out : (Y : Systems) (test : ℕ → Bool) → SystemLimits Y → each_system Y test ≡ true → (s : ℕ) → is_system Y s ≡ true → test s ≡ true
unfolding each_system
system_out Y test l t s k = imp_out _ _ (all_out _ _ t s (l.component< s k)) k

pub system_in : (Y : Systems) (test : ℕ → Bool) → ((s : ℕ) → is_system Y s ≡ true → test s ≡ true) → each_system Y test ≡ true
unfolding each_system
system_in Y test h = all_in _ _ (λ s i. imp_in _ _ (h s))

-- B5 by its parts
pub mem_usable : (S : Specs) (Y : Systems) → SystemLimits Y → B5 S Y ≡ true → (s v c w : ℕ) → member Y s v c ≡ some w → (usable Y s c ≡ true) × (has_version S c w ≡ true)
unfolding B5 B5_at
mem_usable S Y l b5 s v c w e =
    let t = if_there_out _ _ (all_out _ _ (and_r _ _ (composition_out Y (B5_at S Y) l b5 s v (member_composed Y s v c w e))) c (l.member< s v c w e).0) w e in
    (and_l _ _ t, and_r _ _ t)

-- the systems of Y', what they use and the pairs that they hold are as in S and Y
pub record Frame (S S' : Specs) (Y Y' : Systems) : Type 0 where
  pub sys : (s : ℕ) → is_system Y' s ≡ true → is_system Y s ≡ true
  pub uses : (s c : ℕ) → is_system Y' s ≡ true → usable Y' s c ≡ usable Y s c
  pub comps : (s v : ℕ) → composed Y' s v ≡ true → composed Y s v ≡ true
  pub members : (s v c : ℕ) → composed Y' s v ≡ true → member Y' s v c ≡ member Y s v c
  pub own : (s f : ℕ) → is_system Y' s ≡ true → provides S' s f ≡ provides S s f
  pub prov : (s c f : ℕ) → usable Y' s c ≡ true → provides S' c f ≡ provides S c f
  pub held : (s v c w : ℕ) → member Y' s v c ≡ some w → has_version S' c w ≡ has_version S c w
  pub req : (s v c w f : ℕ) → member Y' s v c ≡ some w → requires S' c w f ≡ requires S c w f
  pub kind : (s v c w : ℕ) → member Y' s v c ≡ some w → is_system Y' c ≡ is_system Y c
  pub same : (s v c w d : ℕ) → member Y' s v c ≡ some w → member Y' c w d ≡ member Y c w d

module _ (S S' : Specs) (Y Y' : Systems) (F : Frame S S' Y Y') (l : SystemLimits Y) (b5 : B5 S Y ≡ true) where
  usable' : (s v c : ℕ) → is_member Y' s v c ≡ true → usable Y' s c ≡ true
  unfolding is_member
  usable' s v c t =
      let q = is_some_out _ t in
      let k = member_composed Y' s v c q.0 q.1 in
      F.uses s c (composed_system Y' s v k) ∙ (mem_usable S Y l b5 s v c q.0 (sym (F.members s v c k) ∙ q.1)).0

  needs_same : (n s v c w f : ℕ) → member Y' s v c ≡ some w → needs_to n S' Y' c w f ≡ needs_to n S Y c w f
  unfolding needs_to
  needs_same zero s v c w f e = F.req s v c w f e
  needs_same (suc n) s v c w f e =
      ap₂ (λ (t x : Bool). if? t then x else requires S' c w f) (F.kind s v c w e) (any_cong components (λ d.
      has_cong (member Y' c w d) (λ x g. needs_same n c w d x f g) ∙ ap (λ (o : Option ℕ). has o (λ x. needs_to n S Y d x f)) (F.same s v c w d e)))
      ∙ ap (λ (x : Bool). if? is_system Y c then any components (λ d. has (member Y c w d) (λ z. needs_to n S Y d z f)) else x) (F.req s v c w f e)

  r_same : (s v : ℕ) → composed Y' s v ≡ true → r S' Y' s v ≡ r S Y s v
  unfolding r needs
  r_same s v k = fun_ext (λ f. any_cong components (λ c.
      has_cong (member Y' s v c) (λ w e. needs_same components s v c w f e)
      ∙ ap (λ (o : Option ℕ). has o (λ w. needs_to components S Y c w f)) (F.members s v c k)))

  is_same : (s v c : ℕ) → composed Y' s v ≡ true → is_member Y' s v c ≡ is_member Y s v c
  unfolding is_member
  is_same s v c k = ap is_some (F.members s v c k)

  p_same : (s v : ℕ) → composed Y' s v ≡ true → p S' Y' s v ≡ p S Y s v
  unfolding p
  p_same s v k = fun_ext (λ f. any_cong components (λ c.
      and_cong (is_member Y' s v c) (λ t. F.prov s c f (usable' s v c t)) ∙ ap (λ (x : Bool). x & provides S c f) (is_same s v c k)))

  own_same : (s : ℕ) → is_system Y' s ≡ true → provides S' s ≡ provides S s
  own_same s y = fun_ext (λ f. F.own s f y)

  offered_same : (s : ℕ) → is_system Y' s ≡ true → offered S' Y' s ≡ offered S Y s
  unfolding offered
  offered_same s y = fun_ext (λ f. any_cong components (λ c.
      and_cong (usable Y' s c) (λ u. F.prov s c f u) ∙ ap (λ (x : Bool). x & provides S c f) (F.uses s c y)))

  -- what a member provides
  member_provides : (s v c : ℕ) → is_member Y' s v c ≡ true → provides S' c ≡ provides S c
  member_provides s v c t = fun_ext (λ f. F.prov s c f (usable' s v c t))

  pub B3_kept : B3 S Y ≡ true → B3 S' Y' ≡ true
  unfolding B3 B3_at
  B3_kept b = system_in Y' _ (λ s y. ap₂ (subset facilities) (own_same s y) (offered_same s y) ∙ system_out Y (B3_at S Y) l b s (F.sys s y))

  -- a test that every composition passes
  each_kept : (t t' : ℕ → ℕ → Bool) → ((s v : ℕ) → composed Y' s v ≡ true → is_system Y' s ≡ true → t' s v ≡ t s v)
      → each_composition Y t ≡ true → each_composition Y' t' ≡ true
  each_kept t t' h b = composition_in Y' _ (λ s v k. h s v k (composed_system Y' s v k) ∙ composition_out Y t l b s v (F.comps s v k))

  pub B5_kept : B5 S' Y' ≡ true
  unfolding B5 B5_at
  B5_kept = each_kept (B5_at S Y) (B5_at S' Y') (λ s v k y.
      ap₂ ◌&◌ (any_cong components (λ c. is_same s v c k)) (all_cong components (λ c.
      if_there_cong (member Y' s v c) (λ w e. ap₂ ◌&◌ (F.uses s c y) (F.held s v c w e))
      ∙ ap (λ (o : Option ℕ). if_there o (λ w. usable Y s c & has_version S c w)) (F.members s v c k)))) b5

  -- a test of each member
  each_member : (s v : ℕ) → composed Y' s v ≡ true → {f g : ℕ → Bool} → ((c : ℕ) → is_member Y' s v c ≡ true → f c ≡ g c)
      → all components (λ c. is_member Y' s v c ⇒ f c) ≡ all components (λ c. is_member Y s v c ⇒ g c)
  each_member s v k {g = g} h =
      all_cong components (λ c. imp_cong (is_member Y' s v c) (h c) ∙ ap (λ (x : Bool). x ⇒ g c) (is_same s v c k))

  pub B6_kept : B6 S Y ≡ true → B6 S' Y' ≡ true
  unfolding B6 B6_at
  B6_kept = each_kept (B6_at S Y) (B6_at S' Y') (λ s v k y.
      each_member s v k (λ c mc. each_member s v k (λ d md. imp_cong _ (λ n.
      ap₂ (disjoint facilities) (member_provides s v c mc) (member_provides s v d md)))))

  pub B7_kept : B7 S Y ≡ true → B7 S' Y' ≡ true
  unfolding B7 B7_at
  B7_kept = each_kept (B7_at S Y) (B7_at S' Y') (λ s v k y.
      each_member s v k (λ c mc. ap₂ (meet facilities) (member_provides s v c mc) (ap₂ union (r_same s v k) (own_same s y))))

  pub B8_kept : B8 S Y ≡ true → B8 S' Y' ≡ true
  unfolding B8 B8_at
  B8_kept = each_kept (B8_at S Y) (B8_at S' Y') (λ s v k y. ap₂ (subset facilities) (own_same s y) (p_same s v k))

  pub B9_kept : B9 S Y ≡ true → B9 S' Y' ≡ true
  unfolding B9 B9_at
  B9_kept = each_kept (B9_at S Y) (B9_at S' Y') (λ s v k y.
      ap₂ (disjoint facilities) (ap₂ minus (r_same s v k) (p_same s v k)) (offered_same s y))

-- fewer usable components reach less
pub reaches-less : (Y Y' : Systems) → ((s c : ℕ) → usable Y' s c ≡ true → usable Y s c ≡ true) → (n s c : ℕ) → reaches_in n Y' s c ≡ true → reaches_in n Y s c ≡ true
unfolding reaches_in
reaches-less Y Y' h zero s c t = h s c t
reaches-less Y Y' h (suc n) s c t =
    elim (or_out _ _ t) [
      | inl u ↦ or_l _ _ (h s c u)
      | inr a ↦ (let q = any_out _ _ a in or_r _ _ (any_in _ _ q.0 q.1 (and_in _ _ (h s q.0 (and_l _ _ q.2)) (reaches-less Y Y' h n q.0 c (and_r _ _ q.2)))))
    ]

pub B4_kept : (Y Y' : Systems) → SystemLimits Y → ((s c : ℕ) → usable Y' s c ≡ true → usable Y s c ≡ true)
    → ((s : ℕ) → is_system Y' s ≡ true → is_system Y s ≡ true) → B4 Y ≡ true → B4 Y' ≡ true
unfolding B4 reaches
B4_kept Y Y' l h g b = system_in Y' _ (λ s y. not_in _ (fails _ (λ t. clash (reaches-less Y Y' h components s s t) (not_out _ (system_out Y _ l b s (g s y))))))
