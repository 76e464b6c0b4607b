-- A book under other numbers: the needs and the rules B3 to B9 do not change.
use Rattle.std.specs.Prelude.{Bool, false, true, ◌≡◌}
use Rattle.std.proofs.Math.Logic.{inl, inr}
use Rattle.std.proofs.Math.Option.{Option, some}
use Rattle.std.proofs.Common.{◌∙◌}
use Rattle.std.proofs.Math.Path.{ap, ap₂, sym}
use Prim.Native.Nat.{◌<◌, suc, zero, ℕ}
use Rattle.model.specs.Book.{Book, Modules, Specs, Systems, components, composed, facilities, has_version, implementation}
use Rattle.model.specs.Book.{implementations, is_member, is_system, member, provides, requires, specified, usable, versions}
use Rattle.model.specs.Maps.{has, if_there, is_some, option_map}
use Rattle.model.specs.Rules.{B3, B3_at, B4, B5, B5_at, B6, B6_at, B7, B7_at, B8, B8_at, B9, B9_at, each_composition, needs, needs_to}
use Rattle.model.specs.Rules.{offered, p, r, reaches, reaches_in}
use Rattle.sets.specs.Sets.{disjoint, meet, minus, subset, union}
use Rattle.sets.specs.TestLaws.{=?-in, =?-out, all_cong, all_in, all_out, and_in, and_l, and_r, any_cong, any_in, any_out, bool?}
use Rattle.sets.specs.TestLaws.{clash, fails, iff→≡, imp_no, not_in, not_no, not_out, or_l, or_out, or_r}
use Rattle.sets.specs.Tests.{◌&◌, ◌=?◌, ◌or◌, ◌⇒◌, all, any, ~◌}
use Rattle.text_laws.specs.TextLaws.{has-map, if_cong, if_there-map, imp_like, there_no}
use Rattle.model_laws.specs.Frame.{composed_system, composition_in, composition_out, mem_usable, system_in, system_out}
use Rattle.model_laws.specs.Good.{Good}
use Rattle.model_laws.specs.Heights.{usable_system}
use Rattle.model_laws.specs.MapLaws.{has_cong, has_out, if_there_cong, is_some_out, option_map-some}

-- new numbers g n for the numbers n that are used, old numbers f m for the new ones
pub record Renaming (f g : ℕ → ℕ) (L : ℕ) (Use : ℕ → Type 0) : Type 0 where
  pub back : (n : ℕ) → Use n → f (g n) ≡ n
  pub small : (n : ℕ) → Use n → g n < L
  pub forth : (m : ℕ) → Use (f m) → g (f m) ≡ m

-- a test over the new numbers, and over the old: where it passes (or fails), the number is used
module _ {f g : ℕ → ℕ} {L : ℕ} {Use : ℕ → Type 0} (R : Renaming f g L Use) (Q : ℕ → Bool) where
  pub any_through : ((n : ℕ) → Q n ≡ true → Use n × (n < L)) → any L (λ m. Q (f m)) ≡ any L Q
  any_through h = iff→≡ _ _
      (λ t. let q = any_out _ _ t in any_in L Q (f q.0) (h (f q.0) q.2).1 q.2)
      (λ t. let q = any_out _ _ t in let u = (h q.0 q.2).0 in
      any_in L (λ m. Q (f m)) (g q.0) (R.small q.0 u) (ap Q (R.back q.0 u) ∙ q.2))

  pub all_through : ((n : ℕ) → Q n ≡ false → Use n × (n < L)) → all L (λ m. Q (f m)) ≡ all L Q
  all_through h = iff→≡ _ _
      (λ t. all_in L Q (λ n l. elim (bool? (Q n)) [
        | inl e ↦ e
        | inr e ↦ (let u = (h n e).0 in sym (ap Q (R.back n u)) ∙ all_out L _ t (g n) (R.small n u))
      ]))
      (λ t. all_in L _ (λ m l. elim (bool? (Q (f m))) [
        | inl e ↦ e
        | inr e ↦ clash (all_out L Q t (f m) (h (f m) e).1) e
      ]))

-- what is used
abbrev pub UsedC : Specs → ℕ → Type 0
UsedC S c = specified S c ≡ true

pub data UsedV (S : Specs) (v : ℕ) : Type 0 where
  version_of : (c : ℕ) → has_version S c v ≡ true → UsedV S v

pub data UsedF (S : Specs) (f : ℕ) : Type 0 where
  provided_by : (c : ℕ) → provides S c f ≡ true → UsedF S f
  required_by : (c v : ℕ) → requires S c v f ≡ true → UsedF S f

pub data UsedI (M : Modules) (i : ℕ) : Type 0 where
  implementation_of : (c v : ℕ) → implementation M c v ≡ some i → UsedI M i

-- New numbers for a book: of its components, versions, facilities and implementations. Each of the functions f is from new to old
-- numbers, and each g from old to new.
pub record Renumbering (S : Specs) (M : Modules) : Type 0 where
  pub old_c : ℕ → ℕ
  pub new_c : ℕ → ℕ
  pub old_v : ℕ → ℕ
  pub new_v : ℕ → ℕ
  pub old_f : ℕ → ℕ
  pub new_f : ℕ → ℕ
  pub old_i : ℕ → ℕ
  pub new_i : ℕ → ℕ
  pub of_c : Renaming old_c new_c components (UsedC S)
  pub of_v : Renaming old_v new_v versions (UsedV S)
  pub of_f : Renaming old_f new_f facilities (UsedF S)
  pub of_i : Renaming old_i new_i implementations (UsedI M)

-- the specs S₁ and the systems Y₁ are, by the new numbers, as in the specs S and the systems Y
pub record Like (S S₁ : Specs) (M : Modules) (Y Y₁ : Systems) (re : Renumbering S M) : Type 0 where
  pub prov : (c f : ℕ) → provides S₁ c f ≡ provides S (re.old_c c) (re.old_f f)
  pub vers : (c v : ℕ) → has_version S₁ c v ≡ has_version S (re.old_c c) (re.old_v v)
  pub req : (c v f : ℕ) → requires S₁ c v f ≡ requires S (re.old_c c) (re.old_v v) (re.old_f f)
  pub sys : (s : ℕ) → is_system Y₁ s ≡ true → is_system Y (re.old_c s) ≡ true
  pub uses : (s c : ℕ) → is_system Y₁ s ≡ true → usable Y₁ s c ≡ usable Y (re.old_c s) (re.old_c c)
  pub comps : (s v : ℕ) → is_system Y₁ s ≡ true → composed Y₁ s v ≡ composed Y (re.old_c s) (re.old_v v)
  pub members : (s v c : ℕ) → is_system Y₁ s ≡ true
      → member Y₁ s v c ≡ option_map re.new_v (member Y (re.old_c s) (re.old_v v) (re.old_c c))
  pub kind : (s c : ℕ) → is_system Y₁ s ≡ true → usable Y (re.old_c s) (re.old_c c) ≡ true
      → is_system Y₁ c ≡ is_system Y (re.old_c c)

module _ (b : Book) (g : Good b) (S₁ : Specs) (Y₁ : Systems) (re : Renumbering b.specs b.modules)
    (K : Like b.specs S₁ b.modules b.systems Y₁ re) where
  abbrev S : Specs
  S = b.specs

  abbrev Y : Systems
  Y = b.systems

  abbrev old_c : ℕ → ℕ
  old_c = re.old_c

  abbrev new_c : ℕ → ℕ
  new_c = re.new_c

  abbrev old_v : ℕ → ℕ
  old_v = re.old_v

  abbrev new_v : ℕ → ℕ
  new_v = re.new_v

  abbrev old_f : ℕ → ℕ
  old_f = re.old_f

  abbrev new_f : ℕ → ℕ
  new_f = re.new_f

  any_c : (Q : ℕ → Bool) → ((n : ℕ) → Q n ≡ true → specified S n ≡ true) → any components (λ m. Q (old_c m)) ≡ any components Q
  any_c Q h = any_through re.of_c Q (λ n t. (h n t, g.spec_limits.component< n (h n t)))

  all_c : (Q : ℕ → Bool) → ((n : ℕ) → Q n ≡ false → specified S n ≡ true) → all components (λ m. Q (old_c m)) ≡ all components Q
  all_c Q h = all_through re.of_c Q (λ n t. (h n t, g.spec_limits.component< n (h n t)))

  used_f< : (f : ℕ) → UsedF S f → f < facilities
  used_f< f (provided_by c t) = g.spec_limits.provided< c f t
  used_f< f (required_by c v t) = g.spec_limits.required< c v f t

  all_f : (Q : ℕ → Bool) → ((n : ℕ) → Q n ≡ false → UsedF S n) → all facilities (λ m. Q (old_f m)) ≡ all facilities Q
  all_f Q h = all_through re.of_f Q (λ n t. (h n t, used_f< n (h n t)))

  any_f : (Q : ℕ → Bool) → ((n : ℕ) → Q n ≡ true → UsedF S n) → any facilities (λ m. Q (old_f m)) ≡ any facilities Q
  any_f Q h = any_through re.of_f Q (λ n t. (h n t, used_f< n (h n t)))

  member_spec : (s v c w : ℕ) → member Y s v c ≡ some w → specified S c ≡ true
  member_spec s v c w e = g.b2.use_spec s c (mem_usable S Y g.system_limits g.b5 s v c w e).0

  has_spec : (s v c : ℕ) (t : ℕ → Bool) → has (member Y s v c) t ≡ true → specified S c ≡ true
  has_spec s v c t h = let q = has_out _ t h in member_spec s v c q.0 q.1

  -- the new version of a member stands for its old one
  member_back : (s v c w : ℕ) → member Y s v c ≡ some w → old_v (new_v w) ≡ w
  member_back s v c w e = re.of_v.back w (version_of c (mem_usable S Y g.system_limits g.b5 s v c w e).1)

  -- the same, of a test at a member's version
  has_member : (s v c : ℕ) → is_system Y₁ s ≡ true → (t₁ t : ℕ → Bool)
      → ((w : ℕ) → member Y (old_c s) (old_v v) (old_c c) ≡ some w → t₁ (new_v w) ≡ t w)
      → has (member Y₁ s v c) t₁ ≡ has (member Y (old_c s) (old_v v) (old_c c)) t
  has_member s v c y t₁ t h = ap (λ (o : Option ℕ). has o t₁) (K.members s v c y) ∙ has-map new_v _ t₁ ∙ has_cong _ h

  needs_like : (n c w f : ℕ) → is_system Y₁ c ≡ is_system Y (old_c c)
      → needs_to n S₁ Y₁ c w f ≡ needs_to n S Y (old_c c) (old_v w) (old_f f)
  unfolding needs_to
  needs_like zero c w f k = K.req c w f
  needs_like (suc n) c w f k =
      if_cong (is_system Y₁ c) (is_system Y (old_c c)) k
      (λ y. any_cong components (λ d. has_member c w d y _ _
      (λ x e. needs_like n d (new_v x) f (K.kind c d y
      (mem_usable S Y g.system_limits g.b5 (old_c c) (old_v w) (old_c d) x e).0)
      ∙ ap (λ (z : ℕ). needs_to n S Y (old_c d) z (old_f f)) (member_back (old_c c) (old_v w) (old_c d) x e)))
      ∙ any_c (λ d. has (member Y (old_c c) (old_v w) d) (λ x. needs_to n S Y d x (old_f f)))
      (λ d t. has_spec (old_c c) (old_v w) d _ t))
      (K.req c w f)

  is_system_lem : (s v : ℕ) → composed Y₁ s v ≡ true → is_system Y₁ s ≡ true
  is_system_lem s v k = composed_system Y₁ s v k

  r_like : (s v f : ℕ) → is_system Y₁ s ≡ true → r S₁ Y₁ s v f ≡ r S Y (old_c s) (old_v v) (old_f f)
  unfolding r needs
  r_like s v f y =
      any_cong components (λ c. has_member s v c y _ _
      (λ x e. needs_like components c (new_v x) f
      (K.kind s c y (mem_usable S Y g.system_limits g.b5 (old_c s) (old_v v) (old_c c) x e).0)
      ∙ ap (λ (z : ℕ). needs_to components S Y (old_c c) z (old_f f)) (member_back (old_c s) (old_v v) (old_c c) x e)))
      ∙ any_c (λ c. has (member Y (old_c s) (old_v v) c) (λ w. needs_to components S Y c w (old_f f)))
      (λ c t. has_spec (old_c s) (old_v v) c _ t)

  is_like : (s v c : ℕ) → is_system Y₁ s ≡ true → is_member Y₁ s v c ≡ is_member Y (old_c s) (old_v v) (old_c c)
  unfolding is_member
  is_like s v c y = ap is_some (K.members s v c y) ∙ option_map-some new_v _

  is_spec : (s v c : ℕ) → is_member Y s v c ≡ true → specified S c ≡ true
  unfolding is_member
  is_spec s v c t = let q = is_some_out _ t in member_spec s v c q.0 q.1

  p_like : (s v f : ℕ) → is_system Y₁ s ≡ true → p S₁ Y₁ s v f ≡ p S Y (old_c s) (old_v v) (old_f f)
  unfolding p
  p_like s v f y =
      any_cong components (λ c. ap₂ ◌&◌ (is_like s v c y) (K.prov c f))
      ∙ any_c (λ c. is_member Y (old_c s) (old_v v) c & provides S c (old_f f)) (λ c t. is_spec (old_c s) (old_v v) c (and_l _ _ t))

  offered_like : (s f : ℕ) → is_system Y₁ s ≡ true → offered S₁ Y₁ s f ≡ offered S Y (old_c s) (old_f f)
  unfolding offered
  offered_like s f y =
      any_cong components (λ c. ap₂ ◌&◌ (K.uses s c y) (K.prov c f))
      ∙ any_c (λ c. usable Y (old_c s) c & provides S c (old_f f)) (λ c t. g.b2.use_spec (old_c s) c (and_l _ _ t))

  pub B3_like : B3 S₁ Y₁ ≡ true
  unfolding B3 B3_at subset
  B3_like = system_in Y₁ _ (λ s y.
      all_cong facilities (λ f. ap₂ ◌⇒◌ (K.prov s f) (offered_like s f y))
      ∙ all_f (λ f. provides S (old_c s) f ⇒ offered S Y (old_c s) f) (λ f t. provided_by (old_c s) (imp_no _ _ t).0)
      ∙ system_out Y _ g.system_limits g.b3 (old_c s) (K.sys s y))

  -- a rule of compositions
  each_like : (test test₁ : ℕ → ℕ → Bool) → ((s v : ℕ) → is_system Y₁ s ≡ true → test₁ s v ≡ test (old_c s) (old_v v))
      → each_composition Y test ≡ true → each_composition Y₁ test₁ ≡ true
  each_like test test₁ h b = composition_in Y₁ test₁ (λ s v k.
      let y = is_system_lem s v k in h s v y
      ∙ composition_out Y test g.system_limits b (old_c s) (old_v v) (sym (K.comps s v y) ∙ k))

  pub B5_like : B5 S₁ Y₁ ≡ true
  unfolding B5 B5_at
  B5_like = each_like _ _ (λ s v y.
      ap₂ ◌&◌ (any_cong components (λ c. is_like s v c y)
      ∙ any_c (is_member Y (old_c s) (old_v v)) (λ c t. is_spec (old_c s) (old_v v) c t))
      (all_cong components (λ c. ap (λ (o : Option ℕ). if_there o (λ w. usable Y₁ s c & has_version S₁ c w)) (K.members s v c y)
      ∙ if_there-map new_v _ _ ∙ if_there_cong (member Y (old_c s) (old_v v) (old_c c))
      (λ w e. ap₂ ◌&◌ (K.uses s c y) (K.vers c (new_v w)
      ∙ ap (has_version S (old_c c)) (member_back (old_c s) (old_v v) (old_c c) w e))))
      ∙ all_c (λ c. if_there (member Y (old_c s) (old_v v) c) (λ w. usable Y (old_c s) c & has_version S c w))
      (λ c t. (let q = there_no _ _ t in member_spec (old_c s) (old_v v) c q.0 q.1)))) g.b5

  eq_like : (c d : ℕ) → specified S (old_c c) ≡ true → specified S (old_c d) ≡ true → (c =? d) ≡ (old_c c =? old_c d)
  eq_like c d hc hd = iff→≡ _ _ (λ e. =?-in _ _ (ap old_c (=?-out _ _ e)))
      (λ e. =?-in _ _ (sym (re.of_c.forth c hc) ∙ ap new_c (=?-out _ _ e) ∙ re.of_c.forth d hd))

  -- a test of each member
  member_like : (s v : ℕ) → is_system Y₁ s ≡ true → (t₁ t : ℕ → Bool) → ((c : ℕ) → specified S (old_c c) ≡ true → t₁ c ≡ t (old_c c))
      → all components (λ c. is_member Y₁ s v c ⇒ t₁ c) ≡ all components (λ c. is_member Y (old_c s) (old_v v) c ⇒ t c)
  member_like s v y t₁ t h =
      all_cong components (λ c. imp_like (is_like s v c y)
      (λ m. h c (is_spec (old_c s) (old_v v) (old_c c) (sym (is_like s v c y) ∙ m))))
      ∙ all_c (λ c. is_member Y (old_c s) (old_v v) c ⇒ t c) (λ c e. is_spec (old_c s) (old_v v) c (imp_no _ _ e).0)

  -- a facility that both provide
  apart_like : (c d : ℕ)
      → disjoint facilities (provides S₁ c) (provides S₁ d) ≡ disjoint facilities (provides S (old_c c)) (provides S (old_c d))
  unfolding disjoint
  apart_like c d =
      all_cong facilities (λ f. ap₂ (λ (x y : Bool). x ⇒ ~ y) (K.prov c f) (K.prov d f))
      ∙ all_f (λ f. provides S (old_c c) f ⇒ ~ (provides S (old_c d) f)) (λ f e. provided_by (old_c c) (imp_no _ _ e).0)

  pub B6_like : B6 S₁ Y₁ ≡ true
  unfolding B6 B6_at
  B6_like = each_like _ _ (λ s v y.
      member_like s v y _ (λ c. all components
      (λ d. is_member Y (old_c s) (old_v v) d ⇒ ~ (c =? d) ⇒ disjoint facilities (provides S c) (provides S d)))
      (λ c hc. member_like s v y _ (λ d. ~ (old_c c =? d) ⇒ disjoint facilities (provides S (old_c c)) (provides S d)) (λ d hd.
      ap₂ (λ (e x : Bool). ~ e ⇒ x) (eq_like c d hc hd) (apart_like c d)))) g.b6

  pub B7_like : B7 S₁ Y₁ ≡ true
  unfolding B7 B7_at meet union
  B7_like = each_like _ _ (λ s v y.
      member_like s v y _ (λ c. any facilities (λ f. provides S c f & (r S Y (old_c s) (old_v v) f or provides S (old_c s) f)))
      (λ c hc.
      any_cong facilities (λ f. ap₂ ◌&◌ (K.prov c f) (ap₂ ◌or◌ (r_like s v f y) (K.prov s f)))
      ∙ any_f (λ f. provides S (old_c c) f & (r S Y (old_c s) (old_v v) f or provides S (old_c s) f))
      (λ f e. provided_by (old_c c) (and_l _ _ e)))) g.b7

  pub B8_like : B8 S₁ Y₁ ≡ true
  unfolding B8 B8_at subset
  B8_like = each_like _ _ (λ s v y.
      all_cong facilities (λ f. ap₂ ◌⇒◌ (K.prov s f) (p_like s v f y))
      ∙ all_f (λ f. provides S (old_c s) f ⇒ p S Y (old_c s) (old_v v) f) (λ f e. provided_by (old_c s) (imp_no _ _ e).0)) g.b8

  offered_used : (s f : ℕ) → offered S Y s f ≡ true → UsedF S f
  unfolding offered
  offered_used s f t = let q = any_out _ _ t in provided_by q.0 (and_r _ _ q.2)

  pub B9_like : B9 S₁ Y₁ ≡ true
  unfolding B9 B9_at disjoint minus
  B9_like = each_like _ _ (λ s v y.
      all_cong facilities (λ f. ap₂ (λ (x z : Bool). x ⇒ ~ z) (ap₂ (λ (x z : Bool). x & ~ z) (r_like s v f y) (p_like s v f y))
      (offered_like s f y))
      ∙ all_f (λ f. (r S Y (old_c s) (old_v v) f & ~ p S Y (old_c s) (old_v v) f) ⇒ ~ (offered S Y (old_c s) f))
      (λ f e. offered_used (old_c s) f (not_no _ (imp_no _ _ e).1))) g.b9

  reaches_like : (n s c : ℕ) → reaches_in n Y₁ s c ≡ true → reaches_in n Y (old_c s) (old_c c) ≡ true
  unfolding reaches_in
  reaches_like zero s c t = sym (K.uses s c (usable_system Y₁ s c t)) ∙ t
  reaches_like (suc n) s c t =
      elim (or_out _ _ t) [
        | inl u ↦ or_l _ _ (sym (K.uses s c (usable_system Y₁ s c u)) ∙ u)
        | inr a ↦ (let q = any_out _ _ a in let u = and_l _ _ q.2 in
            let k = sym (K.uses s q.0 (usable_system Y₁ s q.0 u)) ∙ u in
            or_r _ _ (any_in _ _ (old_c q.0) (g.system_limits.usable< (old_c s) (old_c q.0) k)
            (and_in _ _ k (reaches_like n q.0 c (and_r _ _ q.2)))))
      ]

  pub B4_like : B4 Y₁ ≡ true
  unfolding B4 reaches
  B4_like = system_in Y₁ _ (λ s y. not_in _
      (fails _ (λ t. clash (reaches_like components s s t)
      (not_out _ (system_out Y _ g.system_limits g.b4 (old_c s) (K.sys s y))))))
