-- The parts list of a good book.
use Rattle.std.specs.Prelude.{Bool, false, true, ◌⊎◌, ◌≡◌, length}
use mathlib.Core.List.{List, [], ◌∷◌}
use Rattle.std.proofs.Math.Logic.{inl, inr}
use Rattle.std.proofs.Math.Option.{Option, none, some}
use Rattle.std.proofs.Common.{◌∙◌, ap, subst, le_refl, le_trans, not-suc-le-zero, arith}
use Rattle.std.proofs.Math.Path.{ap₂, refl, sym}
use Prim.Native.Nat.{◌*◌, ◌+◌, ◌<◌, ◌≤◌, suc, zero, zero-le, ℕ}
use Rattle.model.specs.Book.{Book, Pair, Specs, Systems, components, has_version, is_system, member, versions}
use Rattle.model.specs.Limits.{SystemLimits}
use Rattle.model.specs.Lists.{if_found}
use Rattle.model.specs.Maps.{has}
use Rattle.model.specs.PartsList.{due, first_pair, is_part, listed, longest_chain, members_listed, next_row, part_in, parts, rows_from}
use Rattle.model.specs.Rules.{B4, B5, p, r}
use Rattle.sets.specs.TestLaws.{<?_no, <?_out, =?-out, =?-same, all_in, and_in, and_l, and_r, any_in, any_out, bool?, clash}
use Rattle.sets.specs.TestLaws.{count_mono, count_strict, fails, not_in, not_out, or_l, or_out, or_r, same?}
use Rattle.sets.specs.Tests.{◌&◌, ◌<?◌, ◌=?◌, ◌or◌, count}
use Rattle.model_laws.specs.Frame.{mem_usable}
use Rattle.model_laws.specs.Good.{Good, version_specified}
use Rattle.model_laws.specs.Heights.{Sound, bound, falls, longest_chain_lem, usable_system}
use Rattle.model_laws.specs.ListLaws.{first_from_least, first_from-none, first_from-some, only_none, only_some}
use Rattle.model_laws.specs.MapLaws.{has_in, has_out, if_there_in, option?}
use Rattle.model_laws.specs.Notions.{NotBehind, after_members, distinct, pairs, sum, systems_below}

-- ---- the first pair that passes a test

first_pair-some : (test : ℕ → ℕ → Bool) (x : Pair) → first_pair test ≡ some x → (test x.0 x.1 ≡ true) × (x.0 < components) × (x.1 < versions)
unfolding first_pair
first_pair-some test x e =
    let o = first_from-some components 0 _ x e in
    let i = first_from-some versions 0 _ x o.2 in
    let z = only_some (test o.0 i.0) (o.0, i.0) x i.2 in
    (subst (λ (q : Pair). test q.0 q.1 ≡ true) z.1 z.0, omega (arith, o.1, ap (λ (q : Pair). q.0) z.1), omega (arith, i.1, ap (λ (q : Pair). q.1) z.1))

first_pair-none : (test : ℕ → ℕ → Bool) → first_pair test ≡ none → (c v : ℕ) → c < components → v < versions → test c v ≡ false
unfolding first_pair
first_pair-none test e c v hc hv = only_none _ _ (first_from-none versions 0 _ (first_from-none components 0 _ e c zero-le (omega arith)) v zero-le (omega arith))

pub first_pair_least : (test : ℕ → ℕ → Bool) (q : Pair) → first_pair test ≡ some q
    → (d w : ℕ) → d < components → w < versions → test d w ≡ true → NotBehind q d w
unfolding first_pair
first_pair_least test q e d w hd hw t =
    let o = first_from_least components 0 _ q e in
    let i = first_from_least versions 0 _ q o.1 in
    let z = only_some (test o.0 i.0) (o.0, i.0) q i.1 in
    let at0 : o.0 ≡ q.0 = ap (λ (p : Pair). p.0) z.1 in
    let at1 : i.0 ≡ q.1 = ap (λ (p : Pair). p.1) z.1 in
    elim (bool? (d <? q.0)) [
      | inl l ↦ clash t (only_none _ _ (first_from-none versions 0 _ (o.2 d zero-le (omega (arith, <?_out _ _ l, at0))) w zero-le (omega arith)))
      | inr n ↦ elim (same? q.0 d) [
        | inl s ↦ elim (bool? (w <? q.1)) [
          | inl l ↦ clash (ap (λ (x : ℕ). test x w) (at0 ∙ s) ∙ t) (only_none _ _ (i.2 w zero-le (omega (arith, <?_out _ _ l, at1))))
          | inr k ↦ inr (s, <?_no _ _ k)
        ]
        | inr s ↦ inl (omega (arith, <?_no _ _ n, s))
      ]
    ]

-- ---- counting pairs

sum_mono : (n : ℕ) (f g : ℕ → ℕ) → ((i : ℕ) → f i ≤ g i) → sum n f ≤ sum n g
unfolding sum
sum_mono zero f g h = le_refl 0
sum_mono (suc n) f g h = omega (arith, h n, sum_mono n f g h)

sum_strict : (n : ℕ) (f g : ℕ → ℕ) → ((i : ℕ) → f i ≤ g i) → (k : ℕ) → k < n → f k < g k → sum n f < sum n g
unfolding sum
sum_strict zero f g h k l s = absurd (not-suc-le-zero l)
sum_strict (suc n) f g h k l s =
    elim (same? k n) [
      | inl e ↦ omega (arith, sum_mono n f g h, rw e at s)
      | inr ne ↦ omega (arith, h n, sum_strict n f g h k (omega arith) s)
    ]

pairs_mono : (f g : ℕ → ℕ → Bool) → ((c v : ℕ) → f c v ≡ true → g c v ≡ true) → pairs f ≤ pairs g
unfolding pairs
pairs_mono f g h = sum_mono components _ _ (λ c. count_mono versions _ _ (λ v l t. h c v t))

pairs_strict : (f g : ℕ → ℕ → Bool) → ((c v : ℕ) → f c v ≡ true → g c v ≡ true)
    → (c v : ℕ) → c < components → v < versions → f c v ≡ false → g c v ≡ true → pairs f < pairs g
unfolding pairs
pairs_strict f g h c v hc hv nf tg = sum_strict components _ _ (λ d. count_mono versions _ _ (λ w l t. h d w t)) c hc (count_strict versions _ _ (λ w l t. h c w t) v hv nf tg)

-- ---- what is listed

listed_cons : (q : Pair) (l : List Pair) (d w : ℕ) → listed (q ∷ l) d w ≡ ((d =? q.0 & w =? q.1) or listed l d w)
unfolding listed
listed_cons q l d w = refl

listed_head : (q : Pair) (l : List Pair) → listed (q ∷ l) q.0 q.1 ≡ true
unfolding listed
listed_head q l = or_l _ _ (and_in _ _ (=?-same _) (=?-same _))

listed_tail : (q : Pair) (l : List Pair) (d w : ℕ) → listed l d w ≡ true → listed (q ∷ l) d w ≡ true
unfolding listed
listed_tail q l d w t = or_r _ _ t

listed_out : (q : Pair) (l : List Pair) (d w : ℕ) → listed (q ∷ l) d w ≡ true → ((d ≡ q.0) × (w ≡ q.1)) ⊎ (listed l d w ≡ true)
unfolding listed
listed_out q l d w t = elim (or_out _ _ t) [ inl e ↦ inl (=?-out _ _ (and_l _ _ e), =?-out _ _ (and_r _ _ e)) | inr e ↦ inr e ]

-- ---- parts

module _ (Y : Systems) where
  pub part_more : (n c v d w : ℕ) → part_in n Y c v d w ≡ true → part_in (suc n) Y c v d w ≡ true
  unfolding part_in
  part_more zero c v d w t = or_l _ _ t
  part_more (suc n) c v d w t =
      elim (or_out _ _ t) [
        | inl e ↦ or_l _ _ e
        | inr a ↦ (let q = any_out _ _ a in let m = has_out _ _ q.2 in
            or_r _ _ (any_in _ _ q.0 q.1 (has_in _ _ m.0 m.1 (part_more n q.0 m.0 d w m.2))))
      ]

  pub part_self : (n c v : ℕ) → part_in n Y c v c v ≡ true
  unfolding part_in
  part_self zero c v = and_in _ _ (=?-same c) (=?-same v)
  part_self (suc n) c v = or_l _ _ (and_in _ _ (=?-same c) (=?-same v))

  -- a member of a part is a part, in one step more
  part_member : (n c v d w e x : ℕ) → e < components → part_in n Y c v d w ≡ true → member Y d w e ≡ some x → part_in (suc n) Y c v e x ≡ true
  unfolding part_in
  part_member zero c v d w e x l t m =
      or_r _ _ (any_in _ _ e l (has_in _ _ x (ap₂ (λ (i j : ℕ). member Y i j e) (=?-out _ _ (and_l _ _ t)) (=?-out _ _ (and_r _ _ t)) ∙ m) (and_in _ _ (=?-same e) (=?-same x))))
  part_member (suc n) c v d w e x l t m =
      elim (or_out _ _ t) [
        | inl s ↦ or_r _ _ (any_in _ _ e l (has_in _ _ x (ap₂ (λ (i j : ℕ). member Y i j e) (=?-out _ _ (and_l _ _ s)) (=?-out _ _ (and_r _ _ s)) ∙ m) (part_self (suc n) e x)))
        | inr a ↦ (let q = any_out _ _ a in let k = has_out _ _ q.2 in
            or_r _ _ (any_in _ _ q.0 q.1 (has_in _ _ k.0 k.1 (part_member n q.0 k.0 d w e x l k.2 m))))
      ]

  -- from the systems_below on, one step more reaches nothing new
  part_enough : Sound Y → (n c v d w : ℕ) → systems_below Y c ≤ n → part_in (suc n) Y c v d w ≡ true → part_in n Y c v d w ≡ true
  unfolding part_in
  part_enough ok zero c v d w h t =
      elim (or_out _ _ t) [
        | inl e ↦ e
        | inr a ↦ (let q = any_out _ _ a in let m = has_out _ _ q.2 in absurd (omega (arith, falls Y ok c q.0 (ok.mem_usable c v q.0 m.0 m.1))))
      ]
  part_enough ok (suc n) c v d w h t =
      elim (or_out _ _ t) [
        | inl e ↦ or_l _ _ e
        | inr a ↦ (let q = any_out _ _ a in let m = has_out _ _ q.2 in
            or_r _ _ (any_in _ _ q.0 q.1 (has_in _ _ m.0 m.1
            (part_enough ok n q.0 m.0 d w (omega (arith, falls Y ok c q.0 (ok.mem_usable c v q.0 m.0 m.1))) m.2))))
      ]

-- ---- the list

pub rows_from_end : (n : ℕ) (b : Book) (c v : ℕ) (l : List Pair) → next_row b c v l ≡ none → rows_from (suc n) b c v l ≡ []
unfolding rows_from if_found
rows_from_end n b c v l e = ap (λ (o : Option Pair). if_found o (λ q. q ∷ rows_from n b c v (q ∷ l))) e

pub rows_from_row : (n : ℕ) (b : Book) (c v : ℕ) (l : List Pair) (q : Pair) → next_row b c v l ≡ some q → rows_from (suc n) b c v l ≡ q ∷ rows_from n b c v (q ∷ l)
unfolding rows_from if_found
rows_from_row n b c v l q e = ap (λ (o : Option Pair). if_found o (λ q. q ∷ rows_from n b c v (q ∷ l))) e

pub rows_from_zero : (b : Book) (c v : ℕ) (l : List Pair) → rows_from 0 b c v l ≡ []
unfolding rows_from
rows_from_zero b c v l = refl

nothing_listed : (d w : ℕ) → listed [] d w ≡ false
unfolding listed
nothing_listed d w = refl

-- a list with no pair twice, of pairs below the limits, is no longer than what it lists
distinct-length : (l : List Pair) → distinct l ≡ true → ((d w : ℕ) → listed l d w ≡ true → (d < components) × (w < versions)) → length l ≤ pairs (listed l)
unfolding distinct
distinct-length [] t h = zero-le
distinct-length (q ∷ l) t h =
    let k = h q.0 q.1 (listed_head q l) in
    omega (
      arith,
      distinct-length l (and_r _ _ t) (λ d w s. h d w (listed_tail q l d w s)),
      pairs_strict (listed l) (listed (q ∷ l)) (listed_tail q l) q.0 q.1 k.0 k.1 (not_out _ (and_l _ _ t)) (listed_head q l),
    )

sum_bound : (n : ℕ) (f : ℕ → ℕ) → ((i : ℕ) → f i ≤ 8) → sum n f ≤ n * 8
unfolding sum
sum_bound zero f h = zero-le
sum_bound (suc n) f h = omega (arith, h n, sum_bound n f h, suc_times n)
  where
    suc_times : (n : ℕ) → suc n * 8 ≡ n * 8 + 8
    suc_times n = omega arith

-- what needs and chains rest on: limits, B4 and B5
pub rules→sound : (S : Specs) (Y : Systems) → SystemLimits Y → B4 Y ≡ true → B5 S Y ≡ true → Sound Y
rules→sound S Y l b4 b5 = record {
  usable< = λ s c u. (l.component< s (usable_system _ s c u), l.usable< s c u);
  sys_lim = l.component<;
  b4 = b4;
  mem_usable = λ s v c w e. (mem_usable S Y l b5 s v c w e).0;
}

pub good→sound : (b : Book) → Good b → Sound b.systems
good→sound b g = rules→sound b.specs b.systems g.system_limits g.b4 g.b5

module _ (b : Book) (g : Good b) (c v : ℕ) (has_it : has_version b.specs c v ≡ true) where
  ok : Sound b.systems
  ok = good→sound b g

  system_limits : SystemLimits b.systems
  system_limits = g.system_limits

  pub part_closed : (d w e x : ℕ) → is_part b.systems c v d w ≡ true → member b.systems d w e ≡ some x → is_part b.systems c v e x ≡ true
  unfolding is_part
  part_closed d w e x t m =
      part_enough _ ok components c v e x (bound _ ok c) (part_member _ components c v d w e x (system_limits.member< d w e x m).0 t m)

  part_version : (n i j d w : ℕ) → has_version b.specs i j ≡ true → part_in n b.systems i j d w ≡ true → has_version b.specs d w ≡ true
  unfolding part_in
  part_version zero i j d w h t = sym (ap₂ (has_version b.specs) (=?-out _ _ (and_l _ _ t)) (=?-out _ _ (and_r _ _ t))) ∙ h
  part_version (suc n) i j d w h t =
      elim (or_out _ _ t) [
        | inl s ↦ sym (ap₂ (has_version b.specs) (=?-out _ _ (and_l _ _ s)) (=?-out _ _ (and_r _ _ s))) ∙ h
        | inr a ↦ (let q = any_out _ _ a in let m = has_out _ _ q.2 in
            part_version n q.0 m.0 d w (mem_usable _ _ system_limits g.b5 i j q.0 m.0 m.1).1 m.2)
      ]

  pub part_has_version : (d w : ℕ) → is_part b.systems c v d w ≡ true → has_version b.specs d w ≡ true
  unfolding is_part
  part_has_version d w t = part_version components c v d w has_it t

  pub pair_limits : (d w : ℕ) → has_version b.specs d w ≡ true → (d < components) × (w < versions)
  pair_limits d w t = (g.spec_limits.component< d (version_specified b.specs d w t), g.spec_limits.version< d w t)

  -- where no row is due, every part is listed: by its systems_below
  ended : (l : List Pair) → next_row b c v l ≡ none → (h d w : ℕ) → systems_below b.systems d < h → is_part b.systems c v d w ≡ true → listed l d w ≡ true
  unfolding next_row due members_listed
  ended l e zero d w k t = absurd (not-suc-le-zero k)
  ended l e (suc h) d w k t =
      let hv = part_has_version d w t in let lt = pair_limits d w hv in
      elim (bool? (listed l d w)) [
        | inl y ↦ y
        | inr n ↦ clash
            (and_in _ _ hv (and_in _ _ (not_in _ n) (and_in _ _ (all_in _ _ (λ i j. if_there_in _ _ (λ x m.
            ended l e h i x (omega (arith, falls _ ok d i (ok.mem_usable d w i x m))) (part_closed d w i x t m)))) t)))
            (first_pair-none _ e d w lt.0 lt.1)
      ]

  -- a row that is due is a part, with a version, not listed, and its members are
  row : (l : List Pair) (q : Pair) → next_row b c v l ≡ some q → due b c v l q.0 q.1 ≡ true
  unfolding next_row
  row l q e = (first_pair-some _ q e).0

  record Rows (l : List Pair) : Type 0 where
    has : (d w : ℕ) → listed l d w ≡ true → has_version b.specs d w ≡ true
    once : distinct l ≡ true

  rows_cons : (l : List Pair) (q : Pair) → next_row b c v l ≡ some q → Rows l → Rows (q ∷ l)
  unfolding due distinct
  rows_cons l q e r =
      let t = row l q e in
      record {
        has = λ d w s. elim (listed_out q l d w s) [ inl z ↦ ap₂ (has_version b.specs) z.0 z.1 ∙ and_l _ _ t | inr z ↦ r.has d w z ];
        once = and_in _ _ (and_l _ _ (and_r _ _ t)) r.once;
      }

  whole : (n : ℕ) (l : List Pair) → Rows l → pairs (has_version b.specs) ≤ n + length l → (d w : ℕ) → is_part b.systems c v d w ≡ true
      → (listed l d w ≡ true) ⊎ (listed (rows_from n b c v l) d w ≡ true)
  whole zero l r f d w t =
      elim (bool? (listed l d w)) [
        | inl y ↦ inl y
        | inr n ↦ (let hv = part_has_version d w t in let lt = pair_limits d w hv in
            absurd (omega (
              arith,
              f,
              distinct-length l r.once (λ i j s. pair_limits i j (r.has i j s)),
              pairs_strict (listed l) (has_version b.specs) r.has d w lt.0 lt.1 n hv,
            )))
      ]
  whole (suc n) l r f d w t =
      elim (option? (next_row b c v l)) [
        | inl e ↦ inl (ended l e (suc (systems_below b.systems d)) d w (le_refl _) t)
        | inr q ↦ rw (rows_from_row n b c v l q.0 q.1) (
            elim (whole n (q.0 ∷ l) (rows_cons l q.0 q.1 r) (omega arith) d w t) [
              | inl y ↦ elim (listed_out q.0 l d w y) [ inl z ↦ inr (rw (z.0, z.1) (listed_head _ _)) | inr z ↦ inl z ]
              | inr y ↦ inr (listed_tail _ _ d w y)
            ])
      ]

  only : (n : ℕ) (l : List Pair) (d w : ℕ) → listed (rows_from n b c v l) d w ≡ true → is_part b.systems c v d w ≡ true
  unfolding due
  only zero l d w t = clash t (rw rows_from_zero (nothing_listed d w))
  only (suc n) l d w t =
      elim (option? (next_row b c v l)) [
        | inl e ↦ clash t (rw (rows_from_end n b c v l e) (nothing_listed d w))
        | inr q ↦ elim (listed_out q.0 _ d w (rw (rows_from_row n b c v l q.0 q.1) at t)) [
          | inl z ↦ ap₂ (is_part b.systems c v) z.0 z.1 ∙ and_r _ _ (and_r _ _ (and_r _ _ (row l q.0 q.1)))
          | inr z ↦ only n _ d w z
        ]
      ]

  apart : (n : ℕ) (l : List Pair) (d w : ℕ) → listed (rows_from n b c v l) d w ≡ true → listed l d w ≡ false
  unfolding due
  apart zero l d w t = clash t (rw rows_from_zero (nothing_listed d w))
  apart (suc n) l d w t =
      elim (option? (next_row b c v l)) [
        | inl e ↦ clash t (rw (rows_from_end n b c v l e) (nothing_listed d w))
        | inr q ↦ elim (listed_out q.0 _ d w (rw (rows_from_row n b c v l q.0 q.1) at t)) [
          | inl z ↦ ap₂ (listed l) z.0 z.1 ∙ not_out _ (and_l _ _ (and_r _ _ (row l q.0 q.1)))
          | inr z ↦ fails _ (λ y. clash (listed_tail q.0 l d w y) (apart n (q.0 ∷ l) d w z))
        ]
      ]

  once : (n : ℕ) (l : List Pair) → distinct (rows_from n b c v l) ≡ true
  unfolding distinct
  once zero l = rw rows_from_zero refl
  once (suc n) l =
      elim (option? (next_row b c v l)) [
        | inl e ↦ rw (rows_from_end n b c v l e) refl
        | inr q ↦ rw (rows_from_row n b c v l q.0 q.1)
            (and_in _ _ (not_in _ (fails _ (λ t. clash (listed_head q.0 l) (apart n (q.0 ∷ l) q.0.0 q.0.1 t)))) (once n (q.0 ∷ l)))
      ]

  ordered : (n : ℕ) (l : List Pair) → after_members b.systems l (rows_from n b c v l) ≡ true
  unfolding after_members due
  ordered zero l = rw rows_from_zero refl
  ordered (suc n) l =
      elim (option? (next_row b c v l)) [
        | inl e ↦ rw (rows_from_end n b c v l e) refl
        | inr q ↦ rw (rows_from_row n b c v l q.0 q.1) (and_in _ _ (and_l _ _ (and_r _ _ (and_r _ _ (row l q.0 q.1)))) (ordered n (q.0 ∷ l)))
      ]

  -- ---- the parts list

  enough : pairs (has_version b.specs) ≤ 256
  unfolding pairs
  enough = omega (arith, sum_bound components _ g.b1.few)

  pub parts_only : (d w : ℕ) → listed (parts b c v) d w ≡ true → is_part b.systems c v d w ≡ true
  unfolding parts
  parts_only d w t = only 256 [] d w t

  pub parts_whole : (d w : ℕ) → is_part b.systems c v d w ≡ true → listed (parts b c v) d w ≡ true
  unfolding parts
  parts_whole d w t =
      elim (whole 256 [] (record { has = λ i j s. clash s (nothing_listed i j); once = unfold distinct in refl }) (omega (arith, enough)) d w t) [
        | inl y ↦ clash y (nothing_listed d w)
        | inr y ↦ y
      ]

  pub parts-once : distinct (parts b c v) ≡ true
  unfolding parts
  parts-once = once 256 []

  pub parts_ordered : after_members b.systems [] (parts b c v) ≡ true
  unfolding parts
  parts_ordered = ordered 256 []

  pub parts_short : length (parts b c v) ≤ pairs (has_version b.specs)
  parts_short =
      le_trans (distinct-length (parts b c v) parts-once (λ d w s. pair_limits d w (part_has_version d w (parts_only d w s))))
      (pairs_mono _ _ (λ d w s. part_has_version d w (parts_only d w s)))

  pub parts_chain : longest_chain b.systems c v ≤ count components (is_system b.systems) + 1
  parts_chain = longest_chain_lem b.systems ok c v
