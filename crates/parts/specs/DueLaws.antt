-- Laws of the search for the next row: one for each way out and each turn.
use Rattle.std.specs.Prelude.{Bool, IfSome, None, Option as Found, Some, false, true, List, ◌≡◌, get_or}
use Rattle.std.proofs.Math.Logic.{inl, inr}
use Rattle.std.proofs.Math.Option.{Option, none, some}
use Rattle.std.proofs.Common.{◌∙◌}
use Rattle.std.proofs.Math.Path.{ap, fun_ext, refl, sym}
use Prim.Native.Nat.{◌+◌, ◌-◌, ◌<◌, ◌≤◌, suc, ℕ}
use native.Mathlib.Omega.{arith}
use Rattle.model.specs.Book.{Book, Pair, Systems, components, has_version, member, versions}
use Rattle.model.specs.Lists.{first_from}
use Rattle.model.specs.Maps.{else_try, if_there, only_if}
use Rattle.model.specs.PartsList.{due, first_pair, listed, members_listed, next_row}
use Rattle.sets.specs.Answered.{answered}
use Rattle.book_rules.specs.RuleLaws.{and_first, and_second}
use Rattle.parts.specs.Due.{pair_found, due_in, first_version, member_in, members_in}
use Rattle.parts.specs.Marks.{PartsIn, marked}
use Rattle.sets.specs.Answered.{answered}
use Rattle.sets.specs.Sets.{Set, bit, minus, subset}
use Rattle.sets.specs.TestLaws.{all_cong, all_out, and_in, and_l, and_r, clash, iff→≡, imp_out, not_out}
use Rattle.sets.specs.Tests.{◌&◌, ~◌}
use Rattle.model_laws.specs.Good.{Good}
use Rattle.model_laws.specs.ListLaws.{first_from-some, only_some}
use Rattle.model_laws.specs.MapLaws.{if_there_cong, option?}
use Rattle.model_laws.specs.Parts.{part_has_version}

-- ---- the members of a pair

module _ (Y : Systems) (t : List ℕ) (d w e : ℕ) where
  -- e is no member
  pub no_member : answered None ≡ member Y d w e → true ≡ member_in Y t d w e
  unfolding answered member_in if_there
  no_member em = ap (λ (o : Option ℕ). if_there o (λ x. marked t e x)) em

  pub member_marked : (x : ℕ) {b : Bool} → answered (Some x) ≡ member Y d w e → b ≡ bit (get_or t e 0) x → b ≡ member_in Y t d w e
  unfolding answered member_in if_there marked
  member_marked x em eb = eb ∙ ap (λ (o : Option ℕ). if_there o (λ x. marked t e x)) em

-- ---- a pair

module _ (Y : Systems) (m t : List ℕ) (d w z : ℕ) (ez : bit z ≡ minus (bit (get_or m d 0)) (bit (get_or t d 0))) {b : Bool} (eb : b ≡ bit z w) where
  is_open : b ≡ (marked m d w & ~ marked t d w)
  unfolding minus marked
  is_open = eb ∙ ap (λ (a : Set). a w) ez

  pub not_open : b ≡ false → b ≡ due_in Y m t d w
  unfolding due_in
  not_open f = and_first _ _ is_open f

  pub if_open : {x : Bool} → b ≡ true → x ≡ members_in Y t d w → x ≡ due_in Y m t d w
  unfolding due_in
  if_open y e = and_second _ _ is_open y e

-- ---- the first of several

module _ {A : Type 0} (n : ℕ) (f : ℕ → Option A) where
  first_step : (k i : ℕ) → first_from (suc k) i f ≡ else_try (f i) (first_from k (suc i) f)
  unfolding first_from
  first_step k i = refl

  pub first_turn : (i : ℕ) → i < n → first_from n 0 f ≡ first_from (n - i) i f → f i ≡ none → first_from n 0 f ≡ first_from (n - (i + 1)) (i + 1) f
  unfolding else_try
  first_turn i l a e =
      let k : n - i ≡ suc (n - (i + 1)) = omega arith in
      let j : suc i ≡ i + 1 = omega arith in
      a ∙ ap (λ (x : ℕ). first_from x i f) k ∙ first_step (n - (i + 1)) i ∙ ap (λ (o : Option A). else_try o (first_from (n - (i + 1)) (suc i) f)) e
      ∙ ap (λ (x : ℕ). first_from (n - (i + 1)) x f) j

  pub first_stop : (i : ℕ) (x : A) → i < n → first_from n 0 f ≡ first_from (n - i) i f → f i ≡ some x → first_from n 0 f ≡ some x
  unfolding else_try
  first_stop i x l a e =
      let k : n - i ≡ suc (n - (i + 1)) = omega arith in
      a ∙ ap (λ (x : ℕ). first_from x i f) k ∙ first_step (n - (i + 1)) i ∙ ap (λ (o : Option A). else_try o (first_from (n - (i + 1)) (suc i) f)) e

  pub first_end : (i : ℕ) → n ≤ i → first_from n 0 f ≡ first_from (n - i) i f → first_from n 0 f ≡ none
  unfolding first_from
  first_end i h a = let k : n - i ≡ 0 = omega arith in a ∙ ap (λ (x : ℕ). first_from x i f) k

-- ---- the first version of d that is due, and the first pair

module _ (test : ℕ → ℕ → Bool) (d w : ℕ) {b : Bool} (e : b ≡ test d w) where
  pub version_found : b ≡ true → pair_found (Some (d, w)) ≡ only_if (test d w) (d, w)
  unfolding pair_found only_if
  version_found y = sym (ap (λ (t : Bool). only_if t (d, w)) (sym e ∙ y))

  pub version_passed : b ≡ false → pair_found None ≡ only_if (test d w) (d, w)
  unfolding pair_found only_if
  version_passed f = sym (ap (λ (t : Bool). only_if t (d, w)) (sym e ∙ f))

-- the parts among the versions of d are all listed
pub none_open : (Y : Systems) (m t : List ℕ) (d : ℕ) {b : Bool} → b ≡ subset 64 (bit (get_or m d 0)) (bit (get_or t d 0)) → b ≡ true
    → pair_found None ≡ first_version (due_in Y m t) d
unfolding first_version due_in marked subset pair_found
none_open Y m t d e y = elim (option? (first_version (due_in Y m t) d)) [
  | inl n ↦ sym n
  | inr q ↦ (let i = first_from-some versions 0 _ q.0 q.1 in let o = and_l _ _ (only_some _ _ q.0 i.2).0 in
      clash (imp_out _ _ (all_out 64 _ (sym e ∙ y) i.0 (omega (arith, i.1))) (and_l _ _ o)) (not_out _ (and_r _ _ o)))
]

module _ (test : ℕ → ℕ → Bool) where
  version_some : (d : ℕ) (q : Pair) → first_version test d ≡ some q → (q.0 ≡ d) × (q.1 < 64)
  unfolding first_version
  version_some d q e =
      let i = first_from-some versions 0 _ q e in
      let z = only_some (test d i.0) (d, i.0) q i.2 in
      (sym (ap (λ (x : Pair). x.0) z.1), omega (arith, i.1, ap (λ (x : Pair). x.1) z.1))

  -- the limits of the pair that was found
  pub pair_low : (q : Pair) → pair_found (Some q) ≡ first_pair test → (q.0 < 32) × (q.1 < 64)
  unfolding first_pair pair_found first_version
  pair_low q e =
      let o = first_from-some components 0 _ q (sym e) in
      let z = version_some o.0 q o.2 in
      (omega (arith, z.0, o.1), z.1)

  pub pair_bounds : (r : Found Pair) → pair_found r ≡ first_pair test → IfSome r (λ q. (q.0 < 32) × (q.1 < 64))
  pair_bounds (Some q) e = pair_low q e
  pair_bounds None e = tt

-- ---- what the tables say of the plain book

module _ (b : Book) (g : Good b) (c v : ℕ) (has_it : has_version b.specs c v ≡ true) (m t : List ℕ) (l : List Pair)
    (pm : PartsIn b.systems c v m) (lt : (d w : ℕ) → marked t d w ≡ listed l d w) where
  members_same : (d w : ℕ) → members_in b.systems t d w ≡ members_listed b.systems l d w
  unfolding members_in member_in members_listed
  members_same d w = all_cong components (λ e. if_there_cong (member b.systems d w e) (λ x _. lt e x))

  due_same : (d w : ℕ) → due_in b.systems m t d w ≡ due b c v l d w
  unfolding due_in due
  due_same d w = iff→≡ _ _
      (λ y. (let o = and_l _ _ y in let k = sym (pm.are d w) ∙ and_l _ _ o in
      and_in _ _ (part_has_version b g c v has_it d w k) (and_in _ _ (sym (ap ~◌ (lt d w)) ∙ and_r _ _ o)
      (and_in _ _ (sym (members_same d w) ∙ and_r _ _ y) k))))
      (λ y. (let o = and_r _ _ y in let i = and_r _ _ o in
      and_in _ _ (and_in _ _ (pm.are d w ∙ and_r _ _ i) (ap ~◌ (lt d w) ∙ and_l _ _ o)) (members_same d w ∙ and_l _ _ i)))

  pub next_same : next_row b c v l ≡ first_pair (due_in b.systems m t)
  unfolding next_row
  next_same = ap first_pair (fun_ext (λ d. fun_ext (λ w. sym (due_same d w))))
