-- The numbers that pass a test, in order of their names; and their new numbers.
use Rattle.std.specs.Prelude.{Bool, true, List, [], ◌∷◌, map, ◌≡◌, ◌<◌, ◌≤◌, suc, zero, ℕ, length}
use Rattle.std.proofs.Math.Bool.{false}
use Rattle.std.proofs.Math.Logic.{inl, inr}
use Rattle.std.proofs.Math.Option.{none, some}
use Rattle.std.proofs.Common.{◌∙◌, ap, subst, sym, le_trans, arith}
use Rattle.std.proofs.Math.Path.{refl}
use Rattle.model.specs.Lists.{beside, elem, every, firsts, from, keep, non_empty, once, rising, seconds}
use Rattle.sets.specs.TestLaws.{<?_in, =?-in, =?-not, =?-out, =?-same, and_in, and_l, and_r, bool?, clash, count_mono, fails}
use Rattle.sets.specs.TestLaws.{if-false, if-true, iff→≡, not_in, not_out, or-false, or_l, or_out, or_r, same?}
use Rattle.sets.specs.Tests.{◌<?◌, ◌=?◌, ◌or◌, count}
use Rattle.text.specs.Tables.{Table, name_at}
use Rattle.text.specs.Written.{before, by_name, insert, sorted}
use Rattle.text_laws.specs.Places.{once-count}
use Rattle.text_laws.specs.Renamed.{Renaming}
use Rattle.model_laws.specs.ListLaws.{beside_elem, rising-elem}
use Rattle.model_laws.specs.MapLaws.{is_some_no}

from_low : (k i n : ℕ) (test : ℕ → Bool) → elem n (from k i test) ≡ true → i ≤ n
unfolding from
from_low zero i n test e = clash e (unfold elem in refl)
from_low (suc k) i n test e = kept (test i) (λ q. let l = from_low k (suc i) n test q in omega arith) e
  where
    kept : (b : Bool) → (elem n (from k (suc i) test) ≡ true → i ≤ n) → elem n (keep b i (from k (suc i) test)) ≡ true → i ≤ n
    kept true h e = unfold keep elem in elim (or_out (n =? i) (elem n (from k (suc i) test)) e) [
      | inl q ↦ (let z = =?-out _ _ q in omega arith)
      | inr q ↦ h q
    ]
    kept false h e = unfold keep in h e

keep-once : (b : Bool) (i : ℕ) (l : List ℕ) → elem i l ≡ false → once l ≡ true → once (keep b i l) ≡ true
unfolding keep once
keep-once true i l e o = and_in _ _ (not_in _ e) o
keep-once false i l e o = o

from-once : (k i : ℕ) (test : ℕ → Bool) → once (from k i test) ≡ true
unfolding from
from-once zero i test = unfold once in refl
from-once (suc k) i test =
    keep-once (test i) i _ (fails _ (λ e. let l = from_low k (suc i) i test e in omega arith)) (from-once k (suc i) test)

-- numbers in rising order stand once
pub rising-once : (k : ℕ) (test : ℕ → Bool) → once (rising k test) ≡ true
unfolding rising
rising-once k test = from-once k 0 test

-- ---- sorted

or_third : (a b c : Bool) → (a or (b or c)) ≡ (b or (a or c))
unfolding ◌or◌
or_third true true c = refl
or_third true false c = refl
or_third false true c = refl
or_third false false c = refl

pub insert-elem : (t : Table) (m n : ℕ) (l : List ℕ) → elem n (insert t m l) ≡ (n =? m or elem n l)
unfolding insert elem
insert-elem t m n [] = refl
insert-elem t m n (x ∷ xs) =
    elim (bool? (before (name_at t m) (name_at t x))) [
      | inl q ↦ ap (elem n) (if-true _ _ _ q)
      | inr q ↦ ap (elem n) (if-false _ _ _ q) ∙ ap (λ (z : Bool). n =? x or z) (insert-elem t m n xs)
          ∙ or_third (n =? x) (n =? m) (elem n xs)
    ]

pub sorted-elem : (t : Table) (n : ℕ) (l : List ℕ) → elem n (sorted t l) ≡ elem n l
unfolding sorted elem
sorted-elem t n [] = refl
sorted-elem t n (x ∷ xs) = insert-elem t x n (sorted t xs) ∙ ap (λ (z : Bool). n =? x or z) (sorted-elem t n xs)

insert-once : (t : Table) (m : ℕ) (l : List ℕ) → elem m l ≡ false → once l ≡ true → once (insert t m l) ≡ true
unfolding insert once elem
insert-once t m [] e o = and_in _ _ (not_in _ refl) refl
insert-once t m (x ∷ xs) e o =
    elim (bool? (before (name_at t m) (name_at t x))) [
      | inl q ↦ ap once (if-true _ _ _ q) ∙ and_in _ _ (not_in _ e) o
      | inr q ↦ ap once (if-false _ _ _ q) ∙ and_in _ _
          (not_in _ (insert-elem t m x xs
          ∙ or-false _ _ (=?-not x m (λ z. clash {A = ⊥} (or_l (m =? x) (elem m xs) (=?-in _ _ (sym z))) e))
          ∙ not_out _ (and_l _ _ o)))
          (insert-once t m xs (fails _ (λ z. clash {A = ⊥} (or_r (m =? x) (elem m xs) z) e)) (and_r _ _ o))
    ]

sorted-once : (t : Table) (l : List ℕ) → once l ≡ true → once (sorted t l) ≡ true
unfolding sorted once
sorted-once t [] o = refl
sorted-once t (x ∷ xs) o = insert-once t x (sorted t xs) (sorted-elem t x xs ∙ not_out _ (and_l _ _ o))
    (sorted-once t xs (and_r _ _ o))

-- l holds each number that passes the test, once
pub record Lists (l : List ℕ) (test : ℕ → Bool) : Type 0 where
  pub each : (n : ℕ) → elem n l ≡ test n
  pub once : once l ≡ true

pub by_name_lists : (t : Table) (L : ℕ) (test : ℕ → Bool) → ((n : ℕ) → test n ≡ true → n < L) → Lists (by_name t L test) test
unfolding by_name
by_name_lists t L test h = record {
  each = λ n. sorted-elem t n _ ∙ iff→≡ _ _ (λ e. ((rising-elem L n test).0 e).1) (λ e. (rising-elem L n test).1 (h n e, e));
  once = sorted-once t _ (rising-once L test);
}

pub lists_non_empty : (l : List ℕ) (test : ℕ → Bool) → Lists l test → (n : ℕ) → test n ≡ true → non_empty l ≡ true
unfolding non_empty
lists_non_empty [] test k n e = clash (k.each n ∙ e) (unfold elem in refl)
lists_non_empty (x ∷ xs) test k n e = refl

below_all : (L : ℕ) (l : List ℕ) → ((n : ℕ) → elem n l ≡ true → n < L) → every (λ x. x <? L) l ≡ true
unfolding every elem
below_all L [] h = refl
below_all L (x ∷ xs) h = and_in _ _ (<?_in _ _ (h x (or_l _ _ (=?-same x)))) (below_all L xs (λ n e. h n (or_r _ _ e)))

pub lists_length : (L : ℕ) (l : List ℕ) (test : ℕ → Bool) → Lists l test → ((n : ℕ) → test n ≡ true → n < L)
    → length l ≤ count L test
lists_length L l test k h =
    le_trans (once-count L l k.once (below_all L l (λ n e. h n (sym (k.each n) ∙ e))))
    (count_mono L _ _ (λ i q e. sym (k.each i) ∙ e))

-- ---- a test of each element

pub every_of : {A : Type 0} (test : A → Bool) (h : ℕ → A) (l : List ℕ) → ((n : ℕ) → elem n l ≡ true → test (h n) ≡ true)
    → every test (map h l) ≡ true
unfolding every elem
every_of test h [] k = refl
every_of test h (x ∷ xs) k = and_in _ _ (k x (or_l _ _ (=?-same x))) (every_of test h xs (λ n e. k n (or_r _ _ e)))

pub firsts-map : {A : Type 0} (g : ℕ → ℕ) (h : ℕ → A) (l : List ℕ) → firsts (map (λ v. (g v, h v)) l) ≡ map g l
unfolding firsts
firsts-map g h [] = refl
firsts-map g h (x ∷ xs) = ap (λ (r : List ℕ). g x ∷ r) (firsts-map g h xs)

pub seconds-map : {A : Type 0} (g : ℕ → ℕ) (h : ℕ → A) (l : List ℕ) → seconds (map (λ v. (g v, h v)) l) ≡ map h l
unfolding seconds
seconds-map g h [] = refl
seconds-map g h (x ∷ xs) = ap (λ (r : List _). h x ∷ r) (seconds-map g h xs)

-- ---- the new numbers of a list

pub elem-map_in : (g : ℕ → ℕ) (l : List ℕ) (n : ℕ) → elem n l ≡ true → elem (g n) (map g l) ≡ true
unfolding elem
elem-map_in g [] n e = clash e refl
elem-map_in g (x ∷ xs) n e = elim (or_out _ _ e) [
  | inl q ↦ or_l _ _ (=?-in _ _ (ap g (=?-out _ _ q)))
  | inr q ↦ or_r _ _ (elem-map_in g xs n q)
]

pub elem-map_out : (g : ℕ → ℕ) (l : List ℕ) (m : ℕ) → elem m (map g l) ≡ true → (n : ℕ) × (elem n l ≡ true) × (g n ≡ m)
unfolding elem
elem-map_out g [] m e = clash e refl
elem-map_out g (x ∷ xs) m e =
    elim (or_out _ _ e) [
      | inl q ↦ (x, or_l _ _ (=?-same x), sym (=?-out _ _ q))
      | inr q ↦ (let r = elem-map_out g xs m q in (r.0, or_r _ _ r.1, r.2))
    ]

once-map : (g : ℕ → ℕ) (l : List ℕ) → once l ≡ true → ((i j : ℕ) → elem i l ≡ true → elem j l ≡ true → g i ≡ g j → i ≡ j)
    → once (map g l) ≡ true
unfolding once elem
once-map g [] o h = refl
once-map g (x ∷ xs) o h =
    and_in _ _ (not_in _ (fails _ (λ e. let r = elem-map_out g xs (g x) e in
    clash {A = ⊥} (subst (λ (z : ℕ). elem z xs ≡ true) (h r.0 x (or_r _ _ r.1) (or_l _ _ (=?-same x)) r.2) r.1)
    (not_out _ (and_l _ _ o)))))
    (once-map g xs (and_r _ _ o) (λ i j p q e. h i j (or_r _ _ p) (or_r _ _ q) e))

beside_here : {A : Type 0} (g : ℕ → ℕ) (h : ℕ → A) (l : List ℕ) (n : ℕ) → elem n l ≡ true
    → ((i : ℕ) → elem i l ≡ true → g i ≡ g n → i ≡ n) → beside (map (λ v. (g v, h v)) l) (g n) ≡ some (h n)
unfolding beside elem
beside_here g h [] n e k = clash e refl
beside_here g h (x ∷ xs) n e k =
    elim (same? (g n) (g x)) [
      | inl q ↦ if-true _ _ _ (=?-in _ _ q) ∙ ap (λ (z : ℕ). some (h z)) (k x (or_l _ _ (=?-same x)) (sym q))
      | inr q ↦ if-false _ _ _ (=?-not _ _ q)
          ∙ beside_here g h xs n (elim (or_out _ _ e) [ inl z ↦ absurd (q (ap g (=?-out _ _ z))) | inr z ↦ z ])
          (λ i p. k i (or_r _ _ p))
    ]

module _ {f g : ℕ → ℕ} {L : ℕ} {Use : ℕ → Type 0} (R : Renaming f g L Use) (l : List ℕ) {test : ℕ → Bool} (k : Lists l test)
    (used : (n : ℕ) → test n ≡ true → Use n) where
  use_of : (n : ℕ) → elem n l ≡ true → Use n
  use_of n e = used n (sym (k.each n) ∙ e)

  injective : (i j : ℕ) → elem i l ≡ true → elem j l ≡ true → g i ≡ g j → i ≡ j
  injective i j p q e = sym (R.back i (use_of i p)) ∙ ap f e ∙ R.back j (use_of j q)

  pub new_each : (m : ℕ) → elem m (map g l) ≡ test (f m)
  new_each m = iff→≡ _ _
      (λ e. let r = elem-map_out g l m e in ap test (ap f (sym r.2) ∙ R.back r.0 (use_of r.0 r.1))
      ∙ sym (k.each r.0) ∙ r.1)
      (λ e. subst (λ (z : ℕ). elem z (map g l) ≡ true) (R.forth m (used (f m) e)) (elem-map_in g l (f m) (k.each (f m) ∙ e)))

  pub new_once : once (map g l) ≡ true
  new_once = once-map g l k.once injective

  pub new_small : every (λ x. x <? L) (map g l) ≡ true
  new_small = every_of _ g l (λ n e. <?_in _ _ (R.small n (use_of n e)))

  pub new_beside : {A : Type 0} (h : ℕ → A) (m : ℕ) → test (f m) ≡ true → beside (map (λ v. (g v, h v)) l) m ≡ some (h (f m))
  new_beside h m e =
      let z = R.forth m (used (f m) e) in
      ap (beside (map (λ v. (g v, h v)) l)) (sym z)
      ∙ beside_here g h l (f m) (k.each (f m) ∙ e) (λ i p q. injective i (f m) p (k.each (f m) ∙ e) q)

  pub new_beside_no : {A : Type 0} (h : ℕ → A) (m : ℕ) → test (f m) ≡ false → beside (map (λ v. (g v, h v)) l) m ≡ none
  new_beside_no h m e = is_some_no _ (beside_elem (map (λ v. (g v, h v)) l) m ∙ ap (elem m) (firsts-map g h l) ∙ new_each m ∙ e)
