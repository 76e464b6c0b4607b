-- What an accepted command gives: every question was answered yes. And what is kept where a command changes only so much.
use Rattle.std.specs.Prelude.{Bool, false, true, List, [], ◌∷◌, ◌≡◌, refl, ◌<◌, suc, ℕ, length}
use Rattle.std.proofs.Common.{inl, inr, ◌∙◌, ap, ap₂, sym, arith}
use Rattle.std.proofs.Math.Option.{some-injective, some}
use Rattle.model.specs.Book.{Book, Modules, Specs, Systems, has_version, is_defined, is_module, is_system, member, versions}
use Rattle.model.specs.Limits.{ModuleLimits, SpecLimits, SystemLimits}
use Rattle.model.specs.Lists.{beside, elem, every, firsts, seconds}
use Rattle.model.specs.Questions.{Question, each_below, exactly, first_no}
use Rattle.model.specs.Rules.{B3, B4, B5_to_B9}
use Rattle.sets.specs.TestLaws.{<?_out, =?-out, all_out, and_l, and_r, bool?, clash, fails, if-false, if-true, iff_out, iff→≡}
use Rattle.sets.specs.TestLaws.{not_out, or_l, or_r}
use Rattle.sets.specs.Tests.{◌<?◌, ◌=?◌, ~◌}
use Rattle.model_laws.specs.Frame.{B3_kept, B5_kept, B6_kept, B7_kept, B8_kept, B9_kept, Frame, mem_usable}
use Rattle.model_laws.specs.Good.{B1Facts, B2Facts, Good}
use Rattle.model_laws.specs.ListLaws.{beside_second, every-elem}
use Rattle.model_laws.specs.MapLaws.{no_some}

abbrev pub EachYes : List Question → Type 0
EachYes [] = Unit {0}
EachYes (q ∷ qs) = (q.1 ≡ true) × EachYes qs

abbrev pub Numbered : List Question → Type 0
Numbered [] = Unit {0}
Numbered (q ∷ qs) = (0 < q.0) × Numbered qs

pub all_yes : (qs : List Question) → Numbered qs → first_no qs ≡ 0 → EachYes qs
unfolding first_no
all_yes [] z h = tt
all_yes (q ∷ qs) z h =
    elim (bool? q.1) [
      | inl y ↦ (y, all_yes qs z.1 (sym (if-true _ _ _ y) ∙ h))
      | inr n ↦ absurd (omega (arith, z.0, sym (if-false _ _ _ n) ∙ h))
    ]

-- ---- lists

pub length-firsts : {A : Type 0} (xs : List (ℕ × A)) → length (firsts xs) ≡ length xs
unfolding firsts
length-firsts [] = refl
length-firsts (x ∷ xs) = ap suc (length-firsts xs)

pub below_elem : (n : ℕ) (xs : List ℕ) → each_below n xs ≡ true → (k : ℕ) → elem k xs ≡ true → k < n
unfolding each_below
below_elem n xs t k e = <?_out k n (every-elem _ xs t k e)

pub below_seconds : (n : ℕ) (xs : List (ℕ × ℕ)) → each_below n (seconds xs) ≡ true → (k i : ℕ) → beside xs k ≡ some i → i < n
unfolding each_below
below_seconds n xs t k i e = <?_out i n (beside_second (λ x. x <? n) xs t k i e)

pub beside_pair : {A : Type 0} (t : ℕ × A → Bool) (xs : List (ℕ × A)) → every t xs ≡ true → (n : ℕ) (a : A) → beside xs n ≡ some a → t (n, a) ≡ true
unfolding beside every
beside_pair t [] h n a e = no_some e
beside_pair t (x ∷ xs) h n a e =
    elim (bool? (n =? x.0)) [
      | inl q ↦ ap₂ (λ i j. t (i, j)) (=?-out _ _ q) (sym (some-injective _ _ (sym (if-true _ _ _ q) ∙ e))) ∙ and_l _ _ h
      | inr q ↦ beside_pair t xs (and_r _ _ h) n a (sym (if-false _ _ _ q) ∙ e)
    ]

-- what is not defined is neither module nor system
pub not_defined : (M : Modules) (Y : Systems) (c : ℕ) → (~ is_defined M Y c) ≡ true → (is_module M c ≡ false) × (is_system Y c ≡ false)
unfolding is_defined
not_defined M Y c t = (fails _ (λ y. clash (or_l _ _ y) (not_out _ t)), fails _ (λ y. clash (or_r _ _ y) (not_out _ t)))

pub exactly-all : (b : Book) (c : ℕ) (vs : List ℕ) → SpecLimits b.specs → each_below versions vs ≡ true → exactly b c vs ≡ true → (v : ℕ) → elem v vs ≡ has_version b.specs c v
unfolding exactly
exactly-all b c vs l t e v =
    iff→≡ _ _ (λ k. sym (iff_out _ _ (all_out _ _ e v (below_elem versions vs t v k))) ∙ k) (λ k. iff_out _ _ (all_out _ _ e v (l.version< c v k)) ∙ k)

-- ---- B3 to B9 where a frame is given

pub kept : (b : Book) (S' : Specs) (M' : Modules) (Y' : Systems) → Good b → Frame b.specs S' b.systems Y'
    → SpecLimits S' → ModuleLimits M' → SystemLimits Y' → B1Facts S' → B2Facts S' M' Y' → B4 Y' ≡ true → Good (record { specs = S'; modules = M'; systems = Y' })
kept b S' M' Y' g F sl ml yl o t b4 = record {
  spec_limits = sl;
  module_limits = ml;
  system_limits = yl;
  b1 = o;
  b2 = t;
  b4 = b4;
  b3 = B3_kept _ _ _ _ F g.system_limits g.b5 g.b3;
  b5 = B5_kept _ _ _ _ F g.system_limits g.b5;
  b6 = B6_kept _ _ _ _ F g.system_limits g.b5 g.b6;
  b7 = B7_kept _ _ _ _ F g.system_limits g.b5 g.b7;
  b8 = B8_kept _ _ _ _ F g.system_limits g.b5 g.b8;
  b9 = B9_kept _ _ _ _ F g.system_limits g.b5 g.b9;
}

-- a member has a version, and is specified
pub member_version_lem : (b : Book) → Good b → (s v d w : ℕ) → member b.systems s v d ≡ some w → has_version b.specs d w ≡ true
member_version_lem b g s v d w e = (mem_usable _ _ g.system_limits g.b5 s v d w e).1

-- B5 to B9 as the question for 21 gives them
pub from_21 : (b : Book) → B5_to_B9 b ≡ true → SpecLimits b.specs → ModuleLimits b.modules → SystemLimits b.systems → B1Facts b.specs → B2Facts b.specs b.modules b.systems
    → B3 b.specs b.systems ≡ true → B4 b.systems ≡ true → Good b
unfolding B5_to_B9
from_21 b t sl ml yl o w b3 b4 = record {
  spec_limits = sl;
  module_limits = ml;
  system_limits = yl;
  b1 = o;
  b2 = w;
  b3 = b3;
  b4 = b4;
  b5 = and_l _ _ t;
  b6 = and_l _ _ (and_r _ _ t);
  b7 = and_l _ _ (and_r _ _ (and_r _ _ t));
  b8 = and_l _ _ (and_r _ _ (and_r _ _ (and_r _ _ t)));
  b9 = and_r _ _ (and_r _ _ (and_r _ _ (and_r _ _ t)));
}
