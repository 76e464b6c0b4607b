-- A composition put among the compositions of a system is one step of gathering.
use Rattle.std.specs.Prelude.{Bool, ◌||◌, false, Option as Found, ◌≡◌, refl, ◌<◌, ◌≤◌, ℕ, eqb}
use Rattle.std.proofs.Math.Bool.{true}
use mathlib.Core.List.{List, [], ◌∷◌}
use Rattle.std.proofs.Common.{◌∙◌, arith, pow_pos}
use Rattle.std.proofs.Math.Option.{Option, none, some}
use Rattle.std.proofs.Math.Path.{ap, ap₂, fun_ext, sym}
use Rattle.model.specs.Book.{components, versions}
use Rattle.model.specs.Commands.{Members}
use Rattle.model.specs.Lists.{beside, every, firsts, non_empty, once, seconds}
use Rattle.model.specs.Maps.{Map, is_some, option_map}
use Rattle.model.specs.Questions.{member_below}
use Rattle.command_lists.specs.Gathered.{Gathered, large_of, listed, mapped}
use Rattle.command_lists.specs.GatheredLaws.{entry_below, gathered_given, gathered_large, gathered_twice}
use Rattle.command_lists.specs.MappedLaws.{mapped_large, mapped_step}
use Rattle.command_lists.specs.Said.{always, compositions_step, is_version_or_none, itself, members_of, members_once, plain_step}
use Rattle.command_lists.specs.ViewLaws.{listed_mapped}
use Rattle.command_lists.specs.Views.{composition_of, composition_view, compositions_view, seen, view}
use Rattle.command_lists.specs.declared.gathered.Gathered.{Gathered as Kept}
use Rattle.sets.specs.Answered.{answered}
use Rattle.sets.specs.SetLaws.{bit_ext, bit_zero}
use Rattle.sets.specs.Sets.{Set, bit}
use Rattle.sets.specs.TestLaws.{<?_out, =?-in, =?-out, =?-same, and-false, and_no, clash, fails, if-true, iff→≡, not_in, not_no, not_out}
use Rattle.sets.specs.Tests.{◌&◌, ◌<?◌, ◌=?◌, ◌or◌, ~◌}

-- ---- what a composition says of its members

pub member_below_lem : (ms : Members) → every member_below ms ≡ every (entry_below components is_version_or_none always always itself) ms
unfolding member_below entry_below is_version_or_none every
member_below_lem [] = refl
member_below_lem (m ∷ ms) = ap (λ (z : Bool). member_below m & z) (member_below_lem ms)

pub and_yes : (a : Bool) → (a & true) ≡ a
unfolding ◌&◌
and_yes true = refl
and_yes false = refl

pub every-always : {A : Type 0} (xs : List A) → every always xs ≡ true
unfolding every always ◌&◌
every-always [] = refl
every-always (x ∷ xs) = every-always xs

pub map-itself : {A : Type 0} (o : Option A) → option_map itself o ≡ o
unfolding option_map itself
map-itself none = refl
map-itself (some x) = refl

some-non_empty : (ms : Members) (m : ℕ) → is_some (beside ms m) ≡ true → non_empty ms ≡ true
unfolding non_empty beside
some-non_empty [] m s = clash s (unfold is_some in refl)
some-non_empty (x ∷ ms) m s = refl

non_empty-some : (ms : Members) → non_empty ms ≡ true → (m : ℕ) × (is_some (beside ms m) ≡ true)
unfolding non_empty beside
non_empty-some [] t = clash t refl
non_empty-some (x ∷ ms) t = (x.0, ap is_some (if-true _ _ _ (=?-same x.0)) ∙ (unfold is_some in refl))

module _ (k : Kept (Found ℕ) 32) (ms : Members) (e : composition_view k ≡ members_of ms) where
  pub large_is : k.large ≡ (~ every member_below ms)
  unfolding composition_view mapped seen members_of
  large_is = ap (λ (g : Gathered (Option ℕ)). g.large) e ∙ gathered_large components is_version_or_none always always itself ms ∙ ap (λ (z : Bool). ~ z) (sym (member_below_lem ms))

  module _ (ok : every member_below ms ≡ true) where
    all_in : every (entry_below components is_version_or_none always always itself) ms ≡ true
    all_in = sym (member_below_lem ms) ∙ ok

    pub given_is : (m : ℕ) → (composition_view k).given m ≡ beside ms m
    unfolding members_of
    given_is m = ap (λ (g : Gathered (Option ℕ)). g.given m) e ∙ gathered_given components is_version_or_none always always itself ms all_in m ∙ map-itself _

    pub composition_is : ◌≡◌ {A = Map (Option ℕ)} (composition_of k) (beside ms)
    unfolding composition_of
    composition_is = fun_ext given_is

    pub twice_is : k.twice ≡ (~ members_once ms)
    unfolding composition_view mapped seen members_of members_once
    twice_is =
        ap (λ (g : Gathered (Option ℕ)). g.twice) e ∙ gathered_twice components is_version_or_none always always itself ms all_in
        ∙ ap (λ (z : Bool). ~ (once (firsts ms) & z)) (every-always (seconds ms)) ∙ ap (λ (z : Bool). ~ z) (and_yes _)

    pub member_is : (m : ℕ) → bit k.listed m ≡ is_some (beside ms m)
    unfolding composition_view listed
    member_is m = sym (ap (λ (s : Set). s m) (listed_mapped 32 k answered)) ∙ ap is_some (given_is m)

    pub empty_is : eqb k.listed 0 ≡ (~ non_empty ms)
    unfolding ◌=?◌
    empty_is = iff→≡ _ _
        (λ t. not_in _ (fails _ (λ s. (let z = non_empty-some ms s in
        clash (member_is z.0 ∙ z.1) (ap (λ (x : ℕ). bit x z.0) (=?-out k.listed 0 t) ∙ bit_zero z.0)))))
        (λ t. =?-in k.listed 0 (bit_ext 32 k.listed 0 k.low (pow_pos 32) (λ f l.
        fails _ (λ b. clash (some-non_empty ms f (sym (member_is f) ∙ b)) (not_out _ t)) ∙ sym (bit_zero f))))

-- ---- a composition put in

or_is : (a b : Bool) → (a || b) ≡ (a or b)
unfolding ◌or◌
or_is a b = refl

module _ (r g : Kept (Kept (Found ℕ) 32) 64) (v : ℕ) (k : Kept (Found ℕ) 32) (ms : Members) where
  abbrev Goes : Type 0
  Goes = compositions_view r ≡ compositions_step (compositions_view g) (v, ms)

  pub version_large : 64 ≤ v → view r ≡ large_of (view g) → Goes
  unfolding compositions_view compositions_step
  version_large h e =
      ap (mapped composition_of) e ∙ mapped_large versions (every member_below) non_empty members_once beside composition_of (view g) v ms
      (and-false _ _ (fails _ (λ q. omega (arith, h, <?_out _ _ q))))

  module _ (of : composition_view k ≡ members_of ms) where
    pub members_large : k.large ≡ true → view r ≡ large_of (view g) → Goes
    unfolding compositions_view compositions_step
    members_large t e =
        ap (mapped composition_of) e ∙ mapped_large versions (every member_below) non_empty members_once beside composition_of (view g) v ms
        (and_no _ _ (λ q. not_out _ (sym (large_is k ms of) ∙ t)))

    pub composed : (n : Kept (Kept (Found ℕ) 32) 64) → v < 64 → k.large ≡ false → view n ≡ plain_step 64 (view g) (v, k)
        → r.large ≡ n.large → r.empty ≡ (n.empty || eqb k.listed 0) → r.twice ≡ (n.twice || k.twice) → r.listed ≡ n.listed → r.at ≡ n.at → Goes
    unfolding compositions_view compositions_step mapped seen
    composed n h t e a₁ a₂ a₃ a₄ a₅ =
        rw (a₁, a₂, a₃, a₄, a₅)
        (ap₂ (λ (x y : Bool). mapped composition_of (seen n.large x y n.listed n.at))
        (or_is _ _ ∙ ap (λ (z : Bool). n.empty or z) (empty_is k ms of good))
        (or_is _ _ ∙ ap (λ (z : Bool). n.twice or z) (twice_is k ms of good))
        ∙ ap (λ (x : Gathered (Kept (Found ℕ) 32)). record {
          large = x.large;
          empty = x.empty or ~ non_empty ms;
          twice = x.twice or ~ members_once ms;
          given = λ i. option_map composition_of (x.given i);
        }) e
        ∙ mapped_step versions (every member_below) non_empty members_once beside composition_of (view g) v ms k h good (composition_is k ms of good))
      where
        good : every member_below ms ≡ true
        good = not_no _ (sym (large_is k ms of) ∙ t)

pub ruleset composition_steps = (version_large, members_large, composed)
