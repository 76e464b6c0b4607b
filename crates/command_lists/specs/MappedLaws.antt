-- One entry more of each list of the five commands.
use Rattle.std.specs.Prelude.{Bool, List, Option as Found, Some, None, ◌≡◌, ◌<◌, ◌^◌, ◌≤◌, ℕ}
use Rattle.std.proofs.Math.Bool.{false, true}
use Rattle.std.proofs.Math.Logic.{inl, inr}
use Rattle.std.proofs.Common.{◌∙◌, arith}
use Rattle.std.proofs.Math.Option.{Option, none, some}
use Rattle.std.proofs.Math.Path.{ap, ap₂, fun_ext, refl, sym}
use Rattle.book.specs.Plain.{byte, facility_set}
use Rattle.model.specs.Book.{components, facilities, versions}
use Rattle.model.specs.Lists.{set_of}
use Rattle.model.specs.Maps.{Map, else_try, if_there, only_if, option_map}
use Rattle.model.specs.Questions.{each_below}
use Rattle.command_lists.specs.Gathered.{Gathered, large_of, listed, mapped, nothing, step}
use Rattle.command_lists.specs.GatheredLaws.{or_nothing, step_in, step_out}
use Rattle.command_lists.specs.Said.{alone, always, is_implementation, is_version_or_none, itself, members_step, numbers_step, plain_step, sets_step, usable_step}
use Rattle.command_lists.specs.Views.{composition_of, composition_view, compositions_view, numbers_view, sets_view, usable_view, view}
use Rattle.command_lists.specs.declared.gathered.Gathered.{Gathered as Kept}
use Rattle.model_laws.specs.MapLaws.{option_map-some}
use Rattle.sets.specs.Answered.{answered}
use Rattle.sets.specs.SetLaws.{bit_below}
use Rattle.sets.specs.Sets.{bit}
use Rattle.sets.specs.TestLaws.{<?_in, <?_out, and-false, and_in, and_no, bool?, fails}
use Rattle.sets.specs.Tests.{◌&◌, ◌<?◌, ◌=?◌, ◌or◌, ~◌}

map_else : {A B : Type 0} (f : A → B) (o : Option A) (t : Bool) (x : A) (y : B) → f x ≡ y
    → option_map f (else_try o (only_if t (itself x))) ≡ else_try (option_map f o) (only_if t y)
unfolding option_map else_try only_if itself
map_else f (some z) t x y e = refl
map_else f none true x y e = ap some e
map_else f none false x y e = refl

or_ends : (a b c : Bool) → (a or (b or ~ c)) ≡ ((a or (b or ~ true)) or ~ c)
unfolding ◌or◌ ~◌
or_ends true b c = refl
or_ends false true c = refl
or_ends false false c = refl

-- What stands beside a number is given as an x, and the command says it as an a.
module _ {A B C : Type 0} (n : ℕ) (good full single : C → Bool) (what : C → B) (f : A → B) (g : Gathered A) (v : ℕ) (a : C) where
  abbrev goes : Gathered B
  goes = step n good full single what (mapped f g) (v, a)

  pub mapped_large : (v <? n & good a) ≡ false → mapped f (large_of g) ≡ goes
  unfolding mapped large_of
  mapped_large e = sym (step_out n good full single what (mapped f g) (v, a) e)

  listed_mapped : (i : ℕ) → listed (mapped f g) i ≡ listed g i
  unfolding listed mapped
  listed_mapped i = option_map-some f (g.given i)

  module _ (x : A) (v< : v < n) (ok : good a ≡ true) (same : f x ≡ what a) where
    pub mapped_step : record {
      large = (plain_step n g (v, x)).large;
      empty = (plain_step n g (v, x)).empty or ~ full a;
      twice = (plain_step n g (v, x)).twice or ~ single a;
      given = (mapped f (plain_step n g (v, x))).given;
    } ≡ goes
    unfolding mapped plain_step always
    mapped_step =
        ap (λ (h : Gathered A). record {
          large = h.large;
          empty = h.empty or ~ full a;
          twice = h.twice or ~ single a;
          given = λ i. option_map f (h.given i);
        }) (step_in n always always always itself g (v, x) (and_in _ _ (<?_in _ _ v<) refl))
        ∙ ap₂ (λ (z : Bool × Bool) (m : Map B). record { large = g.large; empty = z.0; twice = z.1; given = m })
        (ap₂ (λ (p q : Bool). (p, q)) (ap (λ (z : Bool). z or ~ full a) (or_true g.empty))
        (sym (or_ends _ _ _) ∙ ap (λ (z : Bool). g.twice or (z or ~ single a)) (sym (listed_mapped v))))
        (fun_ext (λ i. map_else f (g.given i) (i =? v) x (what a) same))
        ∙ sym (step_in n good full single what (mapped f g) (v, a) (and_in _ _ (<?_in _ _ v<) ok))
      where
        or_true : (b : Bool) → (b or ~ true) ≡ b
        or_true b = unfold ~◌ in or_nothing b

-- the same where nothing beside a number can be empty or hold a number twice
pub mapped_plain : {A B C : Type 0} (n : ℕ) (good : C → Bool) (what : C → B) (f : A → B) (g : Gathered A) (v : ℕ) (a : C) (x : A) → good a ≡ true
    → f x ≡ what a → mapped f (plain_step n g (v, x)) ≡ step n good always always what (mapped f g) (v, a)
unfolding plain_step
mapped_plain {A} {B} n good what f g v a x ok same = elim (bool? (v <? n)) [
  | inl t ↦ flags ∙ mapped_step n good always always what f g v a x (<?_out _ _ t) ok same
  | inr t ↦ ap (mapped f) (step_out n always always always itself g (v, x) (and-false _ _ t))
      ∙ mapped_large n good always always what f g v a (and-false _ _ t)
]
  where
    no_more : (b : Bool) → b ≡ (b or ~ true)
    no_more b = unfold ~◌ in sym (or_nothing b)

    flags : mapped f (plain_step n g (v, x)) ≡ record {
      large = (plain_step n g (v, x)).large;
      empty = (plain_step n g (v, x)).empty or ~ always a;
      twice = (plain_step n g (v, x)).twice or ~ always a;
      given = (mapped f (plain_step n g (v, x))).given;
    }
    flags = unfold mapped always in
        ap₂ (λ (p q : Bool). record { large = (plain_step n g (v, x)).large; empty = p; twice = q; given = λ i. option_map f ((plain_step n g (v, x)).given i) })
        (no_more (plain_step n g (v, x)).empty) (no_more (plain_step n g (v, x)).twice)

-- ---- no entry, and an entry that is not below its limit

nothing_mapped : {A B : Type 0} (f : A → B) (g : Gathered A) → g ≡ nothing → mapped f g ≡ nothing
unfolding mapped option_map
nothing_mapped f g e = ap (mapped f) e

large_mapped : {A B : Type 0} (f : A → B) (r g : Gathered A) → r ≡ large_of g → mapped f r ≡ large_of (mapped f g)
unfolding mapped large_of
large_mapped f r g e = ap (mapped f) e

pub sets_nothing : (r : Kept ℕ 64) → view r ≡ nothing → sets_view r ≡ nothing
unfolding sets_view
sets_nothing r e = nothing_mapped facility_set (view r) e

pub sets_large : (r g : Kept ℕ 64) → view r ≡ large_of (view g) → sets_view r ≡ large_of (sets_view g)
unfolding sets_view
sets_large r g e = large_mapped facility_set (view r) (view g) e

pub numbers_nothing : (r : Kept ℕ 64) → view r ≡ nothing → numbers_view r ≡ nothing
unfolding numbers_view
numbers_nothing r e = nothing_mapped byte (view r) e

pub numbers_large : (r g : Kept ℕ 64) → view r ≡ large_of (view g) → numbers_view r ≡ large_of (numbers_view g)
unfolding numbers_view
numbers_large r g e = large_mapped byte (view r) (view g) e

pub composition_nothing : (r : Kept (Found ℕ) 32) → view r ≡ nothing → composition_view r ≡ nothing
unfolding composition_view
composition_nothing r e = nothing_mapped answered (view r) e

pub composition_large : (r g : Kept (Found ℕ) 32) → view r ≡ large_of (view g) → composition_view r ≡ large_of (composition_view g)
unfolding composition_view
composition_large r g e = large_mapped answered (view r) (view g) e

pub compositions_nothing : (r : Kept (Kept (Found ℕ) 32) 64) → view r ≡ nothing → compositions_view r ≡ nothing
unfolding compositions_view
compositions_nothing r e = nothing_mapped composition_of (view r) e

pub compositions_large : (r g : Kept (Kept (Found ℕ) 32) 64) → view r ≡ large_of (view g) → compositions_view r ≡ large_of (compositions_view g)
unfolding compositions_view
compositions_large r g e = large_mapped composition_of (view r) (view g) e

pub usable_nothing : (r : Kept (Unit {0}) 32) → view r ≡ nothing → usable_view r ≡ nothing
unfolding usable_view
usable_nothing r e = e

-- ---- versions with sets

pub set_is : (q : ℕ) → q < 2 ^ 64 → facility_set q ≡ bit q
unfolding facility_set
set_is q h = sym (bit_below 64 q h)

pub set_entry : (r g : Kept ℕ 64) (v q : ℕ) (fs : List ℕ) → q < 2 ^ 64 → view r ≡ plain_step 64 (view g) (v, q)
    → each_below facilities fs ≡ true → set_of fs ≡ bit q → sets_view r ≡ sets_step (sets_view g) (v, fs)
unfolding sets_view sets_step
set_entry r g v q fs h e b s =
    ap (mapped facility_set) e ∙ mapped_plain versions (each_below facilities) set_of facility_set (view g) v fs q b (set_is q h ∙ sym s)

-- ---- versions with implementations

pub byte_same : (i : ℕ) → i < 256 → byte i ≡ i
unfolding byte
byte_same i h = omega arith

module _ (r g : Kept ℕ 64) (v i : ℕ) where
  pub number_entry : i < 256 → view r ≡ plain_step 64 (view g) (v, i) → numbers_view r ≡ numbers_step (numbers_view g) (v, i)
  unfolding numbers_view numbers_step itself is_implementation
  number_entry h e =
      ap (mapped byte) e ∙ mapped_plain versions is_implementation itself byte (view g) v i i (<?_in _ _ h) (byte_same i h)

  pub number_large : 256 ≤ i → view r ≡ large_of (view g) → numbers_view r ≡ numbers_step (numbers_view g) (v, i)
  unfolding numbers_view numbers_step is_implementation
  number_large h e =
      ap (mapped byte) e ∙ mapped_large versions is_implementation always always itself byte (view g) v i
      (and_no _ _ (λ t. fails _ (λ q. omega (arith, h, <?_out _ _ q))))

-- ---- members

module _ (r g : Kept (Found ℕ) 32) (m : ℕ) where
  pub member_entry : (x : ℕ) → x < 64 → view r ≡ plain_step 32 (view g) (m, Some x)
      → composition_view r ≡ members_step (composition_view g) (m, answered (Some x))
  unfolding composition_view members_step itself is_version_or_none if_there answered
  member_entry x h e =
      ap (mapped answered) e ∙ mapped_plain components is_version_or_none itself answered (view g) m (some x) (Some x) (<?_in _ _ h) refl

  pub member_left_out : view r ≡ plain_step 32 (view g) (m, None) → composition_view r ≡ members_step (composition_view g) (m, answered None)
  unfolding composition_view members_step itself is_version_or_none if_there answered
  member_left_out e =
      ap (mapped answered) e ∙ mapped_plain components is_version_or_none itself answered (view g) m none None refl refl

  pub member_large : (x : ℕ) → 64 ≤ x → view r ≡ large_of (view g) → composition_view r ≡ members_step (composition_view g) (m, answered (Some x))
  unfolding composition_view members_step is_version_or_none if_there answered
  member_large x h e =
      ap (mapped answered) e ∙ mapped_large components is_version_or_none always always itself answered (view g) m (some x)
      (and_no _ _ (λ t. fails _ (λ q. omega (arith, h, <?_out _ _ q))))

-- ---- usable components

pub usable_entry : (r g : Kept (Unit {0}) 32) (c : ℕ) → view r ≡ plain_step 32 (view g) (c, tt) → usable_view r ≡ usable_step (usable_view g) (alone c)
unfolding usable_view usable_step plain_step alone
usable_entry r g c e = e

pub ruleset member_steps = (member_entry, member_left_out, member_large)
