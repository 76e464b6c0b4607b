-- The test for 25 passes where no part of it says no.
use Rattle.std.specs.Prelude.{Bool, true, List, [], ◌∷◌, ◌≡◌, refl}
use Rattle.std.proofs.Math.Bool.{false}
use Rattle.std.proofs.Common.{◌∙◌, ap}
use Rattle.std.proofs.Math.Path.{sym}
use Rattle.book_rules.specs.Test.{passes}
use Rattle.command_outcome.specs.Outcome.{answered}
use Rattle.demand_1_2.specs.Verdict.{Arrays, Gets25, Part, book_nos, is_value, nos}
use Rattle.model.specs.Book.{Book}
use Rattle.model.specs.Limits.{Passes, one_to_eight}
use Rattle.model.specs.Lists.{keep, non_empty}
use Rattle.model.specs.Rules.{B1_to_B9, B5_to_B9}
use Rattle.sets.specs.TestLaws.{and_in, clash, if-false}
use Rattle.sets.specs.Tests.{◌&◌, ~◌}

-- no part says no
unfoldable none : List Part → Bool
none ps = ~ non_empty ps

keep_no : (t r : Bool) (x : Part) (xs : List Part) → none xs ≡ r → none (keep (~ t) x xs) ≡ (t & r)
unfolding none keep non_empty ~◌ ◌&◌
keep_no true r x xs e = e
keep_no false r x xs e = refl

keep_last : (t : Bool) (x : Part) → none (keep (~ t) x []) ≡ t
unfolding none keep non_empty ~◌
keep_last true x = refl
keep_last false x = refl

book_none : (b : Book) → none (book_nos b) ≡ (one_to_eight b.specs & B1_to_B9 b)
unfolding book_nos B1_to_B9 B5_to_B9
book_none b =
    keep_no _ _ _ _ (keep_no _ _ _ _ (keep_no _ _ _ _ (keep_no _ _ _ _ (keep_no _ _ _ _ (keep_no _ _ _ _ (keep_no _ _ _ _
    (keep_no _ _ _ _ (keep_no _ _ _ _ (keep_last _ _)))))))))

array_none : (b : Arrays) → none (nos b) ≡ passes b.0 b.1
unfolding nos passes
array_none b = keep_no _ _ _ _ (book_none _)

no_none : {qs ps : List Part} {p : Part} → qs ≡ p ∷ ps → none qs ≡ false
unfolding none non_empty ~◌
no_none e = ap none e

pub gets : (b : Arrays) {p : Part} {ps : List Part} → is_value b ≡ true → nos b ≡ p ∷ ps → Gets25 b (p ∷ ps)
gets b v e = record { value = v; said = e; fails = no; refused = λ k. unfold answered in if-false _ _ _ no }
  where
    no : passes b.0 b.1 ≡ false
    no = sym (array_none b) ∙ no_none e

-- a plain book of which some part says no does not pass
pub no_passes : (b : Book) {p : Part} {ps : List Part} → book_nos b ≡ p ∷ ps → Passes b → ⊥
no_passes b e q = clash {A = ⊥} (and_in _ _ q.counts q.rules) (sym (book_none b) ∙ no_none e)
