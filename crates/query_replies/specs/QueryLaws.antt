-- The replies of the queries, from what their functions find.
use Rattle.std.specs.Prelude.{true, List, ◌≡◌, ℕ}
use Rattle.std.proofs.Common.{◌∙◌, ap, sym}
use Rattle.std.proofs.Math.Path.{refl}
use Rattle.book.specs.Plain.{plain_of, specs_of, systems_of}
use Rattle.model.specs.Book.{facilities, provides, standard}
use Rattle.model.specs.Lists.{rising}
use Rattle.model.specs.Queries.{NEEDS, STANDARD, SUPPLIES, UNDEFINED, UNUSED, WHEREUSED, asked, found, the_components}
use Rattle.model.specs.Queries.{the_facilities, the_version, undefined, unused, where_used}
use Rattle.model.specs.Questions.{first_no}
use Rattle.model.specs.Rules.{needs}
use Rattle.query_replies.specs.Replied.{Replied, components_in, facilities_in, numbers_in, of_component, of_pair, replied_to}
use Rattle.query_replies.specs.RepliedLaws.{accept, refuse}
use Rattle.book_rules.specs.Test.{passes}
use Rattle.sets.specs.Sets.{Set, bit}

-- ---- of one component

module _ (s n : List ℕ) (c a : ℕ) (good : passes s n ≡ true) (ea : a ≡ first_no (of_component (plain_of s n) c)) where
  pub supplies_no : (a ≡ 0 → ⊥) → Replied facilities_in a 0 (replied_to s n (SUPPLIES c))
  unfolding asked of_component
  supplies_no ne = refuse facilities_in s n (SUPPLIES c) good a ea ne

  pub supplies_yes : (x : ℕ) → a ≡ 0 → bit x ≡ provides (specs_of s n) c → Replied facilities_in 0 x (replied_to s n (SUPPLIES c))
  unfolding asked of_component found facilities_in numbers_in
  supplies_yes x z e = accept facilities_in s n (SUPPLIES c) good x (sym ea ∙ z) (ap (λ (f : Set). the_facilities (rising facilities f)) e)

  pub standard_no : (a ≡ 0 → ⊥) → Replied the_version a 0 (replied_to s n (STANDARD c))
  unfolding asked of_component
  standard_no ne = refuse the_version s n (STANDARD c) good a ea ne

  pub standard_yes : (x : ℕ) → a ≡ 0 → x ≡ standard (specs_of s n) c → Replied the_version 0 x (replied_to s n (STANDARD c))
  unfolding asked of_component found
  standard_yes x z e = accept the_version s n (STANDARD c) good x (sym ea ∙ z) (ap the_version e)

  pub whereused_no : (a ≡ 0 → ⊥) → Replied components_in a 0 (replied_to s n (WHEREUSED c))
  unfolding asked of_component
  whereused_no ne = refuse components_in s n (WHEREUSED c) good a ea ne

  pub whereused_yes : (x : ℕ) → a ≡ 0 → numbers_in x ≡ where_used (plain_of s n) c → Replied components_in 0 x (replied_to s n (WHEREUSED c))
  unfolding asked of_component found components_in
  whereused_yes x z e = accept components_in s n (WHEREUSED c) good x (sym ea ∙ z) (ap the_components e)

-- ---- of a component with a version

module _ (s n : List ℕ) (c v a : ℕ) (good : passes s n ≡ true) (ea : a ≡ first_no (of_pair (plain_of s n) c v)) where
  pub needs_no : (a ≡ 0 → ⊥) → Replied facilities_in a 0 (replied_to s n (NEEDS c v))
  unfolding asked of_pair
  needs_no ne = refuse facilities_in s n (NEEDS c v) good a ea ne

  pub needs_yes : (x : ℕ) → a ≡ 0 → bit x ≡ needs (specs_of s n) (systems_of s n) c v → Replied facilities_in 0 x (replied_to s n (NEEDS c v))
  unfolding asked of_pair found facilities_in numbers_in
  needs_yes x z e = accept facilities_in s n (NEEDS c v) good x (sym ea ∙ z) (ap (λ (f : Set). the_facilities (rising facilities f)) e)

-- ---- of the whole book

module _ (s n : List ℕ) (x : ℕ) (good : passes s n ≡ true) where
  pub undefined_yes : numbers_in x ≡ undefined (plain_of s n) → Replied components_in 0 x (replied_to s n UNDEFINED)
  unfolding asked first_no found components_in
  undefined_yes e = accept components_in s n UNDEFINED good x refl (ap the_components e)

  pub unused_yes : numbers_in x ≡ unused (plain_of s n) → Replied components_in 0 x (replied_to s n UNUSED)
  unfolding asked first_no found components_in
  unused_yes e = accept components_in s n UNUSED good x refl (ap the_components e)
