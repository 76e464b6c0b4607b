-- How a query's questions, asked one after the other, give its reply.
use Rattle.std.specs.Prelude.{Bool, false, not, true, List, [], ◌∷◌, ◌≡◌, refl, ◌<◌, ◌≤◌, suc, zero, ℕ}
use Rattle.std.proofs.Math.Logic.{inl, inr}
use Rattle.std.proofs.Common.{◌∙◌, ap, arith}
use Rattle.std.proofs.Math.Path.{sym}
use borrow.Author.Tests.{not-false, not-true}
use Rattle.book.specs.Plain.{plain_of}
use Rattle.model_laws.specs.FirstNoLaws.{no_at, too_large, yes_at}
use Rattle.model.specs.Book.{Book, components, has_version, specified, versions}
use Rattle.model.specs.Queries.{Query, Reply, asked, found, refused, reply}
use Rattle.model.specs.Questions.{first_no}
use Rattle.query_replies.specs.Replied.{Replied, of_component, of_pair, replied_to}
use Rattle.book_rules.specs.Test.{passes}
use Rattle.sets.specs.TestLaws.{<?_in, =?-not, =?-same, and-false, and_swap, and-true, bool?, if-false, if-true}
use Rattle.sets.specs.Tests.{◌&◌, ◌<?◌, ◌=?◌, if?◌then◌else◌}

-- ---- the reply from the number of the first no

module _ (read : ℕ → Reply) (r : Reply) where
  refuses : (a : ℕ) → (a ≡ 0 → ⊥) → refused a ≡ r → Replied read a 0 r
  refuses a ne e = record { is = if-false _ _ _ (=?-not a 0 ne) ∙ e; nothing = λ _. refl }

  accepts : (x : ℕ) → read x ≡ r → Replied read 0 x r
  accepts x e = record { is = if-true _ _ _ (=?-same 0) ∙ e; nothing = λ ne. absurd (ne refl) }

reply_no : (b : Book) (q : Query) (a : ℕ) → first_no (asked b q) ≡ a → (a ≡ 0 → ⊥) → reply b q ≡ refused a
unfolding reply
reply_no b q zero e ne = absurd (ne refl)
reply_no b q (suc m) e ne = ap (λ (k : ℕ). elim k [ zero ↦ found b q | suc n ↦ refused (suc n) ]) e

reply_yes : (b : Book) (q : Query) → first_no (asked b q) ≡ 0 → reply b q ≡ found b q
unfolding reply
reply_yes b q e = ap (λ (k : ℕ). elim k [ zero ↦ found b q | suc n ↦ refused (suc n) ]) e

module _ (s n : List ℕ) (q : Query) where
  pub to_reply : passes s n ≡ true → replied_to s n q ≡ reply (plain_of s n) q
  unfolding replied_to
  to_reply good = if-true _ _ _ good

  pub to_found : passes s n ≡ true → first_no (asked (plain_of s n) q) ≡ 0 → replied_to s n q ≡ found (plain_of s n) q
  to_found good e = to_reply good ∙ reply_yes (plain_of s n) q e

  pub to_refused : passes s n ≡ true → (a : ℕ) → a ≡ first_no (asked (plain_of s n) q) → (a ≡ 0 → ⊥) → replied_to s n q ≡ refused a
  to_refused good a e ne = to_reply good ∙ reply_no (plain_of s n) q a (sym e) ne

  -- a Book that is none
  pub to_25 : passes s n ≡ false → replied_to s n q ≡ refused 25
  unfolding replied_to
  to_25 bad = if-false _ _ _ bad

module _ (read : ℕ → Reply) (s n : List ℕ) (q : Query) where
  -- a Book that does not pass the test for 25
  pub untested : (a : ℕ) → a ≡ (if? passes s n then 0 else 25) → (a ≡ 0 → ⊥) → Replied read a 0 (replied_to s n q)
  untested a e ne = elim (bool? (passes s n)) [
    | inl t ↦ absurd (ne (e ∙ if-true _ _ _ t))
    | inr f ↦ refuses read _ a ne (ap refused (e ∙ if-false _ _ _ f) ∙ sym (to_25 s n q f))
  ]

  module _ (good : passes s n ≡ true) where
    pub refuse : (a : ℕ) → a ≡ first_no (asked (plain_of s n) q) → (a ≡ 0 → ⊥) → Replied read a 0 (replied_to s n q)
    refuse a e ne = refuses read _ a ne (sym (to_refused s n q good a e ne))

    pub accept : (x : ℕ) → first_no (asked (plain_of s n) q) ≡ 0 → read x ≡ found (plain_of s n) q → Replied read 0 x (replied_to s n q)
    accept x y e = accepts read _ x (e ∙ sym (to_found s n q good y))

nothing_asked : first_no [] ≡ 0
unfolding first_no
nothing_asked = refl

-- ---- the questions 1 and 4

module _ (b : Book) (c : ℕ) where
  pub component_1 : 32 ≤ c → 1 ≡ first_no (of_component b c)
  unfolding of_component
  component_1 h = sym (no_at 1 _ _ (too_large _ _ h))

  pub component_4 : {r : Bool} → c < 32 → r ≡ specified b.specs c → not r ≡ true → 4 ≡ first_no (of_component b c)
  unfolding of_component
  component_4 {r} h e t = sym (yes_at 1 _ _ (<?_in _ _ h) ∙ no_at 4 _ _ (sym e ∙ not-true r t))

  pub component_0 : {r : Bool} → c < 32 → r ≡ specified b.specs c → not r ≡ false → 0 ≡ first_no (of_component b c)
  unfolding of_component
  component_0 {r} h e t = sym (yes_at 1 _ _ (<?_in _ _ h) ∙ yes_at 4 _ _ (sym e ∙ not-false r t) ∙ nothing_asked)

pub ruleset component_questions = (component_1, component_4, component_0)

-- ---- the questions 1, 4 and 10

module _ (b : Book) (c v : ℕ) where
  pub pair_1 : 64 ≤ v → 1 ≡ first_no (of_pair b c v)
  unfolding of_pair
  pair_1 h = sym (no_at 1 _ _ (and_swap _ _ ∙ and-false _ _ (too_large _ _ h)))

  -- with a version below 64, the questions 1 and 4 are those of the component
  module _ (v< : v < 64) where
    in_limits_lem : (c <? components & v <? versions) ≡ (c <? components)
    in_limits_lem = and_swap _ _ ∙ and-true _ _ (<?_in _ _ v<)

    last_asked_lem : first_no (of_component b c) ≡ 0 → first_no (of_pair b c v) ≡ first_no ((10, has_version b.specs c v) ∷ [])
    unfolding of_pair of_component
    last_asked_lem e = elim (bool? (c <? components)) [
      | inl y ↦ elim (bool? (specified b.specs c)) [
        | inl t ↦ yes_at 1 _ _ (in_limits_lem ∙ y) ∙ yes_at 4 _ _ t
        | inr w ↦ absurd (omega (arith, sym e ∙ yes_at 1 _ _ y ∙ no_at 4 _ _ w))
      ]
      | inr n ↦ absurd (omega (arith, sym e ∙ no_at 1 _ _ n))
    ]

    first_asked : (first_no (of_component b c) ≡ 0 → ⊥) → first_no (of_component b c) ≡ first_no (of_pair b c v)
    unfolding of_pair of_component
    first_asked ne = elim (bool? (c <? components)) [
      | inl y ↦ elim (bool? (specified b.specs c)) [
        | inl t ↦ absurd (ne (yes_at 1 _ _ y ∙ yes_at 4 _ _ t ∙ nothing_asked))
        | inr w ↦ yes_at 1 _ _ y ∙ no_at 4 _ _ w ∙ sym (yes_at 1 _ _ (in_limits_lem ∙ y) ∙ no_at 4 _ _ w)
      ]
      | inr n ↦ no_at 1 _ _ n ∙ sym (no_at 1 _ _ (in_limits_lem ∙ n))
    ]

    module _ (a : ℕ) (ea : a ≡ first_no (of_component b c)) where
      pub pair_first : (a ≡ 0 → ⊥) → a ≡ first_no (of_pair b c v)
      pair_first ne = ea ∙ first_asked (λ z. ne (ea ∙ z))

      module _ {r : Bool} (z : a ≡ 0) (er : r ≡ has_version b.specs c v) where
        pub pair_10 : not r ≡ true → 10 ≡ first_no (of_pair b c v)
        pair_10 t = sym (last_asked_lem (sym ea ∙ z) ∙ no_at 10 _ _ (sym er ∙ not-true r t))

        pub pair_0 : not r ≡ false → 0 ≡ first_no (of_pair b c v)
        pair_0 t = sym (last_asked_lem (sym ea ∙ z) ∙ yes_at 10 _ _ (sym er ∙ not-false r t) ∙ nothing_asked)

pub ruleset pair_questions = (pair_1, pair_first, pair_10, pair_0)
