-- The answers of the call for a parts list, from its questions, and what it leaves in the slice.
use Rattle.std.specs.Prelude.{Bool, true, ◌∷◌, [], ◌≡◌, refl, ◌+◌, ◌<◌, ◌≤◌, suc, zero, ℕ, length, take}
use mathlib.Core.List.{List}
use Rattle.std.proofs.Common.{◌∙◌, arith, inl, inr}
use Rattle.std.proofs.Math.Path.{ap, sym}
use Rattle.book.specs.Plain.{plain_of, systems_of}
use Rattle.model.specs.Book.{Book, has_version}
use Rattle.model.specs.PartsList.{how_many_systems, parts}
use Rattle.model.specs.Queries.{PARTS, asked}
use Rattle.model.specs.Questions.{first_no}
use Rattle.parts.specs.Listed.{Listed, parts_answer, parts_asked}
use Rattle.query_replies.specs.Replied.{of_pair}
use Rattle.parts.specs.RowLaws.{rows_are}
use Rattle.parts.specs.Rows.{AllRows}
use Rattle.book_rules.specs.Test.{passes}
use Rattle.book_rules.specs.TestLaws.{passes_sound}
use Rattle.seqs.specs.Filled.{filled}
use Rattle.sets.specs.TestLaws.{<?_in, <?_out, and-false, and-true, bool?, fails, if-false, if-true, ≤?_in, ≤?_out}
use Rattle.sets.specs.Sets.{Set, below, bit}
use Rattle.sets.specs.Tests.{◌<?◌, ◌≤?◌, count, if?◌then◌else◌}
use Rattle.model_laws.specs.RisingLaws.{rising-length, rising_narrow}
use Rattle.model_laws.specs.Accepted.{Numbered, all_yes}
use Rattle.model_laws.specs.FirstNoLaws.{none-asked, others_asked}
use Rattle.model_laws.specs.Heights.{longest_chain_lem}
use Rattle.model_laws.specs.Meaning.{first_no_lem, no_no}
use Rattle.model_laws.specs.Notions.{no_here, none_left, yes_all}

-- ---- the questions 1, 4 and 10

module _ (b : Book) (c v : ℕ) where
  pub asked_is : {a : ℕ} → a ≡ first_no (of_pair b c v) → a ≡ first_no (asked b (PARTS c v))
  unfolding asked of_pair
  asked_is e = e

  numbered : Numbered (asked b (PARTS c v))
  unfolding asked
  numbered = (omega arith, (omega arith, (omega arith, tt)))

  -- a version that they let through is stored
  pub stored : 0 ≡ first_no (of_pair b c v) → has_version b.specs c v ≡ true
  unfolding asked
  stored e = (all_yes (asked b (PARTS c v)) numbered (sym (asked_is e))).1.1.0

-- ---- and 22

module _ (b : Book) (c v room : ℕ) where
  first_asked : (m : ℕ) → suc m ≡ first_no (asked b (PARTS c v)) → first_no (parts_asked b c v room) ≡ suc m
  unfolding parts_asked
  first_asked m e = none-asked (asked b (PARTS c v)) ((22, length (parts b c v) ≤? room) ∷ []) m (sym e)

  module _ (e : 0 ≡ first_no (asked b (PARTS c v))) (k : ℕ) (a : List ℕ) (z : AllRows b c v k a) where
    pub no_22 : room < k → first_no (parts_asked b c v room) ≡ 22
    unfolding parts_asked
    no_22 h =
        others_asked (asked b (PARTS c v)) ((22, length (parts b c v) ≤? room) ∷ []) (numbered b c v) (sym e)
        ∙ first_no_lem (no_here (fails _ (λ t. omega (arith, h, z.count, ≤?_out _ _ t))))

    fits : k ≤ room → first_no (parts_asked b c v room) ≡ 0
    unfolding parts_asked
    fits h =
        others_asked (asked b (PARTS c v)) ((22, length (parts b c v) ≤? room) ∷ []) (numbered b c v) (sym e)
        ∙ no_no (yes_all (≤?_in _ _ (omega (arith, h, z.count))) none_left)

-- ---- what the call hands back

module _ (s n : List ℕ) (c v : ℕ) (old : List ℕ) where
  -- refused, it finds nothing
  refused_by : (a rows depth : ℕ) → a ≡ parts_answer s n c v (length old) → (a ≡ 0 → ⊥) → rows ≡ 0 → depth ≡ 0
      → Listed s n c v old a rows depth old
  refused_by a rows depth e ne er ed = record { answer_is = e; refused = λ _. (refl, er, ed); found = λ k. absurd (ne k) }

  -- a Book that does not pass the test for 25
  pub untested : (a rows depth : ℕ) → a ≡ (if? passes s n then 0 else 25) → (a ≡ 0 → ⊥) → rows ≡ 0 → depth ≡ 0
      → Listed s n c v old a rows depth old
  unfolding parts_answer
  untested a rows depth e ne = elim (bool? (passes s n)) [
    | inl t ↦ absurd (ne (e ∙ if-true _ _ _ t))
    | inr f ↦ refused_by a rows depth (e ∙ if-false _ _ _ f ∙ sym (if-false _ _ _ f)) ne
  ]

  module _ (good : passes s n ≡ true) where
    answer_is : parts_answer s n c v (length old) ≡ first_no (parts_asked (plain_of s n) c v (length old))
    unfolding parts_answer
    answer_is = if-true _ _ _ good

    -- at one of the questions 1, 4 and 10
    pub refuse : (a rows depth : ℕ) → a ≡ first_no (asked (plain_of s n) (PARTS c v)) → (a ≡ 0 → ⊥) → rows ≡ 0 → depth ≡ 0
        → Listed s n c v old a rows depth old
    refuse zero rows depth e ne er ed = absurd (ne refl)
    refuse (suc m) rows depth e ne er ed =
        refused_by (suc m) rows depth (sym (answer_is ∙ first_asked (plain_of s n) c v (length old) m e)) ne er ed

    module _ (e : 0 ≡ first_no (asked (plain_of s n) (PARTS c v))) (k : ℕ) (a : List ℕ) (z : AllRows (plain_of s n) c v k a) where
      -- the slice is too short
      pub refuse_22 : length old < k → Listed s n c v old 22 0 0 old
      refuse_22 h =
          refused_by 22 0 0 (sym (answer_is ∙ no_22 (plain_of s n) c v (length old) e k a z h)) (λ y. absurd (omega (arith, y))) refl refl

      pub list : (x : ℕ) (out : List ℕ) → k ≤ length old → out ≡ filled (take k a) old → x ≡ how_many_systems (systems_of s n) + 1
          → Listed s n c v old 0 k x out
      unfolding how_many_systems
      list x out h eo ex = record {
        answer_is = sym (answer_is ∙ fits (plain_of s n) c v (length old) e k a z h);
        refused = λ z. absurd (z refl);
        found = λ _. record {
          rows_are = z.count;
          out_is = eo ∙ ap (λ (l : List ℕ). filled l old) (rows_are _ _ _ _ _ z);
          at_least = omega (arith, ex, longest_chain_lem (systems_of s n) (passes_sound s n good) c v);
          at_most = omega (arith, ex);
        };
      }

-- ---- the systems are counted

pub systems_counted : (f : ℕ → Bool) (x : ℕ) → bit x ≡ below 32 f → count 64 (bit x) ≡ count 32 f
unfolding below
systems_counted f x e = sym (rising-length 64 (bit x)) ∙ ap length (rising_narrow 32 64 (bit x) f (omega arith)
    (λ d l. ap (λ (a : Set). a d) e ∙ and-true _ _ (<?_in _ _ l))
    (λ d l. ap (λ (a : Set). a d) e ∙ and-false _ _ (fails _ (λ t. omega (arith, <?_out _ _ t, l))))) ∙ rising-length 32 f
