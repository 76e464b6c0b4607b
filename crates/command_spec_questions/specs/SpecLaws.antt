-- What is asked of ADD-SPEC is what the functions compute.
use Rattle.std.specs.Prelude.{Bool, ◌&&◌, None, Some, not, true, [], ◌∷◌, ◌≡◌, ◌<◌, ◌^◌, ℕ, eqb, leb, ltb}
use Rattle.std.proofs.Common.{◌∙◌, sym}
use Rattle.std.proofs.Math.Option.{Option}
use Rattle.std.proofs.Math.Path.{ap, refl}
use Rattle.book.specs.Plain.{facility_set}
use Rattle.model.specs.Book.{Book, facilities, specified, versions}
use Rattle.model.specs.Maps.{if_there, option_map}
use Rattle.model.specs.Questions.{first_no}
use Rattle.command_lists.specs.Answers.{spec_answer}
use Rattle.command_lists.specs.Gathered.{listed, mapped}
use Rattle.command_lists.specs.MappedLaws.{set_is}
use Rattle.command_lists.specs.ViewLaws.{listed_mapped}
use Rattle.command_lists.specs.Views.{maybe, seen, sets_view, view}
use Rattle.command_lists.specs.declared.gathered.Gathered.{Gathered as Kept}
use Rattle.command_questions.specs.Asked.{free_at}
use Rattle.command_outcome.specs.AskedLaws.{grouped, next}
use Rattle.command_questions.specs.AskedLaws.{few_is, some_bits}
use Rattle.sets.specs.Sets.{Set, bit, disjoint}
use Rattle.sets.specs.Tests.{◌&◌, ◌<?◌, ◌≤?◌, all, any, count, ~◌}

-- ---- question 13

module _ (p : ℕ) (g : Kept ℕ 64) (v : ℕ) where
  pub free_unlisted : maybe None ≡ (view g).given v → true ≡ free_at (bit p) (sets_view g) v
  unfolding free_at sets_view mapped maybe option_map if_there
  free_unlisted e = ap (λ (o : Option ℕ). if_there (option_map facility_set o) (disjoint facilities (bit p))) e

  pub free_listed : (q : ℕ) {r : Bool} → q < 2 ^ 64 → maybe (Some q) ≡ (view g).given v → r ≡ disjoint 64 (bit p) (bit q)
      → r ≡ free_at (bit p) (sets_view g) v
  unfolding free_at sets_view mapped maybe option_map if_there
  free_listed q h e d =
      d ∙ ap (disjoint 64 (bit p)) (sym (set_is q h))
      ∙ ap (λ (o : Option ℕ). if_there (option_map facility_set o) (disjoint facilities (bit p))) e

-- ---- all questions

pub spec_asked : (b : Book) (c p : ℕ) (g : Kept ℕ 64) (std : ℕ) (sp af m : Bool) (n : ℕ) {r : ℕ} → sp ≡ specified b.specs c
    → n ≡ count 64 (bit g.listed) → af ≡ all 64 (free_at (bit p) (sets_view g)) → m ≡ bit g.listed std
    → r ≡ first_no (
    (1, (ltb c 32 && not g.large) && ltb std 64) ∷
    (2, not (eqb g.listed 0)) ∷
    (3, not g.twice) ∷
    (5, not sp) ∷
    (12, leb n 8) ∷
    (13, af) ∷
    (14, m) ∷ [])
    → r ≡ spec_answer b c (bit p) (sets_view g) std
unfolding spec_answer free_at ◌&◌ ◌<?◌ ~◌
spec_asked b c p g std sp af m n e₅ e₁₂ e₁₃ e₁₄ q =
    q ∙ next 1 _ _ (grouped (ltb c 32) (not g.large) (ltb std 64)) (next 2 _ _ (some_bits 64 g.listed g.low) (next 3 {a = not g.twice} _ _ refl
    (next 5 _ _ (ap not e₅) (next 12 _ _ (few_is g.listed n e₁₂) (next 13 _ _ e₁₃ (next 14 [] [] e₁₄ refl))))))
    ∙ ap (λ (x : Set). first_no (
    (1, ltb c 32 && (not g.large && ltb std 64)) ∷
    (2, any versions x) ∷
    (3, not g.twice) ∷
    (5, not (specified b.specs c)) ∷
    (12, count versions x ≤? 8) ∷
    (13, all 64 (free_at (bit p) (sets_view g))) ∷
    (14, x std) ∷ [])) (sym sets_listed)
    ∙ (unfold sets_view mapped seen in refl)
  where
    sets_listed : listed (sets_view g) ≡ bit g.listed
    sets_listed = unfold sets_view in listed_mapped 64 g facility_set
