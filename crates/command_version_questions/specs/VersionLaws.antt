-- What is asked of ADD-MODVAR and ADD-SYSVAR is what the functions compute.
use Rattle.std.specs.Prelude.{Bool, ◌&&◌, Option as Found, not, [], ◌∷◌, ◌≡◌, ◌<◌, ℕ, eqb, ltb}
use Rattle.std.proofs.Common.{◌∙◌, sym}
use Rattle.std.proofs.Math.Path.{ap, refl}
use Rattle.model.specs.Book.{Book, Specs, components, facilities, has_version, is_module, is_system, provides}
use Rattle.model.specs.Limits.{how_many}
use Rattle.model.specs.Questions.{first_no}
use Rattle.command_lists.specs.Answers.{modvar_answer}
use Rattle.command_lists.specs.Gathered.{listed, mapped}
use Rattle.command_lists.specs.ViewLaws.{listed_mapped}
use Rattle.command_lists.specs.Views.{composition_view, seen}
use Rattle.command_lists.specs.declared.gathered.Gathered.{Gathered as Kept}
use Rattle.command_questions.specs.Asked.{sysvar_asked}
use Rattle.command_outcome.specs.AskedLaws.{grouped, next}
use Rattle.command_questions.specs.AskedLaws.{some_bits}
use Rattle.sets.specs.Answered.{answered}
use Rattle.sets.specs.Sets.{Set, bit, disjoint}
use Rattle.sets.specs.Tests.{◌&◌, ◌<?◌, any, count, ~◌}

pub room_is : (S : Specs) (c w n : ℕ) → bit w ≡ has_version S c → n ≡ count 64 (bit w) → ltb n 8 ≡ (how_many S c <? 8)
unfolding how_many ◌<?◌
room_is S c w n e q = rw (q, e)

pub modvar_asked : (b : Book) (c v q i : ℕ) (m hv hr ds : Bool) (p : ℕ) {r : ℕ} → m ≡ is_module b.modules c → hv ≡ has_version b.specs c v
    → hr ≡ (how_many b.specs c <? 8) → bit p ≡ provides b.specs c → ds ≡ disjoint 64 (bit p) (bit q)
    → r ≡ first_no (
    (1, (ltb c 32 && ltb v 64) && ltb i 256) ∷
    (6, m) ∷
    (11, not hv) ∷
    (12, hr) ∷
    (13, ds) ∷ [])
    → r ≡ modvar_answer b c v (bit q) i
unfolding modvar_answer ◌&◌ ◌<?◌ ~◌
modvar_asked b c v q i m hv hr ds p e₆ e₁₁ e₁₂ p_is e₁₃ e =
    e ∙ next 1 _ _ (grouped (ltb c 32) (ltb v 64) (ltb i 256)) (next 6 _ _ e₆ (next 11 _ _ (ap not e₁₁) (next 12 _ _ e₁₂
    (next 13 [] [] (e₁₃ ∙ ap (λ (a : Set). disjoint facilities a (bit q)) p_is) refl))))

pub sysvar_asked_lem : (b : Book) (c v : ℕ) (g : Kept (Found ℕ) 32) (y hv hr : Bool) {r : ℕ} → y ≡ is_system b.systems c
    → hv ≡ has_version b.specs c v → hr ≡ (how_many b.specs c <? 8)
    → r ≡ first_no (
    (1, (ltb c 32 && ltb v 64) && not g.large) ∷
    (2, not (eqb g.listed 0)) ∷
    (3, not g.twice) ∷
    (7, y) ∷
    (11, not hv) ∷
    (12, hr) ∷ [])
    → r ≡ first_no (sysvar_asked b c v (composition_view g))
unfolding sysvar_asked ◌&◌ ◌<?◌ ~◌
sysvar_asked_lem b c v g y hv hr e₇ e₁₁ e₁₂ e =
    e ∙ next 1 _ _ (grouped (ltb c 32) (ltb v 64) (not g.large)) (next 2 _ _ (some_bits 32 g.listed g.low) (next 3 {a = not g.twice} _ _ refl
    (next 7 _ _ e₇ (next 11 _ _ (ap not e₁₁) (next 12 [] [] e₁₂ refl)))))
    ∙ ap (λ (x : Set). first_no (
    (1, ltb c 32 && (ltb v 64 && not g.large)) ∷
    (2, any components x) ∷
    (3, not g.twice) ∷
    (7, is_system b.systems c) ∷
    (11, not (has_version b.specs c v)) ∷
    (12, how_many b.specs c <? 8) ∷ [])) (sym members_listed)
    ∙ (unfold composition_view mapped seen in refl)
  where
    members_listed : listed (composition_view g) ≡ bit g.listed
    members_listed = unfold composition_view in listed_mapped 32 g answered
