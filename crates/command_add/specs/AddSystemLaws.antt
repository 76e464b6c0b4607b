-- ADD-SYS and ADD-SYSVAR: the questions that are put to the book afterwards.
use Rattle.std.specs.Prelude.{Bool, Option as Found, false, not, List, [], ◌++◌, ◌∷◌, ◌≢◌, ◌≡◌, ℕ}
use Rattle.std.proofs.Math.Bool.{true}
use Rattle.std.proofs.Math.Option.{Option}
use Rattle.std.proofs.Common.{◌∙◌, ap₂, arith}
use Rattle.std.proofs.Math.Path.{ap, refl, subst, sym}
use Rattle.std.proofs.lemmas.Bool.{not-false, not-true}
use Rattle.book.specs.Changes.{Holds, with_system}
use Rattle.model.specs.Book.{Book}
use Rattle.model.specs.Commands.{ADD-SYS, ADD-SYSVAR, Members, after}
use Rattle.model.specs.Maps.{Map}
use Rattle.model.specs.PlainBook.{answer}
use Rattle.model.specs.Questions.{Question, first_no}
use Rattle.model.specs.Rules.{B3, B4, B5_to_B9}
use Rattle.command_outcome.specs.AskedLaws.{asked_before}
use Rattle.command_questions.specs.Asked.{sys_asked, sysvar_asked}
use Rattle.model_laws.specs.FirstNoLaws.{no_at, none_left, others_asked, yes_at}
use Rattle.command_lists.specs.AnswerLaws.{sys_after_lem, sys_answer_lem, sysvar_after_lem, sysvar_answer_lem}
use Rattle.command_lists.specs.Answers.{sys_after, sys_answer, sysvar_after, sysvar_answer}
use Rattle.command_lists.specs.Gathered.{Gathered, listed}
use Rattle.command_lists.specs.Said.{compositions_of, members_of, usable_of}
use Rattle.command_lists.specs.Views.{composition_view, compositions_view, usable_view}
use Rattle.command_lists.specs.declared.gathered.Gathered.{Gathered as Kept}
use Rattle.sets.specs.TestLaws.{and_l, and_r}
use Rattle.sets.specs.Tests.{~◌}
use Rattle.model_laws.specs.Accepted.{EachYes, all_yes}

-- ---- ADD-SYS

module _ (b : Book) (c : ℕ) (u : Kept (Unit {0}) 32) (g : Kept (Kept (Found ℕ) 32) 64) where
  abbrev asked : List Question
  asked = sys_asked b c (usable_view u) (compositions_view g)

  abbrev afterwards : Book
  afterwards = sys_after b c (listed (usable_view u)) (compositions_view g).given

  abbrev asked_after : List Question
  asked_after = (19, B3 b.specs afterwards.systems) ∷ (20, B4 afterwards.systems) ∷ (21, B5_to_B9 afterwards) ∷ []

  two_parts : sys_answer b c (usable_view u) (compositions_view g) ≡ first_no (asked ++ asked_after)
  unfolding sys_answer sys_asked
  two_parts = refl

  sys_yes : first_no asked ≡ 0 → EachYes asked
  unfolding sys_asked
  sys_yes none = all_yes asked (omega arith) none

  go_on : first_no asked ≡ 0 → first_no (asked ++ asked_after) ≡ first_no asked_after
  unfolding sys_asked
  go_on none = others_asked asked asked_after (omega arith) none

  module _ (us : List ℕ) (ks : List (ℕ × Members)) (ue : usable_view u ≡ usable_of us) (ge : compositions_view g ≡ compositions_of ks) where
    sys_answers : answer b (ADD-SYS c us ks) ≡ first_no (asked ++ asked_after)
    sys_answers =
        sys_answer_lem b c us ks
        ∙ ap₂ (λ (x : Gathered (Unit {0})) (y : Gathered (Map (Option ℕ))). sys_answer b c x y) (sym ue) (sym ge) ∙ two_parts

    pub sys_refused : (r : ℕ) → r ≡ first_no asked → r ≢ 0 → r ≡ answer b (ADD-SYS c us ks)
    sys_refused r e ne = sym (sys_answers ∙ asked_before asked asked_after r e ne)

    module _ (none : first_no asked ≡ 0) (b' : Book) (made : b' ≡ afterwards) where
      on : answer b (ADD-SYS c us ks) ≡ first_no asked_after
      on = sys_answers ∙ go_on none

      same_specs : b.specs ≡ b'.specs
      unfolding sys_after with_system
      same_specs = sym (ap (λ (x : Book). x.specs) made)

      three : B3 b.specs afterwards.systems ≡ B3 b'.specs b'.systems
      three = ap₂ (λ x (y : Book). B3 x y.systems) same_specs (sym made)

      pub sys_19 : {r : Bool} → r ≡ B3 b'.specs b'.systems → not r ≡ true → answer b (ADD-SYS c us ks) ≡ 19
      sys_19 {r} e z = on ∙ no_at 19 _ _ (three ∙ sym e ∙ not-true r z)

      module _ {r : Bool} (e₃ : r ≡ B3 b'.specs b'.systems) (y₃ : not r ≡ false) {q : Bool} (e₄ : q ≡ B4 b'.systems) where
        past_19 : answer b (ADD-SYS c us ks) ≡ first_no ((20, B4 afterwards.systems) ∷ (21, B5_to_B9 afterwards) ∷ [])
        past_19 = on ∙ yes_at 19 _ _ (three ∙ sym e₃ ∙ not-false r y₃)

        pub sys_20 : not q ≡ true → answer b (ADD-SYS c us ks) ≡ 20
        sys_20 z = past_19 ∙ no_at 20 _ _ (ap (λ (x : Book). B4 x.systems) (sym made) ∙ sym e₄ ∙ not-true q z)

        module _ (y₄ : not q ≡ false) {p : Bool} (e₅ : p ≡ B5_to_B9 b') where
          past_20 : answer b (ADD-SYS c us ks) ≡ first_no ((21, B5_to_B9 afterwards) ∷ [])
          past_20 = past_19 ∙ yes_at 20 _ _ (ap (λ (x : Book). B4 x.systems) (sym made) ∙ sym e₄ ∙ not-false q y₄)

          pub sys_21 : not p ≡ true → answer b (ADD-SYS c us ks) ≡ 21
          sys_21 z = past_20 ∙ no_at 21 _ _ (ap B5_to_B9 (sym made) ∙ sym e₅ ∙ not-true p z)

          pub sys_0 : not p ≡ false → answer b (ADD-SYS c us ks) ≡ 0
          sys_0 z = past_20 ∙ yes_at 21 _ _ (ap B5_to_B9 (sym made) ∙ sym e₅ ∙ not-false p z) ∙ none_left

    pub sys_holds : {s' n' : List ℕ} → first_no asked ≡ 0 → Holds s' n' afterwards → Holds s' n' (after b (ADD-SYS c us ks))
    unfolding sys_asked
    sys_holds none h = subst (Holds _ _) (sym leaves) h
      where
        limits : (~ (usable_view u).large) ≡ true
        limits = and_l _ _ (and_r _ _ (sys_yes none).0)

        limits' : (~ (compositions_view g).large) ≡ true
        limits' = and_r _ _ (and_r _ _ (sys_yes none).0)

        leaves : after b (ADD-SYS c us ks) ≡ afterwards
        leaves =
            sys_after_lem b c us ks (sym (ap (λ (x : Gathered (Unit {0})). ~ x.large) ue) ∙ limits) (sym (ap (λ (y : Gathered (Map (Option ℕ))). ~ y.large) ge) ∙ limits')
            ∙ ap₂ (λ (x : Gathered (Unit {0})) (y : Gathered (Map (Option ℕ))). sys_after b c (listed x) y.given) (sym ue) (sym ge)

-- ---- ADD-SYSVAR

module _ (b : Book) (c v : ℕ) (g : Kept (Found ℕ) 32) where
  abbrev asked_var : List Question
  asked_var = sysvar_asked b c v (composition_view g)

  abbrev after_var : Book
  after_var = sysvar_after b c v (composition_view g).given

  abbrev last_asked : List Question
  last_asked = (21, B5_to_B9 after_var) ∷ []

  two_parts_var : sysvar_answer b c v (composition_view g) ≡ first_no (asked_var ++ last_asked)
  unfolding sysvar_answer sysvar_asked
  two_parts_var = refl

  sysvar_yes : first_no asked_var ≡ 0 → EachYes asked_var
  unfolding sysvar_asked
  sysvar_yes none = all_yes asked_var (omega arith) none

  go_on_var : first_no asked_var ≡ 0 → first_no (asked_var ++ last_asked) ≡ first_no last_asked
  unfolding sysvar_asked
  go_on_var none = others_asked asked_var last_asked (omega arith) none

  module _ (ms : Members) (ge : composition_view g ≡ members_of ms) where
    sysvar_answers : answer b (ADD-SYSVAR c v ms) ≡ first_no (asked_var ++ last_asked)
    sysvar_answers = sysvar_answer_lem b c v ms ∙ ap (sysvar_answer b c v) (sym ge) ∙ two_parts_var

    pub sysvar_refused : (r : ℕ) → r ≡ first_no asked_var → r ≢ 0 → r ≡ answer b (ADD-SYSVAR c v ms)
    sysvar_refused r e ne = sym (sysvar_answers ∙ asked_before asked_var last_asked r e ne)

    module _ (none : first_no asked_var ≡ 0) (b' : Book) (made : b' ≡ after_var) {p : Bool} (e : p ≡ B5_to_B9 b') where
      pub sysvar_21 : not p ≡ true → answer b (ADD-SYSVAR c v ms) ≡ 21
      sysvar_21 z = sysvar_answers ∙ go_on_var none ∙ no_at 21 _ _ (ap B5_to_B9 (sym made) ∙ sym e ∙ not-true p z)

      pub sysvar_0 : not p ≡ false → answer b (ADD-SYSVAR c v ms) ≡ 0
      sysvar_0 z = sysvar_answers ∙ go_on_var none ∙ yes_at 21 _ _ (ap B5_to_B9 (sym made) ∙ sym e ∙ not-false p z) ∙ none_left

    pub sysvar_holds : {s' n' : List ℕ} → first_no asked_var ≡ 0 → Holds s' n' after_var → Holds s' n' (after b (ADD-SYSVAR c v ms))
    unfolding sysvar_asked
    sysvar_holds none h = subst (Holds _ _) (sym leaves) h
      where
        leaves : after b (ADD-SYSVAR c v ms) ≡ after_var
        leaves =
            sysvar_after_lem b c v ms (sym (ap (λ (y : Gathered (Option ℕ)). ~ y.large) ge) ∙ and_r _ _ (and_r _ _ (sysvar_yes none).0))
            ∙ ap (λ (y : Gathered (Option ℕ)). sysvar_after b c v y.given) (sym ge)
