-- The answers of the commands that take out, from their questions.
use Rattle.std.specs.Prelude.{Bool, ◌&&◌, not, true, List, [], ◌++◌, ◌∷◌, ◌≢◌, ◌≡◌, refl, ◌+◌, ◌<◌, ℕ, eqb, ltb, false}
use Rattle.std.proofs.Common.{◌∙◌, ap, arith, subst}
use Rattle.std.proofs.Math.Path.{sym}
use Rattle.std.proofs.lemmas.Bool.{not-false, not-true}
use Rattle.book.specs.Changes.{HoldsVersion}
use Rattle.book.specs.Plain.{plain_of}
use Rattle.book_rules.specs.Test.{passes}
use Rattle.book_rules.specs.TestLaws.{passes-proper}
use Rattle.command_delete.specs.Asked.{kind_asked, version_asked}
use Rattle.command_outcome.specs.AskedLaws.{asked_before, next}
use Rattle.model.specs.Book.{Book, has_version, is_module, is_system, specified, standard}
use Rattle.model.specs.Commands.{DEL-MOD, DEL-MODVAR, DEL-SPEC, DEL-SYS, DEL-SYSVAR, after}
use Rattle.model.specs.Limits.{Passes}
use Rattle.model.specs.PlainBook.{answer}
use Rattle.model.specs.Questions.{Question, first_no, held_by_none, in_limits, questions, usable_in_none}
use Rattle.model.specs.Rules.{B4, B5_to_B9}
use Rattle.model_laws.specs.Accepted.{EachYes, all_yes}
use Rattle.model_laws.specs.FirstNoLaws.{no_at, none_left, others_asked, yes_at}
use Rattle.model_laws.specs.Good.{passes→good}
use Rattle.model_laws.specs.KeepSystems.{less_B4}
use Rattle.refusal.specs.NumberLaws.{no_number_0}
use Rattle.sets.specs.TestLaws.{<?_out, and_l}
use Rattle.sets.specs.Tests.{◌&◌, ◌<?◌, ◌=?◌, ~◌}

-- ---- the tables

pub spec_asked : (b : Book) (c : ℕ) (sp u : Bool) {r : ℕ} → sp ≡ specified b.specs c → u ≡ usable_in_none b c
    → r ≡ first_no ((1, ltb c 32) ∷ (4, sp) ∷ (18, u) ∷ []) → r ≡ answer b (DEL-SPEC c)
unfolding answer questions in_limits ◌<?◌
spec_asked b c sp u e₄ e₁₈ q = q ∙ next 1 {a = ltb c 32} _ _ refl (next 4 _ _ e₄ (next 18 [] [] e₁₈ refl))

pub kind_asked_lem : (c m : ℕ) (t : Bool) {r : ℕ} → r ≡ first_no ((1, ltb c 32) ∷ (m, t) ∷ []) → r ≡ first_no (kind_asked c m t)
unfolding kind_asked ◌<?◌
kind_asked_lem c m t q = q

pub version_asked_lem : (b : Book) (c v m : ℕ) (t hv hn : Bool) (x : ℕ) {r : ℕ} → hv ≡ has_version b.specs c v → x ≡ standard b.specs c
    → hn ≡ held_by_none b c v
    → r ≡ first_no ((1, ltb c 32 && ltb v 64) ∷ (m, t) ∷ (10, hv) ∷ (15, not (eqb v x)) ∷ (18, hn) ∷ [])
    → r ≡ first_no (version_asked b c v m t)
unfolding version_asked ◌&◌ ◌<?◌ ◌=?◌ ~◌
version_asked_lem b c v m t hv hn x e₁₀ x_is e₁₈ q =
    q ∙ next 1 {a = ltb c 32 && ltb v 64} _ _ refl (next m {a = t} _ _ refl (next 10 _ _ e₁₀ (next 15 _ _ (ap (λ (y : ℕ). not (eqb v y)) x_is)
    (next 18 [] [] e₁₈ refl))))

-- the questions before 18, as the code asks them
module _ (b : Book) (c v m : ℕ) (t hv : Bool) (x : ℕ) (e₁₀ : hv ≡ has_version b.specs c v) (x_is : x ≡ standard b.specs c) where
  abbrev Before : List Question
  Before = (1, ltb c 32 && ltb v 64) ∷ (m, t) ∷ (10, hv) ∷ (15, not (eqb v x)) ∷ []

  pub refused_before : {r : ℕ} → r ≡ first_no Before → r ≢ 0 → r ≡ first_no (version_asked b c v m t)
  refused_before q ne =
      version_asked_lem b c v m t hv (held_by_none b c v) x e₁₀ x_is refl (sym (asked_before Before ((18, held_by_none b c v) ∷ []) _ q ne))

  pub asked_of_held : {hn : Bool} {r : ℕ} → m ≢ 0 → 0 ≡ first_no Before → hn ≡ held_by_none b c v → r ≡ first_no ((18, hn) ∷ [])
      → r ≡ first_no (version_asked b c v m t)
  asked_of_held {hn} ne zero e₁₈ q =
      version_asked_lem b c v m t hv hn x e₁₀ x_is e₁₈ (q ∙ sym (others_asked Before ((18, hn) ∷ []) (omega (arith, ne)) (sym zero)))

pub ruleset versions_asked = (refused_before, asked_of_held, no_number_0)

-- ---- what an answer of 0 gives

module _ (b : Book) (c : ℕ) where
  pub spec_limit : 0 ≡ answer b (DEL-SPEC c) → c < 32
  unfolding answer questions in_limits
  spec_limit z = <?_out _ _ (all_yes ((1, c <? 32) ∷ (4, specified b.specs c) ∷ (18, usable_in_none b c) ∷ []) (omega arith) (sym z)).0

module _ (c m : ℕ) (t : Bool) (zero : 0 ≡ first_no (kind_asked c (1 + m) t)) where
  pub kind_yes : (c < 32) × (t ≡ true)
  unfolding kind_asked
  kind_yes = let y = all_yes (kind_asked c (1 + m) t) (omega arith) (sym zero) in (<?_out _ _ y.0, y.1.0)

pub mod_asked : (b : Book) (c : ℕ) (t : Bool) {r : ℕ} → t ≡ is_module b.modules c → r ≡ first_no (kind_asked c 6 t) → r ≡ answer b (DEL-MOD c)
unfolding answer questions in_limits kind_asked
mod_asked b c t e q = q ∙ ap (λ (x : Bool). first_no (kind_asked c 6 x)) e

-- ---- DEL-SYS: 21 is put to the book afterwards

module _ (b : Book) (c : ℕ) (t : Bool) (is : t ≡ is_system b.systems c) where
  abbrev afterwards : List Question
  afterwards = (21, B5_to_B9 (after b (DEL-SYS c))) ∷ []

  two_parts : answer b (DEL-SYS c) ≡ first_no (kind_asked c 7 t ++ afterwards)
  unfolding answer questions in_limits kind_asked
  two_parts = sym (ap (λ (x : Bool). first_no (kind_asked c 7 x ++ afterwards)) is)

  pub sys_refused : (r : ℕ) → r ≡ first_no (kind_asked c 7 t) → r ≢ 0 → r ≡ answer b (DEL-SYS c)
  sys_refused r e ne = sym (two_parts ∙ asked_before (kind_asked c 7 t) afterwards r e ne)

  module _ (zero : 0 ≡ first_no (kind_asked c 7 t)) where
    go_on : answer b (DEL-SYS c) ≡ first_no afterwards
    unfolding kind_asked
    go_on = two_parts ∙ others_asked (kind_asked c 7 t) afterwards (omega arith) (sym zero)

    module _ (b' : Book) (left : b' ≡ after b (DEL-SYS c)) {u : Bool} (e : u ≡ B5_to_B9 b') where
      pub sys_21 : not u ≡ true → answer b (DEL-SYS c) ≡ 21
      sys_21 z = go_on ∙ no_at 21 _ _ (sym (ap B5_to_B9 left) ∙ sym e ∙ not-true u z)

      pub sys_0 : not u ≡ false → answer b (DEL-SYS c) ≡ 0
      sys_0 z = go_on ∙ yes_at 21 _ _ (sym (ap B5_to_B9 left) ∙ sym e ∙ not-false u z) ∙ none_left

-- B4 holds in what DEL-SYS leaves
pub del_sys_B4 : (b b' : Book) (c : ℕ) → Passes b → b' ≡ after b (DEL-SYS c) → B4 b'.systems ≡ true
unfolding after
del_sys_B4 b b' c p e = subst (λ (x : Book). B4 x.systems ≡ true) (sym e) (less_B4 b (passes→good p) c)

-- ---- DEL-MODVAR and DEL-SYSVAR

pub modvar_asked : (b : Book) (c v : ℕ) (t : Bool) {r : ℕ} → t ≡ is_module b.modules c → r ≡ first_no (version_asked b c v 6 t) → r ≡ answer b (DEL-MODVAR c v)
unfolding answer questions in_limits version_asked
modvar_asked b c v t e q = q ∙ ap (λ (x : Bool). first_no (version_asked b c v 6 x)) e

pub sysvar_asked : (b : Book) (c v : ℕ) (t : Bool) {r : ℕ} → t ≡ is_system b.systems c → r ≡ first_no (version_asked b c v 7 t) → r ≡ answer b (DEL-SYSVAR c v)
unfolding answer questions in_limits version_asked
sysvar_asked b c v t e q = q ∙ ap (λ (x : Bool). first_no (version_asked b c v 7 x)) e

module _ (s n : List ℕ) (c v m : ℕ) (t : Bool) (zero : 0 ≡ first_no (version_asked (plain_of s n) c v (1 + m) t)) where
  version_yes : EachYes (version_asked (plain_of s n) c v (1 + m) t)
  unfolding version_asked
  version_yes = all_yes (version_asked (plain_of s n) c v (1 + m) t) (omega arith) (sym zero)

  pub version_kind : t ≡ true
  unfolding version_asked
  version_kind = version_yes.1.0

  pub version_held : passes s n ≡ true → HoldsVersion s n c v
  unfolding version_asked
  version_held good = record { component< = <?_out _ _ (and_l _ _ version_yes.0); is_proper = passes-proper s n good; is_there = version_yes.1.1.0 }
