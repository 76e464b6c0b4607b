-- What the test for 25 tells of the plain book; and one law for each way out of the functions that put it.
use Rattle.std.specs.Prelude.{Bool, false, not, true, List, ◌≡◌, ◌<◌, ℕ}
use Rattle.std.proofs.Common.{inl, inr, ◌∙◌, ap, subst}
use Rattle.std.proofs.Math.Path.{refl, sym}
use borrow.Author.Tests.{not-false}
use Rattle.book.specs.Layout.{kind_at}
use Rattle.book.specs.Plain.{plain_of, proper, proper_if, specified_at, specs_of, systems_of}
use Rattle.book.specs.ReadLaws.{module_limits_lem, spec_limits_lem, specified_plain, system_limits_lem}
use Rattle.book.specs.Readers.{fresh_plain}
use Rattle.model.specs.Book.{Book, Systems, composed, empty, has_version, is_system, specified}
use Rattle.model.specs.Limits.{Passes}
use Rattle.model.specs.Maps.{is_some}
use Rattle.model.specs.Rules.{B1_to_B9, B4, B5, B5_to_B9}
use Rattle.model.specs.Rules.{p, r}
use Rattle.book_rules.specs.CompositionLaws.{if_composed, of_system}
use Rattle.book_rules.specs.RuleLaws.{composed_version, unspecified}
use Rattle.book_rules.specs.Test.{passes}
use Rattle.sets.specs.Sets.{Set, bit}
use Rattle.sets.specs.TestLaws.{<?_in, =?-in, =?-out, all_in, all_out, and_in, and_l, and_r, bool?}
use Rattle.sets.specs.TestLaws.{clash, imp_in, not_in, not_out}
use Rattle.sets.specs.Tests.{◌=?◌, ◌⇒◌, all, ~◌}
use Rattle.model_laws.specs.Frame.{composed_system}
use Rattle.model_laws.specs.Heights.{Sound}
use Rattle.model_laws.specs.Parts.{rules→sound}
use Rattle.model_laws.specs.Sequence.{empty-passes}

none-specified : (c : ℕ) → unspecified empty.specs c ≡ true
unfolding unspecified specified is_some ~◌
none-specified c = refl

module _ (s n : List ℕ) where
  pub passes-proper : passes s n ≡ true → proper s n ≡ true
  unfolding passes
  passes-proper t = and_l _ _ t

  b5_of : B1_to_B9 (plain_of s n) ≡ true → B5 (specs_of s n) (systems_of s n) ≡ true
  unfolding B1_to_B9 B5_to_B9
  b5_of t = and_l _ _ (and_r _ _ (and_r _ _ (and_r _ _ (and_r _ _ t))))

  -- A Book that passes means a plain book of which the answer to the question for 25 is yes.
  pub passes_plain : passes s n ≡ true → Passes (plain_of s n)
  unfolding passes
  passes_plain t = record {
    spec_limits = spec_limits_lem s n;
    module_limits = module_limits_lem n;
    system_limits = system_limits_lem s n (b5_of (and_r _ _ (and_r _ _ t)));
    counts = and_l _ _ (and_r _ _ t);
    rules = and_r _ _ (and_r _ _ t);
  }

  -- And a Book whose own numbers are in order passes where the plain book does.
  pub plain_passes : proper s n ≡ true → Passes (plain_of s n) → passes s n ≡ true
  unfolding passes
  plain_passes t p = and_in _ _ t (and_in _ _ p.counts p.rules)

  -- a Book in which nothing is specified is the empty book
  none_passes : all 32 (unspecified (specs_of s n)) ≡ true → passes s n ≡ true
  none_passes t = plain_passes proper-none (subst Passes (sym (fresh_plain s n zero_kind)) empty-passes)
    where
      none : (c : ℕ) → c < 32 → specified_at n c ≡ false
      none c l = sym (specified_plain s n c) ∙ unfold unspecified in not_out _ (all_out _ _ t c l)

      zero_kind : (c : ℕ) → c < 32 → kind_at n c ≡ 0
      zero_kind c l = elim (bool? (kind_at n c =? 0)) [
        | inl y ↦ =?-out _ _ y
        | inr z ↦ clash {b = specified_at n c} (unfold specified_at in and_in _ _ (<?_in _ _ l) (not_in _ z)) (none c l)
      ]

      proper-none : proper s n ≡ true
      proper-none = unfold proper in all_in _ _ (λ c l. unfold proper_if in imp_in _ _ (λ y. clash (=?-in _ _ (zero_kind c l)) (not_out _ y)))

  pub nothing_passes : {r : Bool} → r ≡ all 32 (unspecified (specs_of s n)) → r ≡ true → r ≡ passes s n
  nothing_passes e t = t ∙ sym (none_passes (sym e ∙ t))

  -- and so does every Book that means the empty book
  pub empty_book_passes : plain_of s n ≡ empty → passes s n ≡ true
  empty_book_passes e = none_passes (all_in 32 _ (λ c l. ap (λ (b : Book). unspecified b.specs c) e ∙ none-specified c))

  pub sound : B4 (systems_of s n) ≡ true → B5 (specs_of s n) (systems_of s n) ≡ true → Sound (systems_of s n)
  sound b4 b5 = rules→sound (specs_of s n) (systems_of s n) (system_limits_lem s n b5) b4 b5

  pub passes_sound : passes s n ≡ true → Sound (systems_of s n)
  unfolding passes B1_to_B9
  passes_sound t = sound (and_l _ _ (and_r _ _ (and_r _ _ (and_r _ _ (and_r _ _ (and_r _ _ t)))))) (b5_of (and_r _ _ (and_r _ _ t)))

-- a composition that is there, and one that is not
module _ (s n : List ℕ) (test : ℕ → ℕ → Bool) (c v x : ℕ) (y : is_system (systems_of s n) c ≡ true) (ex : bit x ≡ has_version (specs_of s n) c)
    {t : Bool} (et : t ≡ bit x v) where
  is_composed : composed (systems_of s n) c v ≡ t
  is_composed = composed_version s n c v y ∙ sym (et ∙ ap (λ (a : Set). a v) ex)

  pub composed_test : {r : Bool} → t ≡ true → r ≡ test c v → r ≡ if_composed (systems_of s n) test c v
  unfolding if_composed ◌⇒◌
  composed_test e q = q ∙ sym (ap (λ (b : Bool). b ⇒ test c v) (is_composed ∙ e))

  pub composed_skip : t ≡ false → true ≡ if_composed (systems_of s n) test c v
  unfolding if_composed ◌⇒◌
  composed_skip e = sym (ap (λ (b : Bool). b ⇒ test c v) (is_composed ∙ e))

pub no_system_passes : (Y : Systems) (test : ℕ → ℕ → Bool) (s : ℕ) {r : Bool} → r ≡ is_system Y s → r ≡ false → true ≡ of_system Y test s
unfolding of_system if_composed
no_system_passes Y test s {r} e t = sym (all_in 64 _ (λ v l. imp_in _ _ (λ k. clash (composed_system Y s v k) (sym e ∙ t))))

-- B4 passed, as the next function asks it
pub is_yes : {r : Bool} (b : Bool) → r ≡ b → not r ≡ false → b ≡ true
is_yes {r} b e n = sym e ∙ not-false r n
