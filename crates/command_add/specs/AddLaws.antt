-- The adding commands of a specification, a module and a version of a module: from the answer 0 what the writer asks, and what it leaves
-- is what the command changes.
use Rattle.std.specs.Prelude.{Bool, false, true, List, [], ◌∷◌, ◌≡◌, ◌<◌, ◌≤◌, ℕ, get_or}
use Rattle.std.proofs.Common.{◌∙◌, ap₂, subst}
use Rattle.std.proofs.Math.Path.{ap, fun_ext, sym}
use native.Mathlib.Omega.{arith}
use Rattle.book.specs.Changes.{Holds, implementations_of, spec_from, with_module, with_modvar, with_spec}
use Rattle.book.specs.Plain.{byte, facility_set}
use Rattle.model.specs.Book.{Book, components, facilities, has_version, implementations, is_defined, is_module, provides, specified, versions}
use Rattle.model.specs.Commands.{ADD-MOD, ADD-MODVAR, ADD-SPEC, after}
use Rattle.model.specs.Limits.{Passes, how_many}
use Rattle.model.specs.Lists.{set_of}
use Rattle.model.specs.Maps.{Map, if_there, only_if}
use Rattle.model.specs.PlainBook.{answer}
use Rattle.model.specs.Questions.{Question, each_below}
use Rattle.command_lists.specs.AnswerLaws.{mod_after_lem, mod_answer_lem, modvar_after, modvar_answer_lem, spec_after_lem, spec_answer_lem}
use Rattle.command_lists.specs.Answers.{mod_after, mod_answer, modvar_answer, spec_after, spec_answer}
use Rattle.command_lists.specs.Gathered.{Gathered, listed}
use Rattle.command_lists.specs.Said.{numbers_of, sets_of}
use Rattle.command_lists.specs.Views.{numbers_view, sets_view}
use Rattle.command_lists.specs.ViewLaws.{given_only, listed_mapped}
use Rattle.command_lists.specs.declared.gathered.Gathered.{Gathered as Kept}
use Rattle.sets.specs.SetLaws.{bit_limit}
use Rattle.sets.specs.Sets.{Set, bit, disjoint}
use Rattle.sets.specs.TestLaws.{<?_in, <?_out, all_out, and_absorb, and_l, and_r, and_swap, iff_out, iff→≡, not_out, ≤?_out}
use Rattle.sets.specs.Tests.{◌&◌, ◌<?◌, ◌⇔◌, ◌≤?◌, ~◌, all, any, count}
use Rattle.model_laws.specs.Accepted.{EachYes, all_yes}
use Rattle.model_laws.specs.Good.{passes→good}

-- ---- ADD-SPEC

module _ (b : Book) (c p : ℕ) (g : Kept ℕ 64) (std : ℕ) where
  abbrev SpecZero : Type 0
  SpecZero = spec_answer b c (bit p) (sets_view g) std ≡ 0

  abbrev SpecAsked : List Question
  SpecAsked =
      (1, c <? components & ~ (sets_view g).large & std <? versions) ∷
      (2, any versions (listed (sets_view g))) ∷
      (3, ~ (sets_view g).twice) ∷
      (5, ~ specified b.specs c) ∷
      (12, count versions (listed (sets_view g)) ≤? 8) ∷
      (13, all versions (λ v. if_there ((sets_view g).given v) (disjoint facilities (bit p)))) ∷
      (14, listed (sets_view g) std) ∷ []

  spec_yes : SpecZero → EachYes SpecAsked
  unfolding spec_answer
  spec_yes zero = all_yes SpecAsked (omega arith) zero

  pub spec_component : SpecZero → c < 32
  spec_component zero = <?_out _ _ (and_l _ _ (spec_yes zero).0)

  pub spec_standard : SpecZero → std < 64
  spec_standard zero = <?_out _ _ (and_r _ _ (and_r _ _ (spec_yes zero).0))

  pub spec_new : SpecZero → specified b.specs c ≡ false
  spec_new zero = not_out _ (spec_yes zero).1.1.1.0

  pub spec_few : SpecZero → count 64 (bit g.listed) ≤ 8
  unfolding sets_view
  spec_few zero = rw (← listed_mapped 64 g facility_set) (≤?_out _ _ (spec_yes zero).1.1.1.1.0)

  module _ (ps : List ℕ) (vs : List (ℕ × List ℕ)) (pb : each_below facilities ps ≡ true) (pe : set_of ps ≡ bit p) (e : sets_view g ≡ sets_of vs) where
    pub spec_answers : answer b (ADD-SPEC c ps vs std) ≡ spec_answer b c (bit p) (sets_view g) std
    spec_answers = spec_answer_lem b c ps vs std pb ∙ ap₂ (λ (x : Set) (y : Gathered Set). spec_answer b c x y std) pe (sym e)

    pub spec_leaves : SpecZero → after b (ADD-SPEC c ps vs std) ≡ with_spec b c (spec_from (bit p) (bit g.listed) g.at std 64)
    spec_leaves zero =
        spec_after_lem b c ps vs std pb (sym (ap (λ (y : Gathered Set). ~ y.large) e) ∙ and_l _ _ (and_r _ _ (spec_yes zero).0))
        ∙ ap₂ (λ (x : Set) (y : Gathered Set). spec_after b c x y std) pe (sym e) ∙ as_written
      where
        as_written : spec_after b c (bit p) (sets_view g) std ≡ with_spec b c (spec_from (bit p) (bit g.listed) g.at std 64)
        as_written = unfold spec_after sets_view spec_from in
            ap (λ (q : Map Set). with_spec b c (record { prov = bit p; req = q; std = std }))
            (fun_ext (λ v. given_only 64 g facility_set 0 v ∙ ap (λ (t : Bool). only_if t (facility_set (get_or g.at v 0)))
            (sym (and_swap _ _ ∙ and_absorb _ _ (λ t. <?_in _ _ (bit_limit 64 g.listed v g.low t))))))

    pub spec_holds : {s' n' : List ℕ} → SpecZero → Holds s' n' (with_spec b c (spec_from (bit p) (bit g.listed) g.at std 64))
        → Holds s' n' (after b (ADD-SPEC c ps vs std))
    spec_holds zero h = subst (Holds _ _) (sym (spec_leaves zero)) h

-- ---- ADD-MOD

module _ (b : Book) (c : ℕ) (g : Kept ℕ 64) where
  abbrev ModZero : Type 0
  ModZero = mod_answer b c (numbers_view g) ≡ 0

  abbrev ModAsked : List Question
  ModAsked =
      (1, c <? components & ~ (numbers_view g).large) ∷
      (2, any versions (listed (numbers_view g))) ∷
      (3, ~ (numbers_view g).twice) ∷
      (4, specified b.specs c) ∷
      (8, ~ is_defined b.modules b.systems c) ∷
      (9, all versions (λ v. listed (numbers_view g) v ⇔ has_version b.specs c v)) ∷ []

  mod_yes : ModZero → EachYes ModAsked
  unfolding mod_answer
  mod_yes zero = all_yes ModAsked (omega arith) zero

  pub mod_component : ModZero → c < 32
  mod_component zero = <?_out _ _ (and_l _ _ (mod_yes zero).0)

  pub mod_specified : ModZero → specified b.specs c ≡ true
  mod_specified zero = (mod_yes zero).1.1.1.0

  pub mod_undefined : ModZero → is_defined b.modules b.systems c ≡ false
  mod_undefined zero = not_out _ (mod_yes zero).1.1.1.1.0

  -- the versions listed are exactly the specified ones
  mod_exact : ModZero → Passes b → (v : ℕ) → bit g.listed v ≡ has_version b.specs c v
  unfolding numbers_view
  mod_exact zero ok v =
      let one : (w : ℕ) → w < 64 → bit g.listed w ≡ has_version b.specs c w = λ w h. sym (ap (λ (a : Set). a w) (listed_mapped 64 g byte)) ∙ iff_out _ _ (all_out 64 _ (mod_yes zero).1.1.1.1.1.0 w h) in
      iff→≡ _ _ (λ t. sym (one v (bit_limit 64 g.listed v g.low t)) ∙ t) (λ t. one v ((passes→good ok).spec_limits.version< c v t) ∙ t)

  module _ (is : List (ℕ × ℕ)) (e : numbers_view g ≡ numbers_of is) where
    pub mod_answers : answer b (ADD-MOD c is) ≡ mod_answer b c (numbers_view g)
    mod_answers = mod_answer_lem b c is ∙ ap (mod_answer b c) (sym e)

    pub mod_leaves : ModZero → Passes b → after b (ADD-MOD c is) ≡ with_module b c (implementations_of b.specs c g.at)
    mod_leaves zero ok =
        mod_after_lem b c is (sym (ap (λ (y : Gathered ℕ). ~ y.large) e) ∙ and_r _ _ (mod_yes zero).0) ∙ ap (mod_after b c) (sym e) ∙ as_written
      where
        as_written : mod_after b c (numbers_view g) ≡ with_module b c (implementations_of b.specs c g.at)
        as_written = unfold mod_after numbers_view implementations_of in
            ap (with_module b c) (fun_ext (λ v. given_only 64 g byte 0 v ∙ ap (λ (t : Bool). only_if t (byte (get_or g.at v 0))) (mod_exact zero ok v)))

    pub mod_holds : {s' n' : List ℕ} → ModZero → Passes b → Holds s' n' (with_module b c (implementations_of b.specs c g.at))
        → Holds s' n' (after b (ADD-MOD c is))
    mod_holds zero ok h = subst (Holds _ _) (sym (mod_leaves zero ok)) h

-- ---- ADD-MODVAR

module _ (b : Book) (c v q i : ℕ) where
  abbrev ModvarZero : Type 0
  ModvarZero = modvar_answer b c v (bit q) i ≡ 0

  abbrev ModvarAsked : List Question
  ModvarAsked =
      (1, c <? components & v <? versions & i <? implementations) ∷
      (6, is_module b.modules c) ∷
      (11, ~ has_version b.specs c v) ∷
      (12, how_many b.specs c <? 8) ∷
      (13, disjoint facilities (provides b.specs c) (bit q)) ∷ []

  modvar_yes : ModvarZero → EachYes ModvarAsked
  unfolding modvar_answer
  modvar_yes zero = all_yes ModvarAsked (omega arith) zero

  pub modvar_component : ModvarZero → c < 32
  modvar_component zero = <?_out _ _ (and_l _ _ (modvar_yes zero).0)

  pub modvar_version : ModvarZero → v < 64
  modvar_version zero = <?_out _ _ (and_l _ _ (and_r _ _ (modvar_yes zero).0))

  pub modvar_implementation : ModvarZero → i < 256
  modvar_implementation zero = <?_out _ _ (and_r _ _ (and_r _ _ (modvar_yes zero).0))

  pub modvar_module : ModvarZero → is_module b.modules c ≡ true
  modvar_module zero = (modvar_yes zero).1.0

  pub modvar_new : ModvarZero → has_version b.specs c v ≡ false
  modvar_new zero = not_out _ (modvar_yes zero).1.1.0

  pub modvar_room : ModvarZero → how_many b.specs c < 8
  modvar_room zero = <?_out _ _ (modvar_yes zero).1.1.1.0

  module _ (rs : List ℕ) (rb : each_below facilities rs ≡ true) (e : set_of rs ≡ bit q) where
    pub modvar_answers : answer b (ADD-MODVAR c v rs i) ≡ modvar_answer b c v (bit q) i
    modvar_answers = modvar_answer_lem b c v rs i rb ∙ ap (λ (x : Set). modvar_answer b c v x i) e

    pub modvar_leaves : after b (ADD-MODVAR c v rs i) ≡ with_modvar b c v (bit q) i
    modvar_leaves = modvar_after b c v rs i rb ∙ ap (λ (x : Set). with_modvar b c v x i) e

    pub modvar_holds : {s' n' : List ℕ} {x : ℕ} → x ≡ i → Holds s' n' (with_modvar b c v (bit q) x) → Holds s' n' (after b (ADD-MODVAR c v rs i))
    modvar_holds e h = subst (Holds _ _) (ap (with_modvar b c v (bit q)) e ∙ sym modvar_leaves) h
