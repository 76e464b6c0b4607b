-- What the functions compute is what is asked.
use Rattle.std.specs.Prelude.{Bool, ◌||◌, ◌&&◌, not, true, Option as Found, [], ◌∷◌, List, ◌≡◌, ◌<◌, ◌^◌, ◌≤◌, ℕ, eqb, leb, ltb}
use Rattle.std.proofs.Math.Bool.{false}
use Rattle.std.proofs.Common.{inl, inr, ◌∙◌, ap₂, sym, arith, pow_pos}
use Rattle.std.proofs.Math.Path.{ap, refl}
use Rattle.book.specs.Plain.{modules_of, plain_of, specs_of, systems_of}
use Rattle.book_rules.specs.RuleLaws.{bare}
use Rattle.model.specs.Book.{Book, Modules, Specs, Systems, components, has_version, is_defined, is_module, is_system}
use Rattle.model.specs.Book.{specified, versions}
use Rattle.model.specs.Questions.{first_no, no_requirements}
use Rattle.command_lists.specs.Answers.{mod_answer}
use Rattle.command_lists.specs.Gathered.{listed, mapped}
use Rattle.command_lists.specs.ViewLaws.{listed_mapped, listed_seen}
use Rattle.command_lists.specs.Views.{compositions_view, numbers_view, seen, usable_view}
use Rattle.command_lists.specs.declared.gathered.Gathered.{Gathered as Kept}
use Rattle.command_outcome.specs.AskedLaws.{grouped, next}
use Rattle.command_questions.specs.Asked.{sys_asked}
use Rattle.sets.specs.SetLaws.{bit_ext, bit_limit, bit_zero}
use Rattle.sets.specs.Sets.{Set, bit, subset}
use Rattle.sets.specs.TestLaws.{=?-in, =?-out, all_in, all_out, any_in, any_out, bool?, clash, fails, iff_in, iff_out, iff→≡, imp_in, imp_out}
use Rattle.sets.specs.Tests.{◌&◌, ◌<?◌, ◌=?◌, ◌or◌, ◌⇒◌, ◌⇔◌, ◌≤?◌, all, any, count, ~◌}

-- ---- tests

pub defined_is : (M : Modules) (Y : Systems) (c : ℕ) {m y : Bool} → m ≡ is_module M c → y ≡ is_system Y c → (m || y) ≡ is_defined M Y c
unfolding is_defined ◌or◌
defined_is M Y c e q = rw (e, q)

-- question 2
pub some_bits : (k s : ℕ) → s < 2 ^ k → not (eqb s 0) ≡ any k (bit s)
unfolding ◌=?◌
some_bits k s h = iff→≡ _ _
    (λ t. elim (bool? (any k (bit s))) [
      | inl y ↦ y
      | inr z ↦ clash (=?-in s 0 (bit_ext k s 0 h (pow_pos k) (λ f l. fails _ (λ b. clash (any_in k _ f l b) z) ∙ sym (bit_zero f)))) (is_false _ t)
    ])
    (λ y. let f = any_out k _ y in is_not (fails _ (λ t. clash f.2 (ap (λ (x : ℕ). bit x f.0) (=?-out s 0 t) ∙ bit_zero f.0))))
  where
    is_false : (b : Bool) → not b ≡ true → b ≡ false
    is_false true e = clash e refl
    is_false false e = refl

    is_not : {b : Bool} → b ≡ false → not b ≡ true
    is_not e = ap not e

-- question 9
pub exactly_is : (S : Specs) (c w s : ℕ) → bit w ≡ has_version S c → w < 2 ^ 64 → s < 2 ^ 64 → eqb w s ≡ all 64 (λ v. bit s v ⇔ has_version S c v)
unfolding ◌=?◌
exactly_is S c w s e w< s< = iff→≡ _ _
    (λ t. all_in 64 _ (λ v _. iff_in _ _ (ap (λ (a : Set). a v) (ap bit (sym (=?-out w s t)) ∙ e))))
    (λ y. =?-in w s (bit_ext 64 w s w< s< (λ f h. ap (λ (a : Set). a f) e ∙ sym (iff_out _ _ (all_out 64 _ y f h)))))

-- question 12
pub few_is : (s n : ℕ) → n ≡ count 64 (bit s) → leb n 8 ≡ (count versions (bit s) ≤? 8)
unfolding ◌≤?◌
few_is s n e = rw e refl

-- question 16
pub requirements_none : (s n : List ℕ) (c : ℕ) {r : Bool} → r ≡ all 64 (bare s n c) → r ≡ no_requirements (plain_of s n) c
unfolding no_requirements bare
requirements_none s n c e = e

-- question 17
pub specified_is : (S : Specs) (x k : ℕ) {r : Bool} → x < 2 ^ 32 → bit k ≡ specified S → r ≡ subset 64 (bit x) (bit k) → r ≡ subset components (bit x) (specified S)
unfolding subset
specified_is S x k h e q =
    q ∙ ap (λ (a : Set). all 64 (λ f. bit x f ⇒ a f)) e
    ∙ iff→≡ _ _
    (λ y. all_in 32 _ (λ f l. all_out 64 _ y f (let w : f < 64 = omega (arith, l) in w)))
    (λ y. all_in 64 _ (λ f _. imp_in _ _ (λ b. imp_out _ _ (all_out 32 _ y f (bit_limit 32 x f h b)) b)))

-- ---- the questions of a command

pub mod_asked : (b : Book) (c : ℕ) (g : Kept ℕ 64) (sp df : Bool) (w : ℕ) {r : ℕ} → sp ≡ specified b.specs c
    → df ≡ is_defined b.modules b.systems c → bit w ≡ has_version b.specs c → w < 2 ^ 64
    → r ≡ first_no (
    (1, ltb c 32 && not g.large) ∷
    (2, not (eqb g.listed 0)) ∷
    (3, not g.twice) ∷
    (4, sp) ∷
    (8, not df) ∷
    (9, eqb w g.listed) ∷ [])
    → r ≡ mod_answer b c (numbers_view g)
unfolding mod_answer ◌&◌ ◌<?◌ ~◌
mod_asked b c g sp df w e₄ e₈ e₉ w< q =
    q ∙ next 1 _ _ refl (next 2 _ _ (some_bits 64 g.listed g.low) (next 3 _ _ refl (next 4 _ _ e₄ (next 8 _ _ (ap not e₈)
    (next 9 _ _ (exactly_is b.specs c w g.listed e₉ w< g.low) refl)))))
    ∙ ap (λ (s : Set). first_no (
    (1, ltb c 32 && not g.large) ∷
    (2, any versions s) ∷
    (3, not g.twice) ∷
    (4, specified b.specs c) ∷
    (8, not (is_defined b.modules b.systems c)) ∷
    (9, all versions (λ v. s v ⇔ has_version b.specs c v)) ∷ [])) (sym numbers_listed)
    ∙ (unfold numbers_view mapped seen in refl)
  where
    numbers_listed : listed (numbers_view g) ≡ bit g.listed
    numbers_listed = unfold numbers_view in listed_mapped 64 g _

pub sys_asked_lem : (s n : List ℕ) (c : ℕ) (u : Kept (Unit {0}) 32) (g : Kept (Kept (Found ℕ) 32) 64) (sp df nr us : Bool) (w k : ℕ) {r : ℕ}
    → sp ≡ specified (specs_of s n) c → df ≡ is_defined (modules_of n) (systems_of s n) c → bit w ≡ has_version (specs_of s n) c → w < 2 ^ 64
    → nr ≡ all 64 (bare s n c) → bit k ≡ specified (specs_of s n) → us ≡ subset 64 (bit u.listed) (bit k)
    → r ≡ first_no (
    (1, (ltb c 32 && not u.large) && not g.large) ∷
    (2, not (eqb g.listed 0) && not g.empty) ∷
    (3, not g.twice && not u.twice) ∷
    (4, sp) ∷
    (8, not df) ∷
    (9, eqb w g.listed) ∷
    (16, nr) ∷
    (17, us) ∷ [])
    → r ≡ first_no (sys_asked (plain_of s n) c (usable_view u) (compositions_view g))
unfolding sys_asked ◌&◌ ◌<?◌ ~◌
sys_asked_lem s n c u g sp df nr us w k e₄ e₈ e₉ w< e₁₆ k_is e₁₇ q =
    let b = plain_of s n in
    q ∙ next 1 _ _ (grouped (ltb c 32) (not u.large) (not g.large)) (next 2 _ _ (ap (λ (z : Bool). z && not g.empty) (some_bits 64 g.listed g.low)) (next 3 {a = not g.twice && not u.twice} _ _ refl
    (next 4 _ _ e₄ (next 8 _ _ (ap not e₈) (next 9 _ _ (exactly_is b.specs c w g.listed e₉ w< g.low) (next 16 _ _ (requirements_none s n c e₁₆) (next 17 [] [] (specified_is b.specs u.listed k u.low k_is e₁₇) refl)))))))
    ∙ ap₂ (λ (x y : Set). first_no (
    (1, ltb c 32 && (not u.large && not g.large)) ∷
    (2, any versions x && not g.empty) ∷
    (3, not g.twice && not u.twice) ∷
    (4, specified b.specs c) ∷
    (8, not (is_defined b.modules b.systems c)) ∷
    (9, all versions (λ v. x v ⇔ has_version b.specs c v)) ∷
    (16, no_requirements b c) ∷
    (17, subset components y (specified b.specs)) ∷ [])) (sym compositions_listed) (sym usable_listed)
    ∙ (unfold compositions_view usable_view mapped seen in refl)
  where
    compositions_listed : listed (compositions_view g) ≡ bit g.listed
    compositions_listed = unfold compositions_view in listed_mapped 64 g _

    usable_listed : listed (usable_view u) ≡ bit u.listed
    usable_listed = unfold usable_view in listed_seen 32 u
