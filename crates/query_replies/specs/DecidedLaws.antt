-- The contract form leaves no choice: the reply decides the answer and the value.
use Rattle.std.specs.Prelude.{Bool, true, List, [], ◌∷◌, ◌≡◌, refl, ◌<◌, ◌^◌, ℕ}
use Rattle.std.proofs.Math.Logic.{inl, inr}
use Rattle.std.proofs.Common.{◌∙◌}
use Rattle.std.proofs.Math.Path.{ap, sym}
use Rattle.model.specs.Lists.{elem, rising}
use Rattle.model.specs.Queries.{Reply, refused, the_components, the_facilities, the_pairs, the_parts, the_version}
use Rattle.query_replies.specs.Listed.{answer_of}
use Rattle.query_replies.specs.Replied.{Replied, components_in, facilities_in, numbers_in}
use Rattle.sets.specs.SetLaws.{bit_ext}
use Rattle.sets.specs.Sets.{bit}
use Rattle.sets.specs.TestLaws.{=?-in, =?-not, if-false, if-true, iff→≡, same?}
use Rattle.model_laws.specs.ListLaws.{rising-elem}

module _ (read : ℕ → Reply) (accepted : (x : ℕ) → answer_of (read x) ≡ 0) {r : Reply} where
  pub replied_answer : {a x : ℕ} → Replied read a x r → a ≡ answer_of r
  unfolding answer_of
  replied_answer {a} {x} q = elim (same? a 0) [
    | inl e ↦ e ∙ sym (accepted x) ∙ ap answer_of (sym (if-true _ _ _ (=?-in a 0 e)) ∙ q.is)
    | inr ne ↦ ap answer_of (sym (if-false _ _ _ (=?-not a 0 ne)) ∙ q.is)
  ]

  pub replied_value : {a x : ℕ} → Replied read a x r → a ≡ 0 → read x ≡ r
  replied_value {a} q e = sym (if-true _ _ _ (=?-in a 0 e)) ∙ q.is

  -- two results that are the same reply are the same
  decided : {a x b y : ℕ} → (read x ≡ read y → x ≡ y) → Replied read a x r → Replied read b y r → (a ≡ b) × (x ≡ y)
  decided {a} {x} {b} {y} one p q =
      let same : a ≡ b = replied_answer p ∙ sym (replied_answer q) in (
        same,
        elim (same? a 0) [
          | inl e ↦ one (replied_value p e ∙ sym (replied_value q (sym same ∙ e)))
          | inr ne ↦ p.nothing ne ∙ sym (q.nothing (λ e. ne (same ∙ e)))
        ],
      )

-- the numbers of a set of 64 bits decide it
numbers_one : (x y : ℕ) → x < 2 ^ 64 → y < 2 ^ 64 → numbers_in x ≡ numbers_in y → x ≡ y
unfolding numbers_in
numbers_one x y hx hy e = bit_ext 64 x y hx hy (λ f l. iff→≡ _ _ (there f l (bit x) (bit y) e) (there f l (bit y) (bit x) (sym e)))
  where
    there : (f : ℕ) → f < 64 → (a b : ℕ → Bool) → rising 64 a ≡ rising 64 b → a f ≡ true → b f ≡ true
    there f l a b q t = ((rising-elem 64 f b).0 (sym (ap (elem f) q) ∙ (rising-elem 64 f a).1 (l, t))).1

-- what a reply lists
listed : Reply → List ℕ
listed (the_facilities fs) = fs
listed (the_components cs) = cs
listed (the_version v) = v ∷ []
listed (refused m) = []
listed (the_pairs xs) = []
listed (the_parts xs d) = []

head_of : List ℕ → ℕ
head_of [] = 0
head_of (x ∷ xs) = x

module _ {r : Reply} {a x b y : ℕ} where
  pub facilities_decided : x < 2 ^ 64 → y < 2 ^ 64 → Replied facilities_in a x r → Replied facilities_in b y r → (a ≡ b) × (x ≡ y)
  unfolding facilities_in answer_of listed
  facilities_decided hx hy p q = decided facilities_in (λ z. refl) (λ e. numbers_one x y hx hy (ap listed e)) p q

  pub components_decided : x < 2 ^ 64 → y < 2 ^ 64 → Replied components_in a x r → Replied components_in b y r → (a ≡ b) × (x ≡ y)
  unfolding components_in answer_of listed
  components_decided hx hy p q = decided components_in (λ z. refl) (λ e. numbers_one x y hx hy (ap listed e)) p q

  pub version_decided : Replied the_version a x r → Replied the_version b y r → (a ≡ b) × (x ≡ y)
  unfolding answer_of listed head_of
  version_decided p q = decided the_version (λ z. refl) (λ e. ap (λ (s : Reply). head_of (listed s)) e) p q
