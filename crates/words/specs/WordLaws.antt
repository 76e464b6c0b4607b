-- The word that begins at a position: a law for each way out of the code, and where such a word lies.
use Rattle.std.specs.Prelude.{Bool, None, Option as Found, Some, false, true, [], ◌++◌, ◌∷◌, ◌≡◌, refl, ◌+◌, ◌-◌, ◌<◌, ◌≤◌, ℕ, drop, get_or, take}
use Rattle.std.proofs.Common.{inl, inr, ◌∙◌, subst, sym, add-one, drop_of_length-le, length-append, length-drop, drop-cons, drop-drop}
use Rattle.std.proofs.Math.Option.{none}
use Rattle.std.proofs.Math.Path.{ap}
use native.Mathlib.Omega.{arith}
use Rattle.std.proofs.Math.ListN.{length}
use Rattle.std.proofs.Math.Seq.{drop-append_seam, take-append_seam}
use Rattle.model.specs.Maps.{or_else}
use Rattle.sets.specs.TestLaws.{bool?, clash, if-false, if-true}
use Rattle.sets.specs.Tests.{◌&◌, ◌=?◌, if?◌then◌else◌}
use Rattle.text.specs.Bytes.{Text, alnum, is_mark, name_byte, short}
use Rattle.text.specs.Tokens.{Next, bad, closing, end, mark, next_token, past, quoted, run, token, token_at, word}
use Rattle.words.specs.Reading.{RunsTo, Skips, SkipsWithin, in_run, next_of, part, word_at, word_of}
use Rattle.words.specs.TokenLaws.{next_open, part_length, skipped_to, token_word}

-- ---- a text by its first byte

run_past : (f : ℕ → Bool) (u : Text) → run f u ++ past f u ≡ u
unfolding run past if?◌then◌else◌
run_past f [] = refl
run_past f (c ∷ cs) = elim (bool? (f c)) [ inl e ↦ rw e (ap (λ (x : Text). c ∷ x) (run_past f cs)) | inr e ↦ rw e refl ]

run_drop : (f : ℕ → Bool) (u : Text) → drop (length (run f u)) u ≡ past f u
run_drop f u = ap (drop (length (run f u))) (sym (run_past f u)) ∙ drop-append_seam (run f u) (past f u)

-- neither a word nor the end of the text
unfoldable pub neither : Next → Bool
neither (token (word w) u) = false
neither (token (quoted w) u) = true
neither (token (mark c) u) = true
neither end = false
neither bad = true

not_word : (n : Next) → neither n ≡ true → word_of n ≡ none
unfolding neither word_of
not_word (token (word w) u) e = clash e refl
not_word (token (quoted w) u) e = refl
not_word (token (mark c) u) e = refl
not_word end e = refl
not_word bad e = refl

closing_neither : (w u : Text) → neither (closing w u) ≡ true
unfolding closing neither if?◌then◌else◌
closing_neither w [] = refl
closing_neither w (c ∷ cs) = elim (bool? (c =? 34 & short w)) [ inl e ↦ rw e refl | inr e ↦ rw e refl ]

first_neither : (c : ℕ) (cs : Text) → alnum c ≡ false → neither (token_at (c ∷ cs)) ≡ true
unfolding token_at neither
first_neither c cs n =
    ap neither (if-false _ _ _ n)
    ∙ elim (bool? (is_mark c)) [
      | inl e ↦ ap neither (if-true _ _ _ e)
      | inr e ↦ ap neither (if-false _ _ _ e)
          ∙ elim (bool? (c =? 34)) [ inl q ↦ ap neither (if-true _ _ _ q) ∙ closing_neither _ _ | inr q ↦ ap neither (if-false _ _ _ q) ]
    ]

first_no_word : (c : ℕ) (cs : Text) → alnum c ≡ false → word_of (token_at (c ∷ cs)) ≡ none
first_no_word c cs n = not_word _ (first_neither c cs n)

first_word : (c : ℕ) (cs : Text) → alnum c ≡ true → token_at (c ∷ cs) ≡ token (word (c ∷ run name_byte cs)) (past name_byte cs)
unfolding token_at
first_word c cs y = if-true _ _ _ y

none_is : (u : Text) → word_of (token_at u) ≡ none → word_at u ≡ []
unfolding word_at or_else
none_is u e = rw e refl

word_is : (c : ℕ) (cs : Text) → alnum c ≡ true → word_at (c ∷ cs) ≡ c ∷ run name_byte cs
unfolding word_at or_else word_of
word_is c cs y = ap (λ (n : Next). or_else (word_of n) []) (first_word c cs y)

at_end : word_of (token_at []) ≡ none
unfolding token_at word_of
at_end = refl

-- ---- the word that a text begins with

byte_neither : (u : Text) → 0 < length u → length (word_at u) ≡ 0 → neither (token_at u) ≡ true
byte_neither [] l h = absurd (omega arith)
byte_neither (c ∷ cs) l h =
    elim (bool? (alnum c)) [ inl e ↦ absurd (let q = ap length (word_is c cs e) in omega arith) | inr e ↦ first_neither c cs e ]

no_word : (u : Text) → length (word_at u) ≡ 0 → word_of (token_at u) ≡ none
no_word [] h = at_end
no_word (c ∷ cs) h = not_word _ (byte_neither (c ∷ cs) (omega arith) h)

some_word : (u : Text) → (length (word_at u) ≡ 0 → ⊥) → token_at u ≡ token (word (word_at u)) (drop (length (word_at u)) u)
some_word [] h = absurd (h (ap length (none_is [] at_end)))
some_word (c ∷ cs) h =
    elim (bool? (alnum c)) [
      | inl e ↦ rw (word_is c cs e) (first_word c cs e ∙ ap (token (word (c ∷ run name_byte cs))) (sym (run_drop name_byte cs)))
      | inr e ↦ absurd (h (ap length (none_is (c ∷ cs) (first_no_word c cs e))))
    ]

word_rest : (u : Text) → word_at u ++ drop (length (word_at u)) u ≡ u
word_rest [] = rw (none_is [] at_end) refl
word_rest (c ∷ cs) =
    elim (bool? (alnum c)) [
      | inl e ↦ rw (word_is c cs e, run_drop name_byte cs) (ap (λ (x : Text). c ∷ x) (run_past name_byte cs))
      | inr e ↦ rw (none_is (c ∷ cs) (first_no_word c cs e)) refl
    ]

-- ---- the ways out of word_end

pub ends_over : (t : Text) (at : ℕ) → length t ≤ at → at ≡ at + length (word_at (drop at t))
ends_over t at h = let q = ap length (ap word_at (drop_of_length-le t h) ∙ none_is [] at_end) in omega arith

module _ (t : Text) (at : ℕ) (h : at < length t) (p : Bool) (a : p ≡ alnum (get_or t at 0)) where
  starts : drop at t ≡ get_or t at 0 ∷ drop (at + 1) t
  starts = rw (drop-cons t at 0 h, add-one at)

  pub ends_word : p ≡ true → (e : ℕ) → RunsTo (in_run false) t (at + 1) e → e ≡ at + length (word_at (drop at t))
  unfolding word_at or_else word_of next_of
  ends_word y e w =
      let s = token_word t at h p a y e w in
      let q = ap (λ (x : Next). length (or_else (word_of x) [])) (sym s.is) in
      let l = part_length t at e w.inside in let f = w.from in
      omega arith

  pub ends_none : p ≡ false → at ≡ at + length (word_at (drop at t))
  ends_none n = let q = ap length (ap word_at starts ∙ none_is _ (first_no_word _ _ (sym a ∙ n))) in omega arith

-- ---- the part of the text that is the word

word_fits : (u : Text) → length (word_at u) ≤ length u
word_fits u = let l = ap length (word_rest u) in let m = length-append (word_at u) (drop (length (word_at u)) u) in omega arith

module _ (t : Text) (at e : ℕ) (q : e ≡ at + length (word_at (drop at t))) where
  pub word_inside : at ≤ length t → e ≤ length t
  word_inside h = let f = word_fits (drop at t) in let l = length-drop at t in omega arith

  pub word_cut : part t at e ≡ word_at (drop at t)
  word_cut =
      let z : e - at ≡ length (word_at (drop at t)) = omega arith in
      ap (λ (n : ℕ). take n (drop at t)) z ∙ ap (take (length (word_at (drop at t)))) (sym (word_rest (drop at t)))
      ∙ take-append_seam (word_at (drop at t)) (drop (length (word_at (drop at t))) (drop at t))

-- ---- the next token, by where it begins and the word there

module _ (t : Text) (at : ℕ) (s : Found ℕ) (k : Skips t at s) where
  pub word_open : s ≡ None → word_of (next_token (drop at t)) ≡ none
  unfolding word_of next_of
  word_open e = ap word_of (sym (next_open t at s k e).is)

  pub start_within : (a : ℕ) → s ≡ Some a → (at ≤ a) × (a ≤ length t)
  start_within a q = subst (SkipsWithin t at) q k.within

  pub start_inside : (a : ℕ) → s ≡ Some a → a ≤ length t
  start_inside a q = (start_within a q).1

  module _ (a : ℕ) (q : s ≡ Some a) (w : Text) (p : w ≡ word_at (drop a t)) where
    pub word_none : length w ≡ 0 → word_of (next_token (drop at t)) ≡ none
    word_none h = ap word_of (skipped_to t at s a k q) ∙ no_word (drop a t) (sym (ap length p) ∙ h)

    pub word_neither : length w ≡ 0 → a < length t → neither (next_token (drop at t)) ≡ true
    word_neither h l =
        ap neither (skipped_to t at s a k q)
        ∙ byte_neither (drop a t) (let m = length-drop a t in omega arith) (sym (ap length p) ∙ h)

    pub word_next : (length w ≡ 0 → ⊥) → next_token (drop at t) ≡ token (word w) (drop (a + length w) t)
    word_next n = rw p (skipped_to t at s a k q ∙ some_word (drop a t) (λ h. n (ap length p ∙ h))
        ∙ ap (token (word (word_at (drop a t)))) (drop-drop (length (word_at (drop a t))) a t))

    pub word_part : w ≡ part t a (a + length w)
    word_part = p ∙ sym (word_cut t a (a + length w) (ap (λ (n : ℕ). a + n) (ap length p)))

    pub word_ends : (at ≤ a) × (a + length w ≤ length t)
    word_ends =
        let i = start_within a q in
        (i.0, word_inside t a (a + length w) (ap (λ (n : ℕ). a + n) (ap length p)) i.1)
