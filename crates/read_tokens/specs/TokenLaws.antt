-- Tokens read from a position: a law for each way out of the code.
use Rattle.std.specs.Prelude.{Bool, [], None, Option as Found, Some, false, true, ◌≡◌, refl, ◌+◌, ◌<◌, ◌≤◌, ℕ}
use Rattle.std.proofs.Common.{inl, inr, ◌∙◌, length-drop}
use Rattle.std.proofs.Math.Option.{Option, some-injective, none, some}
use Rattle.std.proofs.Math.Path.{ap, subst, sym}
use native.Mathlib.Omega.{arith}
use Rattle.std.proofs.Math.ListN.{drop, get_or-eq_default, length}
use Rattle.model.specs.Maps.{only_if}
use Rattle.sets.specs.TestLaws.{<?_no, <?_out, =?-in, =?-out, bool?, fails, if-false, if-true, iff→≡}
use Rattle.model_laws.specs.MapLaws.{no_some}
use Rattle.words.specs.KeywordLaws.{keyword_length}
use Rattle.words.specs.Keywords.{keyword_count}
use Rattle.words.specs.TokenLaws.{mark_within, part_length, quoted_within}
use Rattle.words.specs.WordLaws.{word_ends, word_next, word_none, word_open}
use Rattle.text_laws.specs.TextLaws.{same_out, same_sym}
use Rattle.sets.specs.Tests.{◌<?◌, ◌=?◌}
use Rattle.text.specs.Bytes.{Text, keywords, name_word, same}
use Rattle.text.specs.Language.{Reader, ahead, ahead_of, imp, name, name_of, quoted_of, want, want_of}
use Rattle.text.specs.Tables.{name_at}
use Rattle.text.specs.Tokens.{Next, bad, end, is_token, mark, next_token, quoted, token, word}
use Rattle.text.specs.Tokens as tokens
use Rattle.text_laws.specs.Left.{LeftO, left_length}
use Rattle.text_laws.specs.Takes.{Takes}
use Rattle.words.specs.Reading.{Reads, Skips, next_of, part, word_at, word_of}
use Rattle.words.specs.declared.Token.{Token}
use Rattle.words.specs.declared.Token.TheVariants.{Word, Quoted, Mark, End}
use Rattle.read_tokens.specs.Ahead.{IsWord}
use Rattle.read_tokens.specs.Readers.{Any, Got, key_at}

-- ---- where a reader stands

-- a reader that takes a byte at least reads on
pub got_less : {A : Type 0} (p : Reader A) (R : A → Type 0) (t : Text) (at e : ℕ) → Takes 1 p → Got p R t at e → at ≤ length t → at < e
got_less p R t at e k g h =
    let l = left_length (subst (λ (o : Option (_ × Text)). LeftO 1 (drop at t) o) g.is (k.at (drop at t))) in
    let le = length-drop e t in let la = length-drop at t in let i = g.inside in
    omega arith

-- ---- keywords

key_length : (k : ℕ) → length (name_at keywords k) ≤ 32
unfolding name_at keywords
key_length k = elim (bool? (k <? keyword_count)) [
  | inl b ↦ keyword_length k (<?_out _ _ b)
  | inr b ↦ subst (λ (w : Text). length w ≤ 32) (sym (get_or-eq_default keywords [] (<?_no _ _ b))) (omega arith)
]

-- a word too long for a keyword
key_long : (w : Text) (k : ℕ) → 32 < length w → same w (name_at keywords k) ≡ false
key_long w k m = fails _ (λ s. let q = ap length (same_out _ _ s) in let j = key_length k in absurd (omega arith))

same_turn : (x y : Text) → same x y ≡ same y x
same_turn x y = iff→≡ _ _ (same_sym x y) (same_sym y x)

-- ---- one token

not_quoted : (t : Text) (k : Token) → ((a e : ℕ) → k ≡ Quoted a e → ⊥) → quoted_of (next_of t (Some k)) ≡ none
unfolding quoted_of next_of
not_quoted t (Word a e) n = refl
not_quoted t (Quoted a e) n = absurd (n a e refl)
not_quoted t (Mark c e) n = refl
not_quoted t End n = refl

not_mark : (t : Text) (c : ℕ) (k : Token) → ((d e : ℕ) → k ≡ Mark d e → ⊥) → want_of (mark c) (next_of t (Some k)) ≡ none
unfolding want_of next_of is_token only_if
not_mark t c (Word a e) n = refl
not_mark t c (Quoted a e) n = refl
not_mark t c (Mark d e) n = absurd (n d e refl)
not_mark t c End n = refl

module _ (t : Text) (at : ℕ) (r : Found Token) (s : Reads t at (next_token (drop at t)) r) where
  pub imp_bad : r ≡ None → imp (drop at t) ≡ none
  unfolding imp quoted_of next_of
  imp_bad q = ap quoted_of (sym s.is ∙ ap (next_of t) q)

  pub mark_bad : (c : ℕ) → r ≡ None → want (mark c) (drop at t) ≡ none
  unfolding want want_of next_of
  mark_bad c q = ap (want_of (mark c)) (sym s.is ∙ ap (next_of t) q)

  module _ (k : Token) (h : r ≡ Some k) where
    next_is : next_token (drop at t) ≡ next_of t (Some k)
    next_is = sym s.is ∙ ap (next_of t) h

    -- an implementation
    pub imp_yes : (a e : ℕ) → k ≡ Quoted a e → Got imp (IsWord (part t a e)) t at (e + 1)
    unfolding imp quoted_of next_of
    imp_yes a e q =
        let w = quoted_within t at _ r s k h a e q in
        let z : next_token (drop at t) ≡ token (quoted (part t a e)) (drop (e + 1) t) = next_is ∙ ap (λ x. next_of t (Some x)) q in
        record {
          value = part t a e;
          is = ap quoted_of z;
          took = record { is = refl; some_bytes = (let l = part_length t a e (omega arith) in omega arith) };
          from = omega arith;
          inside = omega arith;
        }

    pub imp_none : ((a e : ℕ) → k ≡ Quoted a e → ⊥) → imp (drop at t) ≡ none
    unfolding imp
    imp_none n = ap quoted_of next_is ∙ not_quoted t k n

    -- the mark c
    module _ (c d e : ℕ) (q : k ≡ Mark d e) where
      mark_only : want (mark c) (drop at t) ≡ only_if (c =? d) (tt, drop e t)
      unfolding want want_of next_of is_token
      mark_only =
          let z : next_token (drop at t) ≡ token (mark d) (drop e t) = next_is ∙ ap (λ x. next_of t (Some x)) q in
          ap (want_of (mark c)) z

      pub mark_yes : d ≡ c → Got (want (mark c)) Any t at e
      unfolding only_if
      mark_yes y =
          let w = mark_within t at _ r s k h d e q in
          record {
            value = tt;
            is = mark_only ∙ ap (λ (b : Bool). only_if b (tt, drop e t)) (=?-in c d (sym y));
            took = record {};
            from = omega arith;
            inside = w.1;
          }

      pub mark_other : (d ≡ c → ⊥) → want (mark c) (drop at t) ≡ none
      unfolding only_if
      mark_other n = mark_only ∙ ap (λ (b : Bool). only_if b (tt, drop e t)) (fails _ (λ y. n (sym (=?-out c d y))))

    pub mark_none : (c : ℕ) → ((d e : ℕ) → k ≡ Mark d e → ⊥) → want (mark c) (drop at t) ≡ none
    unfolding want
    mark_none c n = ap (want_of (mark c)) next_is ∙ not_mark t c k n

-- ---- words

not_word_name : (n : Next) → word_of n ≡ none → name_of n ≡ none
unfolding word_of name_of
not_word_name (token (word x) v) e = no_some (sym e)
not_word_name (token (quoted x) v) e = refl
not_word_name (token (mark c) v) e = refl
not_word_name end e = refl
not_word_name bad e = refl

not_word_key : (w : Text) (n : Next) → word_of n ≡ none → want_of (word w) n ≡ none
unfolding word_of want_of is_token only_if
not_word_key w (token (word x) v) e = no_some (sym e)
not_word_key w (token (quoted x) v) e = refl
not_word_key w (token (mark c) v) e = refl
not_word_key w end e = refl
not_word_key w bad e = refl

-- by where the next token begins and the word there
module _ (t : Text) (at : ℕ) (s : Found ℕ) (g : Skips t at s) where
  pub name_open : s ≡ None → name (drop at t) ≡ none
  unfolding name
  name_open e = not_word_name _ (word_open t at s g e)

  pub key_open : (k : ℕ) → s ≡ None → want (key_at k) (drop at t) ≡ none
  unfolding want key_at
  key_open k e = not_word_key _ _ (word_open t at s g e)

  module _ (a : ℕ) (q : s ≡ Some a) (w : Text) (p : w ≡ word_at (drop a t)) where
    pub name_none : length w ≡ 0 → name (drop at t) ≡ none
    unfolding name
    name_none e = not_word_name _ (word_none t at s g a q w p e)

    pub key_none : (k : ℕ) → length w ≡ 0 → want (key_at k) (drop at t) ≡ none
    unfolding want key_at
    key_none k e = not_word_key _ _ (word_none t at s g a q w p e)

    module _ (n : length w ≡ 0 → ⊥) where
      name_only : name (drop at t) ≡ only_if (name_word w) (w, drop (a + length w) t)
      unfolding name name_of
      name_only = ap name_of (word_next t at s g a q w p n)

      pub name_yes : (b : Bool) → b ≡ name_word w → b ≡ true → Got name (IsWord w) t at (a + length w)
      unfolding only_if
      name_yes b h y =
          let e = word_ends t at s g a q w p in
          record {
            value = w;
            is = name_only ∙ ap (λ (x : Bool). only_if x (w, drop (a + length w) t)) (sym h ∙ y);
            took = record { is = refl; some_bytes = omega (arith, n) };
            from = omega arith;
            inside = e.1;
          }

      pub name_other : (b : Bool) → b ≡ name_word w → b ≡ false → name (drop at t) ≡ none
      unfolding only_if
      name_other b h y = name_only ∙ ap (λ (x : Bool). only_if x (w, drop (a + length w) t)) (sym h ∙ y)

      key_only : (k : ℕ) → want (key_at k) (drop at t) ≡ only_if (same w (name_at keywords k)) (tt, drop (a + length w) t)
      unfolding want want_of key_at is_token
      key_only k = ap (want_of (key_at k)) (word_next t at s g a q w p n)
          ∙ ap (λ (x : Bool). only_if x (tt, drop (a + length w) t)) (same_turn (name_at keywords k) w)

      pub key_yes : (k j : ℕ) → j ≡ k → (b : Bool) → b ≡ same w (name_at keywords j) → b ≡ true → Got (want (key_at k)) Any t at (a + length w)
      unfolding only_if
      key_yes k j z b h y =
          let e = word_ends t at s g a q w p in
          record {
            value = tt;
            is = key_only k
                ∙ ap (λ (x : Bool). only_if x (tt, drop (a + length w) t)) (ap (λ (i : ℕ). same w (name_at keywords i)) (sym z) ∙ sym h ∙ y);
            took = record {};
            from = omega arith;
            inside = e.1;
          }

      pub key_other : (k j : ℕ) → j ≡ k → (b : Bool) → b ≡ same w (name_at keywords j) → b ≡ false → want (key_at k) (drop at t) ≡ none
      unfolding only_if
      key_other k j z b h y =
          key_only k ∙ ap (λ (x : Bool). only_if x (tt, drop (a + length w) t)) (ap (λ (i : ℕ). same w (name_at keywords i)) (sym z) ∙ sym h ∙ y)

    pub key_too_long : (k : ℕ) → 32 < length w → want (key_at k) (drop at t) ≡ none
    key_too_long k m = key_other (λ e. absurd (omega arith)) k k refl false (sym (key_long w k m)) refl

-- ---- what stands next, read only if it is there

ahead_there : (k : tokens.Token) (t u : Text) (n : Next) → want_of k n ≡ some (tt, u) → ahead_of k t n ≡ some (true, u)
unfolding want_of ahead_of only_if
ahead_there k t u (token j v) e =
    elim (bool? (is_token k j)) [
      | inl b ↦ ap some (if-true _ _ _ b
          ∙ ap (λ (z : Text). (true, z)) (ap (λ (y : Unit {0} × Text). y.1) (some-injective _ _ (sym (only_yes b) ∙ e))))
      | inr b ↦ no_some (sym (only_not b) ∙ e)
    ]
  where
    only_yes : is_token k j ≡ true → only_if {A = Unit {0} × Text} (is_token k j) (tt, v) ≡ some (tt, v)
    only_yes b = ap (λ (z : Bool). only_if {A = Unit {0} × Text} z (tt, v)) b

    only_not : is_token k j ≡ false → only_if {A = Unit {0} × Text} (is_token k j) (tt, v) ≡ none
    only_not b = ap (λ (z : Bool). only_if {A = Unit {0} × Text} z (tt, v)) b
ahead_there k t u end e = no_some e
ahead_there k t u bad e = no_some e

ahead_away : (k : tokens.Token) (t : Text) (n : Next) → want_of k n ≡ none → ahead_of k t n ≡ some (false, t)
unfolding want_of ahead_of only_if
ahead_away k t (token j v) e =
    ap some (if-false _ _ _ (fails _ (λ b. no_some (sym e ∙ only_yes b))))
  where
    only_yes : is_token k j ≡ true → only_if {A = Unit {0} × Text} (is_token k j) (tt, v) ≡ some (tt, v)
    only_yes b = ap (λ (z : Bool). only_if {A = Unit {0} × Text} z (tt, v)) b
ahead_away k t end e = refl
ahead_away k t bad e = refl

pub ahead_yes : (k : tokens.Token) (t : Text) (at e : ℕ) → Got (want k) Any t at e → ahead k (drop at t) ≡ some (true, drop e t)
unfolding want ahead
ahead_yes k t at e g = ahead_there k (drop at t) (drop e t) _ g.is

pub ahead_no : (k : tokens.Token) (t : Text) (at : ℕ) → want k (drop at t) ≡ none → ahead k (drop at t) ≡ some (false, drop at t)
unfolding want ahead
ahead_no k t at e = ahead_away k (drop at t) _ e

-- ---- nothing is there

pub ruleset no_name = (name_open, name_none, name_other)

pub ruleset no_key = (key_open, key_none, key_other, key_too_long)

pub ruleset no_imp = (imp_bad, imp_none)

pub ruleset no_mark = (mark_bad, mark_none, mark_other)
