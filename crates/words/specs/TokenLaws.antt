-- The token at a position: a law for each way out of the code.
use Rattle.std.specs.Prelude.{Bool, None, Option as Found, Some, false, true, [], ◌∷◌, ◌≢◌, ◌≡◌, refl, ◌+◌, ◌-◌, ◌<◌, ◌≤◌, suc, ℕ, drop, length, take}
use Rattle.std.proofs.Math.Option.{none}
use Rattle.std.proofs.Common.{◌∙◌, subst, drop_of_length-le, length-drop, drop-cons, length-take-le}
use Rattle.std.proofs.Math.Path.{ap, ap₂, sym}
use Rattle.std.proofs.Math.Numerals.{add-one}
use native.Mathlib.Omega.{arith}
use Rattle.std.proofs.Math.ListN.{get_or}
use Rattle.model.specs.Lists.{non_empty}
use Rattle.sets.specs.TestLaws.{=?-in, =?-not, and-false, and_in, and_l, and_r, clash, fails, if-false, if-true, ≤?_in, ≤?_out}
use Rattle.sets.specs.Tests.{◌&◌, ◌=?◌, if?◌then◌else◌}
use Rattle.text.specs.Bytes.{Text, alnum, impl_byte, is_mark, name_byte, short}
use Rattle.text.specs.Tokens.{Next, bad, closing, next_token, quoted, skip, skipped, token, token_at, word}
use Rattle.words.specs.declared.Token.{Token}
use Rattle.words.specs.declared.Token.TheVariants.{Word, Quoted, Mark, End}
use Rattle.words.specs.Reading.{Reads, ReadsWithin, RunsTo, Skips, SkipsWithin, in_run, next_of, part, quoted_from, rest_from}
use Rattle.words.specs.RunLaws.{run_part}

pub short_in : (w : Text) → 0 < length w → length w ≤ 32 → short w ≡ true
unfolding short non_empty
short_in [] p q = absurd (omega arith)
short_in (c ∷ cs) p q = and_in _ _ refl (≤?_in _ _ q)

short_out : (w : Text) → short w ≡ true → (0 < length w) × (length w ≤ 32)
unfolding short non_empty
short_out [] e = clash (and_l _ _ e) refl
short_out (c ∷ cs) e = (omega arith, ≤?_out _ _ (and_r _ _ e))

pub part_length : (t : Text) (a e : ℕ) → e ≤ length t → length (part t a e) ≡ e - a
part_length t a e h = length-take-le (e - a) (drop a t) (let l = length-drop a t in omega arith)

-- ---- an implementation

module _ (t : Text) (at e : ℕ) (w : RunsTo (in_run true) t at e) where
  from-run : quoted_from (drop at t) ≡ closing (part t at e) (drop e t)
  unfolding quoted_from in_run
  from-run = ap₂ closing (run_part impl_byte t at e w) (sym w.is)

  pub quoted_cut : length t ≤ e → Reads t at (quoted_from (drop at t)) None
  unfolding next_of closing
  quoted_cut h = record { is = sym (from-run ∙ rw (drop_of_length-le t h)); within = tt }

  module _ (h : e < length t) where
    from_byte : quoted_from (drop at t)
        ≡ (if? get_or t e 0 =? 34 & short (part t at e) then token (quoted (part t at e)) (drop (e + 1) t) else bad)
    unfolding closing
    from_byte = from-run ∙ rw (drop-cons t e 0 h, add-one e)

    long : length (part t at e) ≡ e - at
    long = part_length t at e w.inside

    no : (get_or t e 0 =? 34 & short (part t at e)) ≡ false → Reads t at (quoted_from (drop at t)) None
    unfolding next_of
    no b = record { is = sym (from_byte ∙ if-false _ _ _ b); within = tt }

    pub quoted_open : get_or t e 0 ≢ 34 → Reads t at (quoted_from (drop at t)) None
    quoted_open n = no (and-false _ _ (=?-not _ _ n))

    pub quoted_none : e ≤ at → Reads t at (quoted_from (drop at t)) None
    quoted_none l = no (fails _ (λ b. let q = short_out _ (and_r _ _ b) in absurd (omega (arith, long))))

    pub quoted_long : 32 < e - at → Reads t at (quoted_from (drop at t)) None
    quoted_long l = no (fails _ (λ b. let q = short_out _ (and_r _ _ b) in absurd (omega (arith, long))))

    pub quoted_yes : get_or t e 0 ≡ 34 → at < e → e - at ≤ 32 → Reads t at (quoted_from (drop at t)) (Some (Quoted at e))
    unfolding next_of
    quoted_yes q l m = record {
      is = sym (from_byte ∙ if-true _ _ _ (and_in _ _ (=?-in _ _ q) (short_in _ (omega (arith, long)) (omega (arith, long)))));
      within = (omega arith, l, h);
    }

-- ---- a token

reads_from : (t : Text) (at i : ℕ) (n : Next) (r : Found Token) → at ≤ i → Reads t i n r → Reads t at n r
reads_from t at i n r l s = record { is = s.is; within = from r s.within }
  where
    from : (r : Found Token) → ReadsWithin t i r → ReadsWithin t at r
    from (Some (Word a e)) w = (omega (arith, w.0), w.1, w.2)
    from (Some (Quoted a e)) w = (omega (arith, w.0), w.1, w.2)
    from (Some (Mark c e)) w = (omega (arith, w.0), w.1)
    from (Some End) w = tt
    from None w = tt

module _ (t : Text) (at : ℕ) (h : at < length t) where
  starts : drop at t ≡ get_or t at 0 ∷ drop (at + 1) t
  starts = rw (drop-cons t at 0 h, add-one at)

  word_part : (e : ℕ) → at < e → part t at e ≡ get_or t at 0 ∷ part t (at + 1) e
  word_part e l =
      let z : e - at ≡ suc (e - (at + 1)) = omega arith in
      ap (λ (n : ℕ). take n (drop at t)) z ∙ ap (take (suc (e - (at + 1)))) starts

  module _ (p : Bool) (a : p ≡ alnum (get_or t at 0)) where
    pub token_word : p ≡ true → (e : ℕ) → RunsTo (in_run false) t (at + 1) e → Reads t at (token_at (drop at t)) (Some (Word at e))
    unfolding token_at next_of in_run
    token_word y e w =
        let l : at < e = (let f = w.from in omega arith) in
        record {
          is = sym (ap token_at starts ∙ if-true _ _ _ (sym a ∙ y)
              ∙ ap₂ (λ (x u : Text). token (word x) u)
              (ap (λ (x : Text). get_or t at 0 ∷ x) (run_part name_byte t (at + 1) e w) ∙ sym (word_part e l)) (sym w.is));
          within = (omega arith, l, w.inside);
        }

    module _ (n : p ≡ false) (q : Bool) (b : q ≡ is_mark (get_or t at 0)) where
      pub token_mark : q ≡ true → Reads t at (token_at (drop at t)) (Some (Mark (get_or t at 0) (at + 1)))
      unfolding token_at next_of
      token_mark y = record {
        is = sym (ap token_at starts ∙ if-false _ _ _ (sym a ∙ n) ∙ if-true _ _ _ (sym b ∙ y));
        within = (omega arith, omega arith);
      }

      module _ (m : q ≡ false) where
        other : token_at (drop at t) ≡ (if? get_or t at 0 =? 34 then quoted_from (drop (at + 1) t) else bad)
        unfolding token_at quoted_from
        other = ap token_at starts ∙ if-false _ _ _ (sym a ∙ n) ∙ if-false _ _ _ (sym b ∙ m)

        pub token_quoted : get_or t at 0 ≡ 34 → (r : Found Token) → Reads t (at + 1) (quoted_from (drop (at + 1) t)) r
            → Reads t at (token_at (drop at t)) r
        token_quoted y r s = reads_from t at (at + 1) _ r (omega arith) (record {
          is = s.is ∙ sym (other ∙ if-true _ _ _ (=?-in _ _ y));
          within = s.within;
        })

        pub token_bad : get_or t at 0 ≢ 34 → Reads t at (token_at (drop at t)) None
        unfolding next_of
        token_bad y = record {
          is = sym (other ∙ if-false _ _ _ (=?-not _ _ y));
          within = tt;
        }

-- ---- the next token

pub next_open : (t : Text) (at : ℕ) (s : Found ℕ) → Skips t at s → s ≡ None → Reads t at (next_token (drop at t)) None
unfolding next_token skipped rest_from next_of
next_open t at s w e =
    let z : skip false (drop at t) ≡ none = sym w.is ∙ ap (rest_from t) e in record { is = rw z; within = tt }

module _ (t : Text) (at : ℕ) (s : Found ℕ) (i : ℕ) (w : Skips t at s) (e : s ≡ Some i) where
  pub skipped_to : next_token (drop at t) ≡ token_at (drop i t)
  unfolding next_token skipped rest_from
  skipped_to = ap skipped (sym w.is ∙ ap (rest_from t) e)

  pub next_end : length t ≤ i → Reads t at (next_token (drop at t)) (Some End)
  unfolding token_at next_of
  next_end h = record { is = sym (skipped_to ∙ ap token_at (drop_of_length-le t h)); within = tt }

  pub next_at : (r : Found Token) → Reads t i (token_at (drop i t)) r → Reads t at (next_token (drop at t)) r
  next_at r k =
      reads_from t at i _ r (subst (SkipsWithin t at) e w.within).0
      (record { is = k.is ∙ sym skipped_to; within = k.within })

-- ---- where a token that was read lies

module _ (t : Text) (at : ℕ) (n : Next) (r : Found Token) (s : Reads t at n r) (k : Token) (h : r ≡ Some k) where
  pub within : (j : Token) → k ≡ j → ReadsWithin t at (Some j)
  within j q = subst (ReadsWithin t at) (h ∙ ap (λ x. Some x) q) s.within

  pub word_within : (a e : ℕ) → k ≡ Word a e → (at ≤ a) × (a < e) × (e ≤ length t)
  word_within a e q = within (Word a e) q

  pub quoted_within : (a e : ℕ) → k ≡ Quoted a e → (at ≤ a) × (a < e) × (e < length t)
  quoted_within a e q = within (Quoted a e) q

  pub mark_within : (c e : ℕ) → k ≡ Mark c e → (at < e) × (e ≤ length t)
  mark_within c e q = within (Mark c e) q
