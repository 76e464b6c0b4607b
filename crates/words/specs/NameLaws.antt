-- A word is a name, or an implementation: a law for each way out of the code.
use Rattle.std.specs.Prelude.{Bool, not, [], ◌∷◌, ◌≡◌, ◌≢◌, refl, ◌<◌, ◌≤◌, suc, ℕ, eqb, leb, drop, get_or, length}
use Rattle.std.proofs.Math.Bool.{false, true}
use Rattle.std.proofs.Common.{inl, inr, ◌∙◌, arith, drop_of_length-le, length-drop}
use Rattle.std.proofs.Math.Option.{Option, none, some}
use Rattle.std.proofs.Math.Path.{ap, sym}
use Rattle.std.proofs.lemmas.Bool.{not-true}
use Rattle.model.specs.Lists.{every, non_empty}
use Rattle.model.specs.Maps.{is_some}
use Rattle.sets.specs.TestLaws.{=?-in, =?-not, =?-out, and-false, and-true, and_in, and_l, and_r, bool?, clash, fails, if-true, iff→≡}
use Rattle.sets.specs.TestLaws.{not_in, not_out, ≤?_in, ≤?_out}
use Rattle.sets.specs.Sets.{bit}
use Rattle.sets.specs.Tests.{◌&◌, ◌=?◌, ◌≤?◌, if?◌then◌else◌}
use Rattle.text.specs.Bytes.{Text, alnum, among, bytes, impl_byte, keywords, name_byte, name_word, short, valid_implementation}
use Rattle.text.specs.Bytes.{valid_name}
use Rattle.text.specs.Tables.{place}
use Rattle.text.specs.Tokens.{past}
use Rattle.text_laws.specs.Places.{place-among, place_there}
use Rattle.text_laws.specs.TextLaws.{every-among}
use Rattle.std.specs.Prelude.{Option as Found}
use Rattle.std.specs.Prelude.{None, Some}
use Rattle.sets.specs.Answered.{answered}
use Rattle.std.specs.Option.{is_some as found}
use Rattle.words.specs.TokenLaws.{short_in}
use Rattle.words.specs.Reading.{RunsTo, in_run, keyword_hashes, hash_of}

-- ---- keywords

-- each keyword has one of the hashes
keywords_hashed : every (λ w. bit keyword_hashes (hash_of w)) keywords ≡ true
unfolding every bit hash_of keywords bytes ◌&◌ ◌=?◌
keywords_hashed = refl

pub hash_none : (w : Text) (r : Bool) → r ≡ bit keyword_hashes (hash_of w) → not r ≡ true → answered None ≡ place keywords w
unfolding answered
hash_none w r e n = by (place keywords w) refl
  where
    by : (o : Option ℕ) → place keywords w ≡ o → none ≡ place keywords w
    by none q = sym q
    by (some j) q =
        clash (every-among (λ x. bit keyword_hashes (hash_of x)) keywords w keywords_hashed (place-among keywords w j q)) (sym e ∙ not-true r n)

-- ---- a word that was read

pub word_long : (w : Text) → 32 < length w → leb (length w) 32 ≡ name_word w
unfolding name_word ◌≤?◌
word_long w h =
    let q : (length w ≤? 32) ≡ false = fails _ (λ t. absurd (let l = ≤?_out _ _ t in omega arith)) in
    q ∙ sym (and-false _ _ q)

module _ (w : Text) (k : Found ℕ) (f : answered k ≡ place keywords w) where
  word_name : length w ≤ 32 → k ≡ None → true ≡ name_word w
  unfolding name_word answered is_some
  word_name h e =
      let no : among w keywords ≡ false = fails _ (λ t. clash (place_there keywords w t) (ap is_some (sym f ∙ ap answered e))) in
      sym (and_in _ _ (≤?_in _ _ h) (not_in _ no))

  word_keyword : (j : ℕ) → k ≡ Some j → false ≡ name_word w
  unfolding name_word answered
  word_keyword j e =
      let yes : among w keywords ≡ true = place-among keywords w j (sym f ∙ ap answered e) in
      sym (fails _ (λ t. clash yes (not_out _ (and_r _ _ t))))

pub word_unless : (w : Text) (k : Found ℕ) → answered k ≡ place keywords w → length w ≤ 32 → (r : Bool) → found k ≡ not r
    → r ≡ name_word w
word_unless w None f h true e = word_name w None f h refl
word_unless w None f h false e = clash e refl
word_unless w (Some j) f h true e = clash refl e
word_unless w (Some j) f h false e = word_keyword w (Some j) f j refl

-- ---- all of a text is one run

every_past : (f : ℕ → Bool) (u : Text) → every f u ≡ true → past f u ≡ []
unfolding every past
every_past f [] e = refl
every_past f (c ∷ cs) e = if-true _ _ _ (and_l _ _ e) ∙ every_past f cs (and_r _ _ e)

past_every : (f : ℕ → Bool) (u : Text) → past f u ≡ [] → every f u ≡ true
unfolding every past if?◌then◌else◌
past_every f [] e = refl
past_every f (c ∷ cs) e =
    elim (bool? (f c)) [
      | inl t ↦ and_in _ _ t (past_every f cs (rw t at e))
      | inr n ↦ (let z : suc (length cs) ≡ 0 = ap length (rw n at e) in absurd (omega arith))
    ]

-- the run reaches the end just where every byte passes
run-every : (f : ℕ → Bool) (t : Text) (at e : ℕ) → RunsTo f t at e → (e =? length t) ≡ every f (drop at t)
run-every f t at e w = iff→≡ _ _
    (λ q. past_every f (drop at t) (sym w.is ∙ drop_of_length-le t {i = e} (let z = =?-out e (length t) q in omega arith)))
    (λ q. =?-in e (length t)
    (let z = ap length (w.is ∙ every_past f (drop at t) q) in let l = length-drop e t in let h = w.inside in omega arith))

pub name_empty : (w : Text) → length w ≡ 0 → false ≡ valid_name w
unfolding valid_name
name_empty [] h = refl
name_empty (c ∷ cs) h = absurd (omega arith)

pub name_none : (w : Text) (p : Bool) → p ≡ alnum (get_or w 0 0) → p ≡ false → false ≡ valid_name w
unfolding valid_name
name_none [] p a n = refl
name_none (c ∷ cs) p a n = sym (and-false _ _ (sym a ∙ n))

-- a word that begins with a letter or a digit
rest_is : (w : Text) (p : Bool) → p ≡ alnum (get_or w 0 0) → p ≡ true → (length w ≡ 0 → ⊥) → (e : ℕ) → RunsTo (in_run false) w 1 e
    → ((e =? length w) & name_word w) ≡ valid_name w
unfolding valid_name in_run
rest_is [] p a y h e s = absurd (h refl)
rest_is (c ∷ cs) p a y h e s =
    sym (and-true _ _ (sym a ∙ y)) ∙ ap (λ (b : Bool). alnum c & (b & name_word (c ∷ cs))) (run-every name_byte (c ∷ cs) 1 e s)

module _ (w : Text) (p : Bool) (a : p ≡ alnum (get_or w 0 0)) (y : p ≡ true) (h : length w ≡ 0 → ⊥) (e : ℕ)
    (s : RunsTo (in_run false) w 1 e) where
  pub name_is : (n : Bool) → n ≡ name_word w → e ≡ length w → n ≡ valid_name w
  name_is n q z = q ∙ sym (and-true _ _ (=?-in e _ z)) ∙ rest_is w p a y h e s

  pub name_cut : e ≢ length w → eqb e (length w) ≡ valid_name w
  unfolding ◌=?◌
  name_cut d = let q = =?-not e _ d in q ∙ sym (and-false _ _ q) ∙ rest_is w p a y h e s

pub implementation_empty : (w : Text) → length w ≡ 0 → false ≡ valid_implementation w
unfolding valid_implementation short non_empty ◌&◌
implementation_empty [] e = refl
implementation_empty (c ∷ cs) e = absurd (omega arith)

pub implementation_long : (w : Text) → 32 < length w → false ≡ valid_implementation w
unfolding valid_implementation short
implementation_long w h = sym (and-false _ _ (fails _ (λ t. absurd (let l = ≤?_out _ _ (and_r _ _ t) in omega arith))))

pub implementation_is : (w : Text) (e : ℕ) → (length w ≡ 0 → ⊥) → length w ≤ 32 → RunsTo (in_run true) w 0 e
    → eqb e (length w) ≡ valid_implementation w
unfolding valid_implementation in_run ◌=?◌
implementation_is w e n h s = run-every impl_byte w 0 e s ∙ sym (and-true _ _ (short_in w (omega arith) h))
