-- What a first word begins is what the grammar says: a law for each way out of the code that reads it.
use Rattle.std.specs.Prelude.{false, true, List, [], ◌∷◌, ◌≡◌, refl, ◌+◌, ◌<◌, ◌≤◌, suc, zero, ℕ, drop, get_or, map, ◌⊎◌}
use Rattle.std.proofs.Math.Option.{Option, none, some}
use Rattle.std.proofs.Common.{inl, inr, ◌∙◌, arith}
use Rattle.std.proofs.Math.Path.{ap, sym}
use Rattle.std.proofs.Math.Nat.{le_refl}
use Rattle.std.proofs.Math.ListN.{length}
use Rattle.model.specs.Lists.{every}
use Rattle.model.specs.Maps as there
use Rattle.model.specs.Maps.{is_some}
use Rattle.sets.specs.Answered.{answered}
use Rattle.std.specs.Prelude.{Option as Found}
use Rattle.std.specs.Prelude.{None, Some}
use Rattle.read_tokens.specs.BothLaws.{none_some}
use Rattle.sets.specs.TestLaws.{and_l, and_r, clash, fails, if-false}
use Rattle.sets.specs.Tests.{◌&◌, ◌=?◌, ◌or◌, if?◌then◌else◌}
use Rattle.text.specs.Bytes.{Text, among, bytes, keywords, same}
use Rattle.text.specs.Language.{Read, Reader, Said, by_word, command, command_of, grammar, over, read_as, wrong}
use Rattle.text.specs.Tables.{name_at, place}
use Rattle.text.specs.Tokens.{Next, bad, end, mark, quoted, token, word}
use Rattle.text_laws.specs.Places.{place_name, place_there}
use Rattle.text_laws.specs.TextLaws.{same_out}
use Rattle.words.specs.KeywordLaws.{keyword_length, keywords_counted}
use Rattle.words.specs.Keywords.{keyword_count}
use Rattle.words.specs.Reading.{Skips, next_of, word_at}
use Rattle.words.specs.TokenLaws.{next_end, next_open, short_in}
use Rattle.words.specs.WordLaws.{neither, word_ends, word_neither, word_next}
use Rattle.read_command.specs.Forms.{Begins, asked_of, asked_of_book, asked_of_version, begun, begun_if}
use Rattle.read_command.specs.Forms.{command_reader, form_of, in_order, named_reader}
use Rattle.read_command.specs.Forms.{query_reader, removed, version_removed, word_form}
use Rattle.read_tokens.specs.declared.Keyword.{Keyword}
use Rattle.read_command.specs.declared.Form.{Form}
use Rattle.read_command.specs.declared.Form.TheVariants.{Over}

-- ---- the grammar and the forms

-- the command whose first word is w, read from the text behind it
unfoldable worded : Text → Text → Read
worded w t = if? same w (bytes "quit") then over else by_word grammar w t

-- each word of the one list begins the form at its place in the other, or none
data Begin : List Text → List (Found Form) → Type 0 where
  none_left : Begin [] []
  and : {w : Text} {f : Found Form} {ws : List Text} {fs : List (Found Form)} → ((t : Text) → worded w t ≡ begun_if f t) → Begin ws fs
      → Begin (w ∷ ws) (f ∷ fs)

begin_at : (ws : List Text) (fs : List (Found Form)) → Begin ws fs → (k : ℕ) → k < length ws → (t : Text)
    → worded (name_at ws k) t ≡ begun_if (get_or fs k None) t
unfolding name_at
begin_at [] [] none_left k l t = absurd (omega arith)
begin_at [] (f ∷ fs) x k l t = elim x [ ]
begin_at (w ∷ ws) [] x k l t = elim x [ ]
begin_at (w ∷ ws) (f ∷ fs) (and b r) zero l t = b t
begin_at (w ∷ ws) (f ∷ fs) (and b r) (suc k) l t = begin_at ws fs r k (omega arith) t

each_begins : Begin keywords (map form_of in_order)
unfolding keywords in_order form_of bytes grammar worded by_word same begun begun_if command_reader named_reader query_reader removed
    version_removed asked_of asked_of_version asked_of_book read_as if?◌then◌else◌ ◌&◌ ◌=?◌
each_begins =
    and (λ t. refl) (and (λ t. refl) (and (λ t. refl) (and (λ t. refl) (and (λ t. refl) (and (λ t. refl) (and (λ t. refl)
    (and (λ t. refl) (and (λ t. refl) (and (λ t. refl) (and (λ t. refl) (and (λ t. refl) (and (λ t. refl) (and (λ t. refl)
    (and (λ t. refl) (and (λ t. refl) (and (λ t. refl) (and (λ t. refl) (and (λ t. refl) (and (λ t. refl) (and (λ t. refl)
    (and (λ t. refl) (and (λ t. refl) (and (λ t. refl) (and (λ t. refl) (and (λ t. refl) (and (λ t. refl) (and (λ t. refl)
    none_left)))))))))))))))))))))))))))

-- ---- a word that is no keyword

first_words_known : every (λ x. among x.0 keywords) grammar ≡ true
unfolding every grammar among keywords bytes same ◌&◌ ◌or◌ ◌=?◌
first_words_known = refl

quit_known : among (bytes "quit") keywords ≡ true
unfolding among keywords bytes same ◌&◌ ◌or◌ ◌=?◌
quit_known = refl

-- a word that is among the keywords is not w
other_word : (w x : Text) → among w keywords ≡ false → among x keywords ≡ true → same w x ≡ false
other_word w x n h = fails _ (λ e. clash (ap (λ (z : Text). among z keywords) (same_out _ _ e) ∙ h) n)

none-known : (g : List (Text × Reader Said)) (w u : Text) → every (λ x. among x.0 keywords) g ≡ true → among w keywords ≡ false
    → by_word g w u ≡ wrong
unfolding by_word every
none-known [] w u h n = refl
none-known (x ∷ xs) w u h n = if-false _ _ _ (other_word w x.0 n (and_l _ _ h)) ∙ none-known xs w u (and_r _ _ h) n

no_keyword : (w : Text) → place keywords w ≡ none → among w keywords ≡ false
no_keyword w e = fails _ (λ a. clash (sym (ap is_some e) ∙ place_there keywords w a) (unfold is_some in refl))

-- the whole: a word begins the form at its place among the keywords
word_begins : (w t : Text) → worded w t ≡ begun_if (word_form (place keywords w)) t
unfolding word_form
word_begins w t = by (place keywords w) refl
  where
    by : (o : Option ℕ) → place keywords w ≡ o → worded w t ≡ begun_if (word_form o) t
    by none e = (let n = no_keyword w e in
        (unfold worded begun_if in if-false _ _ _ (other_word w (bytes "quit") n quit_known) ∙ none-known grammar w t first_words_known n))
    by (some k) e = (let s = place_name keywords w k e in
        ap (λ (x : Text). worded x t) (sym s.0) ∙ begin_at keywords (map form_of in_order) each_begins k s.1 t)

-- ---- the ways out of word_form

form_at : (ks : List Keyword) (j : ℕ) (d : Keyword) → j < length ks → form_of (get_or ks j d) ≡ get_or (map form_of ks) j None
form_at [] j d h = absurd (omega arith)
form_at (k ∷ ks) zero d h = refl
form_at (k ∷ ks) (suc j) d h = form_at ks j d (omega arith)

pub form_empty : (w : Text) → length w ≡ 0 → None ≡ word_form (place keywords w)
unfolding word_form keywords place bytes same ◌&◌ ◌=?◌ there.option_map if?◌then◌else◌
form_empty [] e = refl
form_empty (b ∷ bs) e = absurd (omega arith)

pub form_long : (w : Text) → 32 < length w → None ≡ word_form (place keywords w)
unfolding word_form
form_long w l = by (place keywords w) refl
  where
    by : (o : Option ℕ) → place keywords w ≡ o → None ≡ word_form o
    by none q = refl
    by (some j) q =
        let s = place_name keywords w j q in let m = keywords_counted in let o = ap length s.0 in
        let i = keyword_length j (omega arith) in absurd (omega arith)

module _ (w : Text) (f : Found ℕ) (q : answered f ≡ place keywords w) where
  pub form_none : f ≡ None → word_form (place keywords w) ≡ None
  unfolding word_form answered
  form_none h = ap word_form (sym q ∙ ap answered h)

  module _ (j : ℕ) (h : f ≡ Some j) where
    pub keyword_below : j < keyword_count
    unfolding answered
    keyword_below = let s = place_name keywords w j (sym q ∙ ap answered h) in let m = keywords_counted in omega arith

    pub form_found : (d : Keyword) (r : Found Form) → r ≡ form_of (get_or in_order j d) → r ≡ word_form (place keywords w)
    unfolding word_form answered
    form_found d r e = e ∙ form_at in_order j d (unfold in_order in keyword_below) ∙ sym (ap word_form (sym q ∙ ap answered h))

-- ---- the ways out of read_command

-- a word has no byte, or some
none_or_some : (w : Text) → (length w ≡ 0) ⊎ (length w ≡ 0 → ⊥)
none_or_some [] = inl refl
none_or_some (b ∷ bs) = inr (λ e. absurd (omega arith))

-- what is neither a word nor the end of the text
not_of_the_language_lem : (n : Next) → neither n ≡ true → command_of n ≡ wrong
unfolding neither command_of
not_of_the_language_lem (token (word w) u) e = clash e refl
not_of_the_language_lem (token (quoted w) u) e = refl
not_of_the_language_lem (token (mark c) u) e = refl
not_of_the_language_lem end e = clash e refl
not_of_the_language_lem bad e = refl

module _ (t : Text) (at : ℕ) (s : Found ℕ) (g : Skips t at s) where
  pub begins_open : s ≡ None → command (drop at t) ≡ wrong
  unfolding command command_of next_of
  begins_open e = ap command_of (sym (next_open t at s g e).is)

  pub begins_end : (a : ℕ) → s ≡ Some a → length t ≤ a → at ≤ length t → Begins t at Over at
  unfolding command command_of next_of begun
  begins_end a e h l = record { is = ap command_of (sym (next_end t at s a g e h).is); from = le_refl _; inside = l }

  module _ (a : ℕ) (e : s ≡ Some a) (w : Text) (p : w ≡ word_at (drop a t)) where
    pub begins_none : a < length t → length w ≡ 0 → command (drop at t) ≡ wrong
    unfolding command
    begins_none h z = not_of_the_language_lem _ (word_neither t at s g a e w p z h)

    begins_if : (length w ≡ 0 → ⊥) → command (drop at t) ≡ begun_if (word_form (place keywords w)) (drop (a + length w) t)
    unfolding command command_of worded
    begins_if n = ap command_of (word_next t at s g a e w p n) ∙ word_begins w (drop (a + length w) t)

    module _ (o : Found Form) (d : o ≡ word_form (place keywords w)) where
      pub begins_wrong : a < length t → o ≡ None → command (drop at t) ≡ wrong
      unfolding begun_if
      begins_wrong h q =
          elim (none_or_some w) [
            | inl z ↦ begins_none h z
            | inr n ↦ begins_if n ∙ ap (λ x. begun_if x (drop (a + length w) t)) (sym d ∙ q)
          ]

      pub begins_word : (f : Form) → o ≡ Some f → Begins t at f (a + length w)
      unfolding begun_if
      begins_word f q =
          let i = word_ends t at s g a e w p in
          let n : length w ≡ 0 → ⊥ = λ z. none_some (form_empty w z ∙ sym d ∙ q) in
          record {
            is = begins_if n ∙ ap (λ x. begun_if x (drop (a + length w) t)) (sym d ∙ q);
            from = omega arith;
            inside = i.1;
          }

-- the ways out of word_form and of read_command
pub ruleset no_form = (form_empty, form_long, form_none, keyword_below, short_in)

pub ruleset begins = (begins_open, begins_end, begins_wrong, begins_word, word_ends)
