-- "choice": a law for each way out of the code.
use Rattle.std.specs.Prelude.{Bool, IfSome, false, List, None, Option, Some, [], ◌∷◌, ◌<◌, ◌≡◌, is_some, map, option_map, refl, true, ℕ}
use Rattle.std.proofs.Common.{◌∙◌, ap, arith, subst, sym}
use Rattle.model.specs.Book.{facilities}
use Rattle.model.specs.Lists.{every}
use Rattle.model.specs.Maps as there
use Rattle.model.specs.Maps.{and_then}
use Rattle.names.specs.EnterLaws.{table-length}
use Rattle.names.specs.Stored.{Rows, table_of}
use Rattle.sets.specs.Answered.{answered}
use Rattle.sets.specs.Sets.{Set, bit, with}
use Rattle.sets.specs.TestLaws.{and_swap, and-true}
use Rattle.sets.specs.Tests.{◌&◌}
use Rattle.text.specs.Language.{CHOICE, Name, ◌>>=◌, choice, give, name, names_up_to}
use Rattle.text.specs.Tables.{Table, number, numbers, place}
use Rattle.text.specs.Tokens.{Token}
use Rattle.text_laws.specs.Places.{number_at, place_name}
use Rattle.read_tokens.specs.Ahead.{IsWord}
use Rattle.read_tokens.specs.BothLaws.{both_out, both_there, map_there, some_same}
use Rattle.read_tokens.specs.Entering.{both}
use Rattle.read_tokens.specs.FacilityLaws.{with_none}
use Rattle.read_tokens.specs.Growth.{fold_on}
use Rattle.read_tokens.specs.ProductionLaws.{end_key, up_to_open, up_to_wrong}
use Rattle.read_tokens.specs.ReaderLaws.{gives_none}
use Rattle.read_tokens.specs.Readers.{key_at}
use Rattle.read_tokens.specs.SequenceLaws.{Lacks, Read}
use Rattle.read_tokens.specs.Steps.{Each}
use Rattle.read_tokens.specs.TakeLaws.{word_took}
use Rattle.read_tokens.specs.declared.reader.Reader.{Reader}
use Rattle.read_command.specs.Choices.{ChoiceAsked, KnownStep}

-- a facility's number is below the number of places
pub known_small : (rows : Rows) (w : Name) (o : Option ℕ) → answered o ≡ place (table_of facilities rows) w → IfSome o (λ k. k < 64)
unfolding answered
known_small rows w None q = tt
known_small rows w (Some k) q =
    let p = (place_name (table_of facilities rows) w k (sym q)).1 in let l = table-length facilities rows in omega arith

there_is : (o : Option ℕ) → is_some o ≡ there.is_some (answered o)
unfolding answered there.is_some
there_is None = refl
there_is (Some k) = refl

pub known_taken : (t : Table) (s s' : Option Set) (w : Name) (o : Option ℕ) (r z : Reader) → Read name (IsWord w) r z
    → answered o ≡ place t w → s' ≡ both with s o → Read name (KnownStep (t, s) (t, s')) r z
known_taken t s s' w o r z g q d =
    (word_took name r.text.now r.at z.at w g.0 _ (record { table = refl; number = o; is = q; set = d }), g.1)

-- ---- the list

abbrev State : Type 0
State = Table × Option Set

same_table : (s s' : State) (ws : List Name) → Each KnownStep s s' ws → s'.0 ≡ s.0
unfolding Each
same_table s s' [] e = ap (λ (z : State). z.0) (sym e)
same_table s s' (w ∷ ws) e = same_table e.0 s' ws e.2 ∙ e.1.table

known_every : (s s' : State) (ws : List Name) → Each KnownStep s s' ws
    → is_some s'.1 ≡ (is_some s.1 & every (λ f. there.is_some (place s.0 f)) ws)
unfolding Each every
known_every s s' [] e = ap (λ (z : State). is_some z.1) (sym e) ∙ sym (and_swap (is_some s.1) true ∙ and-true _ _ refl)
known_every s s' (w ∷ ws) e =
    known_every e.0 s' ws e.2
    ∙ ap (λ (t : Table). is_some e.0.1 & every (λ f. there.is_some (place t f)) ws) e.1.table
    ∙ ap (λ (b : Bool). b & every (λ f. there.is_some (place s.0 f)) ws)
    (ap is_some e.1.set ∙ both_there with s.1 e.1.number ∙ ap (λ (b : Bool). is_some s.1 & b) (there_is e.1.number ∙ ap there.is_some e.1.is))
    ∙ and_assoc (is_some s.1) (there.is_some (place s.0 w)) _
  where
    and_assoc : (a b c : Bool) → ((a & b) & c) ≡ (a & (b & c))
    and_assoc true b c = unfold ◌&◌ in refl
    and_assoc false b c = unfold ◌&◌ in refl

-- the set where each has a number
record KnownAre (s : State) (g : Set) (ws : List Name) : Type 0 where
  before : Set
  was : s.1 ≡ Some before
  is : g ≡ fold_on with before (map (number s.0) ws)

known_are : (s s' : State) (ws : List Name) (g : Set) → Each KnownStep s s' ws → s'.1 ≡ Some g → KnownAre s g ws
unfolding Each fold_on answered
known_are s s' [] g e y = record { before = g; was = ap (λ (z : State). z.1) e ∙ y; is = refl }
known_are s s' (w ∷ ws) g e y =
    let r = known_are e.0 s' ws g e.2 y in
    let b = both_out with s.1 e.1.number (sym e.1.set ∙ r.was) in
    let k = number_at s.0 w b.1 (sym e.1.is ∙ ap answered b.3) in
    record {
      before = b.0;
      was = b.2;
      is = r.is ∙ ap (λ (t : Table). fold_on with r.before (map (number t) ws)) e.1.table
          ∙ ap (λ (z : Set). fold_on with z (map (number s.0) ws)) (sym b.4 ∙ ap (with b.0) (sym k));
    }

-- ---- read up to "end"

choice_of : (t t' : Table) (r : Option ℕ) (fs : List Name) → Each KnownStep (t, Some (bit 0)) (t', option_map bit r) fs
    → ChoiceAsked t r (CHOICE fs)
unfolding numbers
choice_of t t' r fs e = record {
  fs = fs;
  said = refl;
  all_known = sym (map_there bit r) ∙ known_every (t, Some (bit 0)) (t', option_map bit r) fs e ∙ and-true _ _ refl;
  set_is = λ s y.
      let k = known_are (t, Some (bit 0)) (t', option_map bit r) fs (bit s) e (ap (option_map bit) y) in
      k.is ∙ ap (λ (z : Set). fold_on with z (map (number t) fs)) (sym (some_same k.was)) ∙ with_none (map (number t) fs);
}

pub choice_lacks : (r : Reader) → Lacks (names_up_to (key_at 3)) r → Lacks choice r
unfolding choice ◌>>=◌ and_then
choice_lacks r n = rw (subst (λ (k : Token). Lacks (names_up_to k) r) end_key n)

pub choice_read : (t t' : Table) (o : Option ℕ) (r z : Reader)
    → Read (names_up_to (key_at 3)) (Each KnownStep (t, Some (bit 0)) (t', option_map bit o)) r z → Read choice (ChoiceAsked t o) r z
unfolding choice ◌>>=◌ and_then give
choice_read t t' o r z a =
    let g = subst (λ (k : Token). Read (names_up_to k) (Each KnownStep (t, Some (bit 0)) (t', option_map bit o)) r z) end_key a in (
      record {
        value = CHOICE g.0.value;
        is = rw g.0.is;
        took = choice_of t t' o g.0.value g.0.took;
        from = g.0.from;
        inside = g.0.inside;
      },
      g.1,
    )

-- the ways out of read_choice
pub ruleset choices = (gives_none, choice_lacks, up_to_wrong, up_to_open)
