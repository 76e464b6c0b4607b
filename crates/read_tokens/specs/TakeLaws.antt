-- A name read and put into its table: a law for each way out of the code.
use Rattle.std.specs.Prelude.{Bool, IfSome, None, Option, Some, true, [], ◌∷◌, ◌≡◌, refl, ◌<◌, ℕ, drop, option_map}
use Rattle.std.proofs.Common.{◌∙◌, subst, arith}
use Rattle.std.proofs.Math.Path.{ap, sym}
use Rattle.model.specs.Book.{facilities}
use Rattle.names.specs.Stored.{Rows, table_of}
use Rattle.sets.specs.Sets.{bit, with}
use Rattle.sets.specs.TestLaws.{and_l, and_r, clash, ≤?_out}
use Rattle.text.specs.Bytes.{Text, name_word, short, valid_implementation, valid_name}
use Rattle.text.specs.Language.{Name, Reader, imp, name}
use Rattle.text.specs.Tables.{Table}
use Rattle.text_laws.specs.ValidNames.{Gives, GivesO, impl_gives, name_gives}
use Rattle.words.specs.TokenLaws.{short_in}
use Rattle.read_tokens.specs.Ahead.{IsWord}
use Rattle.read_tokens.specs.Entering.{Enters, both}
use Rattle.read_tokens.specs.GrowthLaws.{enters_below}
use Rattle.read_tokens.specs.Readers.{Got}
use Rattle.read_tokens.specs.Steps.{FacilityStep, facility_state}

-- ---- the ways out of take_name and take_imp

module _ (p : Reader Name) (t : Text) (at z : ℕ) (w : Name) (g : Got p (IsWord w) t at z) where
  -- what is said of the word is said of what was read
  pub word_took : (R : Name → Type 0) → R w → Got p R t at z
  word_took R x = record { value = g.value; is = g.is; took = subst R (sym g.took.is) x; from = g.from; inside = g.inside }

  gives : (Q : Name → Bool) → Gives p Q → Q w ≡ true
  gives Q h = ap Q (sym g.took.is) ∙ subst (GivesO Q) g.is (h.at (drop at t))

name_length : (w : Name) → valid_name w ≡ true → short w ≡ true
unfolding valid_name name_word
name_length [] e = clash e refl
name_length (c ∷ cs) e =
    short_in (c ∷ cs) (omega arith) (≤?_out _ _ (and_l _ _ (and_r _ _ (and_r _ _ e))))

impl_length : (w : Name) → valid_implementation w ≡ true → short w ≡ true
unfolding valid_implementation
impl_length w q = and_l _ _ q

pub name_short : (t : Text) (at z : ℕ) (w : Name) → Got name (IsWord w) t at z → short w ≡ true
name_short t at z w g = name_length w (gives name t at z w g valid_name name_gives)

pub imp_short : (t : Text) (at z : ℕ) (w : Name) → Got imp (IsWord w) t at z → short w ≡ true
imp_short t at z w g = impl_length w (gives imp t at z w g valid_implementation impl_gives)

-- ---- a facility more

small : (n : ℕ) (t t' : Table) (o : Option ℕ) (w : Name) → Enters n t t' o w → IfSome o (λ k. k < n)
small n t t' None w e = tt
small n t t' (Some k) w e = enters_below n t t' (Some k) w e k refl

pub taken_small : (n : ℕ) (p : Reader Name) (t : Text) (at z : ℕ) (u u' : Table) (o : Option ℕ) → Got p (Enters n u u' o) t at z
    → IfSome o (λ k. k < n)
taken_small n p t at z u u' o g = small n u u' o g.value g.took

pub facility_taken : (t : Text) (at z : ℕ) (u u' : Rows) (b r o : Option ℕ)
    → Got name (Enters facilities (table_of facilities u) (table_of facilities u') o) t at z → option_map bit r ≡ both with (option_map bit b) o
    → Got name (FacilityStep (facility_state u b) (facility_state u' r)) t at z
unfolding facility_state
facility_taken t at z u u' b r o g q =
    record { value = g.value; is = g.is; took = record { place = o; enters = g.took; set = q }; from = g.from; inside = g.inside }
