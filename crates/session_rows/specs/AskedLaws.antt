-- Queries by names: a law for each way out of the code. `Held` is the state of the code.
use Rattle.std.specs.Prelude.{Bool, List, None, Some, [], ◌≡◌, ℕ}
use Rattle.std.proofs.Math.Bool.{false, true}
use Rattle.std.proofs.Math.Option.{Option, none, some}
use Rattle.std.proofs.Common.{append-nil, ◌∙◌, subst, sym}
use Rattle.std.proofs.Math.Path.{ap, ap₂, refl}
use Rattle.book.specs.Plain.{plain_of}
use Rattle.read_command.specs.Choices.{ChoiceAsked}
use Rattle.read_command.specs.Forms.{asked_of, asked_of_version}
use Rattle.read_command.specs.Words.{OneSaid, PairSaid}
use Rattle.read_command.specs.declared.OfComponent.{OfComponent}
use Rattle.read_command.specs.declared.OfComponent.TheVariants.{Supplies, Standard, WhereUsed}
use Rattle.read_command.specs.declared.OfVersion.{OfVersion}
use Rattle.read_command.specs.declared.OfVersion.TheVariants.{Needs, Parts}
use Rattle.read_command.specs.declared.Pair.{Pair}
use Rattle.read_tokens.specs.SequenceLaws.{Read}
use Rattle.read_tokens.specs.declared.reader.Reader.{Reader}
use Rattle.write_bytes.specs.Writes.{Writes}
use Rattle.write_bytes.specs.WritesLaws.{writes_as}
use Rattle.write_bytes.specs.declared.writer.Writer.{Writer}
use Rattle.model.specs.Book.{components, facilities, specified, versions}
use Rattle.model.specs.Lists.{every, set_of}
use Rattle.model.specs.Maps.{is_some}
use Rattle.model.specs.Queries as model
use Rattle.names.specs.Stored.{table_of, tables_of}
use Rattle.sets.specs.Answered.{answered}
use Rattle.sets.specs.Sets.{bit}
use Rattle.sets.specs.TestLaws.{if-false, if-true}
use Rattle.sets.specs.Tests.{if?◌then◌else◌}
use Rattle.session_state.specs.Carried.{CarriedBy}
use Rattle.session_state.specs.CarriedLaws.{gives_as}
use Rattle.session_state.specs.State.{plain_state, state_of}
use Rattle.session_state.specs.declared.state.State.{State as Held}
use Rattle.text.specs.Language.{CHOICE, Name, Said, choice, of_one, of_pair}
use Rattle.text.specs.Session.{State, afterwards, asked, carry, decimal, for_component, for_pair, lines, of_component, of_version, refused, row, rows}
use Rattle.text.specs.Tables.{joined, numbers, place}
use Rattle.session_rows.specs.Asked.{query_of, query_of_version}
use Rattle.session_rows.specs.ShownLaws.{asked_carried, carried}

-- ---- a component

pub one_answers : (f : Name → Said) (w : Name) (r s : Reader) → Read (of_one f) (OneSaid f w) r s → {R : Said → Type 0} → R (f w)
    → Read (of_one f) R r s
one_answers f w r s g {R = R} x = gives_as r s g (λ y q. subst R (sym q.is) x)

component_carry : (k : OfComponent) (s : State) (w : Name) → carry s (asked_of k w) ≡ of_component s 4 w (λ c. asked s (query_of k c))
unfolding carry asked_of query_of
component_carry Supplies s w = refl
component_carry Standard s w = refl
component_carry WhereUsed s w = refl

module _ (k : OfComponent) (s : Held) (w : Name) where
  component_as : (o : Option ℕ) → place (table_of components s.names.comps.rows) w ≡ o
      → carry (plain_state s) (asked_of k w) ≡ for_component 4 o (λ c. asked (plain_state s) (query_of k c))
  unfolding state_of tables_of of_component
  component_as o e =
      component_carry k (plain_state s) w ∙ ap (λ (p : Option ℕ). for_component 4 p (λ c. asked (plain_state s) (query_of k c))) e

  -- "a name that stands in no table has no number: the component or version then doesn't exist"
  pub component_unknown : {i : ℕ} {old new : Writer} → answered None ≡ place (table_of components s.names.comps.rows) w
      → Writes (row i (decimal 4)) old new → CarriedBy i (plain_state s) (plain_state s) old new (asked_of k w)
  unfolding answered for_component afterwards lines
  component_unknown e f = carried _ (refused 4) (component_as none (sym e)) refl f

  pub component_known : {i : ℕ} {old new : Writer} → (c : ℕ) → answered (Some c) ≡ place (table_of components s.names.comps.rows) w
      → Writes (lines i (asked (plain_state s) (query_of k c))) old new → CarriedBy i (plain_state s) (plain_state s) old new (asked_of k w)
  unfolding answered for_component
  component_known c e f = asked_carried _ (query_of k c) (component_as (some c) (sym e)) f

-- ---- a version

pub pair_answers : (f : Name → Name → Said) (p : Pair) (r s : Reader) → Read (of_pair f) (PairSaid f p) r s → {R : Said → Type 0}
    → R (f p.component.now p.version.now) → Read (of_pair f) R r s
pair_answers f p r s g {R = R} x = gives_as r s g (λ y q. subst R (sym q.is) x)

version_carry : (k : OfVersion) (s : State) (w x : Name)
    → carry s (asked_of_version k w x) ≡ of_version s 4 (specified s.book.specs) w x (λ c v. asked s (query_of_version k c v))
unfolding carry asked_of_version query_of_version
version_carry Needs s w x = refl
version_carry Parts s w x = refl

module _ (k : OfVersion) (s : Held) (w x : Name) where
  abbrev is_specified : ℕ → Bool
  is_specified = specified (plain_of s.book.sets s.book.numbers).specs

  version_as : (o p : Option ℕ) → place (table_of components s.names.comps.rows) w ≡ o → place (table_of versions s.names.vers.rows) x ≡ p
      → carry (plain_state s) (asked_of_version k w x)
      ≡ for_pair 4 is_specified o p (λ c v. asked (plain_state s) (query_of_version k c v))
  unfolding state_of tables_of of_version
  version_as o p e d =
      version_carry k (plain_state s) w x
      ∙ ap₂ (λ (y z : Option ℕ). for_pair 4 is_specified y z (λ c v. asked (plain_state s) (query_of_version k c v))) e d

  pub version_no_component : {i : ℕ} {old new : Writer} → answered None ≡ place (table_of components s.names.comps.rows) w
      → Writes (row i (decimal 4)) old new → CarriedBy i (plain_state s) (plain_state s) old new (asked_of_version k w x)
  unfolding answered for_pair afterwards lines
  version_no_component e f = carried _ (refused 4) (version_as none _ (sym e) refl) refl f

  module _ (c : ℕ) (e : answered (Some c) ≡ place (table_of components s.names.comps.rows) w) where
    -- a version without a number: 10 where the component is specified, else 4
    pub version_no_number : {i : ℕ} {old new : Writer} → answered None ≡ place (table_of versions s.names.vers.rows) x
        → {a : ℕ} → a ≡ (if? is_specified c then 10 else 4) → Writes (row i (decimal a)) old new
        → CarriedBy i (plain_state s) (plain_state s) old new (asked_of_version k w x)
    unfolding answered for_pair
    version_no_number {i = i} d ea f =
        carried _ (if? is_specified c then refused 10 else refused 4) (version_as (some c) none (sym e) (sym d)) (keeps (is_specified c))
        (writes_as (ap (λ (b : ℕ). row i (decimal b)) ea ∙ shows (is_specified c)) f)
      where
        keeps : (b : Bool) → afterwards (plain_state s) (if? b then refused 10 else refused 4) ≡ plain_state s
        keeps true = unfold afterwards if?◌then◌else◌ in refl
        keeps false = unfold afterwards if?◌then◌else◌ in refl

        shows : (b : Bool) → row i (decimal (if? b then 10 else 4)) ≡ lines i (if? b then refused 10 else refused 4)
        shows true = unfold lines if?◌then◌else◌ in refl
        shows false = unfold lines if?◌then◌else◌ in refl

    pub version_known : {i : ℕ} {old new : Writer} → (v : ℕ) → answered (Some v) ≡ place (table_of versions s.names.vers.rows) x
        → Writes (lines i (asked (plain_state s) (query_of_version k c v))) old new
        → CarriedBy i (plain_state s) (plain_state s) old new (asked_of_version k w x)
    unfolding answered for_pair
    version_known v d f = asked_carried _ (query_of_version k c v) (version_as (some c) (some v) (sym e) (sym d)) f

-- ---- "choice"

module _ (s : Held) (fs : List Name) where
  abbrev all_known : Bool
  all_known = every (λ g. is_some (place (table_of facilities s.names.facs.rows) g)) fs

  choice_carry : (known : Bool) → known ≡ all_known → carry (plain_state s) (CHOICE fs)
      ≡ (if? known then asked (plain_state s) (model.CHOICE (numbers (table_of facilities s.names.facs.rows) fs)) else rows [])
  unfolding carry state_of tables_of
  choice_carry known e =
      ap (λ (b : Bool). if? b then asked (plain_state s) (model.CHOICE (numbers (table_of facilities s.names.facs.rows) fs)) else rows []) (sym e)

  -- "and CHOICE of it finds nothing"
  pub choice_nothing : {i : ℕ} {old new : Writer} → false ≡ all_known → Writes (row i (decimal 0)) old new
      → CarriedBy i (plain_state s) (plain_state s) old new (CHOICE fs)
  choice_nothing {i = i} e f = carried (CHOICE fs) (rows []) (choice_carry false e ∙ if-false _ _ _ refl) (unfold afterwards in refl)
      (writes_as {v = row i (decimal 0)} {w = lines i (rows [])} (unfold lines joined in sym (append-nil (row i (decimal 0)))) f)

  choice_found : {i : ℕ} {old new : Writer} → true ≡ all_known
      → Writes (lines i (asked (plain_state s) (model.CHOICE (numbers (table_of facilities s.names.facs.rows) fs)))) old new
      → CarriedBy i (plain_state s) (plain_state s) old new (CHOICE fs)
  choice_found e f = asked_carried (CHOICE fs) _ (choice_carry true e ∙ if-true _ _ _ refl) f

module _ (s : Held) (r r' : Reader) {i : ℕ} {old new : Writer} where
  pub choice_unknown : Read choice (ChoiceAsked (table_of facilities s.names.facs.rows) None) r r' → Writes (row i (decimal 0)) old new
      → Read choice (CarriedBy i (plain_state s) (plain_state s) old new) r r'
  choice_unknown g f =
      gives_as r r' g (λ x q. subst (CarriedBy i (plain_state s) (plain_state s) old new) (sym q.said) (choice_nothing s q.fs q.all_known f))

  pub choice_known : (w : ℕ) → Read choice (ChoiceAsked (table_of facilities s.names.facs.rows) (Some w)) r r'
      → ((fs : List ℕ) → bit w ≡ set_of fs → Writes (lines i (asked (plain_state s) (model.CHOICE fs))) old new)
      → Read choice (CarriedBy i (plain_state s) (plain_state s) old new) r r'
  choice_known w g f =
      gives_as r r' g (λ x q. subst (CarriedBy i (plain_state s) (plain_state s) old new) (sym q.said)
      (choice_found s q.fs q.all_known (f _ (q.set_is w refl))))
