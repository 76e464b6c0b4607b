-- A command that takes out, read and carried out: a law for each way out of the code.
use Rattle.std.specs.Prelude.{Bool, true, List, None, Some, ◌≡◌, ℕ}
use Rattle.std.proofs.Math.Bool.{false}
use Rattle.std.proofs.Math.Option.{Option, none, some}
use Rattle.std.proofs.Common.{◌∙◌, subst, sym, arith}
use Rattle.std.proofs.Math.Path.{ap, ap₂, refl}
use Rattle.book.specs.Plain.{plain_of}
use Rattle.command_outcome.specs.Outcome.{Called}
use Rattle.read_tokens.specs.SequenceLaws.{Read}
use Rattle.read_tokens.specs.declared.reader.Reader.{Reader}
use Rattle.read_command.specs.Words.{OneSaid, PairSaid}
use Rattle.read_command.specs.declared.Pair.{Pair}
use Rattle.model.specs.Book.{Book, components, versions}
use Rattle.names.specs.Stored.{table_of, tables, tables_of}
use Rattle.sets.specs.Answered.{answered}
use Rattle.sets.specs.Tests.{if?◌then◌else◌}
use Rattle.session_state.specs.Carried.{Decides}
use Rattle.session_state.specs.CarriedLaws.{gives_as}
use Rattle.session_state.specs.State.{plain_state, state_of}
use Rattle.session_state.specs.declared.state.State.{State as Held}
use Rattle.text.specs.Bytes.{Text}
use Rattle.text.specs.Language.{Name, Said, of_one, of_pair}
use Rattle.text.specs.Session.{Result, State, carry, for_component, for_pair, of_component, of_version, refused, told}
use Rattle.text.specs.Tables.{place}
use Rattle.read_command.specs.Forms.{removed}
use Rattle.session_delete.specs.Removed.{component_answer, component_command, is_of_kind, pair_answer, version_answer, version_command}
use Rattle.read_command.specs.Forms.{version_removed}
use Rattle.read_command.specs.declared.Component.{Component}
use Rattle.read_command.specs.declared.Component.TheVariants as component
use Rattle.read_command.specs.declared.Version.{Version}
use Rattle.read_command.specs.declared.Version.TheVariants as version
use Rattle.session_delete.specs.KeepLaws.{carried_out, unchanged}

-- ---- delspec, delmod, delsys

-- the three as one
component_told : (kind : Component) (x : State) (w : Name)
    → carry x (removed kind w) ≡ of_component x (component_answer kind) w (λ c. told x.book x.tables (component_command kind c))
unfolding carry removed component_answer component_command
component_told component.Spec x w = refl
component_told component.Module x w = refl
component_told component.System x w = refl

-- a no has a number
component_no : (kind : Component) → component_answer kind ≡ 0 → ⊥
unfolding component_answer
component_no component.Spec e = omega (arith, e)
component_no component.Module e = omega (arith, e)
component_no component.System e = omega (arith, e)

module _ (kind : Component) (r r' : Reader) (w : Text) (g : Read (of_one (removed kind)) (OneSaid (removed kind) w) r r') where
  one_read : (R : Said → Type 0) → R (removed kind w) → Read (of_one (removed kind)) R r r'
  one_read R x = gives_as r r' g (λ k q. subst R (sym q.is) x)

  module _ (s : Held) where
    abbrev taken : ℕ → Result
    taken j = told (plain_of s.book.sets s.book.numbers) (tables s.names) (component_command kind j)

    -- the name's number, or that it has none
    component_as : (p : Option ℕ) → place (table_of components s.names.comps.rows) w ≡ p
        → carry (plain_state s) (removed kind w) ≡ for_component (component_answer kind) p taken
    unfolding of_component state_of tables_of
    component_as p z = component_told kind (plain_state s) w ∙ ap (λ (p : Option ℕ). for_component (component_answer kind) p taken) z

    pub component_unknown : answered None ≡ place (table_of components s.names.comps.rows) w → (m : ℕ) → m ≡ component_answer kind
        → Read (of_one (removed kind)) (Decides (plain_state s) (plain_state s) m) r r'
    unfolding answered for_component
    component_unknown z m d =
        one_read _ (unchanged _ m _ (λ x. component_no kind (sym d ∙ x)) (component_as none (sym z) ∙ ap refused (sym d)))

    pub component_known : (k : ℕ) → answered (Some k) ≡ place (table_of components s.names.comps.rows) w → (m : ℕ) (b n : List ℕ)
        → Called s.book.sets s.book.numbers (component_command kind k) m b n
        → Read (of_one (removed kind))
        (Decides (plain_state s) (state_of b n s.names.comps.rows s.names.vers.rows s.names.facs.rows s.names.impls.rows) m) r r'
    unfolding answered for_component
    component_known k z m b n h = one_read _ (carried_out s _ m b n h _ (component_as (some k) (sym z)))

-- ---- delmodvar, delsysvar

-- the two as one
version_told : (kind : Version) (x : State) (w u : Name) → carry x (version_removed kind w u)
    ≡ of_version x (pair_answer kind) (is_of_kind kind x.book) w u (λ c v. told x.book x.tables (version_command kind c v))
unfolding carry version_removed pair_answer version_command is_of_kind
version_told version.Module x w u = refl
version_told version.System x w u = refl

pair_no : (kind : Version) → pair_answer kind ≡ 0 → ⊥
unfolding pair_answer
pair_no version.Module e = omega (arith, e)
pair_no version.System e = omega (arith, e)

version_no : (kind : Version) (b : Book) (c : ℕ) → version_answer kind b c ≡ 0 → ⊥
unfolding version_answer
version_no kind b c e = by (is_of_kind kind b c) e
  where
    by : (x : Bool) → (if? x then 10 else pair_answer kind) ≡ 0 → ⊥
    by true e = unfold if?◌then◌else◌ in omega (arith, e)
    by false e = unfold if?◌then◌else◌ in pair_no kind e

refused_if : (x : Bool) (m j : ℕ) → (if? x then refused m else refused j) ≡ refused (if? x then m else j)
unfolding if?◌then◌else◌
refused_if true m j = refl
refused_if false m j = refl

module _ (kind : Version) (r r' : Reader) (p : Pair) (g : Read (of_pair (version_removed kind)) (PairSaid (version_removed kind) p) r r') where
  pair_read : (R : Said → Type 0) → R (version_removed kind p.component.now p.version.now) → Read (of_pair (version_removed kind)) R r r'
  pair_read R x = gives_as r r' g (λ k q. subst R (sym q.is) x)

  module _ (s : Held) where
    abbrev version_taken : ℕ → ℕ → Result
    version_taken j l = told (plain_of s.book.sets s.book.numbers) (tables s.names) (version_command kind j l)

    abbrev has_kind : ℕ → Bool
    has_kind = is_of_kind kind (plain_of s.book.sets s.book.numbers)

    -- the names' numbers, or that one has none
    version_as : (j k : Option ℕ) → place (table_of components s.names.comps.rows) p.component.now ≡ j
        → place (table_of versions s.names.vers.rows) p.version.now ≡ k
        → carry (plain_state s) (version_removed kind p.component.now p.version.now) ≡ for_pair (pair_answer kind) has_kind j k version_taken
    unfolding of_version state_of tables_of
    version_as j k z x = version_told kind (plain_state s) p.component.now p.version.now
        ∙ ap₂ (λ (j k : Option ℕ). for_pair (pair_answer kind) has_kind j k version_taken) z x

    pub pair_unknown : answered None ≡ place (table_of components s.names.comps.rows) p.component.now → (m : ℕ) → m ≡ pair_answer kind
        → Read (of_pair (version_removed kind)) (Decides (plain_state s) (plain_state s) m) r r'
    unfolding answered for_pair
    pair_unknown z m d =
        pair_read _ (unchanged _ m _ (λ x. pair_no kind (sym d ∙ x)) (version_as none _ (sym z) refl ∙ ap refused (sym d)))

    module _ (j : ℕ) (z : answered (Some j) ≡ place (table_of components s.names.comps.rows) p.component.now) where
      pub version_unknown : answered None ≡ place (table_of versions s.names.vers.rows) p.version.now → (m : ℕ)
          → m ≡ version_answer kind (plain_of s.book.sets s.book.numbers) j
          → Read (of_pair (version_removed kind)) (Decides (plain_state s) (plain_state s) m) r r'
      unfolding answered for_pair version_answer
      version_unknown x m d = pair_read _
          (unchanged _ m _ (λ e. version_no kind (plain_of s.book.sets s.book.numbers) j (sym d ∙ e))
          (version_as (some j) none (sym z) (sym x) ∙ refused_if (has_kind j) 10 (pair_answer kind) ∙ ap refused (sym d)))

      pub version_known : (l : ℕ) → answered (Some l) ≡ place (table_of versions s.names.vers.rows) p.version.now → (m : ℕ) (b n : List ℕ)
          → Called s.book.sets s.book.numbers (version_command kind j l) m b n
          → Read (of_pair (version_removed kind))
          (Decides (plain_state s) (state_of b n s.names.comps.rows s.names.vers.rows s.names.facs.rows s.names.impls.rows) m) r r'
      unfolding answered for_pair
      version_known l x m b n h = pair_read _ (carried_out s _ m b n h _ (version_as (some j) (some l) (sym z) (sym x)))
