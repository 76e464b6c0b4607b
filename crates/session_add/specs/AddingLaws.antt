-- Laws of the adding commands: one for each way out of the code.
use Rattle.std.specs.Prelude.{None, Option, Result, Some, false, true, ⊤, is_ok, is_some, List, ◌≢◌, ◌≡◌, suc, zero, ℕ}
use Rattle.std.specs.Prelude as result
use Rattle.std.proofs.Common.{◌∙◌, ap₂, subst, sym}
use Rattle.std.proofs.Math.Path.{ap, refl}
use Rattle.book.specs.Plain.{plain_of}
use Rattle.command_outcome.specs.OutcomeLaws.{step_right}
use Rattle.command_outcome.specs.Outcome.{Called}
use Rattle.read_tokens.specs.Entering.{four}
use Rattle.read_tokens.specs.SequenceLaws.{Read}
use Rattle.read_tokens.specs.declared.PairTables.{PairTables}
use Rattle.read_tokens.specs.declared.reader.Reader.{Reader}
use Rattle.refusal.specs.NumberLaws.{no_number_0}
use Rattle.refusal.specs.Numbers.{code}
use Rattle.refusal.specs.declared.Refusal.{Refusal}
use Rattle.model.specs.Book.{Book, components, facilities, implementations, versions}
use Rattle.model.specs.Commands.{Command}
use Rattle.names.specs.Kept.{Kept}
use Rattle.names.specs.Stored.{Rows, tables, tables_of}
use Rattle.book_rules.specs.Test.{passes}
use Rattle.sets.specs.TestLaws.{clash, if-false, if-true}
use Rattle.session_state.specs.Carried.{Decides}
use Rattle.session_state.specs.CarriedLaws.{gives_as, told_next}
use Rattle.session_state.specs.Ready.{Ready}
use Rattle.session_state.specs.State.{plain_state, state_of}
use Rattle.session_state.specs.declared.state.State.{State as Held}
use Rattle.text.specs.Language.{Reader as Production, Said}
use Rattle.text.specs.Session.{State, add, carry, decided, told}
use Rattle.text.specs.Tables.{Tables}
use Rattle.session_add.specs.Adding.{Adds}

-- ---- a command that was asked its questions

decided_no : (a : ℕ) (s s' : State) → a ≢ 0 → decided a s ≡ decided a s'
unfolding decided
decided_no zero s s' h = absurd (h refl)
decided_no (suc a) s s' h = refl

told_called : (s n : List ℕ) (k : Command) (a : ℕ) (s' n' : List ℕ) → passes s n ≡ true → Called s n k a s' n'
    → (t : Tables) → told (plain_of s n) t k ≡ decided a (record { book = plain_of s' n'; tables = t })
told_called s n k a s' n' good c t =
    let q = step_right s n k a s' n' good c in
    told_next _ t k ∙ ap₂ (λ (m : ℕ) (b : Book). decided m (record { book = b; tables = t })) (sym q.0) (sym q.1)

-- ---- an adding command that was read: s n c v f i are the Book and the tables before it, and c' v' f' i' the tables with its new names

module _ {R : Type 0} (s n : List ℕ) (c v f i c' v' f' i' : Rows) (o : Option R) (P : R → Command → Type 0) (x : Said)
    (q : Adds (tables_of c v f i) (tables_of c' v' f' i') o P x) where
  no_place : o ≡ None → Decides (state_of s n c v f i) (state_of s n c v f i) 24 x
  unfolding add decided state_of
  no_place e = record { is = q.is _ ∙ if-false _ _ _ (sym q.placed ∙ ap (λ (p : Option R). is_some p) e); refused = λ _. refl }

  module _ (r : R) (y : o ≡ Some r) (good : passes s n ≡ true) (a : ℕ) (s' n' : List ℕ) (called : (k : Command) → P r k → Called s n k a s' n') where
    asked : Called s n (q.numbered (tables_of c' v' f' i')) a s' n'
    asked = called _ (q.asks r y)

    outcome_passes : passes s' n' ≡ true
    outcome_passes = (step_right s n _ a s' n' good asked).2

    carried : carry (state_of s n c v f i) x ≡ decided a (state_of s' n' c' v' f' i')
    unfolding add state_of
    carried =
        let room : is_some o ≡ true = ap (λ (p : Option R). is_some p) y in
        q.is _ ∙ if-true _ _ _ (sym q.placed ∙ room)
        ∙ ap (λ (t : Tables). told (plain_of s n) t (q.numbered t)) (sym (q.tables room))
        ∙ told_called s n _ a s' n' good asked (tables_of c' v' f' i')

    not_accepted : a ≢ 0 → Decides (state_of s n c v f i) (state_of s' n' c v f i) a x
    not_accepted h = record {
      is = carried ∙ decided_no _ _ _ h;
      refused = λ _. ap₂ (λ (b m : List ℕ). state_of b m c v f i) (asked.refused h).0 (asked.refused h).1;
    }

    accepted : a ≡ 0 → Decides (state_of s n c v f i) (state_of s' n' c' v' f' i') a x
    accepted e = record { is = carried; refused = λ h. absurd (h e) }

-- ---- the ways out of the five commands

code_accepted : (a : Result ⊤ Refusal) → is_ok a ≡ true → code a ≡ 0
code_accepted (result.Ok x) e = refl
code_accepted (result.Err r) e = clash e refl

code_refused : (a : Result ⊤ Refusal) → is_ok a ≡ false → code a ≢ 0
code_refused (result.Ok x) e = clash refl e
code_refused (result.Err r) e = no_number_0 r

-- a copy of the tables of a state
pub copied : (s : Held) (t : PairTables) {f i : Rows} → t.comps.table ≡ s.names.comps → t.vers.table ≡ s.names.vers → f ≡ s.names.facs.rows
    → i ≡ s.names.impls.rows → four t f i ≡ tables s.names
copied s t a b d e = cc

-- the tables t before it are those of the state s
module _ (s : Held) {p : Production Said} (r r' : Reader) {Q : Said → Type 0} (read : Read p Q r r') {t : Tables} (start : t ≡ tables s.names)
    (c' v' f' i' : Rows) {R : Type 0} {o : Option R} {P : R → Command → Type 0}
    (adds : (x : Said) → Q x → Adds t (tables_of c' v' f' i') o P x) where
  abbrev held : List ℕ → List ℕ → State
  held b m = state_of b m s.names.comps.rows s.names.vers.rows s.names.facs.rows s.names.impls.rows

  from_state : (x : Said) → Q x → Adds (tables s.names) (tables_of c' v' f' i') o P x
  from_state x z = subst (λ (u : Tables). Adds u (tables_of c' v' f' i') o P x) start (adds x z)

  pub way_no_place : o ≡ None → Read p (Decides (plain_state s) (plain_state s) 24) r r'
  way_no_place e = gives_as r r' read (λ x z. no_place _ _ _ _ _ _ c' v' f' i' o P x (from_state x z) e)

  module _ (q : R) (e : o ≡ Some q) (a : Result ⊤ Refusal) {b m : List ℕ}
      (called : (k : Command) → P q k → Called s.book.sets s.book.numbers k (code a) b m) where
    way_passes : passes b m ≡ true
    way_passes =
        let g = read.0 in
        outcome_passes _ _ _ _ _ _ c' v' f' i' o P g.value (from_state g.value g.took) q e s.ready.passes (code a) b m called

    -- the Book may have changed, and the tables are as they were
    pub ready_asked : Ready b m s.names.comps.rows s.names.vers.rows s.names.facs.rows s.names.impls.rows
    ready_asked = record { passes = way_passes; comps = s.ready.comps; vers = s.ready.vers; facs = s.ready.facs; impls = s.ready.impls }

    -- the tables are changed as well
    pub ready_named : Kept components c' → Kept versions v' → Kept facilities f' → Kept implementations i' → Ready b m c' v' f' i'
    ready_named kc kv kf ki = record { passes = way_passes; comps = kc; vers = kv; facs = kf; impls = ki }

    pub way_refused : is_ok a ≡ false → Read p (Decides (plain_state s) (held b m) (code a)) r r'
    way_refused d = gives_as r r' read
        (λ x z. not_accepted _ _ _ _ _ _ c' v' f' i' o P x (from_state x z) q e s.ready.passes (code a) b m called (code_refused a d))

    pub way_accepted : is_ok a ≡ true → Read p (Decides (plain_state s) (state_of b m c' v' f' i') (code a)) r r'
    way_accepted d = gives_as r r' read
        (λ x z. accepted _ _ _ _ _ _ c' v' f' i' o P x (from_state x z) q e s.ready.passes (code a) b m called (code_accepted a d))
