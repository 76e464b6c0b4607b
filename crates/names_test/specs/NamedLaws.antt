-- Laws of names asked for: one for each way out of the code.
use Rattle.std.specs.Prelude.{Bool, ◌&&◌, ◌||◌, false, not, true, ◌⊎◌, ◌≢◌, ◌≡◌, ◌<◌, ◌≤◌, ℕ}
use mathlib.Core.List.{List, [], ◌∷◌}
use Rattle.std.proofs.Math.Logic.{inl, inr}
use Rattle.std.proofs.Math.Option.{Option}
use Rattle.std.specs.Prelude.{None, Option as Found, Some}
use Rattle.std.specs.Str.{bytes_eq}
use Rattle.seqs.specs.SameLaws.{same_is}
use Rattle.sets.specs.Answered.{answered}
use Rattle.std.proofs.Common.{◌∙◌, subst, arith}
use Rattle.std.proofs.Math.Path.{ap, ap₂, refl, sym}
use Rattle.std.proofs.Math.ListN.{get_or-eq_default, length}
use Rattle.book.specs.Plain.{modules_of, specs_of}
use Rattle.model.specs.Book.{has_version, implementation, provides, requires, specified}
use Rattle.model.specs.Lists.{non_empty}
use Rattle.model.specs.Maps.{if_there}
use Rattle.names.specs.Stored.{Rows, name_in, table_of, tables_of}
use Rattle.names.specs.UpToLastLaws.{last_length}
use Rattle.sets.specs.Sets.{Set, bit}
use Rattle.sets.specs.TestLaws.{<?_out, <?_no, all_in, all_out, bool?, clash, fails, iff→≡, imp_in, imp_out}
use Rattle.sets.specs.TestLaws.{not_in, not_out, same?}
use Rattle.sets.specs.Tests.{◌&◌, ◌<?◌, ◌⇒◌, all, ~◌}
use Rattle.text.specs.Bytes.{Text, same, valid_implementation, valid_name}
use Rattle.text.specs.Handed.{Once, component_named, names_hold, none_twice, version_named}
use Rattle.text.specs.Language.{Name}
use Rattle.text.specs.Session.{State}
use Rattle.text.specs.Tables.{Table, name_at}
use Rattle.text_laws.specs.Handed.{once_twice}
use Rattle.text_laws.specs.Places.{none_twice_lem}
use Rattle.text_laws.specs.TextLaws.{same_out, same_refl}
use Rattle.names_test.specs.Answered.{handed}
use Rattle.names_test.specs.Named.{apart_from, component_if, implementation_named, named_if, new_at, version_if}

-- ---- no name twice

pub apart_is : (t : Table) (i j : ℕ) {a b : Text} {r : Bool} → a ≡ name_at t i → b ≡ name_at t j → r ≡ not (bytes_eq a b)
    → r ≡ apart_from t i j
unfolding apart_from ~◌
apart_is t i j {a = a} {b = b} e f s = s ∙ ap not (same_is a b ∙ ap₂ same e f)

empty-none : (w : Name) → length w ≡ 0 → non_empty w ≡ false
unfolding non_empty
empty-none [] e = refl
empty-none (x ∷ xs) e = absurd (omega arith)

longer_some : (w : Name) → (length w ≡ 0 → ⊥) → non_empty w ≡ true
unfolding non_empty
longer_some [] e = absurd (e refl)
longer_some (x ∷ xs) e = refl

module _ (t : Table) (i : ℕ) {w : Text} (e : w ≡ name_at t i) where
  pub new_free : length w ≡ 0 → true ≡ new_at t i
  unfolding new_at ◌⇒◌
  new_free z = sym (ap (λ (b : Bool). b ⇒ all i (apart_from t i)) (empty-none (name_at t i) (ap length (sym e) ∙ z)))

  pub new_is : {r : Bool} → (length w ≡ 0 → ⊥) → r ≡ all i (apart_from t i) → r ≡ new_at t i
  unfolding new_at ◌⇒◌
  new_is z a =
      a ∙ sym (ap (λ (b : Bool). b ⇒ all i (apart_from t i)) (longer_some (name_at t i) (λ y. z (ap length e ∙ y))))

  -- a name that stands there has a place of the table
  within : non_empty (name_at t i) ≡ true → i < length t
  unfolding name_at non_empty
  within h = elim (bool? (i <? length t)) [
    | inl y ↦ <?_out _ _ y
    | inr y ↦ clash h (ap non_empty (get_or-eq_default t [] {n = i} (<?_no _ _ y)))
  ]

-- a name is new at each place just where none stands twice
module _ (t : Table) (p : ℕ) (l : length t ≤ p) where
  no_later : all p (new_at t) ≡ true → (i j : ℕ) → i < j → non_empty (name_at t j) ≡ true → name_at t j ≡ name_at t i → ⊥
  unfolding new_at apart_from
  no_later a i j h e q =
      let k = within t j refl e in
      clash (ap (λ (w : Name). same (name_at t j) w) (sym q) ∙ same_refl (name_at t j))
      (not_out _ (all_out _ _ (imp_out _ _ (all_out _ _ a j (omega arith)) e) i h))

  all_once : all p (new_at t) ≡ true → Once t
  all_once a i j e q = by (same? i j)
    where
      by : (i ≡ j) ⊎ (i ≢ j) → i ≡ j
      by (inl y) = y
      by (inr y) = elim (bool? (i <? j)) [
        | inl z ↦ absurd (no_later a i j (<?_out _ _ z) (subst (λ (w : Name). non_empty w ≡ true) q e) (sym q))
        | inr z ↦ (let h = <?_no _ _ z in absurd (no_later a j i (omega arith) e q))
      ]

  once-all : Once t → all p (new_at t) ≡ true
  unfolding new_at apart_from
  once-all o = all_in _ _ (λ i h. imp_in _ _ (λ e. all_in _ _ (λ j k. not_in _ (fails _ (λ y.
      let z = o i j e (same_out _ _ y) in omega arith)))))

  pub new_each : all p (new_at t) ≡ none_twice t
  new_each = iff→≡ _ _ (λ a. once_twice t (all_once a)) (λ a. once-all (none_twice_lem t a))

pub none_is : (p : ℕ) (b : Rows) → all p (new_at (table_of p b)) ≡ none_twice (table_of p b)
unfolding table_of
none_is p b = new_each (table_of p b) p (last_length p (name_in b))

-- ---- a name that is asked for only where a number is in the book

imp_skip : (a b : Bool) → a ≡ false → true ≡ (a ⇒ b)
unfolding ◌⇒◌
imp_skip a b e = sym (ap (λ (x : Bool). x ⇒ b) e)

imp_asked : (a : Bool) {b r : Bool} → a ≡ true → r ≡ b → r ≡ (a ⇒ b)
unfolding ◌⇒◌
imp_asked a {b} e q = q ∙ sym (ap (λ (x : Bool). x ⇒ b) e)

imp_is : (a b : Bool) → (not a || b) ≡ (a ⇒ b)
unfolding ◌⇒◌
imp_is true b = refl
imp_is false b = refl

module _ (t : Table) (p : Set) (f : ℕ) {m : Bool} (e : m ≡ p f) where
  pub named_skip : m ≡ false → true ≡ named_if t p f
  unfolding named_if
  named_skip h = imp_skip _ _ (sym e ∙ h)

  pub named_is : {w : Text} {r : Bool} → m ≡ true → w ≡ name_at t f → r ≡ valid_name w → r ≡ named_if t p f
  unfolding named_if
  named_is h q k = imp_asked _ (sym e ∙ h) (k ∙ ap valid_name q)

module _ (s n : List ℕ) (cs vs fs is : Rows) (c : ℕ) where
  abbrev the : State
  the = handed s n cs vs fs is

  module _ (v : ℕ) where
    pub no_implementation : {r : Found ℕ} → answered r ≡ implementation (modules_of n) c v → r ≡ None → true ≡ implementation_named the c v
    unfolding implementation_named handed answered if_there
    no_implementation e f =
        sym (ap (λ (o : Option ℕ). if_there o (λ i. valid_implementation (name_at (tables_of cs vs fs is).impls i)))
        (sym e ∙ ap answered f))

    pub implementation_is : {r : Found ℕ} {k i : ℕ} {w : Text} {b : Bool} → answered r ≡ implementation (modules_of n) c v → r ≡ Some k
        → i ≡ k → w ≡ name_at (table_of 256 is) i → b ≡ valid_implementation w → b ≡ implementation_named the c v
    unfolding implementation_named handed answered tables_of if_there
    implementation_is e f ei ew eb =
        eb ∙ ap valid_implementation (ew ∙ ap (name_at (table_of 256 is)) ei)
        ∙ sym (ap (λ (o : Option ℕ). if_there o (λ i. valid_implementation (name_at (table_of 256 is) i))) (sym e ∙ ap answered f))

    pub version_is : (x : ℕ) {w : Text} {a b d : Bool} → w ≡ name_at (table_of 64 vs) v → a ≡ valid_name w
        → bit x ≡ requires (specs_of s n) c v → b ≡ all 64 (named_if (table_of 64 fs) (bit x)) → d ≡ implementation_named the c v
        → (a && (b && d)) ≡ version_named the c v
    unfolding version_named implementation_named named_if handed tables_of ◌&◌
    version_is x ew ea ex eb ed =
        ap₂ ◌&◌ (ea ∙ ap valid_name ew) (ap₂ ◌&◌ (eb ∙ ap (λ (p : Set). all 64 (named_if (table_of 64 fs) p)) ex) ed)

    pub version_if_is : {m d r : Bool} → m ≡ has_version (specs_of s n) c v → d ≡ version_named the c v → r ≡ (not m || d)
        → r ≡ version_if the c v
    unfolding version_if handed
    version_if_is e f g = g ∙ imp_is _ _ ∙ ap₂ ◌⇒◌ e f

  pub component_is : (x : ℕ) {w : Text} {a b d : Bool} → w ≡ name_at (table_of 32 cs) c → a ≡ valid_name w
      → bit x ≡ provides (specs_of s n) c → b ≡ all 64 (named_if (table_of 64 fs) (bit x)) → d ≡ all 64 (version_if the c)
      → (a && (b && d)) ≡ component_named the c
  unfolding component_named version_if named_if handed tables_of ◌&◌
  component_is x ew ea ex eb ed =
      ap₂ ◌&◌ (ea ∙ ap valid_name ew) (ap₂ ◌&◌ (eb ∙ ap (λ (p : Set). all 64 (named_if (table_of 64 fs) p)) ex) ed)

  pub component_if_is : {m d r : Bool} → m ≡ specified (specs_of s n) c → d ≡ component_named the c → r ≡ (not m || d)
      → r ≡ component_if the c
  unfolding component_if handed
  component_if_is e f g = g ∙ imp_is _ _ ∙ ap₂ ◌⇒◌ e f

pub hold_is : (s n : List ℕ) (cs vs fs is : Rows) {a b d x y : Bool} → a ≡ all 32 (component_if (handed s n cs vs fs is))
    → b ≡ none_twice (table_of 32 cs) → d ≡ none_twice (table_of 64 vs) → x ≡ none_twice (table_of 64 fs) → y ≡ none_twice (table_of 256 is)
    → (a && (b && (d && (x && y)))) ≡ names_hold (handed s n cs vs fs is)
unfolding names_hold component_if handed tables_of ◌&◌
hold_is s n cs vs fs is ea eb ed ex ey = ap₂ ◌&◌ ea (ap₂ ◌&◌ eb (ap₂ ◌&◌ ed (ap₂ ◌&◌ ex ey)))
