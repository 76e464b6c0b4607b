-- Every state that a session reaches passes the question for 25, its book and its tables: for every text.
use Rattle.std.specs.Prelude.{Bool, true, List, [], ◌++◌, ◌∷◌, ◌≡◌, refl, length}
use Rattle.std.proofs.Math.Option.{some-injective, some}
use Rattle.std.proofs.Common.{◌∙◌, ap, sym, arith}
use Prim.Native.Nat.{suc, zero, ℕ}
use Rattle.model.specs.Book.{Book, empty, has_version, implementation, provides, required, requires, specified}
use Rattle.model.specs.Commands.{Command, after}
use Rattle.model.specs.Lists.{every, once}
use Rattle.model.specs.Maps.{and_then}
use Rattle.model.specs.PlainBook.{answer, next, reached}
use Rattle.sets.specs.Sets.{Set}
use Rattle.sets.specs.TestLaws.{<?_in, <?_out, and_l, and_r}
use Rattle.sets.specs.Tests.{◌&◌, ◌≤?◌}
use Rattle.text.specs.Bytes.{Text, valid_implementation, valid_name}
use Rattle.text.specs.Handed.{Named, PassesNamed}
use Rattle.text.specs.Language.{Name, Read, command, over, said, wrong}
use Rattle.text.specs.SameByNames.{Same, text_of}
use Rattle.text.specs.Session.{State, afterwards, carry, fresh, on_read, session, session_from}
use Rattle.text.specs.Tables.{Table, fits, name_at, numbers}
use Rattle.text_laws.specs.BookNumbers.{after_numbers}
use Rattle.text_laws.specs.BookReadsBack.{reads_back}
use Rattle.text_laws.specs.Changes.{Changes, adds, carry_changes, stays, tells}
use Rattle.text_laws.specs.FourTables.{a_component, a_facility, a_version, an_implementation, none_named, valid}
use Rattle.text_laws.specs.Numbered.{Longer, longer_entered, longer_self, longer_trans}
use Rattle.text_laws.specs.Places.{apart, apart-once}
use Rattle.text_laws.specs.TextLaws.{every-none}
use Rattle.text_laws.specs.ValidNames.{ValidRead, command_valid}
use Rattle.text_laws.specs.ValidTables.{AllApart, AllValid, NumbersHeld, entered_apart, entered_held, entered_valid, held}
use Rattle.model_laws.specs.Good.{Good, good→passes, passes→good, requires_version}
use Rattle.model_laws.specs.MapLaws.{and_then_out, has_out, is_some_out, no_some}
use Rattle.model_laws.specs.PartsRight.{PartsRight}
use Rattle.model_laws.specs.Sequence.{empty-passes, passes-parts}
use Rattle.model_laws.specs.Keep.{accepted as accepted'}

-- what is true of every state that a session reaches
pub record Reached (s : State) : Type 0 where
  pub good : Good s.book
  pub valid : AllValid s.tables
  pub once : AllApart s.tables
  pub room : fits s.tables ≡ true
  pub numbers : NumbersHeld s.tables s.book

reached_step : (s s' : State) → Changes s s' → Reached s → Reached s'
reached_step s s' stays r = r
reached_step s s' (tells k p e) r = record {
  good = accepted' s.book k r.good e;
  valid = r.valid;
  once = r.once;
  room = r.room;
  numbers = after_numbers _ s.book k r.numbers p;
}
reached_step s s' (adds m k v p f e) r = record {
  good = accepted' s.book k r.good e;
  valid = entered_valid _ _ r.valid v;
  once = entered_apart _ _ r.once;
  room = f;
  numbers = after_numbers _ s.book k (entered_held _ _ _ r.numbers) p;
}

fresh_reached : Reached fresh
fresh_reached = record {
  good = passes→good empty-passes;
  valid = λ k. ap (every (valid k)) (none_named k) ∙ every-none _;
  once = λ k. ap apart (none_named k) ∙ (unfold apart in refl);
  room = unfold fits ◌≤?◌ ◌&◌ in refl;
  numbers = record { specs = λ c x e. no_some e; modules = λ c m e. no_some e };
}

-- ---- a session

-- what each change keeps, a session keeps
module _ (P : State → Type 0) (keeps : (s s' : State) → Changes s s' → P s → P s') where
  session_keeps : (n i : ℕ) (s : State) (t : Text) → P s → P (session_from n i s t).1
  unfolding session_from
  session_keeps zero i s t r = r
  session_keeps (suc n) i s t r = on_read_lem (command t) (command_valid t) (λ s' u h. session_keeps n (suc i) s' u h)
    where
      on_read_lem : (x : Read) → ValidRead x → ((s' : State) (u : Text) → P s' → P (session_from n (suc i) s' u).1)
          → P (on_read (λ s' rest. session_from n (suc i) s' rest) i s x).1
      on_read_lem over v h = unfold on_read in r
      on_read_lem wrong v h = unfold on_read in r
      on_read_lem (said k rest) v h = unfold on_read in h (afterwards s (carry s k)) rest (keeps s _ (carry_changes s k v) r)

-- the state after the first n commands of a text, or after all of them
pub session_reached : (n : ℕ) (t : Text) → Reached (session_from n 1 fresh t).1
session_reached n t = session_keeps Reached reached_step n 1 fresh t fresh_reached

longer_step : (s s' : State) → Changes s s' → Longer s.tables s'.tables
longer_step s s' stays = longer_self s.tables
longer_step s s' (tells k p e) = longer_self s.tables
longer_step s s' (adds m k v p f e) = longer_entered s.tables m

-- "A place is held until the session ends": what follows only puts names behind those that are there.
pub places_held : (n i : ℕ) (s : State) (t : Text) → Longer s.tables (session_from n i s t).1.tables
places_held n i s t = session_keeps (λ s'. Longer s.tables s'.tables)
    (λ u u' c l. longer_trans _ _ _ l (longer_step u u' c)) n i s t (longer_self s.tables)

-- ---- the plain book

reached_append : (b : Book) (ks : List Command) (k : Command) → reached b (ks ++ (k ∷ [])) ≡ next (reached b ks) k
unfolding reached
reached_append b [] k = refl
reached_append b (j ∷ ks) k = reached_append (next b j) ks k

next_yes : (b : Book) (k : Command) → answer b k ≡ 0 → next b k ≡ after b k
unfolding next
next_yes b k e = ap (λ (n : ℕ). elim n as (λ n. Book) [ zero ↦ after b k | suc m ↦ b ]) e

-- the book is one that the plain book reaches
abbrev Plain : State → Type 0
Plain s = (ks : List Command) × (reached empty ks ≡ s.book)

plain_more : (s : State) (k : Command) → Plain s → answer s.book k ≡ 0
    → (ks : List Command) × (reached empty ks ≡ after s.book k)
plain_more s k q e =
    (q.0 ++ (k ∷ []), reached_append empty q.0 k ∙ ap (λ (b : Book). next b k) q.1 ∙ next_yes s.book k e)

plain_step : (s s' : State) → Changes s s' → Plain s → Plain s'
plain_step s s' stays q = q
plain_step s s' (tells k p e) q = plain_more s k q e
plain_step s s' (adds m k v p f e) q = plain_more s k q e

-- A session's book is the plain book's after some commands: what is true of every sequence is true of a session.
pub session_plain : (n : ℕ) (t : Text) → (ks : List Command) × (reached empty ks ≡ (session_from n 1 fresh t).1.book)
session_plain n t = session_keeps Plain plain_step n 1 fresh t ([], (unfold reached in refl))

-- ---- the question for 25

every_at : (test : Name → Bool) (t : Table) (n : ℕ) → every test t ≡ true → held t n ≡ true → test (name_at t n) ≡ true
unfolding held name_at every
every_at test [] n e h = absurd (let k = <?_out _ _ h in omega arith)
every_at test (x ∷ xs) zero e h = and_l _ _ e
every_at test (x ∷ xs) (suc n) e h = every_at test xs n (and_r _ _ e) (let k = <?_out _ _ h in <?_in _ _ (omega arith))

reached_named : (s : State) → Reached s → Named s
reached_named s r = record {
  component = λ c e. (let q = is_some_out (s.book.specs c) (unfold specified in e) in
      every_at valid_name _ c (r.valid a_component) (r.numbers.specs c q.0 q.1).0);
  version = λ c v e. (let q = spec_at_lem c v e in every_at valid_name _ v (r.valid a_version) q.2);
  provided = λ c f e. (let q = has_out (s.book.specs c) (λ x. x.prov f) (unfold provides in e) in
      every_at valid_name _ f (r.valid a_facility) ((r.numbers.specs c q.0 q.1).1.prov f q.2));
  required = λ c v f e. (let q = req_at c v f e in every_at valid_name _ f (r.valid a_facility) q);
  implemented = λ c v i e. (let q = and_then_out (s.book.modules c) (λ m. m v) i (unfold implementation in e) in
      every_at valid_implementation _ i (r.valid an_implementation) (r.numbers.modules c q.0 q.1 v i q.2));
  comps_once = apart-once _ (r.once a_component);
  vers_once = apart-once _ (r.once a_version);
  facs_once = apart-once _ (r.once a_facility);
  impls_once = apart-once _ (r.once an_implementation);
}
  where
    spec_at_lem : (c v : ℕ) → has_version s.book.specs c v ≡ true
        → (q : Set) × (required s.book.specs c v ≡ some q) × (held s.tables.vers v ≡ true) × ((f : ℕ) → q f ≡ true
        → held s.tables.facs f ≡ true)
    spec_at_lem c v e = unfold has_version required in
        let q = is_some_out (and_then (s.book.specs c) (λ x. x.req v)) e in
        let a = and_then_out (s.book.specs c) (λ x. x.req v) q.0 q.1 in
        let h = (r.numbers.specs c a.0 a.1).1.req v q.0 a.2 in (q.0, q.1, h.0, h.1)

    req_at : (c v f : ℕ) → requires s.book.specs c v f ≡ true → held s.tables.facs f ≡ true
    req_at c v f e = unfold requires in
        let q = has_out (required s.book.specs c v) (λ q. q f) e in
        let a = spec_at_lem c v (requires_version s.book.specs c v f e) in
        a.3 f (ap (λ (z : Set). z f) (some-injective _ _ (sym a.1 ∙ q.1)) ∙ q.2)

-- The state after the first n commands of a text, or after all of them, passes the question for 25 with its tables.
pub states_pass : (n : ℕ) (t : Text) → PassesNamed (session_from n 1 fresh t).1
states_pass n t =
    let s = (session_from n 1 fresh t).1 in let r = session_reached n t in
    record { passes = good→passes r.good; named = reached_named s r }

-- In particular the state that a session hands back,
pub session_passes : (t : Text) → PassesNamed (session t).1
unfolding session
session_passes t = states_pass (length t) t

-- and so what `out` writes reads back, whatever text came before it.
pub out_reads_back : (n : ℕ) (t : Text) → Same (session (text_of (session_from n 1 fresh t).1)).1 (session_from n 1 fresh t).1
out_reads_back n t = (reads_back (session_from n 1 fresh t).1 (states_pass n t)).1

-- In every book that a session reaches, each stored version has the parts list that demand 3 asks for.
pub session_parts : (n : ℕ) (t : Text) (c v : ℕ) → has_version (session_from n 1 fresh t).1.book.specs c v ≡ true
    → PartsRight (session_from n 1 fresh t).1.book c v
session_parts n t c v e = passes-parts _ (states_pass n t).passes c v e
