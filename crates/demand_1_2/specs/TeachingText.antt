-- "K is the book above" (document 01, "The teaching book"): the book that the example's text reaches is K of `model`'s table. The numbers
-- there are those that the names get "in order of mention".
use Rattle.std.specs.Prelude.{Bool, true, List, [], ◌∷◌, ◌≡◌, suc, zero, ℕ, drop, get_or}
use Rattle.std.proofs.Math.Option.{Option, none, some}
use Rattle.std.proofs.Common.{◌∙◌, ap, ap₂, sym}
use Rattle.std.proofs.Math.Path.{refl}
use Rattle.model.specs.Book.{Book, empty}
use Rattle.model.specs.Commands.{Command, DEL-SPEC, after}
use Rattle.model.specs.PlainBook.{answer, next, reached}
use Rattle.model.specs.Queries.{Query, Reply, reply, the_components, the_facilities, the_pairs, the_parts, the_version}
use Rattle.model.specs.Teaching.{K, input, tank, va}
use Rattle.sets.specs.TestLaws.{if-true}
use Rattle.text.specs.Bytes.{Text, bytes}
use Rattle.text.specs.Example.{all_of_text, example_input}
use Rattle.text.specs.Language.{Name, OUT, PARTS, Read, SPEC, SYS, Said, command, over, said, wrong}
use Rattle.text.specs.Session.{Result, State, add, afterwards, asked, carry, decided, for_pair, fresh, of_version, on_read, session}
use Rattle.text.specs.Session.{session_from, shown, told}
use Rattle.text.specs.Tables.{Tables, entered, fits, joined, mod_numbered, no_names, place, spec_numbered, sys_numbered}
use Rattle.text_laws.specs.Numbered.{Numbered, mentioned, n_mod, n_spec, n_sys}
use Rattle.model.specs.Queries as queries

-- ---- one command of a session

-- a command is read, and the state after it is s'
goes_on : (n i : ℕ) (s s' : State) (t rest : Text) (k : Said) → command t ≡ said k rest → afterwards s (carry s k) ≡ s'
    → (session_from (suc n) i s t).1 ≡ (session_from n (suc i) s' rest).1
unfolding session_from on_read
goes_on n i s s' t rest k e a =
    ap (λ (r : Read). (on_read (λ s' rest. session_from n (suc i) s' rest) i s r).1) e
    ∙ ap (λ (x : State). (session_from n (suc i) x rest).1) a

ends : (n i : ℕ) (s : State) (t : Text) → command t ≡ over → (session_from (suc n) i s t).1 ≡ s
unfolding session_from on_read
ends n i s t e = ap (λ (r : Read). (on_read (λ s' rest. session_from n (suc i) s' rest) i s r).1) e

-- an adding command that is accepted
adds : (s : State) (names : Tables) (f : Tables → Command) (k : Command) → fits (entered s.tables names) ≡ true
    → f (entered s.tables names) ≡ k → answer s.book k ≡ 0
    → afterwards s (add s names f) ≡ record { book = after s.book k; tables = entered s.tables names }
unfolding add told decided afterwards
adds s names f k h e a = ap (afterwards s) (if-true _ _ _ h
    ∙ ap (told s.book (entered s.tables names)) e
    ∙ ap (λ (n : ℕ). decided n (record { book = after s.book k; tables = entered s.tables names })) a)

-- a command that is accepted, in the plain book
reached_on : (b : Book) (k : Command) (ks : List Command) → answer b k ≡ 0 → reached b (k ∷ ks) ≡ reached (after b k) ks
unfolding reached next
reached_on b k ks a = ap (λ (n : ℕ). reached (elim n [ zero ↦ after b k | suc m ↦ b ]) ks) a

-- ---- queries leave the state as it is

asked_stays : (s : State) (q : Query) → afterwards s (asked s q) ≡ s
unfolding asked
asked_stays s q = go (reply s.book q)
  where
    go : (a : Reply) → afterwards s (shown s.tables a) ≡ s
    go (queries.refused n) = unfold shown afterwards in refl
    go (the_facilities fs) = unfold shown afterwards in refl
    go (the_components cs) = unfold shown afterwards in refl
    go (the_version v) = unfold shown afterwards in refl
    go (the_pairs ps) = unfold shown afterwards in refl
    go (the_parts ps d) = unfold shown afterwards in refl

pair_stays : (s : State) (c v : ℕ) (o p : Option ℕ) (n : ℕ) (there : ℕ → Bool) (f : ℕ → ℕ → Result) → o ≡ some c → p ≡ some v
    → afterwards s (f c v) ≡ s → afterwards s (for_pair n there o p f) ≡ s
unfolding for_pair
pair_stays s c v o p n there f e g h = ap₂ (λ (x y : Option ℕ). afterwards s (for_pair n there x y f)) e g ∙ h

parts_stays : (s : State) (c v : Name) (m w : ℕ) → place s.tables.comps c ≡ some m → place s.tables.vers v ≡ some w
    → afterwards s (carry s (PARTS c v)) ≡ s
unfolding carry of_version
parts_stays s c v m w e g = pair_stays s m w _ _ _ _ _ e g (asked_stays s (queries.PARTS m w))

out_stays : (s : State) → afterwards s (carry s OUT) ≡ s
unfolding carry afterwards
out_stays s = refl

-- ---- the example

abbrev st : Book → Tables → State
st b t = record { book = b; tables = t }

-- an adding command with its numbers, which the book accepts
step : (b : Book) (t : Tables) (x : Said) (k : Command) → Numbered (entered t (mentioned x)) x k
    → fits (entered t (mentioned x)) ≡ true → answer b k ≡ 0
    → afterwards (st b t) (carry (st b t) x) ≡ st (after b k) (entered t (mentioned x))
unfolding carry mentioned
step b t x k (n_spec {c} {ps} {vs} {s}) h a = adds (st b t) _ (λ t. spec_numbered t c ps vs s) _ h refl a
step b t x k (n_mod {c} {is}) h a = adds (st b t) _ (λ t. mod_numbered t c is) _ h refl a
step b t x k (n_sys {c} {us} {ks}) h a = adds (st b t) _ (λ t. sys_numbered t c us ks) _ h refl a

-- the example's commands by names
abbrev saids : List Said
saids =
    SPEC (bytes "probe") (bytes "temp" ∷ []) ((bytes "one", []) ∷ []) (bytes "one") ∷
    SPEC (bytes "valve") (bytes "cool" ∷ []) ((bytes "v2", bytes "temp" ∷ []) ∷ []) (bytes "v2") ∷
    SPEC (bytes "loop") (bytes "hold" ∷ []) ((bytes "p", bytes "temp" ∷ bytes "cool" ∷ []) ∷ []) (bytes "p") ∷
    SPEC (bytes "tank") (bytes "hold" ∷ []) ((bytes "a", []) ∷ []) (bytes "a") ∷
    SYS (bytes "tank") (bytes "loop" ∷ bytes "probe" ∷ bytes "valve" ∷ [])
    ((bytes "a", (bytes "loop", none) ∷ (bytes "probe", none) ∷ (bytes "valve", none) ∷ []) ∷ []) ∷
    PARTS (bytes "tank") (bytes "a") ∷
    OUT ∷ []

abbrev said_at : ℕ → Said
said_at n = get_or saids n OUT

-- and by numbers: those of `model`'s table
abbrev told_at : ℕ → Command
told_at n = get_or input n (DEL-SPEC 0)

-- what is left of the text, the book and the tables after n commands
abbrev left : Read → Text
left (said k t) = t
left over = []
left wrong = []

abbrev text_after : ℕ → Text
text_after zero = example_input
text_after (suc n) = left (command (text_after n))

abbrev book_after : ℕ → Book
book_after zero = empty
book_after (suc n) = after (book_after n) (told_at n)

abbrev tables_after : ℕ → Tables
tables_after zero = no_names
tables_after (suc n) = entered (tables_after n) (mentioned (said_at n))

-- the command n is read,
abbrev Reads : ℕ → Type 0
Reads n = command (text_after n) ≡ said (said_at n) (text_after (suc n))

reads_0 : Reads 0
unfolding all_of_text
reads_0 = refl

reads_1 : Reads 1
unfolding all_of_text
reads_1 = refl

reads_2 : Reads 2
unfolding all_of_text
reads_2 = refl

reads_3 : Reads 3
unfolding all_of_text
reads_3 = refl

reads_4 : Reads 4
unfolding all_of_text
reads_4 = refl

reads_5 : Reads 5
unfolding all_of_text
reads_5 = refl

reads_6 : Reads 6
unfolding all_of_text
reads_6 = refl

-- has its numbers, has places for its names, and is accepted
record Adds (n : ℕ) : Type 0 where
  numbered : Numbered (tables_after (suc n)) (said_at n) (told_at n)
  placed : fits (tables_after (suc n)) ≡ true
  accepted : answer (book_after n) (told_at n) ≡ 0

adds_0 : Adds 0
unfolding all_of_text mentioned
adds_0 = record { numbered = n_spec; placed = refl; accepted = refl }

adds_1 : Adds 1
unfolding all_of_text mentioned
adds_1 = record { numbered = n_spec; placed = refl; accepted = refl }

adds_2 : Adds 2
unfolding all_of_text mentioned
adds_2 = record { numbered = n_spec; placed = refl; accepted = refl }

adds_3 : Adds 3
unfolding all_of_text mentioned
adds_3 = record { numbered = n_spec; placed = refl; accepted = refl }

adds_4 : Adds 4
unfolding all_of_text mentioned
adds_4 = record { numbered = n_sys; placed = refl; accepted = refl }

stepped : (n : ℕ) → Adds n
    → afterwards (st (book_after n) (tables_after n)) (carry (st (book_after n) (tables_after n)) (said_at n))
    ≡ st (book_after (suc n)) (tables_after (suc n))
stepped n a = step (book_after n) (tables_after n) (said_at n) (told_at n) a.numbered a.placed a.accepted

reads_end : command (text_after 7) ≡ over
unfolding all_of_text
reads_end = refl

-- the state after the five adding commands
abbrev end : State
end = st (book_after 5) (tables_after 5)

parts-asked : afterwards end (carry end (said_at 5)) ≡ end
parts-asked = parts_stays end (bytes "tank") (bytes "a") tank va placed_tank placed_a
  where
    placed_tank : place (tables_after 5).comps (bytes "tank") ≡ some tank
    placed_tank = unfold all_of_text mentioned in refl

    placed_a : place (tables_after 5).vers (bytes "a") ≡ some va
    placed_a = unfold all_of_text mentioned in refl

run_example : (n : ℕ) → (session_from (suc (suc (suc (suc (suc (suc (suc (suc n)))))))) 1 fresh example_input).1 ≡ end
run_example n =
    goes_on _ 1 fresh _ _ _ _ reads_0 (stepped 0 adds_0)
    ∙ goes_on _ 2 _ _ _ _ _ reads_1 (stepped 1 adds_1)
    ∙ goes_on _ 3 _ _ _ _ _ reads_2 (stepped 2 adds_2)
    ∙ goes_on _ 4 _ _ _ _ _ reads_3 (stepped 3 adds_3)
    ∙ goes_on _ 5 _ _ _ _ _ reads_4 (stepped 4 adds_4)
    ∙ goes_on _ 6 end end _ _ _ reads_5 parts-asked
    ∙ goes_on _ 7 end end _ _ _ reads_6 (out_stays end)
    ∙ ends n 8 end _ reads_end

K_reached : K ≡ book_after 5
unfolding reached
K_reached =
    reached_on _ _ (drop 1 input) adds_0.accepted
    ∙ reached_on _ _ (drop 2 input) adds_1.accepted
    ∙ reached_on _ _ (drop 3 input) adds_2.accepted
    ∙ reached_on _ _ (drop 4 input) adds_3.accepted
    ∙ reached_on _ _ [] adds_4.accepted

-- "K is the book above"
pub K_by_text : (session example_input).1.book ≡ K
unfolding session bytes joined
K_by_text = ap (λ (s : State). s.book) (run_example 248) ∙ sym K_reached
