-- A session on the text of written commands.
use Rattle.std.specs.Prelude.{true, List, [], ◌++◌, ◌∷◌, map, ◌≡◌, refl, ◌≤◌, suc, zero, ℕ, T, length}
use Rattle.std.proofs.Common.{◌∙◌, ap, subst, zero-le, le_trans, arith, length-append}
use Rattle.model.specs.Book.{Book}
use Rattle.model.specs.Commands.{Command, after}
use Rattle.model.specs.PlainBook.{answer}
use Rattle.sets.specs.TestLaws.{if-true}
use Rattle.text.specs.Bytes.{Text, bytes}
use Rattle.text.specs.Language.{Said, command, command_of, names, over}
use Rattle.text.specs.SameByNames.{accepted}
use Rattle.text.specs.Session.{Result, State, add, afterwards, carry, changed, decided, decimal, lines, on_read, row, session_from}
use Rattle.text.specs.Session.{told}
use Rattle.text.specs.Tables.{Table, Tables, entered, fits, joined, mod_names, mod_numbered, spec_names, spec_numbered, sys_names}
use Rattle.text.specs.Tables.{sys_numbered}
use Rattle.text.specs.Written.{line}
use Rattle.text_laws.specs.FourTables.{all_fit, each_fits}
use Rattle.text_laws.specs.Numbered.{Grown, Longer, Numbered, longer_entered, longer_self, longer_trans, mentioned, n_mod}
use Rattle.text_laws.specs.Numbered.{n_spec, n_sys, names_in_lem, same_mod, same_spec, same_sys, std_among}
use Rattle.text_laws.specs.Reading.{lexing}
use Rattle.text_laws.specs.ReadsBack.{Writable, a_mod, a_spec, a_sys, command_linefeed, command_reads}
use contract.Running.{tables}

-- ---- the listing

pub data Runs : State → List Said → State → Type 0 where
  done : {s : State} → Runs s [] s
  step : {s s₁ s₂ : State} {k : Said} {ks : List Said} → Writable k → carry s k ≡ changed s₁ → Runs s₁ ks s₂ → Runs s (k ∷ ks) s₂

session_linefeed : (n i : ℕ) (s : State) (t : Text) → session_from n i s (10 ∷ t) ≡ session_from n i s t
unfolding session_from
session_linefeed zero i s t = refl
session_linefeed (suc n) i s t = ap (on_read _ i s) (command_linefeed t)

command_none : command [] ≡ over
unfolding lexing command command_of
command_none = refl

pub runs_text : {s s₁ : State} {ks : List Said} → Runs s ks s₁ → (n i : ℕ) → length ks ≤ n
    → session_from n i s (joined (map line ks)) ≡ (accepted i (length ks), s₁)
unfolding session_from joined accepted on_read lines afterwards
runs_text done zero i h = refl
runs_text {s} done (suc n) i h = ap (on_read (λ s' rest. session_from n (suc i) s' rest) i s) command_none
runs_text (step w e r) zero i h = absurd (omega arith)
runs_text (step {s} {s₁} {s₂} {k} {ks} w e r) (suc n) i h =
    ap (on_read (λ s' rest. session_from n (suc i) s' rest) i s) (command_reads k (joined (map line ks)) w)
    ∙ ap (λ (x : Result). (
      lines i x ++ (session_from n (suc i) (afterwards s x) (10 ∷ joined (map line ks))).0,
      (session_from n (suc i) (afterwards s x) (10 ∷ joined (map line ks))).1,
    )) e
    ∙ ap (λ (x : Text × State). (row i (decimal 0) ++ x.0, x.1)) (session_linefeed n (suc i) s₁ (joined (map line ks))
    ∙ runs_text r n (suc i) (omega arith))

-- ---- one command, with the numbers of the tables that are reached in the end

length_longer : (t T : Table) → Grown t T → length t ≤ length T
length_longer t T l = let b = ap length l.is ∙ length-append t l.more in omega arith

fits_longer : (t T : Tables) → Longer t T → fits T ≡ true → fits t ≡ true
fits_longer t T l h = all_fit t (λ k. le_trans (length_longer _ _ (l k)) (each_fits T h k))

pub reached_by : State → Command → Tables → State
reached_by s K t = record { book = after s.book K; tables = t }

adds : (s : State) (names T : Tables) (f : Tables → Command) (K : Command) → Longer (entered s.tables names) T → fits T ≡ true
    → f (entered s.tables names) ≡ K → answer s.book K ≡ 0
    → add s names f ≡ changed (reached_by s K (entered s.tables names))
unfolding add told decided reached_by
adds s names T f K l h e a =
    if-true _ _ _ (fits_longer _ T l h)
    ∙ ap (told s.book (entered s.tables names)) e
    ∙ ap (λ (n : ℕ). decided n (record { book = after s.book K; tables = entered s.tables names })) a

-- a written command, with its numbers in the tables T that are reached in the end, is carried out if the book accepts it
pub carries : (s : State) (T : Tables) (k : Said) (K : Command) → Writable k → Numbered T k K
    → Longer (entered s.tables (mentioned k)) T → fits T ≡ true → answer s.book K ≡ 0
    → carry s k ≡ changed (reached_by s K (entered s.tables (mentioned k)))
unfolding carry mentioned entered spec_names mod_names sys_names
carries s T k K (a_spec {c} {ps} {vs} {s = d} oc op ov e o) n_spec l h a =
    adds s (spec_names c ps vs) T (λ t. spec_numbered t c ps vs d) _ l h
    (same_spec _ T c ps vs d l (names_in_lem _ _) (names_in_lem _ _) (names_in_lem _ _) (std_among d vs o)) a
carries s T k K (a_mod {c} {is} oc o e) n_mod l h a =
    adds s (mod_names c is) T (λ t. mod_numbered t c is) _ l h (same_mod _ T c is l (names_in_lem _ _) (names_in_lem _ _) (names_in_lem _ _)) a
carries s T k K (a_sys {c} {us} {ks} oc ou eu o e) n_sys l h a =
    adds s (sys_names c us ks) T (λ t. sys_numbered t c us ks) _ l h (same_sys _ T c us ks l (names_in_lem _ _) (names_in_lem _ _)) a

-- ---- a list of commands

unfoldable pub all_entered : Tables → List Said → Tables
all_entered t [] = t
all_entered t (k ∷ ks) = all_entered (entered t (mentioned k)) ks

pub all_longer : (t : Tables) (ks : List Said) → Longer t (all_entered t ks)
unfolding all_entered
all_longer t [] = longer_self t
all_longer t (k ∷ ks) = longer_trans _ _ _ (longer_entered t (mentioned k)) (all_longer (entered t (mentioned k)) ks)

-- commands that the book accepts one after the other, with their numbers in T
pub data Accepts (T : Tables) : Book → List Said → Book → Type 0 where
  stop : {b : Book} → Accepts T b [] b
  go : {b b₁ : Book} {k : Said} {ks : List Said} (K : Command) → Writable k → Numbered T k K → answer b K ≡ 0
      → Accepts T (after b K) ks b₁ → Accepts T b (k ∷ ks) b₁

pub accepts_append : {T : Tables} {b b₁ b₂ : Book} {ks ls : List Said} → Accepts T b ks b₁ → Accepts T b₁ ls b₂
    → Accepts T b (ks ++ ls) b₂
accepts_append stop q = q
accepts_append (go K w n a p) q = go K w n a (accepts_append p q)

pub accepts_runs : (T : Tables) → fits T ≡ true → {b b₁ : Book} {ks : List Said} → Accepts T b ks b₁ → (t : Tables)
    → all_entered t ks ≡ T → Runs (record { book = b; tables = t }) ks (record { book = b₁; tables = T })
unfolding all_entered reached_by
accepts_runs T h {b} stop t e = subst (λ (z : Tables). Runs (record { book = b; tables = t }) []
    (record { book = b; tables = z })) e done
accepts_runs T h (go {k = k} {ks = ks} K w n a p) t e =
    step w (carries (record { book = _; tables = t }) T k K w n
    (subst (Longer (entered t (mentioned k))) e (all_longer (entered t (mentioned k)) ks)) h a)
    (accepts_runs T h p (entered t (mentioned k)) e)

-- ---- a text has no fewer bytes than commands

line_some : (k : Said) → Writable k → 1 ≤ length (line k)
unfolding line bytes
line_some k (a_spec oc op ov e o) = omega arith
line_some k (a_mod oc o e) = omega arith
line_some k (a_sys oc ou eu o e) = omega arith

pub runs_length : {s s₁ : State} {ks : List Said} → Runs s ks s₁ → length ks ≤ length (joined (map line ks))
unfolding joined
runs_length done = zero-le
runs_length (step {k = k} {ks = ks} w e r) =
    let i = runs_length r in let a = line_some k w in let l = length-append (line k) (joined (map line ks)) in omega arith
