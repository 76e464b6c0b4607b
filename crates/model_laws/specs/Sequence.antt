-- Demand 3 of the plain book: the empty book passes the question for 25, each of the ten commands keeps that, and so does every
-- sequence, refused commands among them. And whatever answers each call as the plain book does, answers every sequence so.
use Rattle.std.specs.Prelude.{true, ◌≡◌, suc, zero, ℕ}
use mathlib.Core.List.{List, [], ◌∷◌, map}
use Rattle.std.proofs.Common.{◌∙◌, subst, sym, zero-le}
use Rattle.std.proofs.Math.Path.{ap, ap₂, refl}
use Rattle.model.specs.Book.{Book, composed, composition, empty, has_version, implementation, is_module, is_system, member, provides}
use Rattle.model.specs.Book.{required, requires, specified, usable}
use Rattle.model.specs.Commands.{Command, after}
use Rattle.model.specs.Limits.{Passes}
use Rattle.model.specs.Maps.{and_then, has, is_some}
use Rattle.model.specs.PlainBook.{answer, answers, next, reached}
use Rattle.model.specs.Rules.{B3, B4, B5, B6, B7, B8, B9, p, r}
use Rattle.sets.specs.TestLaws.{clash, count_none}
use Rattle.model_laws.specs.Frame.{composition_in, system_in}
use Rattle.model_laws.specs.Good.{Good, good→passes, passes→good}
use Rattle.model_laws.specs.Keep.{accepted}
use Rattle.model_laws.specs.MapLaws.{no_some}
use Rattle.model_laws.specs.Notions.{Run, called, ended}
use Rattle.model_laws.specs.PartsRight.{PartsRight, parts_right}

-- ---- the empty book

empty_good : Good empty
unfolding specified provides required has_version requires is_module implementation is_system usable composition composed member is_some has
    and_then B3 B4 B5 B6 B7 B8 B9
empty_good = record {
  spec_limits = record {
    component< = λ c t. clash t refl;
    provided< = λ c f t. clash t refl;
    version< = λ c v t. clash t refl;
    required< = λ c v f t. clash t refl;
  };
  module_limits = record { component< = λ c t. clash t refl; implementation< = λ c v i e. no_some e };
  system_limits = record {
    component< = λ s t. clash t refl;
    usable< = λ s c t. clash t refl;
    version< = λ s v t. clash t refl;
    member< = λ s v c w e. no_some e;
  };
  b1 = record { apart = λ c v f t. clash t refl; std_in = λ c t. clash t refl; few = λ c. rw count_none zero-le };
  b2 = record {
    mod_spec = λ c t. clash t refl;
    mod_sys = λ c t. clash t refl;
    mod_covers = λ c v t. clash t refl;
    sys_spec = λ s t. clash t refl;
    use_spec = λ s c t. clash t refl;
    sys_covers = λ s v t. clash t refl;
    sys_bare = λ s v f t. clash t refl;
  };
  b3 = system_in _ _ (λ s t. clash t refl);
  b4 = system_in _ _ (λ s t. clash t refl);
  b5 = composition_in _ _ (λ s v t. clash t refl);
  b6 = composition_in _ _ (λ s v t. clash t refl);
  b7 = composition_in _ _ (λ s v t. clash t refl);
  b8 = composition_in _ _ (λ s v t. clash t refl);
  b9 = composition_in _ _ (λ s v t. clash t refl);
}

pub empty-passes : Passes empty
empty-passes = good→passes empty_good

-- ---- commands, accepted and refused

pub next_good : (b : Book) (k : Command) → Good b → Good (next b k)
unfolding next
next_good b k g = go (answer b k) refl
  where
    go : (n : ℕ) → answer b k ≡ n → Good (elim n [ zero ↦ after b k | suc m ↦ b ])
    go zero e = accepted b k g e
    go (suc m) e = g

-- Each of the ten commands keeps the limits and B1 to B9.
pub next_passes : (b : Book) (k : Command) → Passes b → Passes (next b k)
next_passes b k p = good→passes (next_good b k (passes→good p))

pub reached_passes : (b : Book) (ks : List Command) → Passes b → Passes (reached b ks)
unfolding reached
reached_passes b [] p = p
reached_passes b (k ∷ ks) p = reached_passes (next b k) ks (next_passes b k p)

-- Whatever the commands, the plain book passes.
pub always-passes : (ks : List Command) → Passes (reached empty ks)
always-passes ks = reached_passes empty ks empty-passes

-- In every book that passes, each stored version has the parts list that demand 3 asks for.
pub passes-parts : (b : Book) → Passes b → (c v : ℕ) → has_version b.specs c v ≡ true → PartsRight b c v
passes-parts b p c v t = parts_right b (passes→good p) c v t

-- ---- an implementation

-- R: what an implementation holds, and the book that this means. Q: its calls, and the command that each stands for. `Call r q n r'`:
-- the call q on r answers n and leaves r'. `Ok`: what its calls ask of r, and keep. A call answers as the plain book does.
module _ (R Q : Type 0) (Call : R → Q → ℕ → R → Type 0) (means : R → Book) (command : Q → Command) (Ok : R → Type 0)
    (right : (r : R) (q : Q) (n : ℕ) (r' : R) → Ok r → Call r q n r'
    → (n ≡ answer (means r) (command q)) × (means r' ≡ next (means r) (command q)) × Ok r') where
  pub run_right : {r r' : R} {qs : List Q} {ns : List ℕ} → Run R Q Call r qs ns r' → Ok r
      → (ns ≡ answers (means r) (map command qs)) × (means r' ≡ reached (means r) (map command qs)) × Ok r'
  unfolding answers reached
  run_right ended o = (refl, refl, o)
  run_right (called {q = q} {qs = qs} c rest) o =
      let first = right _ q _ _ o c in
      let then = run_right rest first.2 in (
        ap₂ (λ (x : ℕ) (y : List ℕ). x ∷ y) first.0 (then.0 ∙ ap (λ (b : Book). answers b (map command qs)) first.1),
        then.1 ∙ ap (λ (b : Book). reached b (map command qs)) first.1,
        then.2,
      )

  -- From the empty book: the answers, the book at the end, B1 to B9 in it, and the parts list of each stored version.
  pub from_empty : {r r' : R} {qs : List Q} {ns : List ℕ} → Run R Q Call r qs ns r' → Ok r → means r ≡ empty
      → (ns ≡ answers empty (map command qs)) × (means r' ≡ reached empty (map command qs)) × Passes (means r')
      × ((c v : ℕ) → has_version (means r').specs c v ≡ true → PartsRight (means r') c v)
  from_empty {r} {r'} {qs} {ns} calls o e =
      let z = run_right calls o in
      let book : means r' ≡ reached empty (map command qs) = z.1 ∙ ap (λ (b : Book). reached b (map command qs)) e in
      let passes : Passes (means r') = subst Passes (sym book) (always-passes (map command qs)) in
      (z.0 ∙ ap (λ (b : Book). answers b (map command qs)) e, book, passes, passes-parts (means r') passes)

-- The plain book itself is such an implementation, so what is asked of one can be met.
pub plain_run : (b : Book) (ks : List Command)
    → Run Book Command (λ b k n b'. (n ≡ answer b k) × (b' ≡ next b k)) b ks (answers b ks) (reached b ks)
unfolding answers reached
plain_run b [] = ended
plain_run b (k ∷ ks) = called (refl, refl) (plain_run (next b k) ks)
