-- UNDEFINED, UNUSED and WHEREUSED: one law for each way out of the functions.
use Rattle.std.specs.Prelude.{Bool, false, true, List, ◌≡◌, refl, ◌<◌, ℕ, get_or}
use Rattle.std.proofs.Math.Bool.{not}
use Rattle.std.proofs.Common.{◌∙◌, arith}
use Rattle.std.proofs.Math.Path.{ap, fun_ext, sym}
use Rattle.book.specs.Plain.{systems_of}
use Rattle.book.specs.ReadLaws.{system_limit, usable_limit}
use Rattle.model.specs.Book.{Book, Modules, Systems, is_defined, is_module, is_system, specified, usable}
use Rattle.model.specs.Lists.{rising}
use Rattle.model.specs.Queries.{undefined, unused, where_used}
use Rattle.model.specs.Questions.{usable_in_none}
use Rattle.query_replies.specs.Found.{undefined_at, unused_at, used, uses_at}
use Rattle.query_replies.specs.Replied.{numbers_in}
use Rattle.book_cycles.specs.Closure.{Rows, via_reaches}
use Rattle.book_rules.specs.RuleLaws.{and_first, and_second}
use Rattle.sets.specs.Sets.{Set, below, bit, union_below}
use Rattle.sets.specs.TestLaws.{<?_in, <?_out, =?-in, =?-not, all_in, all_out, and-false, and-true, any_in, any_out, clash, fails, iff→≡, not_in, not_out, or-false, or_l}
use Rattle.sets.specs.Tests.{◌&◌, ◌=?◌, ◌or◌, ~◌}
use Rattle.model_laws.specs.Heights.{usable_system}
use Rattle.model_laws.specs.RisingLaws.{rising_narrow}

-- ---- the numbers that a loop collected

pub collected : (f : ℕ → Bool) (s : ℕ) → bit s ≡ below 32 f → numbers_in s ≡ rising 32 f
unfolding numbers_in below
collected f s e = rising_narrow 32 64 (bit s) f (omega arith)
    (λ d l. ap (λ (a : Set). a d) e ∙ and-true _ _ (<?_in _ _ l))
    (λ d l. ap (λ (a : Set). a d) e ∙ and-false _ _ (fails _ (λ t. omega (arith, <?_out _ _ t, l))))

-- ---- UNDEFINED

pub undefined_is : (b : Book) → rising 32 (undefined_at b) ≡ undefined b
unfolding undefined undefined_at
undefined_is b = refl

module _ (M : Modules) (Y : Systems) (c : ℕ) {m : Bool} (em : m ≡ is_module M c) where
  pub defined_module : m ≡ true → m ≡ is_defined M Y c
  unfolding is_defined
  defined_module t = t ∙ sym (or_l _ _ (sym em ∙ t))

  pub defined_last : {k : Bool} → m ≡ false → k ≡ is_system Y c → k ≡ is_defined M Y c
  unfolding is_defined
  defined_last t ek = ek ∙ sym (or-false _ _ (sym em ∙ t))

module _ (b : Book) (c : ℕ) {r : Bool} (er : r ≡ specified b.specs c) where
  pub undefined_no : r ≡ false → r ≡ undefined_at b c
  unfolding undefined_at
  undefined_no t = and_first _ _ er t

  pub undefined_last : {k : Bool} → r ≡ true → k ≡ is_defined b.modules b.systems c → not k ≡ undefined_at b c
  unfolding undefined_at ~◌
  undefined_last t ek = and_second _ _ er t (ap not ek)

-- ---- UNUSED

pub used_is : (Y : Systems) (x : ℕ) → bit x ≡ union_below 32 (usable Y) → bit x ≡ used Y
unfolding used union_below
used_is Y x e = e

none_used : (b : Book) (c : ℕ) → usable_in_none b c ≡ (~ used b.systems c)
unfolding usable_in_none used
none_used b c = iff→≡ _ _
    (λ t. not_in _ (fails _ (λ y. (let q = any_out _ _ y in clash q.2 (not_out _ (all_out _ _ t q.0 q.1))))))
    (λ t. all_in _ _ (λ s l. not_in _ (fails _ (λ y. clash (any_in _ _ s l y) (not_out _ t)))))

pub unused_is : (b : Book) → rising 32 (unused_at b) ≡ unused b
unfolding unused unused_at
unused_is b = ap (rising 32) (fun_ext (λ c. ap (λ (x : Bool). is_module b.modules c & x) (sym (none_used b c))))

module _ (b : Book) (c : ℕ) {r : Bool} (er : r ≡ is_module b.modules c) where
  pub unused_no : r ≡ false → r ≡ unused_at b c
  unfolding unused_at
  unused_no t = and_first _ _ er t

  pub unused_last : (x : ℕ) {k : Bool} → r ≡ true → bit x ≡ used b.systems → k ≡ bit x c → not k ≡ unused_at b c
  unfolding unused_at ~◌
  unused_last x {k} t ex ek = and_second _ _ er t (ap not (ek ∙ ap (λ (a : Set). a c) ex))

-- ---- WHEREUSED

pub uses_is : (b : Book) (c : ℕ) → rising 32 (uses_at b.systems c) ≡ where_used b c
unfolding where_used uses_at
uses_is b c = refl

module _ (s n : List ℕ) (c d : ℕ) where
  pub uses_itself : d ≡ c → false ≡ uses_at (systems_of s n) c d
  unfolding uses_at
  uses_itself e = sym (and-false _ _ (fails _ (λ t. clash (=?-in d c e) (not_out _ t))))

  -- row is what d reaches
  pub uses_other : (row : ℕ) (t : List ℕ) {r : Bool} → (d ≡ c → ⊥) → d < 32 → Rows (systems_of s n) 32 t → row ≡ get_or t d 0 → r ≡ bit row c
      → r ≡ uses_at (systems_of s n) c d
  unfolding uses_at
  uses_other row t ne d< rows er e =
      e ∙ ap (λ (x : ℕ). bit x c) er ∙ ap (λ (a : Set). a c) (rows.row d d<)
      ∙ via_reaches (systems_of s n) (λ a b u. (system_limit s n a (usable_system _ a b u), usable_limit s n a b u)) d c
      ∙ sym (and-true _ _ (not_in _ (=?-not d c ne)))
