-- Demand 1: "A refused command gives one number from document 01": which one in a session. Demand 2: it is that of the plain book's first no.
use Rattle.std.specs.Prelude.{Bool, true, List, [], ◌∷◌, ◌⊎◌, ◌≡◌}
use Rattle.std.proofs.Common.{inl, inr, subst, sym, arith}
use Rattle.std.proofs.Math.Option.{Option, none, some}
use Rattle.std.proofs.Math.Path.{refl}
use Prim.Native.Nat.{suc, zero, ℕ}
use Rattle.model.specs.Book.{Book}
use Rattle.model.specs.Commands.{Command, DEL-MOD, DEL-MODVAR, DEL-SPEC, DEL-SYS, DEL-SYSVAR, after}
use Rattle.model.specs.Lists.{elem, every, non_empty}
use Rattle.model.specs.PlainBook.{answer}
use Rattle.model.specs.Queries as queries
use Rattle.model.specs.Queries.{Query, Reply, asked, found, reply}
use Rattle.model.specs.Questions.{Question, first_no, in_limits, questions}
use Rattle.sets.specs.TestLaws.{and_in, and_l, and_r, if-true}
use Rattle.sets.specs.Tests.{◌&◌, ◌=?◌, ◌or◌}
use Rattle.text.specs.Language.{CHOICE, DELMOD, DELMODVAR, DELSPEC, DELSYS, DELSYSVAR, MOD, MODVAR, NEEDS, Name, NamedMembers, OUT, PARTS}
use Rattle.text.specs.Language.{SPEC, STANDARD, SUPPLIES, SYS, SYSVAR, Said, UNDEFINED, UNUSED, WHEREUSED}
use Rattle.text.specs.SameByNames.{text_of}
use Rattle.text.specs.Session as texts
use Rattle.text.specs.Session.{Result, State, add, carry, changed, decided, decimal, for_component, for_pair, lines, of_component, of_version}
use Rattle.text.specs.Session.{refused, row, rows, shown, text, told}
use Rattle.text.specs.Tables.{Tables, entered, fits, mod_names, mod_numbered, modvar_names, modvar_numbered, numbered_members, numbers, place}
use Rattle.text.specs.Tables.{spec_names, spec_numbered, sys_names, sys_numbered, sysvar_names, sysvar_numbered}
use Rattle.text_laws.specs.TextLaws.{by_test}
use Rattle.demand_1_2.specs.LimitLaws.{component_below, facilities_below, mod_limits, modvar_limits, pair_below, seconds-some, spec_limits_lem}
use Rattle.demand_1_2.specs.LimitLaws.{standard-elem, sys_limits, sysvar_limits}
use Rattle.demand_1_2.specs.Listing.{refusals}
use Rattle.demand_1_2.specs.WholeLaws.{some_mapped, whole}

-- ---- the first no

-- each question is known to get a yes, or its number is one of the refusals
data Among : List Question → Type 0 where
  no_question : Among []
  a_yes : {q : Question} {qs : List Question} → q.1 ≡ true → Among qs → Among (q ∷ qs)
  a_refusal : {q : Question} {qs : List Question} → elem q.0 refusals ≡ true → Among qs → Among (q ∷ qs)

all-refusals : (qs : List Question) → every (λ q. elem q.0 refusals) qs ≡ true → Among qs
unfolding every
all-refusals [] e = no_question
all-refusals (q ∷ qs) e = a_refusal (and_l _ _ e) (all-refusals qs (and_r _ _ e))

first_among : {qs : List Question} → Among qs → (first_no qs ≡ 0) ⊎ (elem (first_no qs) refusals ≡ true)
unfolding first_no
first_among no_question = inl refl
first_among (a_yes y h) = subst (λ (n : ℕ). (n ≡ 0) ⊎ (elem n refusals ≡ true)) (sym (if-true _ _ _ y)) (first_among h)
first_among (a_refusal {q} e h) = by_test (λ n. (n ≡ 0) ⊎ (elem n refusals ≡ true)) q.1 _ _ (λ y. first_among h) (inr e)

-- ---- the adding commands, by the numbers of the tables with their names

module _ (b : Book) (t : Tables) where
  spec_among : (c : Name) (ps : List Name) (vs : List (Name × List Name)) (d : Name) → whole (SPEC c ps vs d) ≡ true
      → fits (entered t (spec_names c ps vs)) ≡ true → Among (questions b (spec_numbered (entered t (spec_names c ps vs)) c ps vs d))
  unfolding questions spec_numbered whole elem refusals ◌=?◌ ◌or◌
  spec_among c ps vs d w f =
      a_yes (spec_limits_lem t c ps vs d f (and_r (non_empty vs) _ w)) (a_yes (some_mapped _ vs (and_l _ _ w))
      (a_refusal refl (a_refusal refl (a_refusal refl (a_refusal refl (a_yes (standard-elem _ _ d vs (and_r (non_empty vs) _ w)) no_question))))))

  mod_among : (c : Name) (is : List (Name × Name)) → whole (MOD c is) ≡ true → fits (entered t (mod_names c is)) ≡ true
      → Among (questions b (mod_numbered (entered t (mod_names c is)) c is))
  unfolding questions mod_numbered whole every elem refusals ◌&◌ ◌=?◌ ◌or◌
  mod_among c is w f = a_yes (mod_limits t c is f) (a_yes (some_mapped _ is w) (all-refusals _ refl))

  sys_among : (c : Name) (us : List Name) (ks : List (Name × NamedMembers)) → whole (SYS c us ks) ≡ true
      → fits (entered t (sys_names c us ks)) ≡ true → Among (questions b (sys_numbered (entered t (sys_names c us ks)) c us ks))
  unfolding questions sys_numbered numbered_members whole every elem refusals ◌&◌ ◌=?◌ ◌or◌
  sys_among c us ks w f =
      a_yes (sys_limits t c us ks f) (a_yes (and_in _ _ (some_mapped _ ks (and_l _ _ w)) (seconds-some _ _ ks (and_r (non_empty ks) _ w)))
      (all-refusals _ refl))

  modvar_among : (c v : Name) (rs : List Name) (i : Name) → fits (entered t (modvar_names c v rs i)) ≡ true
      → Among (questions b (modvar_numbered (entered t (modvar_names c v rs i)) c v rs i))
  unfolding questions modvar_numbered every elem refusals ◌&◌ ◌=?◌ ◌or◌
  modvar_among c v rs i f = a_yes (modvar_limits t c v rs i f) (all-refusals _ refl)

  sysvar_among : (c v : Name) (ms : NamedMembers) → whole (SYSVAR c v ms) ≡ true → fits (entered t (sysvar_names c v ms)) ≡ true
      → Among (questions b (sysvar_numbered (entered t (sysvar_names c v ms)) c v ms))
  unfolding questions sysvar_numbered numbered_members whole every elem refusals ◌&◌ ◌=?◌ ◌or◌
  sysvar_among c v ms w f = a_yes (sysvar_limits t c v ms f) (a_yes (some_mapped _ ms w) (all-refusals _ refl))

-- ---- what may come of the command k in the state s

abbrev pub May : State → Said → Result → Type 0
May s k (refused n) = elem n refusals ≡ true
May s k (changed s') = Unit {0}
May s k (rows rs) = Unit {0}
May s k (text w) = (k ≡ OUT) × (w ≡ text_of s)

module _ (s : State) (k : Said) where
  decided_may : (n : ℕ) (s' : State) → (n ≡ 0) ⊎ (elem n refusals ≡ true) → May s k (decided n s')
  unfolding decided
  decided_may zero s' h = tt
  decided_may (suc n) s' (inl e) = absurd (omega arith)
  decided_may (suc n) s' (inr e) = e

  told_may : (b : Book) (t : Tables) (c : Command) → Among (questions b c) → May s k (told b t c)
  unfolding told answer
  told_may b t c h = decided_may _ _ (first_among h)

  add_may : (m : Tables) (f : Tables → Command)
      → (fits (entered s.tables m) ≡ true → Among (questions s.book (f (entered s.tables m)))) → May s k (add s m f)
  unfolding add
  add_may m f h = by_test (May s k) (fits (entered s.tables m)) _ _ (λ e. told_may _ _ _ (h e))
      (unfold elem refusals ◌=?◌ ◌or◌ in refl)

  one_may : (n : ℕ) (c : Name) (f : ℕ → Result) → elem n refusals ≡ true
      → ((d : ℕ) → place s.tables.comps c ≡ some d → May s k (f d)) → May s k (of_component s n c f)
  unfolding of_component
  one_may n c f e h = go (place s.tables.comps c) refl
    where
      go : (o : Option ℕ) → place s.tables.comps c ≡ o → May s k (for_component n o f)
      go none q = unfold for_component in e
      go (some d) q = unfold for_component in h d q

  pair_may : (n : ℕ) (there : ℕ → Bool) (c v : Name) (f : ℕ → ℕ → Result) → elem n refusals ≡ true
      → ((d w : ℕ) → place s.tables.comps c ≡ some d → place s.tables.vers v ≡ some w → May s k (f d w))
      → May s k (of_version s n there c v f)
  unfolding of_version
  pair_may n there c v f e h = go (place s.tables.comps c) (place s.tables.vers v) refl refl
    where
      go : (o p : Option ℕ) → place s.tables.comps c ≡ o → place s.tables.vers v ≡ p → May s k (for_pair n there o p f)
      go none p q r = unfold for_pair in e
      go (some d) none q r = unfold for_pair in
          by_test (May s k) (there d) (refused 10) (refused n) (λ y. unfold elem refusals ◌=?◌ ◌or◌ in refl) e
      go (some d) (some w) q r = unfold for_pair in h d w q r

  asked_may : (q : Query) → Among (asked s.book q) → May s k (texts.asked s q)
  unfolding texts.asked reply
  asked_may q h = by (first_no (asked s.book q)) (first_among h)
    where
      show : (b : Book) (q : Query) → May s k (shown s.tables (found b q))
      show b (queries.SUPPLIES c) = unfold found shown in tt
      show b (queries.STANDARD c) = unfold found shown in tt
      show b (queries.WHEREUSED c) = unfold found shown in tt
      show b (queries.NEEDS c v) = unfold found shown in tt
      show b (queries.PARTS c v) = unfold found shown in tt
      show b (queries.CHOICE fs) = unfold found shown in tt
      show b queries.UNDEFINED = unfold found shown in tt
      show b queries.UNUSED = unfold found shown in tt

      by : (n : ℕ) → (n ≡ 0) ⊎ (elem n refusals ≡ true)
          → May s k (shown s.tables (elim n as (λ n. Reply) [ zero ↦ found s.book q | suc n ↦ queries.refused (suc n) ]))
      by zero h = show s.book q
      by (suc n) (inl e) = absurd (omega arith)
      by (suc n) (inr e) = unfold shown in e

-- a command that was read, in a state whose tables hold no more names than they have places
pub carry_may : (s : State) (k : Said) → fits s.tables ≡ true → whole k ≡ true → May s k (carry s k)
unfolding carry questions asked in_limits every elem refusals ◌&◌ ◌=?◌ ◌or◌
carry_may s (SPEC c ps vs d) f w = add_may s _ _ _ (spec_among s.book s.tables c ps vs d w)
carry_may s (MOD c is) f w = add_may s _ _ _ (mod_among s.book s.tables c is w)
carry_may s (SYS c us ks) f w = add_may s _ _ _ (sys_among s.book s.tables c us ks w)
carry_may s (MODVAR c v rs i) f w = add_may s _ _ _ (modvar_among s.book s.tables c v rs i)
carry_may s (SYSVAR c v ms) f w = add_may s _ _ _ (sysvar_among s.book s.tables c v ms w)
carry_may s (DELSPEC c) f w = one_may s _ 4 c _ refl
    (λ d e. told_may s _ _ _ (DEL-SPEC d) (a_yes (component_below s.tables f c d e) (all-refusals _ refl)))
carry_may s (DELMOD c) f w = one_may s _ 6 c _ refl
    (λ d e. told_may s _ _ _ (DEL-MOD d) (a_yes (component_below s.tables f c d e) (all-refusals _ refl)))
carry_may s (DELSYS c) f w = one_may s _ 7 c _ refl
    (λ d e. told_may s _ _ _ (DEL-SYS d) (a_yes (component_below s.tables f c d e) (all-refusals _ refl)))
carry_may s (DELMODVAR c v) f w = pair_may s _ 6 _ c v _ refl
    (λ d x e q. told_may s _ _ _ (DEL-MODVAR d x)
    (a_yes (pair_below s.tables f c v d x e q) (all-refusals _ refl)))
carry_may s (DELSYSVAR c v) f w = pair_may s _ 7 _ c v _ refl
    (λ d x e q. told_may s _ _ _ (DEL-SYSVAR d x)
    (a_yes (pair_below s.tables f c v d x e q) (all-refusals _ refl)))
carry_may s (SUPPLIES c) f w = one_may s _ 4 c _ refl
    (λ d e. asked_may s _ (queries.SUPPLIES d) (a_yes (component_below s.tables f c d e) (all-refusals _ refl)))
carry_may s (STANDARD c) f w = one_may s _ 4 c _ refl
    (λ d e. asked_may s _ (queries.STANDARD d) (a_yes (component_below s.tables f c d e) (all-refusals _ refl)))
carry_may s (WHEREUSED c) f w = one_may s _ 4 c _ refl
    (λ d e. asked_may s _ (queries.WHEREUSED d) (a_yes (component_below s.tables f c d e) (all-refusals _ refl)))
carry_may s (NEEDS c v) f w = pair_may s _ 4 _ c v _ refl
    (λ d x e q. asked_may s _ (queries.NEEDS d x)
    (a_yes (pair_below s.tables f c v d x e q) (all-refusals _ refl)))
carry_may s (PARTS c v) f w = pair_may s _ 4 _ c v _ refl
    (λ d x e q. asked_may s _ (queries.PARTS d x)
    (a_yes (pair_below s.tables f c v d x e q) (all-refusals _ refl)))
carry_may s (CHOICE fs) f w = by_test (May s (CHOICE fs)) _ _ _
    (λ e. asked_may s _ (queries.CHOICE (numbers s.tables.facs fs)) (a_yes (facilities_below s.tables f fs e) no_question)) tt
carry_may s UNDEFINED f w = asked_may s _ queries.UNDEFINED no_question
carry_may s UNUSED f w = asked_may s _ queries.UNUSED no_question
carry_may s OUT f w = (refl, refl)

-- ---- the plain book's answer

-- the row of one of the ten commands, once its names have numbers, is the answer of the plain book's questions
pub row_of_the_answer : (i : ℕ) (b : Book) (t : Tables) (k : Command) → lines i (told b t k) ≡ row i (decimal (answer b k))
unfolding told
row_of_the_answer i b t k = by (answer b k) (record { book = after b k; tables = t })
  where
    by : (n : ℕ) (s : State) → lines i (decided n s) ≡ row i (decimal n)
    by zero s = unfold lines decided in refl
    by (suc n) s = unfold lines decided in refl
