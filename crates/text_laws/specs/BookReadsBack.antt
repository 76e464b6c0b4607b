-- Demand 2: a book written as text and read into an empty session is the same book by names.
use Rattle.std.specs.Prelude.{Bool, true, ◌≡◌, ℕ, length}
use Rattle.std.proofs.Math.Option.{Option, none, some}
use Rattle.std.proofs.Common.{◌∙◌, sym}
use Rattle.std.proofs.Math.Path.{ap, refl}
use Rattle.model.specs.Book.{Book, Modules, Spec, Specs, Systems, composed, has_version, implementation, is_system, member, specified}
use Rattle.model.specs.Book.{standard}
use Rattle.model.specs.Maps.{has, is_some, option_map, or_else}
use Rattle.sets.specs.TestLaws.{=?-out, and_cong, and_l, and_r, clash}
use Rattle.sets.specs.Tests.{◌&◌, ◌=?◌}
use Rattle.text.specs.Bytes.{Text}
use Rattle.text.specs.Handed.{Named, PassesNamed}
use Rattle.text.specs.Language.{Name}
use Rattle.text.specs.SameByNames.{Composed, Implemented, IsModule, IsSpecified, IsSystem, Member, Provides, Requires, Same}
use Rattle.text.specs.SameByNames.{Standard, Usable, Version, accepted, at, holds, text_of}
use Rattle.text.specs.Session.{State, session}
use Rattle.text.specs.Tables.{Table, Tables, place}
use Rattle.text.specs.Written.{as_commands}
use Rattle.text_laws.specs.BookLaws.{implementation_module, provides_specified}
use Rattle.text_laws.specs.FourTables.{a_component, a_facility, a_version, an_implementation}
use Rattle.text_laws.specs.NamedGood.{NamedGood, passes→named}
use Rattle.text_laws.specs.NewNumbers.{at_kind, reached_tables, renumbering}
use Rattle.text_laws.specs.NewPlaces.{eq_through}
use Rattle.text_laws.specs.Rebuilt.{rebuilt, text_read}
use Rattle.text_laws.specs.Renamed.{Renumbering, implementation_of, provided_by, required_by, version_of}
use Rattle.text_laws.specs.Renumbered.{composed', has_version', implementation', is_module', is_system', member', new_specs}
use Rattle.text_laws.specs.Renumbered.{provides', renumber_spec, requires', specified', usable'}
use Rattle.text_laws.specs.TextLaws.{has-map}
use Rattle.model_laws.specs.Frame.{composed_system, mem_usable, member_composed}
use Rattle.model_laws.specs.Good.{Good, requires_version, version_specified}
use Rattle.model_laws.specs.Heights.{usable_system}
use Rattle.model_laws.specs.MapLaws.{has_cong, has_out, is_some_in}
use contract.Running.{tables}

module _ (st : State) (ok : NamedGood st) where
  abbrev b : Book
  b = st.book

  abbrev t : Tables
  t = st.tables

  abbrev g : Good b
  g = ok.good

  abbrev nm : Named st
  nm = ok.named

  abbrev S : Specs
  S = b.specs

  abbrev M : Modules
  M = b.modules

  abbrev Y : Systems
  Y = b.systems

  abbrev re : Renumbering S M
  re = renumbering st ok

  -- what a name's number passes, some number passes
  at_out : (x : Table) (w : Name) (P : ℕ → Bool) → has (place x w) P ≡ true → (n : ℕ) × (P n ≡ true)
  at_out x w P e = let q = has_out _ _ e in (q.0, q.2)

  standard_by : (o : Option Spec) → is_some o ≡ true
      → or_else (option_map (λ (x : Spec). x.std) (option_map (renumber_spec re.old_v re.old_f re.new_v) o)) 0
      ≡ re.new_v (or_else (option_map (λ (x : Spec). x.std) o) 0)
  unfolding is_some option_map or_else renumber_spec
  standard_by none e = clash e refl
  standard_by (some x) e = refl

  standard' : (c : ℕ) → specified S (re.old_c c) ≡ true → standard (new_specs b re) c ≡ re.new_v (standard S (re.old_c c))
  unfolding standard new_specs specified
  standard' c e = standard_by (S (re.old_c c)) e

  member_spec : (s v c w : ℕ) → member Y s v c ≡ some w → specified S c ≡ true
  member_spec s v c w e = g.b2.use_spec s c (mem_usable S Y g.system_limits g.b5 s v c w e).0

  sys_of_lem : (s v : ℕ) → composed Y s v ≡ true → is_system Y s ≡ true
  sys_of_lem s v e = composed_system Y s v e

  impl_version : (c v i : ℕ) → implementation M c v ≡ some i → has_version S c v ≡ true
  impl_version c v i e = sym (g.b2.mod_covers c v (implementation_module M c v i e)) ∙ is_some_in _ e

  same_facts : Same (record { book = rebuilt st ok; tables = reached_tables st ok }) st
  unfolding holds at
  same_facts (IsSpecified c) = at_kind st ok a_component c _ _ (specified' b re) (λ n e. e)
  same_facts (IsModule c) = at_kind st ok a_component c _ _ (is_module' b re) (λ n e. g.b2.mod_spec n e)
  same_facts (IsSystem c) = at_kind st ok a_component c _ _ (is_system' b re) (λ n e. g.b2.sys_spec n e)
  same_facts (Provides c f) = at_kind st ok a_component c _ _
      (λ m. at_kind st ok a_facility f _ _ (provides' b re m) (λ n e. provided_by _ e))
      (λ n e. let q = at_out _ f _ e in provides_specified S n q.0 q.1)
  same_facts (Version c v) = at_kind st ok a_component c _ _
      (λ m. at_kind st ok a_version v _ _ (has_version' b re m) (λ n e. version_of _ e))
      (λ n e. let q = at_out _ v _ e in version_specified S n q.0 q.1)
  same_facts (Standard c v) = at_kind st ok a_component c _ _ (λ m. at_kind st ok a_version v _ _
      (λ k. ap (λ (x : Bool). x & k =? standard (new_specs b re) m) (specified' b re m)
      ∙ and_cong _ (λ e. ap (λ (x : ℕ). k =? x) (standard' m e) ∙ eq_through re.of_v k _ (version_of _ (g.b1.std_in _ e))))
      (λ n e. version_of (re.old_c m) (ap (has_version S (re.old_c m)) (=?-out _ _ (and_r _ _ e)) ∙ g.b1.std_in _ (and_l _ _ e))))
      (λ n e. let q = at_out _ v _ e in and_l _ _ q.1)
  same_facts (Usable c d) = at_kind st ok a_component c _ _
      (λ m. at_kind st ok a_component d _ _ (usable' b re m) (λ n e. g.b2.use_spec _ n e))
      (λ n e. let q = at_out _ d _ e in g.b2.sys_spec n (usable_system Y n q.0 q.1))
  same_facts (Composed c v) = at_kind st ok a_component c _ _
      (λ m. at_kind st ok a_version v _ _ (composed' b re m) (λ n e. version_of _ (sym (g.b2.sys_covers _ n (sys_of_lem _ n e)) ∙ e)))
      (λ n e. let q = at_out _ v _ e in g.b2.sys_spec n (sys_of_lem n q.0 q.1))
  same_facts (Requires c v f) = at_kind st ok a_component c _ _
      (λ m. at_kind st ok a_version v _ _ (λ k. at_kind st ok a_facility f _ _ (requires' b re m k) (λ n e. required_by _ _ e))
      (λ n e. let q = at_out _ f _ e in version_of _ (requires_version S _ n q.0 q.1)))
      (λ n e. let q = at_out _ v _ e in let r = at_out _ f _ q.1 in
      version_specified S n q.0 (requires_version S n q.0 r.0 r.1))
  same_facts (Implemented c v i) = at_kind st ok a_component c _ _ (λ m. at_kind st ok a_version v _ _
      (λ k. at_kind st ok an_implementation i _ _ (λ j. ap (λ (o : Option ℕ). has o (λ z. j =? z)) (implementation' b re m k)
      ∙ has-map _ _ _
      ∙ has_cong _ (λ z e. eq_through re.of_i j z (implementation_of _ _ e)))
      (λ n e. let q = has_out _ _ e in implementation_of _ _ (q.1 ∙ ap some (sym (=?-out _ _ q.2)))))
      (λ n e. let q = at_out _ i _ e in let r = has_out _ _ q.1 in version_of _ (impl_version _ n r.0 r.1)))
      (λ n e. let q = at_out _ v _ e in let p = at_out _ i _ q.1 in let r = has_out _ _ p.1 in
      g.b2.mod_spec n (implementation_module M n q.0 r.0 r.1))
  same_facts (Member c v d w) = at_kind st ok a_component c _ _
      (λ m. at_kind st ok a_version v _ _ (λ k. at_kind st ok a_component d _ _
      (λ j. at_kind st ok a_version w _ _ (λ x. ap (λ (o : Option ℕ). has o (λ z. x =? z)) (member' b re m k j) ∙ has-map _ _ _
      ∙ has_cong _ (λ z e. eq_through re.of_v x z (version_of _ (mem_usable S Y g.system_limits g.b5 _ _ _ z e).1)))
      (λ n e. let q = has_out _ _ e in
      version_of _ (mem_usable S Y g.system_limits g.b5 _ _ _ n (q.1 ∙ ap some (sym (=?-out _ _ q.2)))).1))
      (λ n e. let q = at_out _ w _ e in let r = has_out _ _ q.1 in member_spec _ _ n r.0 r.1))
      (λ n e. let p = at_out _ d _ e in let q = at_out _ w _ p.1 in let r = has_out _ _ q.1 in
      let k = member_composed Y _ n p.0 r.0 r.1 in version_of _ (sym (g.b2.sys_covers _ n (sys_of_lem _ n k)) ∙ k)))
      (λ n e. let o = at_out _ v _ e in let p = at_out _ d _ o.1 in let q = at_out _ w _ p.1 in
      let r = has_out _ _ q.1 in g.b2.sys_spec n (sys_of_lem n o.0 (member_composed Y n o.0 p.0 r.0 r.1)))

-- "A book written as text and read into an empty session is the same book by names": and each command of the text is accepted.
pub reads_back : (s : State) → PassesNamed s
    → ((session (text_of s)).0 ≡ accepted 1 (length (as_commands s.book s.tables))) × Same (session (text_of s)).1 s
reads_back s q =
    let h = passes→named q in
    let e = text_read s h in (
      ap (λ (x : Text × State). x.0) e,
      λ x. ap (λ (y : Text × State). holds y.1 x) e ∙ same_facts s h x,
    )
