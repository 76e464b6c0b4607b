-- The question for 25 on the tables that a text call takes, as a test that computes; and that demand 2 speaks of something.
use Rattle.std.specs.Prelude.{true, [], ◌∷◌, ◌≡◌, refl, suc, ℕ}
use Rattle.std.proofs.Common.{◌∙◌, sym, arith}
use Rattle.model.specs.Book.{has_version, specified}
use Rattle.model.specs.Lists.{non_empty}
use Rattle.model.specs.Teaching.{K, input}
use Rattle.sets.specs.TestLaws.{all_in, all_out, and_in, and_l, and_r, fails, imp_in, imp_out, not_in}
use Rattle.text.specs.Bytes.{among, bytes}
use Rattle.text.specs.Example.{all_of_text}
use Rattle.text.specs.Handed.{Named, Once, PassesNamed, component_named, names_hold, none_twice, version_named}
use Rattle.text.specs.Language.{Name}
use Rattle.text.specs.Session.{State}
use Rattle.text.specs.Tables.{Table, name_at}
use Rattle.text_laws.specs.BookLaws.{implementation_module, provides_specified}
use Rattle.text_laws.specs.Places.{none_twice_lem, place_name, place_there}
use Rattle.model_laws.specs.Good.{Good, passes→good, requires_version, version_specified}
use Rattle.model_laws.specs.MapLaws.{if_there_in, if_there_out, is_some_in, is_some_out}
use Rattle.model_laws.specs.Sequence.{always-passes}

pub names_hold_lem : (s : State) → Good s.book → names_hold s ≡ true → Named s
unfolding names_hold component_named version_named
names_hold_lem s g h = record {
  component = λ c e. and_l _ _ (at c e);
  version = λ c v e. and_l _ _ (ver c v e);
  provided = λ c f e. imp_out _ _ (all_out _ _ (and_l _ _ (and_r _ _ (at c (provides_specified _ c f e)))) f
      (g.spec_limits.provided< c f e)) e;
  required = λ c v f e. imp_out _ _ (all_out _ _ (and_l _ _ (and_r _ _ (ver c v (requires_version _ c v f e)))) f
      (g.spec_limits.required< c v f e)) e;
  implemented = λ c v i e. if_there_out _ _
      (and_r _ _ (and_r _ _ (ver c v (sym (g.b2.mod_covers c v (implementation_module _ c v i e)) ∙ is_some_in _ e)))) i e;
  comps_once = none_twice_lem _ (and_l _ _ (and_r _ _ h));
  vers_once = none_twice_lem _ (and_l _ _ (and_r _ _ (and_r _ _ h)));
  facs_once = none_twice_lem _ (and_l _ _ (and_r _ _ (and_r _ _ (and_r _ _ h))));
  impls_once = none_twice_lem _ (and_r _ _ (and_r _ _ (and_r _ _ (and_r _ _ h))));
}
  where
    at : (c : ℕ) → specified s.book.specs c ≡ true → component_named s c ≡ true
    at c e = imp_out _ _ (all_out _ _ (and_l _ _ h) c (g.spec_limits.component< c e)) e

    ver : (c v : ℕ) → has_version s.book.specs c v ≡ true → version_named s c v ≡ true
    ver c v e = imp_out _ _ (all_out _ _ (and_r _ _ (and_r _ _ (at c (version_specified _ c v e)))) v
        (g.spec_limits.version< c v e)) e

-- ---- and back

among_at : (t : Table) (w : Name) → among w t ≡ true → (i : ℕ) × (name_at t i ≡ w)
among_at t w a = let q = is_some_out _ (place_there t w a) in (q.0, (place_name t w q.0 q.1).0)

once_tail : (x : Name) (t : Table) → Once (x ∷ t) → Once t
unfolding name_at
once_tail x t o i j e q = let z = o (suc i) (suc j) e q in omega arith

no_second : (x : Name) (t : Table) → Once (x ∷ t) → non_empty x ≡ true → (i : ℕ) → name_at t i ≡ x → ⊥
unfolding name_at
no_second x t o e i q = let z = o 0 (suc i) e (sym q) in omega arith

pub once_twice : (t : Table) → Once t → none_twice t ≡ true
unfolding none_twice
once_twice [] o = refl
once_twice (x ∷ xs) o =
    and_in _ _ (imp_in _ _ (λ e. not_in _ (fails _ (λ a. let q = among_at xs x a in no_second x xs o e q.0 q.1))))
    (once_twice xs (once_tail x xs o))

pub hold_names : (s : State) → Named s → names_hold s ≡ true
unfolding names_hold component_named version_named
hold_names s n =
    and_in _ _ (all_in _ _ (λ c l. imp_in _ _ (λ e. and_in _ _ (n.component c e)
    (and_in _ _ (all_in _ _ (λ f k. imp_in _ _ (n.provided c f)))
    (all_in _ _ (λ v k. imp_in _ _ (λ h. and_in _ _ (n.version c v h)
    (and_in _ _ (all_in _ _ (λ f j. imp_in _ _ (n.required c v f)))
    (if_there_in _ _ (λ i j. n.implemented c v i j))))))))))
    (and_in _ _ (once_twice _ n.comps_once) (and_in _ _ (once_twice _ n.vers_once)
    (and_in _ _ (once_twice _ n.facs_once) (once_twice _ n.impls_once))))

-- ---- what demand 2 speaks of is there

-- the teaching book with its names, in the order of the input
abbrev pub teaching_state : State
teaching_state = record {
  book = K;
  tables = record {
    comps = bytes "probe" ∷ bytes "valve" ∷ bytes "loop" ∷ bytes "tank" ∷ [];
    vers = bytes "one" ∷ bytes "v2" ∷ bytes "p" ∷ bytes "a" ∷ [];
    facs = bytes "temp" ∷ bytes "cool" ∷ bytes "hold" ∷ [];
    impls = [];
  };
}

teaching_names : names_hold teaching_state ≡ true
unfolding all_of_text
teaching_names = refl

pub teaching_passes : PassesNamed teaching_state
teaching_passes =
    let p = always-passes input in record { passes = p; named = names_hold_lem teaching_state (passes→good p) teaching_names }
