-- The versions of a specification up to "end": a law for each way out of the code.
use Rattle.std.specs.Option.{option_zip}
use Rattle.std.specs.Prelude.{Bool, false, true, List, [], Option, ◌∷◌, ◌≡◌, ℕ, drop}
use Rattle.std.proofs.Math.Option.{none}
use Rattle.std.proofs.Common.{le_refl}
use Rattle.std.proofs.Math.Path.{ap, refl, subst}
use Rattle.model.specs.Book.{facilities, versions}
use Rattle.names.specs.Stored.{Rows, table_of}
use Rattle.sets.specs.TestLaws.{clash}
use Rattle.text.specs.Bytes.{Text}
use Rattle.text.specs.Language.{Name, standards, the_one}
use Rattle.read_tokens.specs.SequenceLaws.{Lacks, Read}
use Rattle.read_tokens.specs.Steps.{Each}
use Rattle.read_tokens.specs.declared.reader.Reader.{Reader}
use Rattle.read_spec.specs.Asked.{BodyRead, Sets, SpecState, SpecStep, spec_start, spec_state}
use Rattle.read_spec.specs.SpecLaws.{Version}
use Rattle.read_spec.specs.StandardLaws.{StandardIs, standard_is}
use Rattle.read_spec.specs.declared.SpecVersions.{SpecVersions}
use Rattle.read_spec.specs.declared.Standard.{Standard}
use Rattle.read_spec.specs.declared.Standard.TheVariants.{Missing, Once, Twice}

-- one version carries "std"
is_once : Standard → Bool
is_once Missing = false
is_once (Once o) = true
is_once Twice = false

module _ (V F v f : Rows) (start last : SpecVersions) (xs : List Version)
    (b : (v f : Rows) → spec_state v f start ≡ spec_start (table_of versions v) (table_of facilities f))
    (h : Each SpecStep (spec_state V F start) (spec_state v f last) xs) where
  abbrev begun : SpecState
  begun = spec_start (table_of versions V) (table_of facilities F)

  steps : Each SpecStep begun (spec_state v f last) xs
  steps = subst (λ (s : SpecState). Each SpecStep s (spec_state v f last) xs) (b V F) h

  standard : StandardIs (spec_state v f last) (standards xs)
  standard = standard_is begun (spec_state v f last) xs steps (unfold spec_start in refl)

  none_of : (l : List Name) → StandardIs (spec_state v f last) l → ((o : Option ℕ) → last.standard ≡ Once o → ⊥) → (u : Text)
      → the_one l u ≡ none
  unfolding the_one spec_state
  none_of [] t m u = refl
  none_of (w ∷ []) t m u = absurd (m t.0 t.1.once)
  none_of (w ∷ (x ∷ ws)) t m u = refl

  some_of : (l : List Name) → StandardIs (spec_state v f last) l → (o : Option ℕ) → last.standard ≡ Once o → standards xs ≡ l
      → (b : Option (Sets × ℕ)) → b ≡ option_zip last.sets o → (r : Reader) → Read (the_one l) (λ w. BodyRead begun v f b (xs, w)) r r
  unfolding the_one spec_state is_once
  some_of [] t o q e b d r = clash (ap is_once q) (ap is_once t)
  some_of (w ∷ []) t o q e b d r = (
    record {
      value = w;
      is = refl;
      took = record { last = last; steps = steps; one = e; standard = o; once = q; body = d };
      from = le_refl _;
      inside = r.inside;
    },
    refl,
  )
  some_of (w ∷ (x ∷ ws)) t o q e b d r = clash (ap is_once q) (ap is_once t)

  pub none_standard : ((o : Option ℕ) → last.standard ≡ Once o → ⊥) → (r : Reader) → Lacks (the_one (standards xs)) r
  none_standard m r = none_of (standards xs) standard m (drop r.at r.text.now)

  pub one_standard : (o : Option ℕ) → last.standard ≡ Once o → (b : Option (Sets × ℕ)) → b ≡ option_zip last.sets o → (r : Reader)
      → Read (the_one (standards xs)) (λ w. BodyRead begun v f b (xs, w)) r r
  one_standard o q b d r = some_of (standards xs) standard o q refl b d r
