-- One version more with its requirements: a law for each way out of the code.
use Rattle.std.specs.Prelude.{Bool, List, None, Option, Some, true, ◌≡◌, ℕ, option_map}
use Rattle.std.proofs.Common.{◌∙◌}
use Rattle.std.proofs.Math.Path.{ap, refl, sym}
use Rattle.command_lists.specs.Gathered.{mapped, nothing}
use Rattle.command_lists.specs.Said.{sets_step}
use Rattle.command_lists.specs.Views.{sets_view, view}
use Rattle.model.specs.Book.{facilities, versions}
use Rattle.model.specs.Lists.{set_of}
use Rattle.model.specs.Maps as maps
use Rattle.model.specs.Questions.{each_below}
use Rattle.sets.specs.Sets.{bit}
use Rattle.names.specs.Stored.{Rows, table_of}
use Rattle.text.specs.Bytes.{bytes, keywords}
use Rattle.text.specs.Language.{Name, ahead, key}
use Rattle.text.specs.Tables.{name_at}
use Rattle.read_tokens.specs.BothLaws.{none_some, some_same}
use Rattle.read_tokens.specs.Entering.{Enters, both}
use Rattle.read_tokens.specs.Ahead.{Passes}
use Rattle.read_tokens.specs.SequenceLaws.{Read, as_ahead}
use Rattle.read_tokens.specs.declared.reader.Reader.{Reader}
use Rattle.read_tokens.specs.Readers.{Told, key_at}
use Rattle.read_tokens.specs.Steps.{Each, FacilityStep, facility_start, facility_state}
use Rattle.read_spec.specs.Asked.{Sets, SetsWith, SpecStep, carried, spec_start, spec_state}
use Rattle.read_spec.specs.declared.SpecVersions.{SpecVersions}
use Rattle.read_spec.specs.declared.Standard.{Standard}
use Rattle.read_spec.specs.declared.Standard.TheVariants.{Missing}

module _ {g : Option Sets} {v q : Option ℕ} {r : Option Sets} where
  pub no_sets : g ≡ None → r ≡ None → SetsWith g v q r
  unfolding both
  no_sets e d = record { sets = λ fs b h. rw (e, d) refl; none = λ h. d }

  pub no_place : v ≡ None → r ≡ None → SetsWith g v q r
  no_place e d = record { sets = λ fs b h. rw (e, d) (nothing g); none = λ h. d }
    where
      nothing : (g : Option Sets) → None ≡ both sets_step (option_map sets_view g) None
      nothing None = unfold both in refl
      nothing (Some x) = unfold both in refl

  pub no_set : q ≡ None → r ≡ None → SetsWith g v q r
  no_set e d = record { sets = λ fs b h. none_some (rw e at h); none = λ h. d }

  pub one_set : {a b : Sets} {k s : ℕ} → g ≡ Some a → v ≡ Some k → q ≡ Some s
      → ((fs : List ℕ) → each_below facilities fs ≡ true → set_of fs ≡ bit s → sets_view b ≡ sets_step (sets_view a) (k, fs)) → r ≡ Some b
      → SetsWith g v q r
  unfolding both
  one_set x y z f d = record { sets = λ fs h i. rw (x, y, d) (rw (f fs h (sym (some_same (rw z at i)))) refl); none = λ h. none_some (sym h ∙ z) }

pub ruleset not_there = (no_sets, no_place, no_set)

-- ---- ["std"] vn ["requires" facs]

std_key : key_at 13 ≡ key "std"
unfolding key_at key name_at keywords bytes
std_key = refl

pub std_ahead : (r s : Reader) {b : Bool} → Passes (key_at 13) r s b → Read (ahead (key "std")) (Told b) r s
std_ahead r s g = as_ahead std_key r s g

pub spec_stepped : (W W' F F' : Rows) (g : SpecVersions) (sets : Option Sets) (standard : Standard) {std x : Bool} {o q : Option ℕ} {v : Name}
    {rs : List Name} → Told std x → Enters versions (table_of versions W) (table_of versions W') o v
    → Each FacilityStep (facility_start (table_of facilities F)) (facility_state F' q) rs
    → SetsWith g.sets o q sets → standard ≡ carried std g.standard o
    → SpecStep (spec_state W F g) (spec_state W' F' (record { sets = sets; standard = standard })) (x, (v, rs))
unfolding spec_state facility_state
spec_stepped W W' F F' g sets standard {std = std} {x = x} {o = o} {q = q} {v = v} {rs = rs} t e d w k = record {
  place = o;
  enters = e;
  required = option_map bit q;
  requires = d;
  sets = w.sets;
  none = λ h. ap (option_map sets_view) (w.none (map_none q h));
  standard = k ∙ ap (λ b. carried b g.standard o) (sym t.is);
}
  where
    map_none : (q : Option ℕ) → option_map bit q ≡ None → q ≡ None
    map_none None h = refl
    map_none (Some s) h = none_some (sym h)

-- no version yet
pub started : (g : Sets) → view g ≡ nothing → (v f : Rows)
    → spec_state v f (record { sets = Some g; standard = Missing }) ≡ spec_start (table_of versions v) (table_of facilities f)
unfolding spec_state spec_start sets_view mapped maps.option_map
started g e v f = rw e refl
