-- What the reader of "spec" carries from version to version.
use Rattle.std.specs.Option.{option_zip}
use Rattle.std.specs.Prelude.{Bool, false, true, List, [], None, Option, Some, ◌∷◌, ◌≡◌, ℕ, option_map}
use Rattle.model.specs.Book.{facilities, versions}
use Rattle.model.specs.Lists.{set_of}
use Rattle.model.specs.Questions.{each_below}
use Rattle.names.specs.Stored.{Rows, table_of}
use Rattle.command_lists.specs.Gathered.{Gathered, nothing}
use Rattle.command_lists.specs.Said.{sets_step}
use Rattle.command_lists.specs.Views.{sets_view}
use Rattle.command_lists.specs.declared.gathered.Gathered.{Gathered as Kept}
use Rattle.sets.specs.Sets.{Set, bit}
use Rattle.text.specs.Language.{Name, Reader, ◌>>=◌, ◌>>◌, give, key, list_of, semicolon, spec_version, standards, the_one, want}
use Rattle.text.specs.Tables.{Table}
use Rattle.read_tokens.specs.Entering.{Enters, both}
use Rattle.read_tokens.specs.Steps.{Each, FacilityStep, facility_start}
use Rattle.read_tokens.specs.declared.SpecRequest.{SpecRequest}
use Rattle.read_spec.specs.declared.SpecVersions.{SpecVersions}
use Rattle.read_spec.specs.declared.Standard.{Standard}
use Rattle.read_spec.specs.declared.Standard.TheVariants.{Missing, Once, Twice}

-- versions with the facilities that each requires, as the code holds them
abbrev pub Sets : Type 0
Sets = Kept ℕ 64

-- ---- one version more

pub record SpecState : Type 0 where
  pub vers : Table
  pub facs : Table
  -- none where a name found no place
  pub sets : Option (Gathered Set)
  pub standard : Standard

unfoldable pub spec_state : Rows → Rows → SpecVersions → SpecState
spec_state v f g = record {
  vers = table_of versions v;
  facs = table_of facilities f;
  sets = option_map sets_view g.sets;
  standard = g.standard;
}

-- no version yet
unfoldable pub spec_start : Table → Table → SpecState
spec_start v f = record { vers = v; facs = f; sets = Some nothing; standard = Missing }

-- one version more, at the place o, that carries "std" or does not
unfoldable pub carried : Bool → Standard → Option ℕ → Standard
carried false s o = s
carried true Missing o = Once o
carried true (Once p) o = Twice
carried true Twice o = Twice

pub record SpecStep (s s' : SpecState) (x : Bool × (Name × List Name)) : Type 0 where
  pub place : Option ℕ
  pub enters : Enters versions s.vers s'.vers place x.1.0
  pub required : Option Set
  pub requires : Each FacilityStep (facility_start s.facs) (s'.facs, required) x.1.1
  pub sets : (fs : List ℕ) → each_below facilities fs ≡ true → required ≡ Some (set_of fs)
      → s'.sets ≡ both sets_step s.sets (option_map (λ k. (k, fs)) place)
  pub none : required ≡ None → s'.sets ≡ None
  pub standard : s'.standard ≡ carried x.0 s.standard place

-- r is g with a version more at the place v that requires q
pub record SetsWith (g : Option Sets) (v : Option ℕ) (q : Option ℕ) (r : Option Sets) : Type 0 where
  pub sets : (fs : List ℕ) → each_below facilities fs ≡ true → option_map bit q ≡ Some (set_of fs)
      → option_map sets_view r ≡ both sets_step (option_map sets_view g) (option_map (λ k. (k, fs)) v)
  pub none : q ≡ None → r ≡ None

-- ---- the versions and the standard version, from behind "provides" up to "end"

unfoldable pub spec_body : Reader (List (Bool × (Name × List Name)) × Name)
spec_body = do
  vs ← list_of semicolon spec_version
  want (key "end")
  s ← the_one (standards vs)
  give (vs, s)

-- from the state s on, up to the tables v and f: o is the versions and the standard one, if each name found a place
pub record BodyRead (s : SpecState) (v f : Rows) (o : Option (Sets × ℕ)) (x : List (Bool × (Name × List Name)) × Name) : Type 0 where
  pub last : SpecVersions
  pub steps : Each SpecStep s (spec_state v f last) x.0
  pub one : standards x.0 ≡ x.1 ∷ []
  pub standard : Option ℕ
  pub once : last.standard ≡ Once standard
  pub body : o ≡ option_zip last.sets standard

-- what "spec" asks for, if each name found a place
unfoldable pub made : Option ℕ → Option ℕ → Option (Sets × ℕ) → Option SpecRequest
made c p b =
    both (λ (x : ℕ × ℕ) y. record { component = x.0; provided = x.1; versions = y.0; standard = y.1 })
    (both (λ k q. (k, q)) c p) b
