-- The four tables as one, over what a table names: a law is shown once for all four.
use Rattle.std.specs.Prelude.{Bool, true, [], ◌≡◌, refl, ◌≤◌, ℕ, length}
use Rattle.model.specs.Book.{components, facilities, implementations, versions}
use Rattle.sets.specs.TestLaws.{and_in, and_l, and_r, ≤?_in, ≤?_out}
use Rattle.text.specs.Bytes.{valid_implementation, valid_name}
use Rattle.text.specs.Language.{Name}
use Rattle.text.specs.Tables.{Table, Tables, enter, entered, fits, no_names}

pub data Kind : Type 0 where
  a_component a_version a_facility an_implementation : Kind

abbrev pub table : Kind → Tables → Table
table a_component t = t.comps
table a_version t = t.vers
table a_facility t = t.facs
table an_implementation t = t.impls

abbrev pub limit : Kind → ℕ
limit a_component = components
limit a_version = versions
limit a_facility = facilities
limit an_implementation = implementations

-- what is valid in a table
abbrev pub valid : Kind → Name → Bool
valid a_component = valid_name
valid a_version = valid_name
valid a_facility = valid_name
valid an_implementation = valid_implementation

pub by_kind : (P : Kind → Type 0) → P a_component → P a_version → P a_facility → P an_implementation → (k : Kind) → P k
by_kind P c v f i a_component = c
by_kind P c v f i a_version = v
by_kind P c v f i a_facility = f
by_kind P c v f i an_implementation = i

pub none_named : (k : Kind) → table k no_names ≡ []
none_named a_component = refl
none_named a_version = refl
none_named a_facility = refl
none_named an_implementation = refl

pub entered_table : (k : Kind) (t m : Tables) → table k (entered t m) ≡ enter (table k t) (table k m)
unfolding entered
entered_table a_component t m = refl
entered_table a_version t m = refl
entered_table a_facility t m = refl
entered_table an_implementation t m = refl

-- each of the four fits
pub all_fit : (t : Tables) → ((k : Kind) → length (table k t) ≤ limit k) → fits t ≡ true
unfolding fits
all_fit t h =
    and_in _ _ (≤?_in _ _ (h a_component)) (and_in _ _ (≤?_in _ _ (h a_version)) (and_in _ _ (≤?_in _ _ (h a_facility))
    (≤?_in _ _ (h an_implementation))))

pub each_fits : (t : Tables) → fits t ≡ true → (k : Kind) → length (table k t) ≤ limit k
unfolding fits
each_fits t h a_component = ≤?_out _ _ (and_l _ _ h)
each_fits t h a_version = ≤?_out _ _ (and_l _ _ (and_r _ _ h))
each_fits t h a_facility = ≤?_out _ _ (and_l _ _ (and_r _ _ (and_r _ _ h)))
each_fits t h an_implementation = ≤?_out _ _ (and_r _ _ (and_r _ _ (and_r _ _ h)))
