-- A command by its first word (document 01 and Fig. 2): what a keyword begins, and what stands behind it.
use Rattle.std.specs.Prelude.{List, None, Option as Found, Some, [], ◌∷◌, ◌≡◌, ◌≤◌, ℕ, drop, get_or, length, map}
use Rattle.std.proofs.Math.Option.{Option, none, some}
use Rattle.text.specs.Bytes.{Text}
use Rattle.text.specs.Language.{DELMOD, DELMODVAR, DELSPEC, DELSYS, DELSYSVAR, NEEDS, Name, OUT, PARTS, Read, Reader, STANDARD, SUPPLIES, Said}
use Rattle.text.specs.Language.{UNDEFINED, UNUSED, WHEREUSED, add_mod, add_modvar, add_spec, add_sys, add_sysvar, choice, command, give, of_one}
use Rattle.text.specs.Language.{of_pair, over, read_as, wrong}
use Rattle.read_command.specs.declared.Command.{Command}
use Rattle.read_command.specs.declared.Command.TheVariants.{AddMod, AddModvar, AddSpec, AddSys, AddSysvar, Remove, RemoveVersion}
use Rattle.read_command.specs.declared.Component.{Component}
use Rattle.read_command.specs.declared.Component.TheVariants as component
use Rattle.read_command.specs.declared.Form.{Form}
use Rattle.read_command.specs.declared.Form.TheVariants.{Asks, Changes, Over}
use Rattle.read_command.specs.declared.Named.{Named}
use Rattle.read_command.specs.declared.Named.TheVariants.{One, Pair}
use Rattle.read_command.specs.declared.OfBook.{OfBook}
use Rattle.read_command.specs.declared.OfBook.TheVariants as book
use Rattle.read_command.specs.declared.OfComponent.{OfComponent}
use Rattle.read_command.specs.declared.OfComponent.TheVariants.{Standard, Supplies, WhereUsed}
use Rattle.read_command.specs.declared.OfVersion.{OfVersion}
use Rattle.read_command.specs.declared.OfVersion.TheVariants.{Needs, Parts}
use Rattle.read_command.specs.declared.Query.{Query}
use Rattle.read_command.specs.declared.Query.TheVariants.{ByName, Choice, Whole}
use Rattle.read_command.specs.declared.Version.{Version}
use Rattle.read_command.specs.declared.Version.TheVariants as version
use Rattle.read_tokens.specs.declared.Keyword.{Keyword}
use Rattle.read_tokens.specs.declared.Keyword.TheVariants as keyword
use Rattle.read_tokens.specs.declared.reader.Reader.{Reader as Place}

-- ---- what a keyword begins

abbrev of_one_name : OfComponent → Found Form
of_one_name k = Some (Asks (ByName (One k)))

abbrev of_two_names : OfVersion → Found Form
of_two_names k = Some (Asks (ByName (Pair k)))

abbrev of_none : OfBook → Found Form
of_none k = Some (Asks (Whole k))

abbrev adds : Command → Found Form
adds k = Some (Changes k)

abbrev removes : Component → Found Form
removes k = Some (Changes (Remove k))

abbrev removes_version : Version → Found Form
removes_version k = Some (Changes (RemoveVersion k))

-- by the keyword; some begin none
unfoldable pub form_of : Keyword → Found Form
form_of keyword.Supplies = of_one_name Supplies
form_of keyword.Needs = of_two_names Needs
form_of keyword.Choice = Some (Asks Choice)
form_of keyword.End = None
form_of keyword.Standard = of_one_name Standard
form_of keyword.Undefined = of_none book.Undefined
form_of keyword.Unused = of_none book.Unused
form_of keyword.WhereUsed = of_one_name WhereUsed
form_of keyword.In = None
form_of keyword.Out = of_none book.Text
form_of keyword.Quit = Some Over
form_of keyword.Spec = adds AddSpec
form_of keyword.Provides = None
form_of keyword.Std = None
form_of keyword.Requires = None
form_of keyword.AllOf = None
form_of keyword.Mod = adds AddMod
form_of keyword.Impl = None
form_of keyword.Sys = adds AddSys
form_of keyword.Use = None
form_of keyword.DelSpec = removes component.Spec
form_of keyword.DelMod = removes component.Module
form_of keyword.DelSys = removes component.System
form_of keyword.Modvar = adds AddModvar
form_of keyword.Sysvar = adds AddSysvar
form_of keyword.DelModvar = removes_version version.Module
form_of keyword.DelSysvar = removes_version version.System
form_of keyword.Parts = of_two_names Parts

-- the keywords in the order of `keywords`
unfoldable pub in_order : List Keyword
in_order =
    keyword.Supplies ∷ keyword.Needs ∷ keyword.Choice ∷ keyword.End ∷ keyword.Standard ∷ keyword.Undefined ∷ keyword.Unused ∷ keyword.WhereUsed
    ∷ keyword.In ∷ keyword.Out ∷ keyword.Quit ∷ keyword.Spec ∷ keyword.Provides ∷ keyword.Std ∷ keyword.Requires ∷ keyword.AllOf ∷ keyword.Mod
    ∷ keyword.Impl ∷ keyword.Sys ∷ keyword.Use ∷ keyword.DelSpec ∷ keyword.DelMod ∷ keyword.DelSys ∷ keyword.Modvar ∷ keyword.Sysvar
    ∷ keyword.DelModvar ∷ keyword.DelSysvar ∷ keyword.Parts ∷ []

-- of a word, by its place among the keywords
unfoldable pub word_form : Option ℕ → Found Form
word_form none = None
word_form (some k) = get_or (map form_of in_order) k None

-- ---- the command that is read, by its names

unfoldable pub removed : Component → Name → Said
removed component.Spec c = DELSPEC c
removed component.Module c = DELMOD c
removed component.System c = DELSYS c

unfoldable pub version_removed : Version → Name → Name → Said
version_removed version.Module c v = DELMODVAR c v
version_removed version.System c v = DELSYSVAR c v

unfoldable pub asked_of : OfComponent → Name → Said
asked_of Supplies = SUPPLIES
asked_of Standard = STANDARD
asked_of WhereUsed = WHEREUSED

unfoldable pub asked_of_version : OfVersion → Name → Name → Said
asked_of_version Needs = NEEDS
asked_of_version Parts = PARTS

unfoldable pub asked_of_book : OfBook → Said
asked_of_book book.Undefined = UNDEFINED
asked_of_book book.Unused = UNUSED
asked_of_book book.Text = OUT

-- ---- what stands behind the first word

unfoldable pub command_reader : Command → Reader Said
command_reader AddSpec = add_spec
command_reader AddMod = add_mod
command_reader AddSys = add_sys
command_reader AddModvar = add_modvar
command_reader AddSysvar = add_sysvar
command_reader (Remove k) = of_one (removed k)
command_reader (RemoveVersion k) = of_pair (version_removed k)

unfoldable pub named_reader : Named → Reader Said
named_reader (One k) = of_one (asked_of k)
named_reader (Pair k) = of_pair (asked_of_version k)

unfoldable pub query_reader : Query → Reader Said
query_reader (ByName k) = named_reader k
query_reader Choice = choice
query_reader (Whole k) = give (asked_of_book k)

-- the command whose first word begins a form, read from the text behind this word
unfoldable pub begun : Form → Text → Read
begun (Changes c) t = read_as (command_reader c t)
begun (Asks q) t = read_as (query_reader q t)
begun Over t = over

-- a word that begins none is not of the language there
unfoldable pub begun_if : Found Form → Text → Read
begun_if (Some f) t = begun f t
begun_if None t = wrong

-- The command of the text t from position `at` on: its first word begins the form f, and the rest stands from e on.
pub record Begins (t : Text) (at : ℕ) (f : Form) (e : ℕ) : Type 0 where
  pub is : command (drop at t) ≡ begun f (drop e t)
  pub from : at ≤ e
  pub inside : e ≤ length t

-- the command where the reader r stands: its first word begins a form, and the reader s stands behind the word; or it is not of the language,
-- and the reader is as it was
abbrev pub BeginsBy : Place → Place → Found Form → Type 0
BeginsBy r s (Some f) = Begins r.text.now r.at f s.at × (s.text ≡ r.text)
BeginsBy r s None = (command (drop r.at r.text.now) ≡ wrong) × (s ≡ r)
