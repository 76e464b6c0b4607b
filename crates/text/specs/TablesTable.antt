-- The tables of names, by hand from document 01: the places that a session's names get, and names that stand in no table. The question
-- for 24 is in text_laws (specs/FullTables.antt).
use Rattle.std.specs.Prelude.{List, [], ◌∷◌, map, ◌≡◌, refl}
use Prim.Native.String.{String}
use Rattle.text.specs.Bytes.{bytes}
use Rattle.text.specs.Example.{all_of_text, page}
use Rattle.text.specs.Session.{session}
use Rattle.text.specs.Tables.{Tables}

abbrev pub table_of : List String → List String → List String → List String → Tables
table_of cs vs fs is = record { comps = map bytes cs; vers = map bytes vs; facs = map bytes fs; impls = map bytes is }

-- ---- places

-- a session's text, and the tables that it reaches
abbrev pub placed : List (List String × Tables)
placed =
    -- "in order of mention"; a new name that is mentioned twice gets one place
    (
      ("spec b provides g, f, g; w requires h, k; std v requires k end" ∷ []),
      table_of ("b" ∷ []) ("w" ∷ "v" ∷ []) ("g" ∷ "f" ∷ "h" ∷ "k" ∷ []) [],
    ) ∷
    -- a name is in each table by itself
    (("spec x provides x; std x end" ∷ "mod x; x impl \"x\" end" ∷ []), table_of ("x" ∷ []) ("x" ∷ []) ("x" ∷ []) ("x" ∷ [])) ∷
    -- names that are there get no second place; "A place is held until the session ends"
    (
      ("spec a provides f; std v end" ∷ "spec b provides g; std v end" ∷ "delspec a" ∷ "spec c provides f; std w end" ∷
          "spec a provides f; std v end" ∷ []),
      table_of ("a" ∷ "b" ∷ "c" ∷ []) ("v" ∷ "w" ∷ []) ("f" ∷ "g" ∷ []) [],
    ) ∷
    -- a refused command and the other commands put none in
    (
      ("spec b provides g; std w requires g end" ∷ "spec a provides f; std v end" ∷ "spec a provides g; std w end" ∷
          "supplies b" ∷ "choice h end" ∷ "delspec c" ∷ "needs a.u" ∷ "modvar d.u impl \"i\"" ∷ []),
      table_of ("a" ∷ []) ("v" ∷ []) ("f" ∷ []) [],
    ) ∷
    -- names of every adding command
    (
      ("spec a provides f; std v; w end" ∷ "spec b provides f; std u; w end" ∷
          "mod a; w impl \"j\"; v impl \"i\" end" ∷ "sys b use a; w = a; u = a.v end" ∷ "sysvar b.x = a.w end" ∷ []),
      table_of ("a" ∷ "b" ∷ []) ("v" ∷ "w" ∷ "u" ∷ "x" ∷ []) ("f" ∷ []) ("j" ∷ "i" ∷ []),
    ) ∷ []

pub places : map (λ x. (session (page x.0)).1.tables) placed ≡ map (λ x. x.1) placed
unfolding all_of_text
places = refl

-- ---- names that stand in no table

abbrev pub unknown : List (List String × List String)
unknown = (
  ("delspec a" ∷ "supplies a" ∷ "standard a" ∷ "whereused a" ∷ "needs a.v" ∷ "parts a.v" ∷ []),
  "1,4" ∷ "2,4" ∷ "3,4" ∷
      "4,4" ∷ "5,4" ∷ "6,4" ∷ [],
) ∷
    (("delmod a" ∷ "delmodvar a.v" ∷ "delsys a" ∷ "delsysvar a.v" ∷ []), "1,6" ∷ "2,6" ∷ "3,7" ∷ "4,7" ∷ []) ∷
    -- a component in its table with a version in none: 10 where 10 is the first no
    (
      ("spec a provides; std v end" ∷ "needs a.w" ∷ "parts a.w" ∷ "delmodvar a.w" ∷ "delsysvar a.w" ∷ []),
      "1,0" ∷ "2,10" ∷
          "3,10" ∷ "4,6" ∷ "5,7" ∷ [],
    ) ∷ (
      ("spec a provides; std v end" ∷ "mod a; v impl \"i\" end" ∷ "delmodvar a.w" ∷ "delsysvar a.w" ∷ []),
      "1,0" ∷ "2,0" ∷
          "3,10" ∷ "4,7" ∷ [],
    ) ∷ (
      ("spec a provides f; std v end" ∷ "spec b provides f; std v end" ∷ "sys b use a; v = a end" ∷ "delsysvar b.w" ∷
          "delmodvar b.w" ∷ []),
      "1,0" ∷ "2,0" ∷ "3,0" ∷ "4,10" ∷ "5,6" ∷ [],
    ) ∷
    -- names that are held, of what is no longer there
    (
      ("spec a provides; std v end" ∷ "delspec a" ∷ "needs a.w" ∷ "needs a.v" ∷ "supplies a" ∷ []),
      "1,0" ∷ "2,0" ∷ "3,4" ∷
          "4,4" ∷ "5,4" ∷ [],
    ) ∷
    -- "and CHOICE of it finds nothing"
    (
      ("spec a provides f; std v end" ∷ "choice f, g end" ∷ "choice f end" ∷ "choice end" ∷ []),
      "1,0" ∷ "2,0" ∷ "3,0" ∷ "3,a,v" ∷
          "4,0" ∷ "4,a,v" ∷ [],
    ) ∷
    -- an adding command's names get numbers first, and the questions see these
    (
      ("mod a; v impl \"i\" end" ∷ "modvar a.v impl \"i\"" ∷ "sysvar a.v = b end" ∷ "sys a use b; v = b end" ∷ []),
      "1,4" ∷
          "2,6" ∷ "3,7" ∷ "4,4" ∷ [],
    ) ∷
    (("spec a provides f; std v end" ∷ "sys a use b; v = b end" ∷ "sys a use a; w = a end" ∷ []), "1,0" ∷ "2,17" ∷ "3,9" ∷ []) ∷
    []

pub unknown_names : map (λ x. (session (page x.0)).0) unknown ≡ map (λ x. page x.1) unknown
unfolding all_of_text
unknown_names = refl
