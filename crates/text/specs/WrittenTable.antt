-- The written text and the rows of queries, by hand from document 01.
use Rattle.std.specs.Prelude.{List, [], ◌∷◌, map, ◌≡◌, refl}
use Prim.Native.String.{String}
use Rattle.text.specs.Example.{all_of_text, page}
use Rattle.text.specs.Session.{session}

-- a session's text, and its listing
abbrev pub listings : List (List String × List String)
listings =
    -- names rise by their bytes, a name before its extensions: digits, capitals, "_" and small letters in this order, and "-"
    -- before all
    (
      ("spec aa provides; std v end" ∷ "spec a_ provides; std v end" ∷ "spec aA provides; std v end" ∷
          "spec a0 provides; std v end" ∷ "spec a- provides; std v end" ∷ "spec a provides; std v end" ∷
          "spec B provides; std v end" ∷ "spec 0 provides; std v end" ∷ "out" ∷ []),
      "1,0" ∷ "2,0" ∷ "3,0" ∷ "4,0" ∷ "5,0" ∷ "6,0" ∷ "7,0" ∷ "8,0" ∷ "9,0" ∷
          "spec 0 provides ; std v end" ∷
          "spec B provides ; std v end" ∷
          "spec a provides ; std v end" ∷
          "spec a- provides ; std v end" ∷
          "spec a0 provides ; std v end" ∷
          "spec aA provides ; std v end" ∷
          "spec a_ provides ; std v end" ∷
          "spec aa provides ; std v end" ∷ [],
    ) ∷
    -- "as are all names within": facilities, versions, requirements, members (`a.w` before `a-.v`); `std` doesn't move a version
    (("spec a- provides g, f; v end" ∷ "spec b provides k; std w requires h, g-, g; v end" ∷ []), "1,23" ∷ []) ∷ (
      ("spec a- provides g, f-, f; std v end" ∷ "spec a provides k; w requires h, g-, g; std x; u end" ∷
          "spec s provides k, f, g; std y; t end" ∷ "sys s use a-, a; y = a-, a; t = a-.v, a.w end" ∷
          "mod a; x impl \"i\"; w impl \"j/k\"; u impl \"i\" end" ∷ "out" ∷ []),
      "1,0" ∷ "2,0" ∷ "3,0" ∷ "4,0" ∷ "5,0" ∷ "6,0" ∷
          "spec a provides k; u; w requires g, g-, h; std x end" ∷
          "spec a- provides f, f-, g; std v end" ∷
          "spec s provides f, g, k; t; std y end" ∷
          "mod a; u impl \"i\"; w impl \"j/k\"; x impl \"i\" end" ∷
          "sys s use a, a-; t = a.w, a-.v; y = a.x, a-.v end" ∷ [],
    ) ∷
    -- a system held back: b may use c, though its composition doesn't hold it; a may use b and is next
    (
      ("spec c provides f; std v end" ∷ "spec b provides f; std v end" ∷ "spec a provides f; std v end" ∷
          "spec d provides f; std v end" ∷ "spec e provides f; std v end" ∷ "sys c use e; v = e end" ∷
          "sys b use c, e; v = e end" ∷ "sys a use b; v = b end" ∷ "sys d use e; v = e end" ∷ "out" ∷ []),
      "1,0" ∷ "2,0" ∷ "3,0" ∷ "4,0" ∷ "5,0" ∷ "6,0" ∷ "7,0" ∷ "8,0" ∷ "9,0" ∷ "10,0" ∷
          "spec a provides f; std v end" ∷
          "spec b provides f; std v end" ∷
          "spec c provides f; std v end" ∷
          "spec d provides f; std v end" ∷
          "spec e provides f; std v end" ∷
          "sys c use e; v = e.v end" ∷
          "sys b use c, e; v = e.v end" ∷
          "sys a use b; v = b.v end" ∷
          "sys d use e; v = e.v end" ∷ [],
    ) ∷
    -- rows of queries rise by number, which is the place in the table, and not by name; `standard` gives one name
    (
      ("spec b provides z, y; std w requires x; v requires x, u end" ∷ "spec a provides y, z; std v end" ∷
          "supplies b" ∷ "supplies a" ∷ "needs b.v" ∷ "choice y end" ∷ "undefined" ∷ "standard a" ∷
          "mod a; v impl \"i\" end" ∷ "unused" ∷ "parts b.v" ∷ []),
      "1,0" ∷ "2,0" ∷ "3,0" ∷ "3,z" ∷ "3,y" ∷ "4,0" ∷ "4,z" ∷ "4,y" ∷ "5,0" ∷ "5,x" ∷ "5,u" ∷ "6,0" ∷ "6,b,w" ∷ "6,b,v" ∷ "6,a,v" ∷
          "7,0" ∷ "7,b" ∷ "7,a" ∷
          "8,0" ∷ "8,v" ∷ "9,0" ∷ "10,0" ∷ "10,a" ∷ "11,0" ∷ "11,b,v" ∷ [],
    ) ∷
    -- "WHEREUSED follows usable lists"; an empty book has an empty text
    (
      ("out" ∷ "spec c provides f; std v end" ∷ "spec b provides f; std v end" ∷ "spec a provides f; std v end" ∷
          "sys b use c; v = c end" ∷ "sys a use b, c; v = c end" ∷ "whereused c" ∷ "whereused b" ∷ "delsys b" ∷
          "delspec b" ∷ []),
      "1,0" ∷ "2,0" ∷ "3,0" ∷ "4,0" ∷ "5,0" ∷ "6,0" ∷ "7,0" ∷ "7,b" ∷ "7,a" ∷ "8,0" ∷ "8,a" ∷ "9,0" ∷ "10,18" ∷ [],
    ) ∷
    -- 23 ends the session; `quit` ends it without a row
    (("undefined {open" ∷ []), "1,0" ∷ "2,23" ∷ []) ∷
    (("needs a.v.w" ∷ []), "1,4" ∷ "2,23" ∷ []) ∷
    (("out \"x\"" ∷ "out" ∷ []), "1,0" ∷ "2,23" ∷ []) ∷
    (("unused" ∷ "quit" ∷ "out" ∷ []), "1,0" ∷ []) ∷
    ([], []) ∷ []

pub listed_so : map (λ x. (session (page x.0)).0) listings ≡ map (λ x. page x.1) listings
unfolding all_of_text
listed_so = refl
