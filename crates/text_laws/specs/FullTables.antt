-- Tables of names that are full, by hand from document 01: "is there a place for each new name? no: 24". They stand here, and not beside
-- the other tables of examples in text, because they take longest to compute.
use Rattle.std.specs.Prelude.{List, [], ◌++◌, ◌∷◌, map, ◌≡◌, refl}
use Prim.Native.String.{String}
use Rattle.text.specs.Bytes.{Text, bytes}
use Rattle.text.specs.Example.{all_of_text, page}
use Rattle.text.specs.Session.{session}
use Rattle.text.specs.Tables.{joined}

abbrev hex : List String
hex = "0" ∷ "1" ∷ "2" ∷ "3" ∷ "4" ∷ "5" ∷ "6" ∷ "7" ∷ "8" ∷ "9" ∷ "a" ∷ "b" ∷ "c" ∷ "d" ∷ "e" ∷ "f" ∷ []

-- the names of two bytes, the first of xs and the second of ys, each between the texts p and q
abbrev each : String → List String → List String → String → Text
each p xs ys q = joined (map (λ x. joined (map (λ y. bytes p ++ (bytes x ++ (bytes y ++ bytes q))) ys)) xs)

-- a session's text, and its listing
abbrev full : List (Text × List String)
full =
    -- 32 components: a thirty-third has no place, and one that is there needs none
    (
      joined (
          each "spec " ("0" ∷ "1" ∷ []) hex " provides; std v end " ∷
          bytes "spec x provides; std v end spec 00 provides; std v end sys x use 00; v = 00 end delspec x" ∷ []),
      "1,0" ∷ "2,0" ∷ "3,0" ∷ "4,0" ∷ "5,0" ∷ "6,0" ∷ "7,0" ∷ "8,0" ∷ "9,0" ∷ "10,0" ∷ "11,0" ∷ "12,0" ∷ "13,0" ∷ "14,0" ∷ "15,0" ∷
          "16,0" ∷
          "17,0" ∷ "18,0" ∷ "19,0" ∷ "20,0" ∷ "21,0" ∷ "22,0" ∷ "23,0" ∷ "24,0" ∷ "25,0" ∷ "26,0" ∷ "27,0" ∷ "28,0" ∷ "29,0" ∷ "30,0" ∷
          "31,0" ∷
          "32,0" ∷ "33,24" ∷ "34,5" ∷ "35,24" ∷ "36,4" ∷ [],
    ) ∷
    -- 64 facilities: with 63 held, a new name that is mentioned twice has a place, and two new names have not
    (
      joined (
          bytes "spec a provides 3e" ∷ each "," ("0" ∷ "1" ∷ "2" ∷ []) hex "" ∷
          each "," ("3" ∷ []) ("0" ∷ "1" ∷ "2" ∷ "3" ∷ "4" ∷ "5" ∷ "6" ∷ "7" ∷ "8" ∷ "9" ∷ "a" ∷ "b" ∷ "c" ∷ "d" ∷ []) "" ∷
          bytes "; std v end spec b provides x, y; std v end spec b provides x, 3e, x; std w requires 00 end " ∷
          bytes "spec c provides; std v requires y end spec c provides x; std v requires 3e end" ∷ []),
      "1,0" ∷ "2,24" ∷ "3,0" ∷ "4,24" ∷ "5,0" ∷ [],
    ) ∷
    -- 64 versions: 24 comes before the questions that would say 3 and 12
    (
      joined (
          bytes "spec a provides; std 00" ∷ each ";" ("0" ∷ "1" ∷ "2" ∷ "3" ∷ []) hex "" ∷ bytes " end " ∷
          bytes "spec a provides; std x" ∷ each ";" ("0" ∷ "1" ∷ "2" ∷ "3" ∷ []) hex "" ∷ bytes " end" ∷ []),
      "1,3" ∷ "2,24" ∷ [],
    ) ∷
    -- 256 implementations: 24 comes before the questions that would say 3 and 4
    (
      joined (
          bytes "mod a; v impl \"00\"" ∷ each ";v impl\"" hex hex "\"" ∷ bytes " end " ∷
          bytes "mod a; v impl \"x\"" ∷ each ";v impl\"" hex hex "\"" ∷ bytes " end" ∷ []),
      "1,3" ∷ "2,24" ∷ [],
    ) ∷ []

pub no_place : map (λ x. (session x.0).0) full ≡ map (λ x. page x.1) full
unfolding all_of_text
no_place = refl
