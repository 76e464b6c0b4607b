-- The queries (document 01, "Queries"; PRG-31, lines 15.0 to 21.6), and the questions that are put to them.
use Rattle.std.specs.Prelude.{Bool, List, [], ◌++◌, ◌∷◌, map, suc, zero, ℕ}
use Rattle.model.specs.Book.{Book, Pair, components, facilities, has_version, is_defined, is_module, provides, specified}
use Rattle.model.specs.Book.{standard, versions}
use Rattle.model.specs.Lists.{rising, set_of}
use Rattle.model.specs.PartsList.{longest_chain, parts}
use Rattle.model.specs.Questions.{Question, each_below, first_no, usable_in_none}
use Rattle.model.specs.Rules.{needs, reaches}
use Rattle.sets.specs.Sets.{subset}
use Rattle.sets.specs.Tests.{◌&◌, ◌<?◌, ◌=?◌, ~◌}

pub data Query : Type 0 where
  SUPPLIES STANDARD WHEREUSED : ℕ → Query
  NEEDS PARTS : ℕ → ℕ → Query
  CHOICE : List ℕ → Query
  UNDEFINED UNUSED : Query

-- the questions that name a query, but for 22, which is put to the slice, and 25
unfoldable pub asked : Book → Query → List Question
asked b (SUPPLIES c) = (1, c <? components) ∷ (4, specified b.specs c) ∷ []
asked b (STANDARD c) = (1, c <? components) ∷ (4, specified b.specs c) ∷ []
asked b (WHEREUSED c) = (1, c <? components) ∷ (4, specified b.specs c) ∷ []
asked b (NEEDS c v) = (1, c <? components & v <? versions) ∷ (4, specified b.specs c) ∷ (10, has_version b.specs c v) ∷ []
asked b (PARTS c v) = (1, c <? components & v <? versions) ∷ (4, specified b.specs c) ∷ (10, has_version b.specs c v) ∷ []
asked b (CHOICE fs) = (1, each_below facilities fs) ∷ []
asked b UNDEFINED = []
asked b UNUSED = []

-- ---- what is found

-- of the pairs of k components from c on, those that pass the test, "by component, then version"
unfoldable pub pairs_from : ℕ → ℕ → (ℕ → ℕ → Bool) → List Pair
pairs_from zero c test = []
pairs_from (suc k) c test = map (λ v. (c, v)) (rising versions (test c)) ++ pairs_from k (suc c) test

unfoldable pub rising_pairs : (ℕ → ℕ → Bool) → List Pair
rising_pairs test = pairs_from components 0 test

-- line 17.2: the pairs whose component provides all the facilities fs
unfoldable pub choice : Book → List ℕ → List Pair
choice b fs = rising_pairs (λ c v. has_version b.specs c v & subset facilities (set_of fs) (provides b.specs c))

-- line 19.1: the specified components that are not defined
unfoldable pub undefined : Book → List ℕ
undefined b = rising components (λ c. specified b.specs c & ~ is_defined b.modules b.systems c)

-- line 20.1: the modules that are usable in no system
unfoldable pub unused : Book → List ℕ
unused b = rising components (λ c. is_module b.modules c & usable_in_none b c)

-- lines 21.2 to 21.6: "WHEREUSED follows usable lists, not compositions." (`whereused_means`)
unfoldable pub where_used : Book → ℕ → List ℕ
where_used b c = rising components (λ s. ~ (s =? c) & reaches b.systems s c)

-- ---- what comes back

pub data Reply : Type 0 where
  refused : ℕ → Reply
  the_facilities the_components : List ℕ → Reply
  the_version : ℕ → Reply
  the_pairs : List Pair → Reply
  -- the rows, and the longest chain
  the_parts : List Pair → ℕ → Reply

unfoldable pub found : Book → Query → Reply
found b (SUPPLIES c) = the_facilities (rising facilities (provides b.specs c))
found b (NEEDS c v) = the_facilities (rising facilities (needs b.specs b.systems c v))
found b (CHOICE fs) = the_pairs (choice b fs)
found b (STANDARD c) = the_version (standard b.specs c)
found b UNDEFINED = the_components (undefined b)
found b UNUSED = the_components (unused b)
found b (WHEREUSED c) = the_components (where_used b c)
found b (PARTS c v) = the_parts (parts b c v) (longest_chain b.systems c v)

unfoldable pub reply : Book → Query → Reply
reply b q = elim (first_no (asked b q)) [ zero ↦ found b q | suc n ↦ refused (suc n) ]
