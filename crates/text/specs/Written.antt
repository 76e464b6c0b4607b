-- The written text of a book, given its tables (document 01, "Text and session"): ""out" is followed by the book's text".
use Rattle.std.specs.Prelude.{Bool, false, true, List, [], ◌++◌, ◌∷◌, map, suc, zero, ℕ}
use Rattle.std.proofs.Math.Option.{Option, none, some}
use Rattle.model.specs.Book.{Book, Systems, components, composed, facilities, has_version, implementation, is_member, is_module}
use Rattle.model.specs.Book.{is_system, member, provides, requires, specified, standard, usable, versions}
use Rattle.model.specs.Lists.{elem, if_found, rising}
use Rattle.model.specs.Maps.{is_some, or_else}
use Rattle.sets.specs.Sets.{Set}
use Rattle.sets.specs.Tests.{◌&◌, ◌<?◌, ◌=?◌, ◌or◌, ◌⇒◌, all, if?◌then◌else◌, ~◌}
use Rattle.text.specs.Bytes.{Text, bytes, same}
use Rattle.text.specs.Language.{CHOICE, DELMOD, DELMODVAR, DELSPEC, DELSYS, DELSYSVAR, MOD, MODVAR, NEEDS, Name, NamedMembers}
use Rattle.text.specs.Language.{OUT, PARTS, SPEC, STANDARD, SUPPLIES, SYS, SYSVAR, Said, UNDEFINED, UNUSED, WHEREUSED}
use Rattle.text.specs.Tables.{Table, Tables, joined, name_at}

-- ---- a command as a line of text

-- pieces with the text p between each two
unfoldable pub parted : Text → List Text → Text
parted p [] = []
parted p (x ∷ []) = x
parted p (x ∷ (y ∷ ys)) = x ++ (p ++ parted p (y ∷ ys))

unfoldable pub commas : List Text → Text
commas xs = parted (bytes ", ") xs

-- "Several versions are parted by "; ""
unfoldable pub semicolons : List Text → Text
semicolons xs = parted (bytes "; ") xs

unfoldable pub requiring : List Name → Text
requiring [] = []
requiring (f ∷ fs) = bytes " requires " ++ commas (f ∷ fs)

-- a version of a spec whose standard version is s
unfoldable pub spec_piece : Name → Name × List Name → Text
spec_piece s x = (if? same x.0 s then bytes "std " else []) ++ (x.0 ++ requiring x.1)

unfoldable pub mod_piece : Name × Name → Text
mod_piece x = x.0 ++ (bytes " impl \"" ++ (x.1 ++ bytes "\""))

unfoldable pub member_piece : Name × Option Name → Text
member_piece (c, none) = c
member_piece (c, some v) = c ++ (bytes "." ++ v)

unfoldable pub sys_piece : Name × NamedMembers → Text
sys_piece x = x.0 ++ (bytes " = " ++ commas (map member_piece x.1))

-- "Every line ends with a line feed. .. a module line reads `mod loop; p impl "x" end`; with no facility it reads `provides ;`."
unfoldable pub line : Said → Text
line (SPEC c ps vs s) =
    bytes "spec " ++ (c ++ (bytes " provides "
    ++ (commas ps ++ (bytes "; " ++ (semicolons (map (spec_piece s) vs) ++ bytes " end\n")))))
line (MOD c is) = bytes "mod " ++ (c ++ (bytes "; " ++ (semicolons (map mod_piece is) ++ bytes " end\n")))
line (SYS c us ks) =
    bytes "sys " ++ (c ++ (bytes " use " ++ (commas us ++ (bytes "; " ++ (semicolons (map sys_piece ks) ++ bytes " end\n")))))
-- no other command is written
line (MODVAR c v rs i) = []
line (SYSVAR c v ms) = []
line (DELSPEC c) = []
line (DELMOD c) = []
line (DELSYS c) = []
line (SUPPLIES c) = []
line (STANDARD c) = []
line (WHEREUSED c) = []
line (DELMODVAR c v) = []
line (DELSYSVAR c v) = []
line (NEEDS c v) = []
line (PARTS c v) = []
line (CHOICE fs) = []
line UNDEFINED = []
line UNUSED = []
line OUT = []

-- ---- order

-- "by rising bytes of the name (a name before its extensions)"
unfoldable pub before : Name → Name → Bool
before [] [] = false
before [] (d ∷ ds) = true
before (c ∷ cs) [] = false
before (c ∷ cs) (d ∷ ds) = c <? d or (c =? d & before cs ds)

-- the number n put among numbers that rise by name in the table t
unfoldable pub insert : Table → ℕ → List ℕ → List ℕ
insert t n [] = n ∷ []
insert t n (m ∷ ms) = let on = m ∷ insert t n ms in if? before (name_at t n) (name_at t m) then n ∷ m ∷ ms else on

unfoldable pub sorted : Table → List ℕ → List ℕ
sorted t [] = []
sorted t (n ∷ ns) = insert t n (sorted t ns)

-- the numbers below n that pass the test, by their names in the table t
unfoldable pub by_name : Table → ℕ → (ℕ → Bool) → List ℕ
by_name t n test = sorted t (rising n test)

-- ---- a book as commands

unfoldable pub facility_names : Tables → Set → List Name
facility_names t fs = map (name_at t.facs) (by_name t.facs facilities fs)

unfoldable pub spec_of : Book → Tables → ℕ → Said
spec_of b t c =
    SPEC (name_at t.comps c) (facility_names t (provides b.specs c))
    (map (λ v. (name_at t.vers v, facility_names t (requires b.specs c v)))
    (by_name t.vers versions (has_version b.specs c)))
    (name_at t.vers (standard b.specs c))

unfoldable pub mod_of : Book → Tables → ℕ → Said
mod_of b t c =
    MOD (name_at t.comps c)
    (map (λ v. (name_at t.vers v, name_at t.impls (or_else (implementation b.modules c v) 0)))
    (by_name t.vers versions (λ v. is_some (implementation b.modules c v))))

-- "Members show their version."
unfoldable pub members_of : Book → Tables → ℕ → ℕ → NamedMembers
members_of b t s v =
    map (λ c. (name_at t.comps c, some (name_at t.vers (or_else (member b.systems s v c) 0))))
    (by_name t.comps components (is_member b.systems s v))

unfoldable pub sys_of : Book → Tables → ℕ → Said
sys_of b t s =
    SYS (name_at t.comps s) (map (name_at t.comps) (by_name t.comps components (usable b.systems s)))
    (map (λ v. (name_at t.vers v, members_of b t s v)) (by_name t.vers versions (composed b.systems s)))

-- the usable systems of s are all out
unfoldable pub ready : Systems → List ℕ → ℕ → Bool
ready Y out s = all components (λ c. usable Y s c ⇒ is_system Y c ⇒ elem c out)

unfoldable pub first_of : (ℕ → Bool) → List ℕ → Option ℕ
first_of test [] = none
first_of test (n ∷ ns) = let later = first_of test ns in if? test n then some n else later

-- "The next system is always the lowest name whose usable systems are all out": up to n systems more, of the systems ss by name,
-- after those of out
unfoldable pub systems_from : ℕ → Systems → List ℕ → List ℕ → List ℕ
systems_from zero Y ss out = []
systems_from (suc n) Y ss out = if_found (first_of (λ s. ~ elem s out & ready Y out s) ss) (λ s. s ∷ systems_from n Y ss (s ∷ out))

-- A book has no more systems than components, and by B4 one is always ready, so the bound bounds nothing (`systems_all`).
unfoldable pub systems_in_order : Book → Tables → List ℕ
systems_in_order b t = systems_from components b.systems (by_name t.comps components (is_system b.systems)) []

-- "specs, modules, systems, each by rising bytes of the name"
unfoldable pub as_commands : Book → Tables → List Said
as_commands b t =
    map (spec_of b t) (by_name t.comps components (specified b.specs))
    ++ (map (mod_of b t) (by_name t.comps components (is_module b.modules))
    ++ map (sys_of b t) (systems_in_order b t))

unfoldable pub written : Book → Tables → Text
written b t = joined (map line (as_commands b t))
