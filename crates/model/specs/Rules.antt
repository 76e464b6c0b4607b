-- The needs of a pair, and the rules B1 to B9 of a book (document 01, "What a book holds").
use Rattle.std.specs.Prelude.{Bool, suc, zero, ℕ}
use Rattle.model.specs.Book.{Book, Modules, Specs, Systems, components, composed, facilities, has_version, implementation}
use Rattle.model.specs.Book.{is_defined, is_member, is_module, is_system, member, provides, requires, specified, standard, usable}
use Rattle.model.specs.Book.{versions}
use Rattle.model.specs.Maps.{has, if_there, is_some}
use Rattle.sets.specs.Sets.{Set, disjoint, meet, minus, subset, union}
use Rattle.sets.specs.Tests.{◌&◌, ◌=?◌, ◌or◌, ◌⇒◌, ◌⇔◌, all, any, if?◌then◌else◌, ~◌}

-- "Needs (lines 2.47 to 2.52): of a component that is no system, what its version requires; the needs of a system version are the
-- union of its members' needs. What the members supply to one another is not taken away." Down to n levels of systems:
unfoldable pub needs_to : ℕ → Specs → Systems → ℕ → ℕ → Set
needs_to zero S Y c v f = requires S c v f
needs_to (suc n) S Y c v f =
    if? is_system Y c then any components (λ d. has (member Y c v d) (λ w. needs_to n S Y d w f)) else requires S c v f

-- With B4 a book has no more levels than components, so the bound bounds nothing (`needs_means`).
unfoldable pub needs : Specs → Systems → ℕ → ℕ → Set
needs S Y c v f = needs_to components S Y c v f

-- s reaches c through usable components, in one to n + 1 steps
unfoldable pub reaches_in : ℕ → Systems → ℕ → ℕ → Bool
reaches_in zero Y s c = usable Y s c
reaches_in (suc n) Y s c =
    let further = any components (λ d. let rest = reaches_in n Y d c in usable Y s d & rest) in
    usable Y s c or further

-- s reaches c "through usable components, in one step or more": more steps than components reach nothing new (`reaches_means`)
unfoldable pub reaches : Systems → ℕ → ℕ → Bool
reaches Y s c = reaches_in components Y s c

-- all that the usable components of s provide
unfoldable pub offered : Specs → Systems → ℕ → Set
offered S Y s f = any components (λ c. usable Y s c & provides S c f)

-- "For a composition of system s, p is all that its members provide
unfoldable pub p : Specs → Systems → ℕ → ℕ → Set
p S Y s v f = any components (λ c. is_member Y s v c & provides S c f)

-- and r the union of its members' needs, each member's own included."
unfoldable pub r : Specs → Systems → ℕ → ℕ → Set
r S Y s v f = any components (λ c. has (member Y s v c) (λ w. needs S Y c w f))

-- ---- over a book

unfoldable pub each_specified : Specs → (ℕ → Bool) → Bool
each_specified S test = all components (λ c. specified S c ⇒ test c)

unfoldable pub each_system : Systems → (ℕ → Bool) → Bool
each_system Y test = all components (λ s. is_system Y s ⇒ test s)

unfoldable pub each_composition : Systems → (ℕ → ℕ → Bool) → Bool
each_composition Y test = all components (λ s. all versions (λ v. composed Y s v ⇒ test s v))

-- ---- the rules

-- "B1 A version requires nothing that its component provides. The standard version is one of its versions."
unfoldable pub B1_at : Specs → ℕ → Bool
B1_at S c = all versions (λ v. disjoint facilities (requires S c v) (provides S c)) & has_version S c (standard S c)

unfoldable pub B1 : Specs → Bool
B1 S = each_specified S (B1_at S)

-- "B2 Only specified components are defined or usable; none is both module and system; a definition covers exactly the specified
-- versions; a system's specified requirements are empty."
unfoldable pub B2_at : Specs → Modules → Systems → ℕ → Bool
B2_at S M Y c =
    (is_defined M Y c ⇒ specified S c)
    & all components (λ d. usable Y c d ⇒ specified S d)
    & (is_module M c ⇒ ~ is_system Y c)
    & (is_module M c ⇒ all versions (λ v. is_some (implementation M c v) ⇔ has_version S c v))
    & (is_system Y c ⇒ all versions (λ v. composed Y c v ⇔ has_version S c v))
    & (is_system Y c ⇒ all versions (λ v. all facilities (λ f. ~ requires S c v f)))

unfoldable pub B2 : Specs → Modules → Systems → Bool
B2 S M Y = all components (B2_at S M Y)

-- "B3 What a system provides is provided by its usable components together."
unfoldable pub B3_at : Specs → Systems → ℕ → Bool
B3_at S Y s = subset facilities (provides S s) (offered S Y s)

unfoldable pub B3 : Specs → Systems → Bool
B3 S Y = each_system Y (B3_at S Y)

-- "B4 No system reaches itself through usable components, in one step or more."
unfoldable pub B4 : Systems → Bool
B4 Y = each_system Y (λ s. ~ reaches Y s s)

-- "B5 A composition has a member; each member is usable, with a version that it has."
unfoldable pub B5_at : Specs → Systems → ℕ → ℕ → Bool
B5_at S Y s v = any components (is_member Y s v) & all components (λ c. if_there (member Y s v c) (λ w. usable Y s c & has_version S c w))

unfoldable pub B5 : Specs → Systems → Bool
B5 S Y = each_composition Y (B5_at S Y)

-- "B6 Two members provide no common facility."
unfoldable pub B6_at : Specs → Systems → ℕ → ℕ → Bool
B6_at S Y s v =
    all components (λ c. is_member Y s v c ⇒ all components (λ d. is_member Y s v d ⇒ ~ (c =? d) ⇒
    disjoint facilities (provides S c) (provides S d)))

unfoldable pub B6 : Specs → Systems → Bool
B6 S Y = each_composition Y (B6_at S Y)

-- "B7 Each member provides something in r or in what s provides."
unfoldable pub B7_at : Specs → Systems → ℕ → ℕ → Bool
B7_at S Y s v = all components (λ c. is_member Y s v c ⇒ meet facilities (provides S c) (union (r S Y s v) (provides S s)))

unfoldable pub B7 : Specs → Systems → Bool
B7 S Y = each_composition Y (B7_at S Y)

-- "B8 p holds all that s provides."
unfoldable pub B8_at : Specs → Systems → ℕ → ℕ → Bool
B8_at S Y s v = subset facilities (provides S s) (p S Y s v)

unfoldable pub B8 : Specs → Systems → Bool
B8 S Y = each_composition Y (B8_at S Y)

-- "B9 No facility in r outside p is provided by a usable component of s." It follows the annotation 2.35, not the formula there.
unfoldable pub B9_at : Specs → Systems → ℕ → ℕ → Bool
B9_at S Y s v = disjoint facilities (minus (r S Y s v) (p S Y s v)) (offered S Y s)

unfoldable pub B9 : Specs → Systems → Bool
B9 S Y = each_composition Y (B9_at S Y)

-- B5 to B9 "for every system", as the question for 21 asks
unfoldable pub B5_to_B9 : Book → Bool
B5_to_B9 b =
    B5 b.specs b.systems & B6 b.specs b.systems & B7 b.specs b.systems & B8 b.specs b.systems
    & B9 b.specs b.systems

unfoldable pub B1_to_B9 : Book → Bool
B1_to_B9 b =
    B1 b.specs & B2 b.specs b.modules b.systems & B3 b.specs b.systems & B4 b.systems & B5_to_B9 b
