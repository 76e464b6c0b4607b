-- The numbers of a written command stay as the tables grow: a place is held until the session ends.
use Rattle.std.specs.Prelude.{Bool, true, List, [], ◌++◌, ◌∷◌, map, ◌≡◌, refl, ℕ, length}
use Rattle.std.proofs.Common.{append_assoc, append-nil, inl, inr, ◌∙◌, ap, subst, sym, arith}
use Rattle.std.proofs.Math.Option.{Option, none, some}
use Rattle.model.specs.Commands.{ADD-MOD, ADD-SPEC, ADD-SYS, Command, Members}
use Rattle.model.specs.Lists.{every}
use Rattle.model.specs.Maps.{if_there, option_map}
use Rattle.sets.specs.TestLaws.{and_in, and_l, and_r, bool?, if-false, or_l, or_r}
use Rattle.sets.specs.Tests.{◌&◌}
use Rattle.text.specs.Bytes.{among, same}
use Rattle.text.specs.Language.{CHOICE, DELMOD, DELMODVAR, DELSPEC, DELSYS, DELSYSVAR, MOD, MODVAR, NEEDS, Name, NamedMembers, OUT}
use Rattle.text.specs.Language.{PARTS, SPEC, STANDARD, SUPPLIES, SYS, SYSVAR, Said, UNDEFINED, UNUSED, WHEREUSED, standards}
use Rattle.text.specs.Tables.{Table, Tables, enter, entered, given, joined, member_names, member_versions, mod_names, mod_numbered}
use Rattle.text.specs.Tables.{no_names, number, numbered_members, numbers, spec_names, spec_numbered, sys_names, sys_numbered}
use Rattle.text_laws.specs.FourTables.{Kind, a_component, a_facility, a_version, an_implementation, entered_table, table}
use Rattle.text_laws.specs.Places.{enter_has, enter_longer, number_longer}
use Rattle.text_laws.specs.ReadsBack.{flag}
use Rattle.text_laws.specs.TextLaws.{every-among, every_l, every_r, map-every, same_out, same_refl}

-- ---- what the three written commands mention, and their numbers

unfoldable pub mentioned : Said → Tables
mentioned (SPEC c ps vs s) = spec_names c ps vs
mentioned (MOD c is) = mod_names c is
mentioned (SYS c us ks) = sys_names c us ks
mentioned (MODVAR c v rs i) = no_names
mentioned (SYSVAR c v ms) = no_names
mentioned (DELSPEC c) = no_names
mentioned (DELMOD c) = no_names
mentioned (DELSYS c) = no_names
mentioned (SUPPLIES c) = no_names
mentioned (STANDARD c) = no_names
mentioned (WHEREUSED c) = no_names
mentioned (DELMODVAR c v) = no_names
mentioned (DELSYSVAR c v) = no_names
mentioned (NEEDS c v) = no_names
mentioned (PARTS c v) = no_names
mentioned (CHOICE fs) = no_names
mentioned UNDEFINED = no_names
mentioned UNUSED = no_names
mentioned OUT = no_names

-- a command with its numbers in the tables t
pub data Numbered (t : Tables) : Said → Command → Type 0 where
  n_spec : {c : Name} {ps : List Name} {vs : List (Name × List Name)} {s : Name}
      → Numbered t (SPEC c ps vs s) (spec_numbered t c ps vs s)
  n_mod : {c : Name} {is : List (Name × Name)} → Numbered t (MOD c is) (mod_numbered t c is)
  n_sys : {c : Name} {us : List Name} {ks : List (Name × NamedMembers)} → Numbered t (SYS c us ks) (sys_numbered t c us ks)

-- ---- the numbers of a command stay as the tables grow

-- T is t with more names behind
pub record Grown (t T : Table) : Type 0 where
  pub more : Table
  pub is : T ≡ t ++ more

abbrev pub Longer : Tables → Tables → Type 0
Longer t T = (k : Kind) → Grown (table k t) (table k T)

grown_trans : {t u v : Table} → Grown t u → Grown u v → Grown t v
grown_trans {t} a b = record {
  more = a.more ++ b.more;
  is = b.is ∙ ap (λ (z : Table). z ++ b.more) a.is ∙ append_assoc t a.more b.more;
}

grown_enter : (t : Table) (ws : List Name) → Grown t (enter t ws)
grown_enter t ws = let q = enter_longer t ws in record { more = q.0; is = q.1 }

grown_self : (t : Table) → Grown t t
grown_self t = record { more = []; is = sym (append-nil t) }

pub longer_self : (t : Tables) → Longer t t
longer_self t k = grown_self (table k t)

pub longer_trans : (t u v : Tables) → Longer t u → Longer u v → Longer t v
longer_trans t u v a b k = grown_trans (a k) (b k)

pub longer_entered : (t m : Tables) → Longer t (entered t m)
longer_entered t m k = subst (Grown (table k t)) (sym (entered_table k t m)) (grown_enter (table k t) (table k m))

stays : (t T : Table) → Grown t T → (w : Name) → among w t ≡ true → number t w ≡ number T w
stays t T l w a = sym (number_longer t l.more w a) ∙ ap (λ (z : Table). number z w) (sym l.is)

unfoldable pub inside : Table → List Name → Bool
inside t ws = every (λ w. among w t) ws

numbers_stay : (t T : Table) → Grown t T → (ws : List Name) → inside t ws ≡ true → numbers t ws ≡ numbers T ws
unfolding numbers inside
numbers_stay t T l ws i = map-every _ _ _ ws i (λ w a. stays t T l w a)

unfoldable pub spec_in : (tv tf : Table) → Name × List Name → Bool
spec_in tv tf x = among x.0 tv & inside tf x.1

pub spec_in_lem : (tv tf : Table) (vs : List (Name × List Name)) → inside tv (map (λ x. x.0) vs) ≡ true
    → inside tf (joined (map (λ x. x.1) vs)) ≡ true → every (spec_in tv tf) vs ≡ true
unfolding every inside spec_in joined
spec_in_lem tv tf [] a b = refl
spec_in_lem tv tf (x ∷ xs) a b =
    and_in _ _ (and_in _ _ (and_l _ _ a) (every_l _ x.1 _ b)) (spec_in_lem tv tf xs (and_r _ _ a) (every_r _ x.1 _ b))

pub std_among : (s : Name) (vs : List (Name × List Name)) → standards (map (flag s) vs) ≡ s ∷ []
    → among s (map (λ x. x.0) vs) ≡ true
unfolding standards flag among
std_among s [] e = absurd (let z : ◌≡◌ {A = ℕ} 0 1 = ap length e in omega arith)
std_among s (x ∷ xs) e =
    elim (bool? (same x.0 s)) [
      | inl q ↦ or_l _ _ (ap (same s) (same_out x.0 s q) ∙ same_refl s)
      | inr q ↦ or_r _ _ (std_among s xs (sym (if-false _ _ _ q) ∙ e))
    ]

unfoldable pub mod_in : (tv ti : Table) → Name × Name → Bool
mod_in tv ti x = among x.0 tv & among x.1 ti

pub mod_in_lem : (tv ti : Table) (is : List (Name × Name)) → inside tv (map (λ x. x.0) is) ≡ true
    → inside ti (map (λ x. x.1) is) ≡ true
    → every (mod_in tv ti) is ≡ true
unfolding every inside mod_in
mod_in_lem tv ti [] a b = refl
mod_in_lem tv ti (x ∷ xs) a b = and_in _ _ (and_in _ _ (and_l _ _ a) (and_l _ _ b)) (mod_in_lem tv ti xs (and_r _ _ a) (and_r _ _ b))

unfoldable pub member_in : (tc tv : Table) → Name × Option Name → Bool
member_in tc tv m = among m.0 tc & if_there m.1 (λ v. among v tv)

pub members_in_lem : (tc tv : Table) (ms : NamedMembers) → inside tc (member_names ms) ≡ true → inside tv (member_versions ms) ≡ true
    → every (member_in tc tv) ms ≡ true
unfolding every inside member_in member_names member_versions given if_there
members_in_lem tc tv [] a b = refl
members_in_lem tc tv ((c, none) ∷ ms) a b = and_in _ _ (and_in _ _ (and_l _ _ a) refl) (members_in_lem tc tv ms (and_r _ _ a) b)
members_in_lem tc tv ((c, some v) ∷ ms) a b = and_in _ _ (and_in _ _ (and_l _ _ a) (and_l _ _ b))
    (members_in_lem tc tv ms (and_r _ _ a) (and_r _ _ b))

unfoldable pub sys_in : (tc tv : Table) → Name × NamedMembers → Bool
sys_in tc tv x = among x.0 tv & every (member_in tc tv) x.1

pub sys_in_lem : (tc tv : Table) (ks : List (Name × NamedMembers)) → inside tc (joined (map (λ x. member_names x.1) ks)) ≡ true
    → inside tv (joined (map (λ x. x.0 ∷ member_versions x.1) ks)) ≡ true → every (sys_in tc tv) ks ≡ true
unfolding every inside sys_in joined
sys_in_lem tc tv [] a b = refl
sys_in_lem tc tv (x ∷ xs) a b =
    and_in _ _ (and_in _ _ (and_l _ _ b)
    (members_in_lem tc tv x.1 (unfold inside in every_l _ (member_names x.1) _ a) (unfold inside in
    every_l _ (member_versions x.1) _ (and_r _ _ b))))
    (sys_in_lem tc tv xs (every_r _ (member_names x.1) _ a) (every_r _ (member_versions x.1) _ (and_r _ _ b)))

-- the names that a command mentions have places after it
pub names_in_lem : (t : Table) (ws : List Name) → inside (enter t ws) ws ≡ true
unfolding inside
names_in_lem t ws = enter_has t ws

pub in_head : (t : Table) (w : Name) (ws : List Name) → inside t (w ∷ ws) ≡ true → among w t ≡ true
unfolding inside every
in_head t w ws h = and_l _ _ h

pub in_l : (t : Table) (xs ys : List Name) → inside t (xs ++ ys) ≡ true → inside t xs ≡ true
unfolding inside
in_l t xs ys h = every_l _ xs ys h

pub in_r : (t : Table) (xs ys : List Name) → inside t (xs ++ ys) ≡ true → inside t ys ≡ true
unfolding inside
in_r t xs ys h = every_r _ xs ys h

pub in_among : (t : Table) (ws : List Name) (w : Name) → inside t ws ≡ true → among w ws ≡ true → among w t ≡ true
unfolding inside
in_among t ws w h a = every-among (λ x. among x t) ws w h a

spec_one : (t T : Tables) → Longer t T → (x : Name × List Name) → spec_in t.vers t.facs x ≡ true
    → ◌≡◌ {A = ℕ × List ℕ} (number t.vers x.0, numbers t.facs x.1) (number T.vers x.0, numbers T.facs x.1)
unfolding spec_in
spec_one t T l x h =
    let a = stays _ _ (l a_version) x.0 (and_l _ _ h) in
    let b = numbers_stay _ _ (l a_facility) x.1 (and_r _ _ h) in
    λ i. (a i, b i)

pub same_spec : (t T : Tables) (c : Name) (ps : List Name) (vs : List (Name × List Name)) (d : Name) → Longer t T
    → inside t.comps (c ∷ []) ≡ true → inside t.vers (map (λ x. x.0) vs) ≡ true
    → inside t.facs (ps ++ joined (map (λ x. x.1) vs)) ≡ true → among d (map (λ x. x.0) vs) ≡ true
    → spec_numbered t c ps vs d ≡ spec_numbered T c ps vs d
unfolding spec_numbered
same_spec t T c ps vs d l ic iv if' ad =
    let e₁ = stays _ _ (l a_component) c (in_head _ c [] ic) in
    let e₂ = numbers_stay _ _ (l a_facility) ps (in_l _ ps _ if') in
    let e₃ = map-every (spec_in t.vers t.facs) (λ x. (number t.vers x.0, numbers t.facs x.1))
    (λ x. (number T.vers x.0, numbers T.facs x.1)) vs (spec_in_lem _ _ vs iv (in_r _ ps _ if'))
    (λ x h. spec_one t T l x h) in
    let e₄ = stays _ _ (l a_version) d (in_among _ _ d iv ad) in
    λ i. ADD-SPEC (e₁ i) (e₂ i) (e₃ i) (e₄ i)

mod_one : (t T : Tables) → Longer t T → (x : Name × Name) → mod_in t.vers t.impls x ≡ true
    → ◌≡◌ {A = ℕ × ℕ} (number t.vers x.0, number t.impls x.1) (number T.vers x.0, number T.impls x.1)
unfolding mod_in
mod_one t T l x h =
    let a = stays _ _ (l a_version) x.0 (and_l _ _ h) in
    let b = stays _ _ (l an_implementation) x.1 (and_r _ _ h) in
    λ i. (a i, b i)

pub same_mod : (t T : Tables) (c : Name) (is : List (Name × Name)) → Longer t T → inside t.comps (c ∷ []) ≡ true
    → inside t.vers (map (λ x. x.0) is) ≡ true → inside t.impls (map (λ x. x.1) is) ≡ true
    → mod_numbered t c is ≡ mod_numbered T c is
unfolding mod_numbered
same_mod t T c is l ic iv ii =
    let e₁ = stays _ _ (l a_component) c (in_head _ c [] ic) in
    let e₃ = map-every (mod_in t.vers t.impls) (λ x. (number t.vers x.0, number t.impls x.1))
    (λ x. (number T.vers x.0, number T.impls x.1)) is (mod_in_lem _ _ is iv ii) (λ x h. mod_one t T l x h) in
    λ i. ADD-MOD (e₁ i) (e₃ i)

member_one : (t T : Tables) → Longer t T → (c : Name) (v : Option Name) → member_in t.comps t.vers (c, v) ≡ true
    → ◌≡◌ {A = ℕ × Option ℕ} (number t.comps c, option_map (number t.vers) v)
    (number T.comps c, option_map (number T.vers) v)
unfolding member_in if_there option_map
member_one t T l c none h = let a = stays _ _ (l a_component) c (and_l _ _ h) in λ i. (a i, none)
member_one t T l c (some v) h =
    let a = stays _ _ (l a_component) c (and_l _ _ h) in
    let b = stays _ _ (l a_version) v (and_r _ _ h) in
    λ i. (a i, some (b i))

sys_one : (t T : Tables) → Longer t T → (x : Name × NamedMembers) → sys_in t.comps t.vers x ≡ true
    → ◌≡◌ {A = ℕ × Members} (number t.vers x.0, numbered_members t x.1)
    (number T.vers x.0, numbered_members T x.1)
unfolding sys_in numbered_members
sys_one t T l x h =
    let a = stays _ _ (l a_version) x.0 (and_l _ _ h) in
    let b = map-every (member_in t.comps t.vers) (λ m. (number t.comps m.0, option_map (number t.vers) m.1))
    (λ m. (number T.comps m.0, option_map (number T.vers) m.1)) x.1 (and_r _ _ h)
    (λ m k. member_one t T l m.0 m.1 k) in
    λ i. (a i, b i)

pub same_sys : (t T : Tables) (c : Name) (us : List Name) (ks : List (Name × NamedMembers)) → Longer t T
    → inside t.comps (c ∷ us ++ joined (map (λ x. member_names x.1) ks)) ≡ true
    → inside t.vers (joined (map (λ x. x.0 ∷ member_versions x.1) ks)) ≡ true
    → sys_numbered t c us ks ≡ sys_numbered T c us ks
unfolding sys_numbered
same_sys t T c us ks l ic iv =
    let e₁ = stays _ _ (l a_component) c (in_head _ c _ ic) in
    let e₂ = numbers_stay _ _ (l a_component) us (in_l _ us _ (in_r _ (c ∷ []) _ ic)) in
    let e₃ = map-every (sys_in t.comps t.vers) (λ x. (number t.vers x.0, numbered_members t x.1))
    (λ x. (number T.vers x.0, numbered_members T x.1)) ks (sys_in_lem _ _ ks (in_r _ us _ (in_r _ (c ∷ []) _ ic)) iv)
    (λ x h. sys_one t T l x h) in
    λ i. ADD-SYS (e₁ i) (e₂ i) (e₃ i)
