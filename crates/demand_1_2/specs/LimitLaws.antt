-- The names that a command mentions have numbers below their limits, where there is a place for each. So no command of a session is refused
-- with 1.
use Rattle.std.specs.Prelude.{Bool, true, List, [], ◌++◌, ◌∷◌, map, ◌≡◌, ◌≤◌, ℕ, length}
use Rattle.std.proofs.Common.{inl, inr, ◌∙◌, ap, subst, sym, arith}
use Rattle.std.proofs.Math.Option.{Option, none, some}
use Rattle.std.proofs.Math.Path.{refl}
use Rattle.model.specs.Book.{components, facilities, implementations, versions}
use Rattle.model.specs.Lists.{elem, every, firsts, non_empty, seconds}
use Rattle.model.specs.Maps.{if_there, is_some, option_map}
use Rattle.model.specs.Questions.{each_below, in_limits, member_below}
use Rattle.sets.specs.TestLaws.{<?_in, <?_out, =?-in, and_in, and_l, and_r, or_l, or_out, or_r}
use Rattle.sets.specs.Tests.{◌&◌, ◌<?◌}
use Rattle.text.specs.Bytes.{among}
use Rattle.text.specs.Language.{Name, NamedMembers}
use Rattle.text.specs.Tables.{Table, Tables, enter, entered, fits, joined, member_names, member_versions, mod_names, mod_numbered}
use Rattle.text.specs.Tables.{modvar_names, modvar_numbered, number, numbered_members, numbers, place, spec_names, spec_numbered, sys_names}
use Rattle.text.specs.Tables.{sys_numbered, sysvar_names, sysvar_numbered}
use Rattle.text_laws.specs.FourTables.{a_component, a_facility, a_version, an_implementation, each_fits}
use Rattle.text_laws.specs.Numbered.{in_among, in_head, in_l, in_r, inside, member_in, members_in_lem, mod_in_lem, mod_in, names_in_lem, spec_in_lem, spec_in}
use Rattle.text_laws.specs.Numbered.{sys_in_lem, sys_in}
use Rattle.text_laws.specs.Places.{number_at, place_name}
use Rattle.text_laws.specs.TextLaws.{every_imp, every_map, same_out}
use Rattle.text_laws.specs.ValidTables.{held, number_held, numbers_held}
use Rattle.model_laws.specs.MapLaws.{is_some_out}
use Rattle.demand_1_2.specs.WholeLaws.{some_mapped}

-- ---- one table, of at most n names

place_below : (n : ℕ) (t : Table) → length t ≤ n → (w : Name) (k : ℕ) → place t w ≡ some k → (k <? n) ≡ true
place_below n t h w k e = let l = (place_name t w k e).1 in <?_in k n (omega arith)

held_below : (n : ℕ) (t : Table) → length t ≤ n → (k : ℕ) → held t k ≡ true → (k <? n) ≡ true
unfolding held
held_below n t h k e = let l = <?_out _ _ e in <?_in k n (omega arith)

number_below : (n : ℕ) (t : Table) → length t ≤ n → (w : Name) → among w t ≡ true → (number t w <? n) ≡ true
number_below n t h w a = held_below n t h _ (number_held t w a)

numbers_below : (n : ℕ) (t : Table) → length t ≤ n → (ws : List Name) → inside t ws ≡ true → each_below n (map (number t) ws) ≡ true
unfolding each_below
numbers_below n t h ws i = every_imp (held t) _ (map (number t) ws) (held_below n t h) (numbers_held t ws i)

-- facilities that all have a number
placed_below : (n : ℕ) (t : Table) → length t ≤ n → (ws : List Name) → every (λ w. is_some (place t w)) ws ≡ true
    → each_below n (numbers t ws) ≡ true
unfolding each_below numbers
placed_below n t h ws i = every_map (number t) _ ws ∙ every_imp _ _ ws (λ w a. (let q = is_some_out (place t w) a in
    subst (λ (k : ℕ). (k <? n) ≡ true) (sym (number_at t w q.0 q.1)) (place_below n t h w q.0 q.1))) i

-- ---- lists of pairs

firsts_mapped : {A B : Type 0} (f : A → ℕ) (g : A → B) (xs : List A) → firsts (map (λ x. (f x, g x)) xs) ≡ map f xs
unfolding firsts
firsts_mapped f g [] = refl
firsts_mapped f g (x ∷ xs) = ap (λ (l : List ℕ). f x ∷ l) (firsts_mapped f g xs)

seconds_mapped : {A B : Type 0} (f : A → ℕ) (g : A → B) (xs : List A) → seconds (map (λ x. (f x, g x)) xs) ≡ map g xs
unfolding seconds
seconds_mapped f g [] = refl
seconds_mapped f g (x ∷ xs) = ap (λ (l : List _). g x ∷ l) (seconds_mapped f g xs)

module _ {A B : Type 0} (test : A → Bool) (f : A → ℕ) (g : A → B) (xs : List A) (e : every test xs ≡ true) where
  firsts_pass : (P : ℕ → Bool) → ((x : A) → test x ≡ true → P (f x) ≡ true) → every P (firsts (map (λ x. (f x, g x)) xs)) ≡ true
  firsts_pass P h = ap (every P) (firsts_mapped f g xs) ∙ every_map f P xs ∙ every_imp test _ xs h e

  seconds_pass : (P : B → Bool) → ((x : A) → test x ≡ true → P (g x) ≡ true) → every P (seconds (map (λ x. (f x, g x)) xs)) ≡ true
  seconds_pass P h = ap (every P) (seconds_mapped f g xs) ∙ every_map g P xs ∙ every_imp test _ xs h e

-- ---- the adding commands, by the numbers of the tables with their names

pub spec_limits_lem : (t : Tables) (c : Name) (ps : List Name) (vs : List (Name × List Name)) (s : Name)
    → fits (entered t (spec_names c ps vs)) ≡ true → among s (map (λ x. x.0) vs) ≡ true
    → in_limits (spec_numbered (entered t (spec_names c ps vs)) c ps vs s) ≡ true
unfolding in_limits spec_numbered entered spec_names numbers spec_in each_below
spec_limits_lem t c ps vs s f a =
    let h = each_fits (entered t (spec_names c ps vs)) f in
    let tc = enter t.comps (c ∷ []) in let tv = enter t.vers (map (λ x. x.0) vs) in
    let tf = enter t.facs (ps ++ joined (map (λ x. x.1) vs)) in
    let in_f = names_in_lem t.facs (ps ++ joined (map (λ x. x.1) vs)) in let in_v = names_in_lem t.vers (map (λ x. x.0) vs) in
    let each = spec_in_lem tv tf vs in_v (in_r tf ps _ in_f) in
    and_in _ _ (number_below components tc (h a_component) c (in_head tc c [] (names_in_lem _ _)))
    (and_in _ _ (numbers_below facilities tf (h a_facility) ps (in_l tf ps _ in_f))
    (and_in _ _ (firsts_pass (spec_in tv tf) _ _ vs each _ (λ x e. number_below versions tv (h a_version) x.0 (and_l _ _ e)))
    (and_in _ _ (seconds_pass (spec_in tv tf) _ _ vs each _ (λ x e. numbers_below facilities tf (h a_facility) x.1 (and_r _ _ e)))
    (number_below versions tv (h a_version) s (in_among tv (map (λ x. x.0) vs) s in_v a)))))

pub mod_limits : (t : Tables) (c : Name) (is : List (Name × Name)) → fits (entered t (mod_names c is)) ≡ true
    → in_limits (mod_numbered (entered t (mod_names c is)) c is) ≡ true
unfolding in_limits mod_numbered entered mod_names mod_in each_below
mod_limits t c is f =
    let h = each_fits (entered t (mod_names c is)) f in
    let tc = enter t.comps (c ∷ []) in let tv = enter t.vers (map (λ x. x.0) is) in let ti = enter t.impls (map (λ x. x.1) is) in
    let each = mod_in_lem tv ti is (names_in_lem _ _) (names_in_lem _ _) in
    and_in _ _ (number_below components tc (h a_component) c (in_head tc c [] (names_in_lem _ _)))
    (and_in _ _ (firsts_pass (mod_in tv ti) _ _ is each _ (λ x e. number_below versions tv (h a_version) x.0 (and_l _ _ e)))
    (seconds_pass (mod_in tv ti) _ _ is each _ (λ x e. number_below implementations ti (h an_implementation) x.1 (and_r _ _ e))))

-- the members of a composition
module _ (tc tv : Table) (hc : length tc ≤ components) (hv : length tv ≤ versions) where
  member_below_lem : (c : Name) (v : Option Name) → member_in tc tv (c, v) ≡ true
      → member_below (number tc c, option_map (number tv) v) ≡ true
  unfolding member_in member_below if_there option_map
  member_below_lem c none e = and_in _ _ (number_below components tc hc c (and_l _ _ e)) refl
  member_below_lem c (some v) e =
      and_in _ _ (number_below components tc hc c (and_l _ _ e)) (number_below versions tv hv v (and_r _ _ e))

  members_below : (ms : NamedMembers) → every (member_in tc tv) ms ≡ true
      → every member_below (map (λ m. (number tc m.0, option_map (number tv) m.1)) ms) ≡ true
  members_below ms e = every_map _ member_below ms ∙ every_imp _ _ ms (λ m k. member_below_lem m.0 m.1 k) e

pub sys_limits : (t : Tables) (c : Name) (us : List Name) (ks : List (Name × NamedMembers)) → fits (entered t (sys_names c us ks)) ≡ true
    → in_limits (sys_numbered (entered t (sys_names c us ks)) c us ks) ≡ true
unfolding in_limits sys_numbered entered sys_names sys_in each_below numbers numbered_members
sys_limits t c us ks f =
    let h = each_fits (entered t (sys_names c us ks)) f in
    let ns = joined (map (λ x. member_names x.1) ks) in let ws = joined (map (λ x. x.0 ∷ member_versions x.1) ks) in
    let tc = enter t.comps (c ∷ us ++ ns) in let tv = enter t.vers ws in
    let in_c = names_in_lem t.comps (c ∷ us ++ ns) in let rest = in_r tc (c ∷ []) (us ++ ns) in_c in
    let each = sys_in_lem tc tv ks (in_r tc us ns rest) (names_in_lem t.vers ws) in
    and_in _ _ (number_below components tc (h a_component) c (in_head tc c _ in_c))
    (and_in _ _ (numbers_below components tc (h a_component) us (in_l tc us ns rest))
    (and_in _ _ (firsts_pass (sys_in tc tv) _ _ ks each _ (λ x e. number_below versions tv (h a_version) x.0 (and_l _ _ e)))
    (seconds_pass (sys_in tc tv) _ _ ks each _ (λ x e. members_below tc tv (h a_component) (h a_version) x.1 (and_r _ _ e)))))

pub modvar_limits : (t : Tables) (c v : Name) (rs : List Name) (i : Name) → fits (entered t (modvar_names c v rs i)) ≡ true
    → in_limits (modvar_numbered (entered t (modvar_names c v rs i)) c v rs i) ≡ true
unfolding in_limits modvar_numbered entered modvar_names numbers
modvar_limits t c v rs i f =
    let h = each_fits (entered t (modvar_names c v rs i)) f in
    and_in _ _ (number_below components _ (h a_component) c (in_head _ c [] (names_in_lem _ _)))
    (and_in _ _ (number_below versions _ (h a_version) v (in_head _ v [] (names_in_lem _ _)))
    (and_in _ _ (numbers_below facilities _ (h a_facility) rs (names_in_lem _ _))
    (number_below implementations _ (h an_implementation) i (in_head _ i [] (names_in_lem _ _)))))

pub sysvar_limits : (t : Tables) (c v : Name) (ms : NamedMembers) → fits (entered t (sysvar_names c v ms)) ≡ true
    → in_limits (sysvar_numbered (entered t (sysvar_names c v ms)) c v ms) ≡ true
unfolding in_limits sysvar_numbered entered sysvar_names numbered_members
sysvar_limits t c v ms f =
    let h = each_fits (entered t (sysvar_names c v ms)) f in
    let tc = enter t.comps (c ∷ member_names ms) in let tv = enter t.vers (v ∷ member_versions ms) in
    let in_c = names_in_lem t.comps (c ∷ member_names ms) in let in_v = names_in_lem t.vers (v ∷ member_versions ms) in
    and_in _ _ (number_below components tc (h a_component) c (in_head tc c (member_names ms) in_c))
    (and_in _ _ (number_below versions tv (h a_version) v (in_head tv v (member_versions ms) in_v))
    (members_below tc tv (h a_component) (h a_version) ms
    (members_in_lem tc tv ms (in_r tc (c ∷ []) (member_names ms) in_c) (in_r tv (v ∷ []) (member_versions ms) in_v))))

-- ---- a component and a version with their numbers

pub component_below : (t : Tables) → fits t ≡ true → (w : Name) (c : ℕ) → place t.comps w ≡ some c → (c <? components) ≡ true
component_below t f = place_below components t.comps (each_fits t f a_component)

pub pair_below : (t : Tables) → fits t ≡ true → (w x : Name) (c v : ℕ) → place t.comps w ≡ some c → place t.vers x ≡ some v
    → (c <? components & v <? versions) ≡ true
pair_below t f w x c v e q =
    and_in _ _ (component_below t f w c e) (place_below versions t.vers (each_fits t f a_version) x v q)

pub facilities_below : (t : Tables) → fits t ≡ true → (ws : List Name) → every (λ w. is_some (place t.facs w)) ws ≡ true
    → each_below facilities (numbers t.facs ws) ≡ true
facilities_below t f = placed_below facilities t.facs (each_fits t f a_facility)

-- ---- lists with an entry, and the standard version among them

pub seconds-some : {A B : Type 0} (f : Name × List A → ℕ) (g : A → B) (ks : List (Name × List A)) → every (λ x. non_empty x.1) ks ≡ true
    → every non_empty (seconds (map (λ x. (f x, map g x.1)) ks)) ≡ true
seconds-some f g ks e = seconds_pass (λ x. non_empty x.1) f (λ x. map g x.1) ks e non_empty (λ x k. some_mapped g x.1 k)

pub standard-elem : {A B : Type 0} (t : Table) (g : Name × A → B) (s : Name) (vs : List (Name × A)) → among s (map (λ x. x.0) vs) ≡ true
    → elem (number t s) (firsts (map (λ x. (number t x.0, g x)) vs)) ≡ true
unfolding among elem firsts
standard-elem t g s [] a = a
standard-elem t g s (x ∷ xs) a = elim (or_out _ _ a) [
  | inl q ↦ or_l _ _ (=?-in _ _ (ap (number t) (same_out s x.0 q)))
  | inr q ↦ or_r _ _ (standard-elem t g s xs q)
]
