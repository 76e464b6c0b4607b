-- The tables of a session: valid names, none twice, and a place for each number that a command carries.
use Rattle.std.specs.Prelude.{Bool, true, List, [], ◌++◌, ◌∷◌, map, ◌≡◌, refl, ◌<◌, ℕ, length}
use Rattle.std.proofs.Math.Option.{none, some}
use Rattle.std.proofs.Common.{◌∙◌, ap, subst, sym, arith, length-append}
use Rattle.model.specs.Book.{Book}
use Rattle.model.specs.Commands.{Command}
use Rattle.model.specs.Lists.{every, seconds}
use Rattle.model.specs.Maps.{if_there}
use Rattle.sets.specs.Sets.{Set}
use Rattle.sets.specs.TestLaws.{<?_in, <?_out, and_in, and_l, and_r}
use Rattle.sets.specs.Tests.{◌&◌, ◌<?◌}
use Rattle.text.specs.Bytes.{among, valid_implementation, valid_name}
use Rattle.text.specs.Language.{Name, NamedMembers}
use Rattle.text.specs.Tables.{Table, Tables, enter, entered, given, joined, member_names, member_versions, mod_names, mod_numbered}
use Rattle.text.specs.Tables.{modvar_names, modvar_numbered, number, numbers, spec_names, spec_numbered, sys_names, sys_numbered}
use Rattle.text.specs.Tables.{sysvar_names, sysvar_numbered}
use Rattle.text_laws.specs.BookNumbers.{BookNumbers, more_numbers, puts}
use Rattle.text_laws.specs.FourTables.{Kind, a_component, a_facility, a_version, an_implementation, entered_table, table}
use Rattle.text_laws.specs.FourTables.{valid}
use Rattle.text_laws.specs.Numbered.{in_head, in_l, in_r, inside, names_in_lem, spec_in_lem, spec_in}
use Rattle.text_laws.specs.Places.{apart, enter_apart, enter_every, enter_longer, number_at, place_name, place_there}
use Rattle.text_laws.specs.ReadsBack.{ok_mod, ok_version}
use Rattle.text_laws.specs.TextLaws.{every_append, every_cons, every_imp, every_joined, every_map, every-none}
use Rattle.text_laws.specs.ValidNames.{valid_member, valid_sys}
use Rattle.model_laws.specs.MapLaws.{is_some_out}

-- every name in the tables is valid
abbrev pub AllValid : Tables → Type 0
AllValid t = (k : Kind) → every (valid k) (table k t) ≡ true

-- no name stands twice in a table
abbrev pub AllApart : Tables → Type 0
AllApart t = (k : Kind) → apart (table k t) ≡ true

pub entered_valid : (t m : Tables) → AllValid t → AllValid m → AllValid (entered t m)
entered_valid t m a b k = ap (every (valid k)) (entered_table k t m) ∙ enter_every (valid k) _ _ (a k) (b k)

pub entered_apart : (t m : Tables) → AllApart t → AllApart (entered t m)
entered_apart t m a k = ap apart (entered_table k t m) ∙ enter_apart _ _ (a k)

-- ---- the names that a command mentions are valid

firsts-valid : {A : Type 0} (f : Name × A → Bool) (xs : List (Name × A)) → ((x : Name × A) → f x ≡ true → valid_name x.0 ≡ true)
    → every f xs ≡ true → every valid_name (map (λ x. x.0) xs) ≡ true
firsts-valid f xs h e = every_map (λ x. x.0) valid_name xs ∙ every_imp f _ xs h e

one_valid : (c : Name) → valid_name c ≡ true → every valid_name (c ∷ []) ≡ true
unfolding every
one_valid c e = and_in _ _ e refl

pub spec_valid : (c : Name) (ps : List Name) (vs : List (Name × List Name)) → valid_name c ≡ true → every valid_name ps ≡ true
    → every ok_version vs ≡ true → AllValid (spec_names c ps vs)
unfolding spec_names ok_version
spec_valid c ps vs hc hp hv a_component = one_valid c hc
spec_valid c ps vs hc hp hv a_version = firsts-valid ok_version vs (λ x e. and_l _ _ e) hv
spec_valid c ps vs hc hp hv a_facility = every_append valid_name ps _ hp (every_joined valid_name (λ x. x.1) vs
    (every_imp ok_version _ vs (λ x e. and_r _ _ e) hv))
spec_valid c ps vs hc hp hv an_implementation = every-none _

pub mod_valid : (c : Name) (is : List (Name × Name)) → valid_name c ≡ true → every ok_mod is ≡ true → AllValid (mod_names c is)
unfolding mod_names ok_mod
mod_valid c is hc h a_component = one_valid c hc
mod_valid c is hc h a_version = firsts-valid ok_mod is (λ x e. and_l _ _ e) h
mod_valid c is hc h a_facility = every-none _
mod_valid c is hc h an_implementation = every_map (λ x. x.1) valid_implementation is ∙ every_imp ok_mod _ is (λ x e. and_r _ _ e) h

members_named : (ms : NamedMembers) → every valid_member ms ≡ true → every valid_name (member_names ms) ≡ true
unfolding member_names valid_member
members_named ms h = firsts-valid valid_member ms (λ m e. and_l _ _ e) h

given_valid : (ms : NamedMembers) → every valid_member ms ≡ true → every valid_name (given (map (λ m. m.1) ms)) ≡ true
unfolding given every valid_member if_there
given_valid [] h = refl
given_valid ((c, none) ∷ ms) h = given_valid ms (and_r _ _ h)
given_valid ((c, some v) ∷ ms) h = and_in _ _ (and_r _ _ (and_l _ _ h)) (given_valid ms (and_r _ _ h))

versions_named : (ms : NamedMembers) → every valid_member ms ≡ true → every valid_name (member_versions ms) ≡ true
unfolding member_versions
versions_named ms h = given_valid ms h

pub sys_valid : (c : Name) (us : List Name) (ks : List (Name × NamedMembers)) → valid_name c ≡ true → every valid_name us ≡ true
    → every valid_sys ks ≡ true → AllValid (sys_names c us ks)
unfolding sys_names valid_sys
sys_valid c us ks hc hu hk a_component = every_cons valid_name c _ hc
    (every_append valid_name us _ hu (every_joined valid_name (λ x. member_names x.1) ks
    (every_imp valid_sys _ ks (λ x e. members_named x.1 (and_r _ _ e)) hk)))
sys_valid c us ks hc hu hk a_version = every_joined valid_name (λ x. x.0 ∷ member_versions x.1) ks
    (every_imp valid_sys _ ks (λ x e. every_cons valid_name x.0 _ (and_l _ _ e) (versions_named x.1 (and_r _ _ e))) hk)
sys_valid c us ks hc hu hk a_facility = every-none _
sys_valid c us ks hc hu hk an_implementation = every-none _

pub modvar_valid : (c v : Name) (rs : List Name) (i : Name) → valid_name c ≡ true → valid_name v ≡ true → every valid_name rs ≡ true
    → valid_implementation i ≡ true → AllValid (modvar_names c v rs i)
unfolding modvar_names
modvar_valid c v rs i hc hv hr hi a_component = one_valid c hc
modvar_valid c v rs i hc hv hr hi a_version = one_valid v hv
modvar_valid c v rs i hc hv hr hi a_facility = hr
modvar_valid c v rs i hc hv hr hi an_implementation = every_cons valid_implementation i [] hi (every-none _)

pub sysvar_valid : (c v : Name) (ms : NamedMembers) → valid_name c ≡ true → valid_name v ≡ true → every valid_member ms ≡ true
    → AllValid (sysvar_names c v ms)
unfolding sysvar_names
sysvar_valid c v ms hc hv hm a_component = every_cons valid_name c _ hc (members_named ms hm)
sysvar_valid c v ms hc hv hm a_version = every_cons valid_name v _ hv (versions_named ms hm)
sysvar_valid c v ms hc hv hm a_facility = every-none _
sysvar_valid c v ms hc hv hm an_implementation = every-none _

-- ---- the numbers that a command carries are places that hold a name

-- the places of a table that hold a name
unfoldable pub held : Table → Set
held t n = n <? length t

pub number_held : (t : Table) (w : Name) → among w t ≡ true → held t (number t w) ≡ true
unfolding held
number_held t w a =
    let q = is_some_out _ (place_there t w a) in
    <?_in _ _ (subst (λ (n : ℕ). n < length t) (sym (number_at t w q.0 q.1)) (place_name t w q.0 q.1).1)

pub numbers_held : (t : Table) (ws : List Name) → inside t ws ≡ true → every (held t) (map (number t) ws) ≡ true
unfolding inside
numbers_held t ws h = every_map (number t) (held t) ws ∙ every_imp _ _ ws (λ w a. number_held t w a) h

-- the numbers in a book all have names in the tables
abbrev pub NumbersHeld : Tables → Book → Type 0
NumbersHeld t b = BookNumbers (λ k. held (table k t)) b

abbrev pub Puts : Tables → Command → Type 0
Puts t c = puts (λ k. held (table k t)) c ≡ true

enter_held : (t : Table) (ws : List Name) (n : ℕ) → held t n ≡ true → held (enter t ws) n ≡ true
unfolding held
enter_held t ws n h =
    let q = enter_longer t ws in let l = ap length q.1 ∙ length-append t q.0 in let k = <?_out _ _ h in
    <?_in _ _ (omega arith)

pub entered_held : (t m : Tables) (b : Book) → NumbersHeld t b → NumbersHeld (entered t m) b
entered_held t m b n = more_numbers _ _ (λ k i h. ap (λ (z : Table). held z i) (entered_table k t m)
    ∙ enter_held (table k t) (table k m) i h) b n

pub spec_puts : (t : Tables) (c : Name) (ps : List Name) (vs : List (Name × List Name)) (s : Name)
    → Puts (entered t (spec_names c ps vs)) (spec_numbered (entered t (spec_names c ps vs)) c ps vs s)
unfolding puts spec_numbered entered spec_names numbers
spec_puts t c ps vs s =
    let tc = enter t.comps (c ∷ []) in let tv = enter t.vers (map (λ x. x.0) vs) in
    let tf = enter t.facs (ps ++ joined (map (λ x. x.1) vs)) in
    let in_f = names_in_lem t.facs (ps ++ joined (map (λ x. x.1) vs)) in
    and_in _ _ (number_held tc c (in_head tc c [] (names_in_lem _ _))) (and_in _ _ (numbers_held tf ps (in_l tf ps _ in_f))
    (every_map _ _ vs ∙ every_imp (spec_in tv tf) _ vs (λ x e. one_put tv tf x e)
    (spec_in_lem tv tf vs (names_in_lem _ _) (in_r tf ps _ in_f))))
  where
    one_put : (tv tf : Table) (x : Name × List Name) → spec_in tv tf x ≡ true
        → (held tv (number tv x.0) & every (held tf) (map (number tf) x.1)) ≡ true
    one_put tv tf x e = unfold spec_in in and_in _ _ (number_held tv x.0 (and_l _ _ e)) (numbers_held tf x.1 (and_r _ _ e))

seconds_held : (tv ti : Table) (is : List (Name × Name)) → inside ti (map (λ x. x.1) is) ≡ true
    → every (held ti) (seconds (map (λ x. (number tv x.0, number ti x.1)) is)) ≡ true
unfolding every seconds inside
seconds_held tv ti [] h = refl
seconds_held tv ti (x ∷ xs) h = and_in _ _ (number_held ti x.1 (and_l _ _ h)) (seconds_held tv ti xs (and_r _ _ h))

pub mod_puts : (t : Tables) (c : Name) (is : List (Name × Name))
    → Puts (entered t (mod_names c is)) (mod_numbered (entered t (mod_names c is)) c is)
unfolding puts mod_numbered entered mod_names
mod_puts t c is = seconds_held (enter t.vers (map (λ x. x.0) is)) (enter t.impls (map (λ x. x.1) is)) is (names_in_lem _ _)

pub sys_puts : (t : Tables) (c : Name) (us : List Name) (ks : List (Name × NamedMembers))
    → Puts (entered t (sys_names c us ks)) (sys_numbered (entered t (sys_names c us ks)) c us ks)
unfolding puts sys_numbered
sys_puts t c us ks = refl

pub modvar_puts : (t : Tables) (c v : Name) (rs : List Name) (i : Name)
    → Puts (entered t (modvar_names c v rs i)) (modvar_numbered (entered t (modvar_names c v rs i)) c v rs i)
unfolding puts modvar_numbered entered modvar_names numbers
modvar_puts t c v rs i =
    and_in _ _ (number_held _ v (in_head _ v [] (names_in_lem _ _)))
    (and_in _ _ (numbers_held _ rs (names_in_lem _ _)) (number_held _ i (in_head _ i [] (names_in_lem _ _))))

pub sysvar_puts : (t : Tables) (c v : Name) (ms : NamedMembers)
    → Puts (entered t (sysvar_names c v ms)) (sysvar_numbered (entered t (sysvar_names c v ms)) c v ms)
unfolding puts sysvar_numbered entered sysvar_names
sysvar_puts t c v ms = number_held _ v (in_head _ v (member_versions ms) (names_in_lem _ _))
