-- What the grammar gives of a command that is read: its lists have an entry, and the standard version is one of the versions. So no
-- command of a session is refused with 2 or 14.
use Rattle.std.specs.Prelude.{Bool, true, List, [], ◌∷◌, map, ◌≡◌, refl, suc, zero, ℕ, length}
use Rattle.std.proofs.Common.{inl, inr, ◌∙◌, ap, sym}
use Rattle.std.proofs.Math.Option.{Option, none, some}
use Rattle.model.specs.Lists.{every, non_empty}
use Rattle.sets.specs.TestLaws.{and_in, and_l, and_r, bool?, if-false, if-true, or_l, or_out, or_r}
use Rattle.sets.specs.Tests.{◌&◌}
use Rattle.text.specs.Bytes.{Text, among, bytes, same}
use Rattle.text.specs.Language.{CHOICE, DELMOD, DELMODVAR, DELSPEC, DELSYS, DELSYSVAR, MOD, MODVAR, NEEDS, Name, OUT}
use Rattle.text.specs.Language.{PARTS, Read, Reader, SPEC, STANDARD, SUPPLIES, SYS, SYSVAR, Said, UNDEFINED, UNUSED, WHEREUSED}
use Rattle.text.specs.Language.{add_mod, add_modvar, add_spec, add_sys, add_sysvar, ahead, choice, command, command_of, compos, equals}
use Rattle.text.specs.Language.{grammar, imp, key, list_in, list_of, mod_version, name, names, names_up_to, of_one, of_pair, over, pair}
use Rattle.text.specs.Language.{read_as, requirements, said, semicolon, spec_version, standards, sys_version, the_one, want, when, wrong}
use Rattle.text.specs.Tokens.{Next, Token, bad, end, mark, next_token, quoted, token, word}
use Rattle.text_laws.specs.TextLaws.{Each, ◌also◌, by_test, by_word_lem, every_cons, every-none, no_more, same_refl}
use Rattle.text_laws.specs.ValidNames.{Gives, GivesO, always, bind_gives, give_gives, then_gives, when_gives}

unfoldable pub whole : Said → Bool
whole (SPEC c ps vs s) = non_empty vs & among s (map (λ x. x.0) vs)
whole (MOD c is) = non_empty is
whole (SYS c us ks) = non_empty ks & every (λ x. non_empty x.1) ks
whole (SYSVAR c v ms) = non_empty ms
whole (MODVAR c v rs i) = true
whole (DELSPEC c) = true
whole (DELMOD c) = true
whole (DELSYS c) = true
whole (SUPPLIES c) = true
whole (STANDARD c) = true
whole (WHEREUSED c) = true
whole (DELMODVAR c v) = true
whole (DELSYSVAR c v) = true
whole (NEEDS c v) = true
whole (PARTS c v) = true
whole (CHOICE fs) = true
whole UNDEFINED = true
whole UNUSED = true
whole OUT = true

-- ---- lists

second_o : {A : Type 0} (Q R : A → Bool) (o : Option (A × Text)) → GivesO (λ x. Q x & R x) o → GivesO R o
second_o Q R none l = tt
second_o Q R (some x) l = and_r _ _ l

second_gives : {A : Type 0} (p : Reader A) (Q R : A → Bool) → Gives p (λ x. Q x & R x) → Gives p R
second_gives p Q R e = record { at = λ t. second_o Q R (p t) (e.at t) }

filled_with : {A : Type 0} → (A → Bool) → List A → Bool
filled_with Q xs = non_empty xs & every Q xs

list_in_filled : {A : Type 0} (n : ℕ) (k : Token) (p : Reader A) (Q : A → Bool) → Gives p Q → Gives (list_in n k p) (filled_with Q)
unfolding list_in filled_with non_empty
list_in_filled zero k p Q e = record { at = λ t. tt }
list_in_filled (suc n) k p Q e = record {
  at = λ t. (bind_gives p Q (filled_with Q) _ e
      (λ x a. bind_gives (ahead k) (λ b. true) (filled_with Q) _ (always (ahead k)) (λ on b.
      bind_gives (when on [] (list_in n k p)) (every Q) (filled_with Q) _
      (when_gives (every Q) on [] (list_in n k p) (every-none Q) (second_gives _ non_empty (every Q) (list_in_filled n k p Q e)))
      (λ xs c. give_gives (filled_with Q) (x ∷ xs) (and_in _ _ refl (every_cons Q x xs a c)))))).at t;
}

list_filled : {A : Type 0} (k : Token) (p : Reader A) (Q : A → Bool) → Gives p Q → Gives (list_of k p) (filled_with Q)
unfolding list_of
list_filled k p Q e = record { at = λ t. (list_in_filled (length t) k p Q e).at t }

some_o : {A : Type 0} (o : Option (List A × Text)) → GivesO (filled_with (λ x. true)) o → GivesO non_empty o
unfolding filled_with
some_o none l = tt
some_o (some x) l = and_l _ _ l

-- a list of the language has an entry
list_some : {A : Type 0} (k : Token) (p : Reader A) → Gives (list_of k p) non_empty
list_some k p = record { at = λ t. some_o (list_of k p t) ((list_filled k p (λ x. true) (always p)).at t) }

pub some_mapped : {A B : Type 0} (f : A → B) (xs : List A) → non_empty xs ≡ true → non_empty (map f xs) ≡ true
unfolding non_empty
some_mapped f [] e = e
some_mapped f (x ∷ xs) e = refl

-- ---- the standard version

one_gives : (xs : List Name) → Gives (the_one xs) (λ s. among s xs)
unfolding the_one
one_gives [] = record { at = λ t. tt }
one_gives (v ∷ []) = record { at = λ t. unfold among in or_l _ _ (same_refl v) }
one_gives (v ∷ (w ∷ ws)) = record { at = λ t. tt }

standard-among : (s : Name) (vs : List (Bool × (Name × List Name))) → among s (standards vs) ≡ true
    → among s (map (λ x. x.0) (map (λ x. x.1) vs)) ≡ true
unfolding standards among
standard-among s [] e = e
standard-among s (x ∷ xs) e = elim (bool? x.0) [
  | inl y ↦ (elim (or_out _ _ (ap (among s) (sym (if-true _ _ _ y)) ∙ e)) [
    | inl q ↦ or_l _ _ q
    | inr q ↦ or_r _ _ (standard-among s xs q)
  ])
  | inr z ↦ or_r _ _ (standard-among s xs (ap (among s) (sym (if-false _ _ _ z)) ∙ e))
]

-- ---- the commands

spec_whole : Gives add_spec whole
unfolding add_spec whole
spec_whole = bind_gives name (λ c. true) _ _ (always _)
    (λ c a. then_gives (want (key "provides")) _ _
    (bind_gives (names_up_to semicolon) (λ ps. true) _ _ (always _) (λ ps b.
    bind_gives (list_of semicolon spec_version) non_empty _ _ (list_some semicolon spec_version) (λ vs d.
    then_gives (want (key "end")) _ _
    (bind_gives (the_one (standards vs)) (λ s. among s (standards vs)) _ _ (one_gives (standards vs))
    (λ s e. give_gives _ _ (and_in _ _ (some_mapped (λ x. x.1) vs d) (standard-among s vs e))))))))

mod_whole : Gives add_mod whole
unfolding add_mod whole
mod_whole = bind_gives name (λ c. true) _ _ (always _)
    (λ c a. then_gives (want semicolon) _ _
    (bind_gives (list_of semicolon mod_version) non_empty _ _ (list_some semicolon mod_version)
    (λ is b. then_gives (want (key "end")) _ _ (give_gives _ _ b))))

compos_some : Gives compos non_empty
unfolding compos
compos_some = list_some _ _

sys_version_some : Gives sys_version (λ x. non_empty x.1)
unfolding sys_version
sys_version_some = bind_gives name (λ v. true) _ _ (always _)
    (λ v a. then_gives (want equals) _ _ (bind_gives compos non_empty _ _ compos_some (λ ms b. give_gives _ (v, ms) b)))

sys_whole : Gives add_sys whole
unfolding add_sys whole filled_with
sys_whole = bind_gives name (λ c. true) _ _ (always _)
    (λ c a. then_gives (want (key "use")) _ _
    (bind_gives names (λ us. true) _ _ (always _) (λ us b. then_gives (want semicolon) _ _
    (bind_gives (list_of semicolon sys_version) (filled_with (λ x. non_empty x.1)) _ _ (list_filled semicolon sys_version _ sys_version_some)
    (λ ks d. then_gives (want (key "end")) _ _ (give_gives _ _ d))))))

sysvar_whole : Gives add_sysvar whole
unfolding add_sysvar whole
sysvar_whole = bind_gives pair (λ p. true) _ _ (always _)
    (λ p a. then_gives (want equals) _ _
    (bind_gives compos non_empty _ _ compos_some (λ ms b. then_gives (want (key "end")) _ _ (give_gives _ _ b))))

modvar_whole : Gives add_modvar whole
unfolding add_modvar whole
modvar_whole = bind_gives pair (λ p. true) _ _ (always _)
    (λ p a. bind_gives requirements (λ rs. true) _ _ (always _)
    (λ rs b. then_gives (want (key "impl")) _ _ (bind_gives imp (λ i. true) _ _ (always _) (λ i d. give_gives _ _ refl))))

component_whole : (f : Name → Said) → ((c : Name) → whole (f c) ≡ true) → Gives (of_one f) whole
unfolding of_one
component_whole f h = bind_gives name (λ c. true) _ _ (always _) (λ c a. give_gives _ (f c) (h c))

version_whole : (f : Name → Name → Said) → ((c v : Name) → whole (f c v) ≡ true) → Gives (of_pair f) whole
unfolding of_pair
version_whole f h = bind_gives pair (λ p. true) _ _ (always _) (λ p a. give_gives _ _ (h p.0 p.1))

choice-whole : Gives choice whole
unfolding choice whole
choice-whole = bind_gives (names_up_to (key "end")) (λ fs. true) _ _ (always _) (λ fs a. give_gives _ _ refl)

abbrev GivesWhole : Reader Said → Type 0
GivesWhole p = Gives p whole

grammar_whole : Each GivesWhole grammar
unfolding grammar whole
grammar_whole =
    spec_whole also mod_whole also sys_whole also component_whole DELSPEC (λ c. refl) also component_whole DELMOD (λ c. refl) also
    component_whole DELSYS (λ c. refl) also modvar_whole also sysvar_whole also version_whole DELMODVAR (λ c v. refl) also
    version_whole DELSYSVAR (λ c v. refl) also component_whole SUPPLIES (λ c. refl) also version_whole NEEDS (λ c v. refl) also
    choice-whole also component_whole STANDARD (λ c. refl) also give_gives _ UNDEFINED refl also give_gives _ UNUSED refl also
    component_whole WHEREUSED (λ c. refl) also version_whole PARTS (λ c v. refl) also give_gives _ OUT refl also no_more

abbrev pub WholeRead : Read → Type 0
WholeRead (said k u) = whole k ≡ true
WholeRead over = Unit {0}
WholeRead wrong = Unit {0}

read_whole : (o : Option (Said × Text)) → GivesO whole o → WholeRead (read_as o)
unfolding read_as
read_whole none l = tt
read_whole (some x) l = l

of_whole : (n : Next) → WholeRead (command_of n)
unfolding command_of
of_whole (token (word w) u) = by_test WholeRead (same w (bytes "quit")) _ _ (λ q. tt)
    (by_word_lem WholeRead u tt GivesWhole (λ p e. read_whole (p u) (e.at u)) grammar grammar_whole w)
of_whole (token (quoted w) u) = tt
of_whole (token (mark c) u) = tt
of_whole end = tt
of_whole bad = tt

pub command_whole : (t : Text) → WholeRead (command t)
unfolding command
command_whole t = of_whole (next_token t)
