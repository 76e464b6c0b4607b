-- The names that a command brings are valid names.
use Rattle.std.specs.Prelude.{Bool, false, true, List, [], ◌∷◌, ◌≡◌, refl, suc, zero, ℕ, length}
use Rattle.std.proofs.Common.{inl, inr, ◌∙◌, ap}
use Rattle.std.proofs.Math.Option.{Option, none, some}
use Rattle.model.specs.Lists.{every}
use Rattle.model.specs.Maps.{and_then, if_there, only_if}
use Rattle.sets.specs.TestLaws.{and_in, and_l, and_r, bool?, if-false, if-true}
use Rattle.sets.specs.Tests.{◌&◌, ◌=?◌, ~◌}
use Rattle.text.specs.Bytes.{Text, alnum, bytes, impl_byte, is_mark, name_byte, name_word, same, short, valid_implementation, valid_name}
use Rattle.text.specs.Language.{CHOICE, DELMOD, DELMODVAR, DELSPEC, DELSYS, DELSYSVAR, MOD, MODVAR, NEEDS, Name, NamedMembers, OUT}
use Rattle.text.specs.Language.{PARTS, Read, Reader, SPEC, STANDARD, SUPPLIES, SYS, SYSVAR, Said, UNDEFINED, UNUSED, WHEREUSED}
use Rattle.text.specs.Language.{◌>>=◌, ◌>>◌, add_mod, add_modvar, add_spec, add_sys, add_sysvar, ahead, choice, comma, command}
use Rattle.text.specs.Language.{command_of, compo, compos, equals, give, grammar, imp, key, list_in, list_of, mod_version, name, name_of}
use Rattle.text.specs.Language.{names, names_up_to, of_one, of_pair, over, pair, point, quoted_of, read_as, requirements, said, semicolon}
use Rattle.text.specs.Language.{spec_version, standards, sys_version, the_one, want, when, wrong}
use Rattle.text.specs.Tokens.{Next, Token, bad, closing, end, mark, next_token, quoted, run, skip, skipped, token, token_at, word}
use Rattle.text_laws.specs.ReadsBack.{ok_mod, ok_version}
use Rattle.text_laws.specs.TextLaws.{Each, ◌also◌, by_test, by_word_lem, every_cons, every_map, every-none, no_more}

run-every : (f : ℕ → Bool) (t : Text) → every f (run f t) ≡ true
unfolding run every
run-every f [] = refl
run-every f (c ∷ cs) =
    elim (bool? (f c)) [
      | inl e ↦ ap (every f) (if-true _ _ _ e) ∙ and_in _ _ e (run-every f cs)
      | inr e ↦ ap (every f) (if-false _ _ _ e)
    ]

abbrev word_ok : Text → Type 0
word_ok [] = ⊥
word_ok (c ∷ cs) = (alnum c ≡ true) × (every name_byte cs ≡ true)

abbrev NextOk : Next → Type 0
NextOk (token (word w) u) = word_ok w
NextOk (token (quoted w) u) = valid_implementation w ≡ true
NextOk (token (mark c) u) = Unit {0}
NextOk end = Unit {0}
NextOk bad = Unit {0}

closing_ok : (w r : Text) → every impl_byte w ≡ true → NextOk (closing w r)
unfolding closing valid_implementation
closing_ok w [] e = tt
closing_ok w (d ∷ ds) e = by_test NextOk (d =? 34 & short w) _ _ (λ q. and_in _ _ (and_r _ _ q) e) tt

token_ok : (t : Text) → NextOk (token_at t)
unfolding token_at
token_ok [] = tt
token_ok (c ∷ cs) =
    by_test NextOk (alnum c) _ _ (λ q. (q, run-every name_byte cs))
    (by_test NextOk (is_mark c) _ _ (λ q. tt) (by_test NextOk (c =? 34) _ _ (λ q. closing_ok _ _ (run-every impl_byte cs)) tt))

skipped_ok : (o : Option Text) → NextOk (skipped o)
unfolding skipped
skipped_ok none = tt
skipped_ok (some u) = token_ok u

next_ok : (t : Text) → NextOk (next_token t)
unfolding next_token
next_ok t = skipped_ok (skip false t)

-- ---- what a reader reads passes a test

abbrev pub GivesO : {A : Type 0} → (A → Bool) → Option (A × Text) → Type 0
GivesO Q none = Unit {0}
GivesO Q (some x) = Q x.0 ≡ true

pub record Gives {A : Type 0} (p : Reader A) (Q : A → Bool) : Type 0 where
  pub at : (t : Text) → GivesO Q (p t)

bind_o : {A B : Type 0} (o : Option (A × Text)) (Q : A → Bool) (R : B → Bool) (f : A → Reader B) → GivesO Q o
    → ((a : A) → Q a ≡ true → Gives (f a) R) → GivesO R (and_then o (λ x. f x.0 x.1))
unfolding and_then
bind_o none Q R f l h = tt
bind_o (some x) Q R f l h = (h x.0 l).at x.1

pub bind_gives : {A B : Type 0} (p : Reader A) (Q : A → Bool) (R : B → Bool) (f : A → Reader B) → Gives p Q
    → ((a : A) → Q a ≡ true → Gives (f a) R) → Gives (◌>>=◌ p f) R
unfolding ◌>>=◌
bind_gives p Q R f e h = record { at = λ t. bind_o (p t) Q R f (e.at t) h }

always_o : {A : Type 0} (o : Option (A × Text)) → GivesO (λ x. true) o
always_o none = tt
always_o (some x) = refl

pub always : {A : Type 0} (p : Reader A) → Gives p (λ x. true)
always p = record { at = λ t. always_o (p t) }

pub then_gives : {A B : Type 0} (p : Reader A) (R : B → Bool) (q : Reader B) → Gives q R → Gives (◌>>◌ p q) R
unfolding ◌>>◌
then_gives p R q h = record { at = λ t. bind_o (p t) (λ x. true) R (λ a. q) (always_o (p t)) (λ a e. h) }

pub give_gives : {A : Type 0} (Q : A → Bool) (x : A) → Q x ≡ true → Gives (give x) Q
unfolding give
give_gives Q x e = record { at = λ t. e }

pub when_gives : {A : Type 0} (Q : A → Bool) (b : Bool) (x : A) (p : Reader A) → Q x ≡ true → Gives p Q → Gives (when b x p) Q
unfolding when
when_gives Q true x p e g = record { at = λ t. g.at t }
when_gives Q false x p e g = record { at = λ t. e }

only_o : {A : Type 0} (Q : A → Bool) (b : Bool) (x : A × Text) → (b ≡ true → Q x.0 ≡ true) → GivesO Q (only_if b x)
unfolding only_if
only_o Q true x h = h refl
only_o Q false x h = tt

word_valid : (w : Text) → word_ok w → name_word w ≡ true → valid_name w ≡ true
unfolding valid_name
word_valid [] o n = absurd o
word_valid (c ∷ cs) o n = and_in _ _ o.0 (and_in _ _ o.1 n)

name_o : (n : Next) → NextOk n → GivesO valid_name (name_of n)
unfolding name_of
name_o (token (word w) u) o = only_o valid_name (name_word w) (w, u) (λ e. word_valid w o e)
name_o (token (quoted w) u) o = tt
name_o (token (mark c) u) o = tt
name_o end o = tt
name_o bad o = tt

pub name_gives : Gives name valid_name
unfolding name
name_gives = record { at = λ t. name_o (next_token t) (next_ok t) }

impl_o : (n : Next) → NextOk n → GivesO valid_implementation (quoted_of n)
unfolding quoted_of
impl_o (token (word w) u) o = tt
impl_o (token (quoted w) u) o = o
impl_o (token (mark c) u) o = tt
impl_o end o = tt
impl_o bad o = tt

pub impl_gives : Gives imp valid_implementation
unfolding imp
impl_gives = record { at = λ t. impl_o (next_token t) (next_ok t) }

list_in_gives : {A : Type 0} (n : ℕ) (k : Token) (p : Reader A) (Q : A → Bool) → Gives p Q → Gives (list_in n k p) (every Q)
unfolding list_in
list_in_gives zero k p Q e = record { at = λ t. tt }
list_in_gives (suc n) k p Q e = record {
  at = λ t. (bind_gives p Q (every Q) _ e
      (λ x a. bind_gives (ahead k) (λ b. true) (every Q) _ (always (ahead k)) (λ on b.
      bind_gives (when on [] (list_in n k p)) (every Q) (every Q) _
      (when_gives (every Q) on [] (list_in n k p) (every-none Q) (list_in_gives n k p Q e))
      (λ xs c. give_gives (every Q) (x ∷ xs) (every_cons Q x xs a c))))).at t;
}

list_gives : {A : Type 0} (k : Token) (p : Reader A) (Q : A → Bool) → Gives p Q → Gives (list_of k p) (every Q)
unfolding list_of
list_gives k p Q e = record { at = λ t. (list_in_gives (length t) k p Q e).at t }

names_gives : Gives names (every valid_name)
unfolding names
names_gives = list_gives comma name valid_name name_gives

up_to_gives : (k : Token) → Gives (names_up_to k) (every valid_name)
unfolding names_up_to
up_to_gives k = bind_gives (ahead k) (λ b. true) _ _ (always _)
    (λ b e. when_gives (every valid_name) (~ b) [] _ (every-none valid_name)
    (bind_gives names (every valid_name) _ _ names_gives (λ xs a. then_gives (want k) _ _ (give_gives _ xs a))))

req_gives : Gives requirements (every valid_name)
unfolding requirements
req_gives = bind_gives (ahead (key "requires")) (λ b. true) _ _ (always _)
    (λ b e. when_gives (every valid_name) b [] names (every-none valid_name) names_gives)

pub valid_pair : Name × Name → Bool
valid_pair p = valid_name p.0 & valid_name p.1

pair_gives : Gives pair valid_pair
unfolding pair valid_pair
pair_gives = bind_gives name valid_name _ _ name_gives
    (λ c a. then_gives (want point) _ _ (bind_gives name valid_name _ _ name_gives (λ v b. give_gives _ (c, v) (and_in _ _ a b))))

flagged_ok : Bool × (Name × List Name) → Bool
flagged_ok x = ok_version x.1

spec_version_gives : Gives spec_version flagged_ok
unfolding spec_version flagged_ok ok_version
spec_version_gives = bind_gives (ahead (key "std")) (λ b. true) _ _ (always _)
    (λ b e. bind_gives name valid_name _ _ name_gives
    (λ v a. bind_gives requirements (every valid_name) _ _ req_gives (λ rs c. give_gives _ (b, (v, rs)) (and_in _ _ a c))))

-- the names of an adding command are valid
unfoldable pub valid_member : Name × Option Name → Bool
valid_member m = valid_name m.0 & if_there m.1 valid_name

unfoldable pub valid_sys : Name × NamedMembers → Bool
valid_sys x = valid_name x.0 & every valid_member x.1

unfoldable pub valid_said : Said → Bool
valid_said (SPEC c ps vs s) = valid_name c & every valid_name ps & every ok_version vs
valid_said (MOD c is) = valid_name c & every ok_mod is
valid_said (SYS c us ks) = valid_name c & every valid_name us & every valid_sys ks
valid_said (MODVAR c v rs i) = valid_name c & valid_name v & every valid_name rs & valid_implementation i
valid_said (SYSVAR c v ms) = valid_name c & valid_name v & every valid_member ms
-- the others bring no names
valid_said (DELSPEC c) = true
valid_said (DELMOD c) = true
valid_said (DELSYS c) = true
valid_said (SUPPLIES c) = true
valid_said (STANDARD c) = true
valid_said (WHEREUSED c) = true
valid_said (DELMODVAR c v) = true
valid_said (DELSYSVAR c v) = true
valid_said (NEEDS c v) = true
valid_said (PARTS c v) = true
valid_said (CHOICE fs) = true
valid_said UNDEFINED = true
valid_said UNUSED = true
valid_said OUT = true

spec_gives : Gives add_spec valid_said
unfolding add_spec valid_said flagged_ok
spec_gives = bind_gives name valid_name _ _ name_gives
    (λ c a. then_gives (want (key "provides")) _ _
    (bind_gives (names_up_to semicolon) (every valid_name) _ _ (up_to_gives semicolon) (λ ps b.
    bind_gives (list_of semicolon spec_version) (every flagged_ok) _ _
    (list_gives semicolon spec_version flagged_ok spec_version_gives) (λ vs d. then_gives (want (key "end")) _ _
    (bind_gives (the_one (standards vs)) (λ s. true) _ _ (always _)
    (λ s e. give_gives _ _ (and_in _ _ a (and_in _ _ b (every_map (λ x. x.1) ok_version vs ∙ d)))))))))

mod_version_gives : Gives mod_version ok_mod
unfolding mod_version ok_mod
mod_version_gives = bind_gives name valid_name _ _ name_gives
    (λ v a. then_gives (want (key "impl")) _ _
    (bind_gives imp valid_implementation _ _ impl_gives (λ i b. give_gives _ (v, i) (and_in _ _ a b))))

module_gives : Gives add_mod valid_said
unfolding add_mod valid_said
module_gives = bind_gives name valid_name _ _ name_gives
    (λ c a. then_gives (want semicolon) _ _
    (bind_gives (list_of semicolon mod_version) (every ok_mod) _ _ (list_gives semicolon mod_version ok_mod mod_version_gives)
    (λ is b. then_gives (want (key "end")) _ _ (give_gives _ _ (and_in _ _ a b)))))

compo_gives : Gives compo valid_member
unfolding compo valid_member if_there
compo_gives = bind_gives name valid_name _ _ name_gives (λ c a. bind_gives (ahead point) (λ b. true) _ _ (always _) (λ d e.
    bind_gives (when d none _) (λ v. if_there v valid_name) _ _
    (when_gives (λ v. if_there v valid_name) d none _ refl
    (bind_gives name valid_name _ _ name_gives (λ w b. give_gives _ (some w) b)))
    (λ v b. give_gives _ (c, v) (and_in _ _ a b))))

compos_gives : Gives compos (every valid_member)
unfolding compos
compos_gives = list_gives comma compo valid_member compo_gives

sys_version_gives : Gives sys_version valid_sys
unfolding sys_version valid_sys
sys_version_gives = bind_gives name valid_name _ _ name_gives
    (λ v a. then_gives (want equals) _ _
    (bind_gives (compos) (every valid_member) _ _ compos_gives (λ ms b. give_gives _ (v, ms) (and_in _ _ a b))))

sys_gives : Gives add_sys valid_said
unfolding add_sys valid_said
sys_gives = bind_gives name valid_name _ _ name_gives
    (λ c a. then_gives (want (key "use")) _ _
    (bind_gives names (every valid_name) _ _ names_gives (λ us b. then_gives (want semicolon) _ _
    (bind_gives (list_of semicolon sys_version) (every valid_sys) _ _ (list_gives semicolon sys_version valid_sys sys_version_gives)
    (λ ks d. then_gives (want (key "end")) _ _ (give_gives _ _ (and_in _ _ a (and_in _ _ b d))))))))

modvar_gives : Gives add_modvar valid_said
unfolding add_modvar valid_said valid_pair
modvar_gives = bind_gives pair valid_pair _ _ pair_gives
    (λ p a. bind_gives requirements (every valid_name) _ _ req_gives
    (λ rs b. then_gives (want (key "impl")) _ _ (bind_gives imp valid_implementation _ _ impl_gives (λ i d.
    give_gives _ _ (and_in _ _ (and_l _ _ a) (and_in _ _ (and_r _ _ a) (and_in _ _ b d)))))))

sysvar_gives : Gives add_sysvar valid_said
unfolding add_sysvar valid_said valid_pair
sysvar_gives = bind_gives pair valid_pair _ _ pair_gives
    (λ p a. then_gives (want equals) _ _
    (bind_gives (compos) (every valid_member) _ _ compos_gives (λ ms b. then_gives (want (key "end")) _ _
    (give_gives _ _ (and_in _ _ (and_l _ _ a) (and_in _ _ (and_r _ _ a) b))))))

one_gives : (f : Name → Said) → ((c : Name) → valid_said (f c) ≡ true) → Gives (of_one f) valid_said
unfolding of_one
one_gives f h = bind_gives name valid_name _ _ name_gives (λ c a. give_gives _ (f c) (h c))

two_gives : (f : Name → Name → Said) → ((c v : Name) → valid_said (f c v) ≡ true) → Gives (of_pair f) valid_said
unfolding of_pair
two_gives f h = bind_gives pair valid_pair _ _ pair_gives (λ p a. give_gives _ _ (h p.0 p.1))

choice_gives : Gives choice valid_said
unfolding choice valid_said
choice_gives = bind_gives (names_up_to (key "end")) (every valid_name) _ _ (up_to_gives _) (λ fs a. give_gives _ _ refl)

abbrev GivesValid : Reader Said → Type 0
GivesValid p = Gives p valid_said

grammar_gives : Each GivesValid grammar
unfolding grammar valid_said
grammar_gives =
    spec_gives also module_gives also sys_gives also one_gives DELSPEC (λ c. refl) also one_gives DELMOD (λ c. refl) also
    one_gives DELSYS (λ c. refl) also modvar_gives also sysvar_gives also two_gives DELMODVAR (λ c v. refl) also
    two_gives DELSYSVAR (λ c v. refl) also one_gives SUPPLIES (λ c. refl) also two_gives NEEDS
    (λ c v. refl) also choice_gives also
    one_gives STANDARD (λ c. refl) also give_gives _ UNDEFINED refl also give_gives _ UNUSED refl also
    one_gives WHEREUSED (λ c. refl) also two_gives PARTS (λ c v. refl) also give_gives _ OUT refl also no_more

abbrev pub ValidRead : Read → Type 0
ValidRead (said k u) = valid_said k ≡ true
ValidRead over = Unit {0}
ValidRead wrong = Unit {0}

read_valid : (o : Option (Said × Text)) → GivesO valid_said o → ValidRead (read_as o)
unfolding read_as
read_valid none l = tt
read_valid (some x) l = l

of_valid : (n : Next) → ValidRead (command_of n)
unfolding command_of
of_valid (token (word w) u) = by_test ValidRead (same w (bytes "quit")) _ _ (λ q. tt)
    (by_word_lem ValidRead u tt GivesValid (λ p e. read_valid (p u) (e.at u)) grammar grammar_gives w)
of_valid (token (quoted w) u) = tt
of_valid (token (mark c) u) = tt
of_valid end = tt
of_valid bad = tt

-- an adding command that is read brings valid names only
pub command_valid : (t : Text) → ValidRead (command t)
unfolding command
command_valid t = of_valid (next_token t)
