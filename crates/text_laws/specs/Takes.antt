-- What a reader leaves is an end of the text; what a command leaves is shorter.
use Rattle.std.specs.Prelude.{Bool, false, true, List, [], ◌∷◌, suc, zero, ℕ, length}
use Rattle.std.proofs.Math.Option.{Option, none, some}
use Rattle.model.specs.Maps.{and_then, only_if}
use Rattle.sets.specs.Tests.{~◌}
use Rattle.text.specs.Bytes.{Text, bytes, name_word, same}
use Rattle.text.specs.Language.{DELMOD, DELMODVAR, DELSPEC, DELSYS, DELSYSVAR, NEEDS, Name, OUT, PARTS, Read, Reader, STANDARD}
use Rattle.text.specs.Language.{SUPPLIES, Said, UNDEFINED, UNUSED, WHEREUSED, ◌>>=◌, ◌>>◌, add_mod, add_modvar, add_spec, add_sys}
use Rattle.text.specs.Language.{add_sysvar, ahead, ahead_of, by_word, choice, comma, command, command_of, compo, compos, give, grammar}
use Rattle.text.specs.Language.{imp, key, list_in, list_of, mod_version, name, name_of, names, names_up_to, of_one, of_pair, over, pair}
use Rattle.text.specs.Language.{point, quoted_of, read_as, requirements, said, semicolon, spec_version, standards, sys_version, the_one}
use Rattle.text.specs.Language.{want, want_of, when, wrong}
use Rattle.text.specs.Tokens.{Next, Token, bad, end, is_token, mark, next_token, quoted, token, word}
use Rattle.text_laws.specs.Left.{Left, LeftN, LeftO, left_after, left_all, left_less, left_then, next_left}
use Rattle.text_laws.specs.TextLaws.{Each, ◌also◌, by_test, by_word_lem, no_more}

-- a reader leaves an end of the text, after n bytes at least
pub record Takes {A : Type 0} (n : ℕ) (p : Reader A) : Type 0 where
  pub at : (t : Text) → LeftO n t (p t)

step_o : {B : Type 0} (n : ℕ) (t u : Text) → Left n t u → (o : Option (B × Text)) → LeftO 0 u o → LeftO n t o
step_o n t u l none k = tt
step_o n t u l (some y) k = left_then l k

bind_o : {A B : Type 0} (n : ℕ) (t : Text) (o : Option (A × Text)) (f : A → Reader B) → LeftO n t o → ((a : A) → Takes 0 (f a))
    → LeftO n t (and_then o (λ x. f x.0 x.1))
unfolding and_then
bind_o n t none f l h = tt
bind_o n t (some x) f l h = step_o n t x.1 l (f x.0 x.1) ((h x.0).at x.1)

bind_takes : {A B : Type 0} (n : ℕ) (p : Reader A) (f : A → Reader B) → Takes n p → ((a : A) → Takes 0 (f a))
    → Takes n (◌>>=◌ p f)
unfolding ◌>>=◌
bind_takes n p f e h = record { at = λ t. bind_o n t (p t) f (e.at t) h }

then_takes : {A B : Type 0} (n : ℕ) (p : Reader A) (q : Reader B) → Takes n p → Takes 0 q → Takes n (◌>>◌ p q)
unfolding ◌>>◌
then_takes n p q e h = record { at = λ t. bind_o n t (p t) (λ a. q) (e.at t) (λ a. h) }

less_o : {A : Type 0} (t : Text) (o : Option (A × Text)) → LeftO 1 t o → LeftO 0 t o
less_o t none l = tt
less_o t (some x) l = left_less l

less : {A : Type 0} (p : Reader A) → Takes 1 p → Takes 0 p
less p e = record { at = λ t. less_o t (p t) (e.at t) }

give_takes : {A : Type 0} (x : A) → Takes 0 (give x)
unfolding give
give_takes x = record { at = λ t. left_all t }

ahead_left : (k : Token) (t : Text) (n : Next) → LeftN t n → LeftO 0 t (ahead_of k t n)
unfolding ahead_of
ahead_left k t (token j u) l = by_test (λ (x : Bool × Text). Left 0 t x.1) (is_token k j) _ _ (λ e. left_less l) (left_all t)
ahead_left k t end l = left_all t
ahead_left k t bad l = left_all t

pub ahead_takes : (k : Token) → Takes 0 (ahead k)
unfolding ahead
ahead_takes k = record { at = λ t. ahead_left k t (next_token t) (next_left t) }

only_left : {A : Type 0} (n : ℕ) (t : Text) (b : Bool) (x : A × Text) → Left n t x.1 → LeftO n t (only_if b x)
unfolding only_if
only_left n t true x l = l
only_left n t false x l = tt

want_left : (k : Token) (t : Text) (n : Next) → LeftN t n → LeftO 1 t (want_of k n)
unfolding want_of
want_left k t (token j u) l = only_left 1 t (is_token k j) (tt, u) l
want_left k t end l = tt
want_left k t bad l = tt

want_takes : (k : Token) → Takes 1 (want k)
unfolding want
want_takes k = record { at = λ t. want_left k t (next_token t) (next_left t) }

name_left : (t : Text) (n : Next) → LeftN t n → LeftO 1 t (name_of n)
unfolding name_of
name_left t (token (word w) u) l = only_left 1 t (name_word w) (w, u) l
name_left t (token (quoted w) u) l = tt
name_left t (token (mark c) u) l = tt
name_left t end l = tt
name_left t bad l = tt

pub name_takes : Takes 1 name
unfolding name
name_takes = record { at = λ t. name_left t (next_token t) (next_left t) }

quoted_left : (t : Text) (n : Next) → LeftN t n → LeftO 1 t (quoted_of n)
unfolding quoted_of
quoted_left t (token (word w) u) l = tt
quoted_left t (token (quoted w) u) l = l
quoted_left t (token (mark c) u) l = tt
quoted_left t end l = tt
quoted_left t bad l = tt

impl_takes : Takes 1 imp
unfolding imp
impl_takes = record { at = λ t. quoted_left t (next_token t) (next_left t) }

when_takes : {A : Type 0} (b : Bool) (x : A) (p : Reader A) → Takes 0 p → Takes 0 (when b x p)
unfolding when
when_takes true x p e = record { at = λ t. e.at t }
when_takes false x p e = record { at = λ t. left_all t }

pub list_in_takes : {A : Type 0} (n : ℕ) (k : Token) (p : Reader A) → Takes 1 p → Takes 1 (list_in n k p)
unfolding list_in
list_in_takes zero k p e = record { at = λ t. tt }
list_in_takes (suc n) k p e = record {
  at = λ t. (bind_takes 1 p _ e
      (λ x. bind_takes 0 (ahead k) _ (ahead_takes k)
      (λ on. bind_takes 0 (when on [] (list_in n k p)) _
      (when_takes on [] (list_in n k p) (less (list_in n k p) (list_in_takes n k p e)))
      (λ xs. give_takes (x ∷ xs))))).at t;
}

pub list_takes : {A : Type 0} (k : Token) (p : Reader A) → Takes 1 p → Takes 1 (list_of k p)
unfolding list_of
list_takes k p e = record { at = λ t. (list_in_takes (length t) k p e).at t }

-- ---- the productions

names_takes : Takes 1 names
unfolding names
names_takes = list_takes comma name name_takes

up_to_takes : (k : Token) → Takes 0 (names_up_to k)
unfolding names_up_to
up_to_takes k = bind_takes 0 (ahead k) _ (ahead_takes k)
    (λ b. when_takes (~ b) [] _ (bind_takes 0 names _ (less names names_takes)
    (λ xs. then_takes 0 (want k) _ (less (want k) (want_takes k)) (give_takes xs))))

pair_takes : Takes 1 pair
unfolding pair
pair_takes = bind_takes 1 name _ name_takes
    (λ c. then_takes 0 (want point) _ (less (want point) (want_takes point))
    (bind_takes 0 name _ (less name name_takes) (λ v. give_takes (c, v))))

req_takes : Takes 0 requirements
unfolding requirements
req_takes = bind_takes 0 (ahead (key "requires")) _ (ahead_takes _) (λ b. when_takes b [] names (less names names_takes))

-- "std" may stand in front of the name
after_o : {A : Type 0} (t u : Text) → Left 0 t u → (o : Option (A × Text)) → LeftO 1 u o → LeftO 1 t o
after_o t u l none m = tt
after_o t u l (some x) m = left_after l m

ahead_o : {A : Type 0} (t : Text) (o : Option (Bool × Text)) (f : Bool → Reader A) → LeftO 0 t o → ((b : Bool) → Takes 1 (f b))
    → LeftO 1 t (and_then o (λ x. f x.0 x.1))
unfolding and_then
ahead_o t none f l h = tt
ahead_o t (some x) f l h = after_o t x.1 l (f x.0 x.1) ((h x.0).at x.1)

ahead_then : {A : Type 0} (k : Token) (f : Bool → Reader A) → ((b : Bool) → Takes 1 (f b)) → Takes 1 (◌>>=◌ (ahead k) f)
unfolding ◌>>=◌
ahead_then k f h = record { at = λ t. ahead_o t (ahead k t) f ((ahead_takes k).at t) h }

pub spec_version_takes : Takes 1 spec_version
unfolding spec_version
spec_version_takes = ahead_then (key "std") _
    (λ b. bind_takes 1 name _ name_takes (λ v. bind_takes 0 requirements _ req_takes (λ rs. give_takes (b, (v, rs)))))

the_one_takes : (vs : List Name) → Takes 0 (the_one vs)
unfolding the_one
the_one_takes [] = record { at = λ t. tt }
the_one_takes (v ∷ []) = record { at = λ t. left_all t }
the_one_takes (v ∷ (w ∷ ws)) = record { at = λ t. tt }

want' : (k : Token) → Takes 0 (want k)
want' k = less (want k) (want_takes k)

spec_takes : Takes 0 add_spec
unfolding add_spec
spec_takes = less _ (bind_takes 1 name _ name_takes
    (λ c. then_takes 0 _ _ (want' _) (bind_takes 0 (names_up_to semicolon) _ (up_to_takes semicolon)
    (λ ps. bind_takes 0 (list_of semicolon spec_version) _ (less _ (list_takes _ _ spec_version_takes)) (λ vs.
    then_takes 0 _ _ (want' _) (bind_takes 0 (the_one (standards vs)) _ (the_one_takes (standards vs)) (λ s. give_takes _)))))))

pub mod_version_takes : Takes 1 mod_version
unfolding mod_version
mod_version_takes = bind_takes 1 name _ name_takes
    (λ v. then_takes 0 _ _ (want' _) (bind_takes 0 imp _ (less _ impl_takes) (λ i. give_takes (v, i))))

module_takes : Takes 0 add_mod
unfolding add_mod
module_takes = less _ (bind_takes 1 name _ name_takes
    (λ c. then_takes 0 _ _ (want' _) (bind_takes 0 (list_of semicolon mod_version) _ (less _ (list_takes _ _ mod_version_takes))
    (λ is. then_takes 0 _ _ (want' _) (give_takes _)))))

pub compo_takes : Takes 1 compo
unfolding compo
compo_takes = bind_takes 1 name _ name_takes
    (λ c. bind_takes 0 (ahead point) _ (ahead_takes point)
    (λ b. bind_takes 0 (when b none _) _
    (when_takes b none _ (bind_takes 0 name _ (less _ name_takes) (λ w. give_takes (some w))))
    (λ v. give_takes (c, v))))

compos_takes : Takes 1 compos
unfolding compos
compos_takes = list_takes comma compo compo_takes

pub sys_version_takes : Takes 1 sys_version
unfolding sys_version
sys_version_takes = bind_takes 1 name _ name_takes
    (λ v. then_takes 0 _ _ (want' _) (bind_takes 0 compos _ (less compos compos_takes) (λ ms. give_takes (v, ms))))

sys_takes : Takes 0 add_sys
unfolding add_sys
sys_takes = less _ (bind_takes 1 name _ name_takes
    (λ c. then_takes 0 _ _ (want' _) (bind_takes 0 names _ (less _ names_takes)
    (λ us. then_takes 0 _ _ (want' _) (bind_takes 0 (list_of semicolon sys_version) _ (less _ (list_takes _ _ sys_version_takes))
    (λ ks. then_takes 0 _ _ (want' _) (give_takes _)))))))

modvar_takes : Takes 0 add_modvar
unfolding add_modvar
modvar_takes = bind_takes 0 pair _ (less _ pair_takes)
    (λ p. bind_takes 0 requirements _ req_takes
    (λ rs. then_takes 0 _ _ (want' _) (bind_takes 0 imp _ (less _ impl_takes) (λ i. give_takes _))))

sysvar_takes : Takes 0 add_sysvar
unfolding add_sysvar
sysvar_takes = bind_takes 0 pair _ (less _ pair_takes)
    (λ p. then_takes 0 _ _ (want' _) (bind_takes 0 compos _ (less compos compos_takes)
    (λ ms. then_takes 0 _ _ (want' _) (give_takes _))))

choice_takes : Takes 0 choice
unfolding choice
choice_takes = bind_takes 0 (names_up_to (key "end")) _ (up_to_takes _) (λ fs. give_takes _)

one_takes : (f : Name → Said) → Takes 0 (of_one f)
unfolding of_one
one_takes f = bind_takes 0 name _ (less _ name_takes) (λ c. give_takes (f c))

two_takes : (f : Name → Name → Said) → Takes 0 (of_pair f)
unfolding of_pair
two_takes f = bind_takes 0 pair _ (less _ pair_takes) (λ p. give_takes _)

-- ---- a command

grammar_takes : Each (Takes 0) grammar
unfolding grammar
grammar_takes =
    spec_takes also module_takes also sys_takes also one_takes DELSPEC also one_takes DELMOD also one_takes DELSYS also
    modvar_takes also sysvar_takes also two_takes DELMODVAR also two_takes DELSYSVAR also one_takes SUPPLIES also two_takes NEEDS also
    choice_takes also one_takes STANDARD also give_takes UNDEFINED also give_takes UNUSED also one_takes WHEREUSED also
    two_takes PARTS also give_takes OUT also no_more

abbrev pub LeftR : ℕ → Text → Read → Type 0
LeftR n t (said k u) = Left n t u
LeftR n t over = Unit {0}
LeftR n t wrong = Unit {0}

read_left : (n : ℕ) (t : Text) (o : Option (Said × Text)) → LeftO n t o → LeftR n t (read_as o)
unfolding read_as
read_left n t none l = tt
read_left n t (some x) l = l

after_r : (t u : Text) → Left 1 t u → (r : Read) → LeftR 0 u r → LeftR 1 t r
after_r t u l (said k v) m = left_then l m
after_r t u l over m = tt
after_r t u l wrong m = tt

of_left : (t : Text) (n : Next) → LeftN t n → LeftR 1 t (command_of n)
unfolding command_of
of_left t (token (word w) u) l = by_test (LeftR 1 t) (same w (bytes "quit")) _ _ (λ e. tt)
    (after_r t u l (by_word grammar w u) (by_word_lem (LeftR 0 u) u tt (Takes 0)
    (λ p e. read_left 0 u (p u) (e.at u)) grammar grammar_takes w))
of_left t (token (quoted w) u) l = tt
of_left t (token (mark c) u) l = tt
of_left t end l = tt
of_left t bad l = tt

-- what a command leaves is an end of the text, at least a byte shorter
pub command_left : (t : Text) → LeftR 1 t (command t)
unfolding command
command_left t = of_left t (next_token t) (next_left t)
