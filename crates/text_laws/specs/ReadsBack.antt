-- Reading a written command gives it back.
use Rattle.std.specs.Prelude.{Bool, false, true, List, [], ◌++◌, ◌∷◌, map, ◌≡◌}
use Rattle.std.proofs.Common.{append_assoc, ◌∙◌, sym, arith}
use Rattle.std.proofs.lemmas.Simd.{map-map}
use Rattle.std.proofs.Math.Option.{Option, none, some}
use Rattle.std.proofs.Math.Path.{ap, ap₂, refl}
use Rattle.model.specs.Lists.{every, non_empty}
use Rattle.model.specs.Maps.{has}
use Rattle.sets.specs.TestLaws.{=?-same, and_in, and_l, and_r, clash, if-true}
use Rattle.sets.specs.Tests.{◌&◌, if?◌then◌else◌}
use Rattle.text.specs.Bytes.{Text, among, bytes, impl_byte, keywords, name_byte, same, short, valid_implementation, valid_name}
use Rattle.text.specs.Language.{MOD, Name, NamedMembers, SPEC, SYS, Said, add_mod, add_spec, add_sys, ahead, by_word, comma, command}
use Rattle.text.specs.Language.{command_of, compo, compos, equals, give, grammar, imp, key, list_of, mod_version, name, names}
use Rattle.text.specs.Language.{names_up_to, point, quoted_of, read_as, requirements, said, semicolon, spec_version, standards}
use Rattle.text.specs.Language.{sys_version, the_one, want, when}
use Rattle.text.specs.Tokens.{closing, is_token, next_token, past, quoted, run, token, word}
use Rattle.text.specs.Written.{commas, line, member_piece, mod_piece, parted, requiring, semicolons, spec_piece, sys_piece}
use Rattle.text_laws.specs.Reading.{ListLaw, bind, lexing, list_reads, name_reads, name_spaced, next_space, past_word}
use Rattle.text_laws.specs.Reading.{run_word, stops, thence, valid_name_lem, valid_word, want_end, want_equals, want_impl}
use Rattle.text_laws.specs.Reading.{want_provides, want_semicolon, want_use}
use Rattle.text_laws.specs.ReadsNames.{Tail, ahead_no, ahead_requires, ahead_std, last, names_read, no_keyword, semi}
use Rattle.text_laws.specs.ReadsNames.{stop_equals, stop_impl, stop_point, stop_provides, stop_semicolon, stop_use}
use Rattle.text_laws.specs.ReadsNames.{tail_comma, tail_requires, tail_stops, up_to_semicolon}
use Rattle.text_laws.specs.TextLaws.{every_map, map_same, non_empty-map}

-- ---- spec

-- a version of a spec, with whether it is the standard one
abbrev pub Flagged : Type 0
Flagged = Bool × (Name × List Name)

flagged_piece : Flagged → Text
flagged_piece y = (if? y.0 then bytes "std " else []) ++ (y.1.0 ++ requiring y.1.1)

ok_flagged : Flagged → Bool
ok_flagged y = valid_name y.1.0 & every valid_name y.1.1

requirements_read : (rs : List Name) (t : Text) → every valid_name rs ≡ true → Tail t
    → requirements (requiring rs ++ t) ≡ some (rs, t)
unfolding requirements requiring when
requirements_read [] t o h = bind (ahead (key "requires")) _ t (tail_requires t h)
requirements_read (r ∷ rs) t o h =
    bind (ahead (key "requires")) _ _ (ahead_requires (commas (r ∷ rs)) t)
    ∙ names_read (r ∷ rs) t (unfold non_empty in refl) o (tail_stops t h) (tail_comma t h)

requiring_stops : (rs : List Name) (t : Text) → Tail t → stops name_byte (requiring rs ++ t) ≡ true
unfolding requiring
requiring_stops [] t h = tail_stops t h
requiring_stops (r ∷ rs) t h = unfold lexing in refl

no_std : (v : Name) → valid_name v ≡ true → is_token (key "std") (word v) ≡ false
unfolding is_token key
no_std v o = no_keyword (bytes "std") v (unfold lexing among keywords in refl) (valid_name_lem v o)

version_read : (b : Bool) (v : Name) (rs : List Name) (t : Text) → ok_flagged (b, (v, rs)) ≡ true → Tail t
    → spec_version (32 ∷ (flagged_piece (b, (v, rs)) ++ t)) ≡ some ((b, (v, rs)), t)
unfolding spec_version flagged_piece ok_flagged if?◌then◌else◌ give
version_read true v rs t o h =
    bind (ahead (key "std")) _ _ (ahead_std (v ++ requiring rs) t)
    ∙ bind name _ _ (ap (λ (l : Text). name (32 ∷ l)) (append_assoc v (requiring rs) t)
    ∙ name_spaced v (requiring rs ++ t) (and_l _ _ o) (requiring_stops rs t h))
    ∙ bind requirements _ _ (requirements_read rs t (and_r _ _ o) h)
version_read false v rs t o h =
    bind (ahead (key "std")) _ _ (ahead_no (key "std") _ (word v) (requiring rs ++ t)
    (next_space _ ∙ ap next_token (append_assoc v (requiring rs) t)
    ∙ valid_word v (requiring rs ++ t) (and_l _ _ o) (requiring_stops rs t h))
    (no_std v (and_l _ _ o)))
    ∙ bind name _ _ (ap (λ (l : Text). name (32 ∷ l)) (append_assoc v (requiring rs) t)
    ∙ name_spaced v (requiring rs ++ t) (and_l _ _ o) (requiring_stops rs t h))
    ∙ bind requirements _ _ (requirements_read rs t (and_r _ _ o) h)

version_law : ListLaw semicolon spec_version flagged_piece (bytes "; ") ok_flagged Tail
version_law = record {
  one = λ y t o h. version_read y.0 y.1.0 y.1.1 t o h;
  on = λ t. unfold lexing in refl;
  sep_stops = λ t. semi t;
  wide = unfold lexing in omega arith;
}

unfoldable pub flag : Name → Name × List Name → Flagged
flag s x = (same x.0 s, x)

unfoldable pub ok_version : Name × List Name → Bool
ok_version x = valid_name x.0 & every valid_name x.1

versions_read : (s : Name) (vs : List (Name × List Name)) (t : Text) → non_empty vs ≡ true → every ok_version vs ≡ true
    → list_of semicolon spec_version (32 ∷ (semicolons (map (spec_piece s) vs) ++ (bytes " end\n" ++ t)))
    ≡ some (map (flag s) vs, bytes " end\n" ++ t)
unfolding semicolons spec_piece flagged_piece flag ok_version ok_flagged
versions_read s vs t e o =
    ap (λ (l : List Text). list_of semicolon spec_version (32 ∷ (parted (bytes "; ") l ++ (bytes " end\n" ++ t))))
    (sym (map-map flagged_piece (flag s) vs))
    ∙ list_reads semicolon spec_version flagged_piece (bytes "; ") ok_flagged Tail version_law (bytes " end\n" ++ t) (last t)
    (unfold lexing in refl) (map (flag s) vs) (non_empty-map (flag s) vs e)
    (every_map (flag s) ok_flagged vs ∙ o)

unflag : (s : Name) (vs : List (Name × List Name)) → map (λ x. x.1) (map (flag s) vs) ≡ vs
unfolding flag
unflag s vs = map-map (λ x. x.1) (flag s) vs ∙ map_same vs

spec_reads : (c : Name) (ps : List Name) (vs : List (Name × List Name)) (s : Name) (t : Text) → valid_name c ≡ true
    → every valid_name ps ≡ true → every ok_version vs ≡ true → non_empty vs ≡ true → standards (map (flag s) vs) ≡ s ∷ []
    → add_spec (32 ∷ (c ++ (bytes " provides "
    ++ (commas ps ++ (bytes "; " ++ (semicolons (map (spec_piece s) vs) ++ (bytes " end\n" ++ t)))))))
    ≡ some (SPEC c ps vs s, 10 ∷ t)
unfolding add_spec the_one give
spec_reads c ps vs s t oc op ov e d =
    bind name _ _ (name_spaced c _ oc (stop_provides _))
    ∙ thence (want (key "provides")) _ _ (want_provides _)
    ∙ bind (names_up_to semicolon) _ _ (up_to_semicolon ps _ op)
    ∙ bind (list_of semicolon spec_version) _ _ (versions_read s vs t e ov)
    ∙ thence (want (key "end")) _ _ (want_end t)
    ∙ bind (the_one (standards (map (flag s) vs))) _ _ (ap (λ (l : List Name). the_one l (10 ∷ t)) d)
    ∙ ap (λ (l : List (Name × List Name)). some (SPEC c ps l s, 10 ∷ t)) (unflag s vs)

-- ---- mod

string_next : (i t : Text) → next_token (32 ∷ (34 ∷ (i ++ t))) ≡ closing (run impl_byte (i ++ t)) (past impl_byte (i ++ t))
unfolding lexing
string_next i t = refl

closing_quote : (i t : Text) → short i ≡ true → closing i (34 ∷ t) ≡ token (quoted i) t
unfolding closing
closing_quote i t o = if-true _ _ _ (and_in _ _ (=?-same 34) o)

implementation_reads : (i t : Text) → valid_implementation i ≡ true → imp (32 ∷ (34 ∷ (i ++ (bytes "\"" ++ t)))) ≡ some (i, t)
unfolding imp valid_implementation quoted_of bytes
implementation_reads i t o =
    let h : stops impl_byte (34 ∷ t) ≡ true = unfold lexing in refl in
    ap quoted_of (string_next i (34 ∷ t) ∙ ap₂ closing (run_word impl_byte i (34 ∷ t) (and_r _ _ o) h)
    (past_word impl_byte i (34 ∷ t) (and_r _ _ o) h) ∙ closing_quote i t (and_l _ _ o))

unfoldable pub ok_mod : Name × Name → Bool
ok_mod x = valid_name x.0 & valid_implementation x.1

mod_shape : (v i t : Text) → (v ++ (bytes " impl \"" ++ (i ++ bytes "\""))) ++ t ≡ v
    ++ (bytes " impl \"" ++ (i ++ (bytes "\"" ++ t)))
mod_shape v i t = simp append_assoc

mod_read : (x : Name × Name) (t : Text) → ok_mod x ≡ true → mod_version (32 ∷ (mod_piece x ++ t)) ≡ some (x, t)
unfolding mod_version mod_piece ok_mod give
mod_read x t o =
    ap (λ (l : Text). mod_version (32 ∷ l)) (mod_shape x.0 x.1 t)
    ∙ bind name _ _ (name_spaced x.0 _ (and_l _ _ o) (stop_impl _))
    ∙ thence (want (key "impl")) _ _ (want_impl _)
    ∙ bind imp _ _ (implementation_reads x.1 t (and_r _ _ o))

mod_law : ListLaw semicolon mod_version mod_piece (bytes "; ") ok_mod Tail
mod_law = record {
  one = λ x t o h. mod_read x t o;
  on = λ t. unfold lexing in refl;
  sep_stops = λ t. semi t;
  wide = unfold lexing in omega arith;
}

mod_reads : (c : Name) (is : List (Name × Name)) (t : Text) → valid_name c ≡ true → every ok_mod is ≡ true → non_empty is ≡ true
    → add_mod (32 ∷ (c ++ (bytes "; " ++ (semicolons (map mod_piece is) ++ (bytes " end\n" ++ t))))) ≡ some (MOD c is, 10 ∷ t)
unfolding add_mod semicolons give
mod_reads c is t oc o e =
    bind name _ _ (name_spaced c _ oc (stop_semicolon _))
    ∙ thence (want semicolon) _ _ (want_semicolon _)
    ∙ bind (list_of semicolon mod_version) _ _
    (list_reads semicolon mod_version mod_piece (bytes "; ") ok_mod Tail mod_law (bytes " end\n" ++ t) (last t)
    (unfold lexing in refl) is e o)
    ∙ thence (want (key "end")) _ _ (want_end t)

-- ---- sys

unfoldable pub ok_member : Name × Option Name → Bool
ok_member m = valid_name m.0 & has m.1 valid_name

unfoldable pub ok_sys : Name × NamedMembers → Bool
ok_sys x = valid_name x.0 & (non_empty x.1 & every ok_member x.1)

ahead_point : (t : Text) → ahead point (bytes "." ++ t) ≡ some (true, t)
unfolding lexing
ahead_point t = refl

member_read : (c : Name) (v : Option Name) (t : Text) → ok_member (c, v) ≡ true → stops name_byte t ≡ true
    → compo (32 ∷ (member_piece (c, v) ++ t)) ≡ some ((c, v), t)
unfolding compo member_piece ok_member has when give
member_read c none t o h = clash (and_r _ _ o) refl
member_read c (some v) t o h =
    ap (λ (l : Text). compo (32 ∷ l)) (append_assoc c (bytes "." ++ v) t
    ∙ ap (λ (l : Text). c ++ l) (append_assoc (bytes ".") v t))
    ∙ bind name _ _ (name_spaced c _ (and_l _ _ o) (stop_point _))
    ∙ bind (ahead point) _ _ (ahead_point (v ++ t))
    ∙ bind _ _ _ (bind name _ _ (name_reads v t (and_r _ _ o) h))

member_law : ListLaw comma compo member_piece (bytes ", ") ok_member (λ t. stops name_byte t ≡ true)
member_law = record {
  one = λ x t o h. member_read x.0 x.1 t o h;
  on = λ t. unfold lexing in refl;
  sep_stops = λ t. unfold lexing in refl;
  wide = unfold lexing in omega arith;
}

sys_version_read : (x : Name × NamedMembers) (t : Text) → ok_sys x ≡ true → Tail t
    → sys_version (32 ∷ (sys_piece x ++ t)) ≡ some (x, t)
unfolding sys_version sys_piece ok_sys give commas compos
sys_version_read x t o h =
    ap (λ (l : Text). sys_version (32 ∷ l)) (append_assoc x.0 _ t
    ∙ ap (λ (l : Text). x.0 ++ l) (append_assoc (bytes " = ") _ t))
    ∙ bind name _ _ (name_spaced x.0 _ (and_l _ _ o) (stop_equals _))
    ∙ thence (want equals) _ _ (want_equals _)
    ∙ bind (compos) _ _ (list_reads comma compo member_piece (bytes ", ") ok_member _ member_law t (tail_stops t h)
    (tail_comma t h) x.1 (and_l _ _ (and_r _ _ o)) (and_r _ _ (and_r _ _ o)))

sys_law : ListLaw semicolon sys_version sys_piece (bytes "; ") ok_sys Tail
sys_law = record {
  one = sys_version_read;
  on = λ t. unfold lexing in refl;
  sep_stops = λ t. semi t;
  wide = unfold lexing in omega arith;
}

sys_reads : (c : Name) (us : List Name) (ks : List (Name × NamedMembers)) (t : Text) → valid_name c ≡ true
    → every valid_name us ≡ true
    → non_empty us ≡ true → every ok_sys ks ≡ true → non_empty ks ≡ true
    → add_sys (32 ∷ (c ++ (bytes " use "
    ++ (commas us ++ (bytes "; " ++ (semicolons (map sys_piece ks) ++ (bytes " end\n" ++ t))))))) ≡ some (SYS c us ks, 10 ∷ t)
unfolding add_sys semicolons give
sys_reads c us ks t oc ou eu o e =
    bind name _ _ (name_spaced c _ oc (stop_use _))
    ∙ thence (want (key "use")) _ _ (want_use _)
    ∙ bind names _ _ (names_read us _ eu ou (stop_semicolon _) (tail_comma _ (semi _)))
    ∙ thence (want semicolon) _ _ (want_semicolon _)
    ∙ bind (list_of semicolon sys_version) _ _
    (list_reads semicolon sys_version sys_piece (bytes "; ") ok_sys Tail sys_law (bytes " end\n" ++ t) (last t)
    (unfold lexing in refl) ks e o)
    ∙ thence (want (key "end")) _ _ (want_end t)

-- ---- a command

-- what can be written and read back
pub data Writable : Said → Type 0 where
  a_spec : {c : Name} {ps : List Name} {vs : List (Name × List Name)} {s : Name}
      → valid_name c ≡ true → every valid_name ps ≡ true → every ok_version vs ≡ true → non_empty vs ≡ true
      → standards (map (flag s) vs) ≡ s ∷ [] → Writable (SPEC c ps vs s)
  a_mod : {c : Name} {is : List (Name × Name)} → valid_name c ≡ true → every ok_mod is ≡ true → non_empty is ≡ true
      → Writable (MOD c is)
  a_sys : {c : Name} {us : List Name} {ks : List (Name × NamedMembers)}
      → valid_name c ≡ true → every valid_name us ≡ true → non_empty us ≡ true → every ok_sys ks ≡ true → non_empty ks ≡ true
      → Writable (SYS c us ks)

command_spec : (t : Text) → command (bytes "spec " ++ t) ≡ read_as (add_spec (32 ∷ t))
unfolding lexing command command_of by_word grammar
command_spec t = refl

command_mod : (t : Text) → command (bytes "mod " ++ t) ≡ read_as (add_mod (32 ∷ t))
unfolding lexing command command_of by_word grammar
command_mod t = refl

command_sys : (t : Text) → command (bytes "sys " ++ t) ≡ read_as (add_sys (32 ∷ t))
unfolding lexing command command_of by_word grammar
command_sys t = refl

-- Reading a written command gives it back, and leaves its line feed and what follows.
pub command_reads : (k : Said) (t : Text) → Writable k → command (line k ++ t) ≡ said k (10 ∷ t)
unfolding line read_as
command_reads k t (a_spec {c} {ps} {vs} {s} oc op ov e d) =
    ap command (simp append_assoc) ∙ command_spec _ ∙ ap read_as (spec_reads c ps vs s t oc op ov e d)
command_reads k t (a_mod {c} {is} oc o e) =
    ap command (simp append_assoc) ∙ command_mod _ ∙ ap read_as (mod_reads c is t oc o e)
command_reads k t (a_sys {c} {us} {ks} oc ou eu o e) =
    ap command (simp append_assoc) ∙ command_sys _ ∙ ap read_as (sys_reads c us ks t oc ou eu o e)

pub command_linefeed : (t : Text) → command (10 ∷ t) ≡ command t
unfolding lexing command
command_linefeed t = refl
