-- The members of a composition.
use Rattle.std.specs.Prelude.{Bool, None, Option as Found, Some, [], ◌∷◌, ◌≡◌, false, is_some, map, option_map, refl, true, ℕ}
use Rattle.std.proofs.Common.{◌∙◌, ap, ap₂, le_refl, subst, sym}
use Rattle.std.proofs.Math.Option.{Option, none, some}
use Rattle.model.specs.Book.{components, versions}
use Rattle.model.specs.Maps as there
use Rattle.model.specs.Maps.{and_then}
use Rattle.model.specs.Commands.{Members}
use Rattle.command_lists.specs.Gathered.{Gathered, gather, nothing}
use Rattle.command_lists.specs.Said.{always, is_version_or_none, itself, members_of, members_step}
use Rattle.sets.specs.Answered.{answered}
use Rattle.sets.specs.Tests.{◌&◌}
use Rattle.text.specs.Language.{Name, NamedMembers, Reader as Production, ◌>>=◌, compo, give, name, point, when}
use Rattle.text.specs.Tables.{Table, Tables, given, member_names, member_versions, number}
use Rattle.read_tokens.specs.Ahead.{Passes}
use Rattle.read_tokens.specs.BothLaws.{both_out, both_there, map_out, map_there, some_same}
use Rattle.read_tokens.specs.Entering.{both}
use Rattle.read_tokens.specs.Growth.{Grows, Longer, NumberedAll, fold_on, joint, mentioned}
use Rattle.read_tokens.specs.GrowthLaws.{enters_longer, enters_number, grows_comp, grows_each, grows_none, grows_on, grows_then, grows_ver}
use Rattle.read_tokens.specs.GrowthLaws.{longer_none, longer_same, numbered_all}
use Rattle.read_tokens.specs.SequenceLaws.{Lacks, Read, next_lacks, next_read}
use Rattle.read_tokens.specs.Steps.{Each}
use Rattle.read_tokens.specs.declared.reader.Reader.{Reader}
use Rattle.read_sys.specs.MemberSteps.{Member, MemberState, MemberStep, VersionTaken, add_member, member_start}

-- ---- cn ["." vn]

-- a member whose component is c, from behind this: a point was passed or not
abbrev behind : Bool → Name → Production Member
behind b c = when b none (name >>= (λ w. give (some w))) >>= (λ v. give (c, v))

behind_none : (R : Member → Type 0) (c : Name) (u : Reader) → R (c, none) → Read (behind false c) R u u
unfolding ◌>>=◌ and_then when give
behind_none R c u h = (record { value = (c, none); is = refl; took = h; from = le_refl _; inside = u.inside }, refl)

behind_some : (R : Member → Type 0) (c : Name) (u z : Reader) (Q : Name → Type 0) → Read name Q u z → ((w : Name) → Q w → R (c, some w))
    → Read (behind true c) R u z
unfolding ◌>>=◌ and_then when give
behind_some R c u z Q v h = (
  record { value = (c, some v.0.value); is = rw v.0.is; took = h v.0.value v.0.took; from = v.0.from; inside = v.0.inside },
  v.1,
)

behind_lacks : (c : Name) (u : Reader) → Lacks name u → Lacks (behind true c) u
unfolding ◌>>=◌ and_then when
behind_lacks c u n = rw n

module _ (r s u : Reader) (Q : Name → Type 0) (n : Read name Q r s) where
  pub member_alone : Passes point s u false → (R : Member → Type 0) → ((c : Name) → Q c → R (c, none)) → Read compo R r u
  unfolding compo
  member_alone m R h = next_read r s n _ u (λ c q. next_read s u m _ u (λ b t.
      subst (λ (x : Bool). Read (behind x c) R u u) (sym t.is) (behind_none R c u (h c q))))

  module _ (m : Passes point s u true) where
    pub member_with_version : (z : Reader) (Q' : Name → Type 0) → Read name Q' u z → (R : Member → Type 0)
        → ((c w : Name) → Q c → Q' w → R (c, some w)) → Read compo R r z
    unfolding compo
    member_with_version z Q' v R h = next_read r s n _ z (λ c q. next_read s u m _ z (λ b t.
        subst (λ (x : Bool). Read (behind x c) R u z) (sym t.is) (behind_some R c u z Q' v (λ w. h c w q))))

    pub member_no_version : Lacks name u → Lacks compo r
    unfolding compo
    member_no_version l = next_lacks r s n _ (λ c q. next_lacks s u m _ (λ b t.
        subst (λ (x : Bool). Lacks (behind x c) u) (sym t.is) (behind_lacks c u l)))

-- a version's place, as it is held of a member
pub version_held : (v : Found ℕ) → option_map answered (option_map Some v) ≡ option_map some v
unfolding answered
version_held None = refl
version_held (Some k) = refl

-- ---- the tables, and whether each name found a place

-- a member's names
abbrev member_mentions : Member → Tables
member_mentions x = record { comps = x.0 ∷ []; vers = given (x.1 ∷ []); facs = []; impls = [] }

members_one_by_one : (xs : NamedMembers) → mentioned member_mentions xs
    ≡ record { comps = member_names xs; vers = member_versions xs; facs = []; impls = [] }
unfolding mentioned joint member_names member_versions given
members_one_by_one [] = refl
members_one_by_one ((c, none) ∷ xs) = ap (λ m. joint (member_mentions (c, none)) m) (members_one_by_one xs)
members_one_by_one ((c, some w) ∷ xs) = ap (λ m. joint (member_mentions (c, some w)) m) (members_one_by_one xs)

module _ (f i : Table) where
  -- the tables of a state, with those that no entry changes
  abbrev pub member_world : MemberState → Tables
  member_world s = record { comps = s.comps; vers = s.vers; facs = f; impls = i }

  abbrev at : Table → Table → Tables
  at c v = record { comps = c; vers = v; facs = f; impls = i }

  abbrev one_version : Option Name → Tables
  one_version o = record { comps = []; vers = given (o ∷ []); facs = []; impls = [] }

  version_grows : (c t t' : Table) (v : Found (Option ℕ)) (o : Option Name) → VersionTaken t t' v o
      → Grows (at c t) (at c t') true (is_some v) (one_version o)
  unfolding VersionTaken given ◌&◌
  version_grows c t t' v none q =
      subst (λ (u : Table). Grows (at c t) (at c u) true (is_some v) (one_version none)) (sym q.0)
      (subst (λ (z : Found (Option ℕ)). Grows (at c t) (at c t) true (is_some z) (one_version none)) (sym q.1) (grows_none (at c t) true))
  version_grows c t t' v (some w) q =
      subst (λ (r : Bool). Grows (at c t) (at c t') true r (one_version (some w))) (sym (ap is_some q.2 ∙ map_there some q.0))
      (grows_ver (at c t) true t' q.0 w q.1)

  member_grows : (s s' : MemberState) (x : Member) → MemberStep s s' x
      → Grows (member_world s) (member_world s') (is_some s.members) (is_some s'.members) (member_mentions x)
  unfolding joint ◌&◌ add_member
  member_grows s s' x p =
      let a = grows_comp (member_world s) true s'.comps p.place x.0 p.enters in
      let b = grows_on _ _ (is_some p.place) true _ _ refl (version_grows s'.comps s.vers s'.vers p.version x.1 p.taken) in
      let g = grows_on _ _ (is_some s.members) true _ _ refl (grows_then _ _ _ _ _ _ _ _ a b) in
      let e = ap is_some p.members ∙ both_there members_step s.members (both (λ k o. (k, o)) p.place p.version)
      ∙ ap (λ (z : Bool). is_some s.members & z) (both_there (λ k o. (k, o)) p.place p.version) in
      subst (λ (r : Bool). Grows (member_world s) (member_world s') (is_some s.members) r (member_mentions x)) (sym e) g

  pub members_grow : (s s' : MemberState) (xs : NamedMembers) → Each MemberStep s s' xs
      → Grows (member_world s) (member_world s') (is_some s.members) (is_some s'.members)
      (record { comps = member_names xs; vers = member_versions xs; facs = []; impls = [] })
  members_grow s s' xs e =
      subst (Grows (member_world s) (member_world s') (is_some s.members) (is_some s'.members)) (members_one_by_one xs)
      (grows_each MemberStep member_world (λ s. is_some s.members) member_mentions member_grows s s' xs e)

-- ---- numbers

abbrev pub member_tables : MemberState → Tables
member_tables s = member_world [] [] s

abbrev pub member_num : Tables → Member → ℕ × Option ℕ
member_num u x = (number u.comps x.0, there.option_map (number u.vers) x.1)

version_number : (t t' : Table) (v : Found (Option ℕ)) (o : Option Name) (k : Option ℕ) → VersionTaken t t' v o → v ≡ Some k
    → Longer t t' × ((u : Table) → Longer t' u → there.option_map (number u) o ≡ k)
unfolding VersionTaken there.option_map
version_number t t' v none k q y = (subst (Longer t) (sym q.0) (longer_same t), λ u l. some_same (sym q.1 ∙ y))
version_number t t' v (some w) k q y =
    let m = map_out some q.0 (sym q.2 ∙ y) in (
      enters_longer versions t t' q.0 w q.1,
      λ u l. ap some (enters_number versions t t' q.0 w q.1 m.0 m.1 u l) ∙ m.2,
    )

members_numbered : (s s' : MemberState) (xs : NamedMembers) (g : Gathered (Option ℕ)) → Each MemberStep s s' xs → s'.members ≡ Some g
    → NumberedAll member_tables (λ s. s.members) member_num members_step (λ y. true) s s' xs g
unfolding add_member
members_numbered s s' xs g e y = numbered_all MemberStep member_tables (λ s. s.members) member_num members_step (λ y. true) (λ s s' x h f o.
    (let a = both_out members_step s.members (both (λ k o. (k, o)) f.place f.version) (sym f.members ∙ o) in
    let b = both_out (λ k o. (k, o)) f.place f.version a.3 in
    let v = version_number s.vers s'.vers f.version x.1 b.1 f.taken b.3 in
    record {
      before = a.0;
      was = a.2;
      value = (b.0, b.1);
      is = λ u l. ap₂ (λ (k : ℕ) (j : Option ℕ). (k, j))
          (enters_number components s.comps s'.comps f.place x.0 f.enters b.0 b.2 u.comps l.comps) (v.1 u.vers l.vers);
      passes = refl;
      adds = sym a.4 ∙ ap (members_step a.0) (sym b.4);
      later = record {
        comps = enters_longer components s.comps s'.comps f.place x.0 f.enters;
        vers = v.0;
        facs = longer_none _;
        impls = longer_none _;
      };
    })) s s' xs g e y

pub members_fold : (g : Gathered (Option ℕ)) (xs : Members) → fold_on members_step g xs ≡ gather components is_version_or_none always always itself g xs
unfolding fold_on gather members_step
members_fold g [] = refl
members_fold g (x ∷ xs) = members_fold (members_step g x) xs

-- the members that were read, by their numbers in all later tables
pub record MembersAre (c v c' v' : Table) (g : Gathered (Option ℕ)) (xs : NamedMembers) : Type 0 where
  pub values : Members
  pub are : (u : Tables) → Longer c' u.comps → Longer v' u.vers → map (member_num u) xs ≡ values
  pub is : g ≡ members_of values
  pub comps : Longer c c'
  pub vers : Longer v v'

pub members_are : (c v : Table) (s : MemberState) (g : Gathered (Option ℕ)) (xs : NamedMembers) → Each MemberStep (member_start c v) s xs
    → s.members ≡ Some g → MembersAre c v s.comps s.vers g xs
unfolding member_start members_of
members_are c v s g xs e y =
    let all = members_numbered (member_start c v) s xs g e y in
    record {
      values = all.values;
      are = λ u l m. all.are u (record { comps = l; vers = m; facs = longer_none _; impls = longer_none _ });
      is = all.add ∙ ap (λ (z : Gathered (Option ℕ)). fold_on members_step z all.values) (sym (some_same all.was)) ∙ members_fold nothing all.values;
      comps = all.later.comps;
      vers = all.later.vers;
    }
