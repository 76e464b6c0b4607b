-- Laws of names put in one after the other, for all four tables and every list.
use Rattle.std.specs.Prelude.{Bool, false, true, List, [], None, Option as Found, Some, ◌++◌, ◌∷◌, ◌≡◌, refl, ◌<◌, ◌≤◌, ℕ, is_some}
use Rattle.std.proofs.Common.{append_assoc, append-nil, ◌∙◌, ap₂, arith}
use Rattle.std.proofs.Math.Option.{Option, some}
use Rattle.std.proofs.Math.Path.{ap, subst, sym}
use Rattle.std.proofs.Math.ListN.{length}
use Rattle.model.specs.Book.{components, facilities, implementations, versions}
use Rattle.model.specs.Lists.{every}
use Rattle.model.specs.Maps as maps
use Rattle.model.specs.Maps.{or_else}
use Rattle.model_laws.specs.MapLaws.{no_some}
use Rattle.names.specs.EnterAllLaws.{all_entered_lem, all_placed_lem}
use Rattle.names.specs.EnterLaws.{table-length}
use Rattle.names.specs.Stored.{Rows, all_placed, place_with, table_after, table_with, tables_of}
use Rattle.sets.specs.Answered.{answered}
use Rattle.sets.specs.TestLaws.{and_in, and_l, and_r, and_swap, and-true, bool?, if-false, if-true, iff→≡, ≤?_out}
use Rattle.sets.specs.Tests.{◌&◌, ◌≤?◌}
use Rattle.std.proofs.Math.Logic.{inl, inr}
use Rattle.text.specs.Language.{Name}
use Rattle.text.specs.Tables.{Table, Tables, enter, entered, fits, no_names, number, place}
use Rattle.text_laws.specs.Places.{enter_longer, place-among, place_longer, place_name}
use Rattle.read_tokens.specs.Entering.{Enters}
use Rattle.read_tokens.specs.Growth.{Grows, Later, Longer, NumberedAll, NumberedOne, Within, fold_on, joint, mentioned, placed}
use Rattle.read_tokens.specs.Growth.{tables_after, with_comps, with_facs, with_impls, with_vers}
use Rattle.read_tokens.specs.Steps.{Each}

-- ---- one table

after_append : (n : ℕ) (t : Table) (xs ys : List Name) → table_after n t (xs ++ ys) ≡ table_after n (table_after n t xs) ys
unfolding table_after
after_append n t [] ys = refl
after_append n t (x ∷ xs) ys = after_append n (table_with n t x) xs ys

and_joint : (a b c : Bool) → (a & (b & c)) ≡ ((a & b) & c)
unfolding ◌&◌
and_joint true b c = refl
and_joint false b c = refl

pub and_pairs : (a b c d : Bool) → ((a & b) & (c & d)) ≡ ((a & c) & (b & d))
and_pairs a b c d = iff→≡ _ _ (turn a b c d) (turn a c b d)
  where
    turn : (a b c d : Bool) → ((a & b) & (c & d)) ≡ true → ((a & c) & (b & d)) ≡ true
    turn a b c d e =
        let l = and_l _ _ e in let r = and_r _ _ e in
        and_in _ _ (and_in _ _ (and_l _ _ l) (and_l _ _ r)) (and_in _ _ (and_r _ _ l) (and_r _ _ r))

placed_append : (n : ℕ) (t : Table) (xs ys : List Name) → all_placed n t (xs ++ ys) ≡ (all_placed n t xs & all_placed n (table_after n t xs) ys)
unfolding all_placed table_after
placed_append n t [] ys = sym (and-true _ _ refl)
placed_append n t (x ∷ xs) ys =
    ap (λ (b : Bool). maps.is_some (place_with n t x) & b) (placed_append n (table_with n t x) xs ys)
    ∙ and_joint (maps.is_some (place_with n t x)) (all_placed n (table_with n t x) xs) (all_placed n (table_after n (table_with n t x) xs) ys)

-- ---- the four tables

and_none : (b : Bool) → (b & true) ≡ b
and_none b = and_swap b true ∙ and-true _ _ refl

pub grows_none : (t : Tables) (r : Bool) → Grows t t r r no_names
unfolding tables_after table_after placed all_placed
grows_none t r = record {
  tables = refl;
  room = sym (ap (λ (b : Bool). r & b) (and-true _ _ refl ∙ and-true _ _ refl ∙ and-true _ _ refl) ∙ and_none r);
}

after_joint : (t m o : Tables) → tables_after t (joint m o) ≡ tables_after (tables_after t m) o
unfolding tables_after joint
after_joint t m o = rw (
  after_append components t.comps m.comps o.comps,
  after_append versions t.vers m.vers o.vers,
  after_append facilities t.facs m.facs o.facs,
  after_append implementations t.impls m.impls o.impls,
)

placed_joint : (t m o : Tables) → placed t (joint m o) ≡ (placed t m & placed (tables_after t m) o)
unfolding placed tables_after joint
placed_joint t m o =
    ap₂ ◌&◌ (placed_append components t.comps m.comps o.comps) (ap₂ ◌&◌ (placed_append versions t.vers m.vers o.vers)
    (ap₂ ◌&◌ (placed_append facilities t.facs m.facs o.facs) (placed_append implementations t.impls m.impls o.impls)
    ∙ and_pairs _ _ _ _) ∙ and_pairs _ _ _ _) ∙ and_pairs _ _ _ _

pub grows_then : (t t' t'' : Tables) (r r' r'' : Bool) (m o : Tables) → Grows t t' r r' m → Grows t' t'' r' r'' o → Grows t t'' r r'' (joint m o)
grows_then t t' t'' r r' r'' m o a b = record {
  tables = b.tables ∙ ap (λ (u : Tables). tables_after u o) a.tables ∙ sym (after_joint t m o);
  room = b.room ∙ ap₂ (λ (x : Bool) (u : Tables). x & placed u o) a.room a.tables ∙ sym (and_joint r (placed t m) _)
      ∙ ap (λ (x : Bool). r & x) (sym (placed_joint t m o));
}

-- the same, whatever stands before
pub grows_on : (t t' : Tables) (r q q' : Bool) (m : Tables) → q ≡ true → Grows t t' q q' m → Grows t t' r (r & q') m
grows_on t t' r q q' m y g = record { tables = g.tables; room = ap (λ (x : Bool). r & x) (g.room ∙ and-true _ _ y) }

-- the entries of a list
pub grows_each : {S A : Type 0} (R : S → S → A → Type 0) (world : S → Tables) (ok : S → Bool) (f : A → Tables)
    → ((s s' : S) (x : A) → R s s' x → Grows (world s) (world s') (ok s) (ok s') (f x))
    → (s s'' : S) (xs : List A) → Each R s s'' xs → Grows (world s) (world s'') (ok s) (ok s'') (mentioned f xs)
unfolding Each mentioned
grows_each R world ok f h s s'' [] e = subst (λ z. Grows (world s) (world z) (ok s) (ok z) no_names) e (grows_none (world s) (ok s))
grows_each R world ok f h s s'' (x ∷ xs) e =
    grows_then (world s) (world e.0) (world s'') (ok s) (ok e.0) (ok s'') (f x) (mentioned f xs) (h s e.0 x e.1)
    (grows_each R world ok f h e.0 s'' xs e.2)

-- ---- one name

there : (o : Found ℕ) → is_some o ≡ maps.is_some (answered o)
unfolding answered maps.is_some
there None = refl
there (Some k) = refl

module _ (t : Tables) (r : Bool) (u : Table) (o : Found ℕ) (w : Name) where
  found_place : {p : Option ℕ} → answered o ≡ p → is_some o ≡ (maps.is_some p & true)
  found_place e = there o ∙ ap maps.is_some e ∙ sym (and_none _)

  pub grows_comp : Enters components t.comps u o w → Grows t (with_comps t u) r (r & is_some o) (with_comps no_names (w ∷ []))
  unfolding tables_after table_after placed all_placed ◌&◌
  grows_comp e = record { tables = rw e.table; room = ap (λ (b : Bool). r & b) (found_place e.place ∙ sym (and_none _)) }

  pub grows_ver : Enters versions t.vers u o w → Grows t (with_vers t u) r (r & is_some o) (with_vers no_names (w ∷ []))
  unfolding tables_after table_after placed all_placed ◌&◌
  grows_ver e = record { tables = rw e.table; room = ap (λ (b : Bool). r & b) (found_place e.place ∙ sym (and_none _)) }

  pub grows_fac : Enters facilities t.facs u o w → Grows t (with_facs t u) r (r & is_some o) (with_facs no_names (w ∷ []))
  unfolding tables_after table_after placed all_placed ◌&◌
  grows_fac e = record { tables = rw e.table; room = ap (λ (b : Bool). r & b) (found_place e.place ∙ sym (and_none _)) }

  pub grows_impl : Enters implementations t.impls u o w → Grows t (with_impls t u) r (r & is_some o) (with_impls no_names (w ∷ []))
  unfolding tables_after table_after placed all_placed ◌&◌
  grows_impl e = record { tables = rw e.table; room = ap (λ (b : Bool). r & b) (found_place e.place) }

-- ---- all names of a command

pub tables_within : (c v f i : Rows) → Within (tables_of c v f i)
unfolding tables_of
tables_within c v f i = record {
  comps = table-length components c;
  vers = table-length versions v;
  facs = table-length facilities f;
  impls = table-length implementations i;
}

module _ (t t' : Tables) (r : Bool) (m : Tables) (k : Within t) (g : Grows t t' true r m) where
  pub grows_room : r ≡ fits (entered t m)
  unfolding placed fits entered
  grows_room =
      g.room ∙ and-true _ _ refl ∙ ap₂ ◌&◌ (all_placed_lem components t.comps m.comps k.comps) (ap₂ ◌&◌ (all_placed_lem versions t.vers m.vers k.vers)
      (ap₂ ◌&◌ (all_placed_lem facilities t.facs m.facs k.facs) (all_placed_lem implementations t.impls m.impls k.impls)))

  pub grows_tables : r ≡ true → t' ≡ entered t m
  unfolding tables_after fits entered
  grows_tables y =
      let f = sym grows_room ∙ y in
      g.tables ∙ rw (
        all_entered_lem components t.comps m.comps (≤?_out _ _ (and_l _ _ f)),
        all_entered_lem versions t.vers m.vers (≤?_out _ _ (and_l _ _ (and_r _ _ f))),
        all_entered_lem facilities t.facs m.facs (≤?_out _ _ (and_l _ _ (and_r _ _ (and_r _ _ f)))),
        all_entered_lem implementations t.impls m.impls (≤?_out _ _ (and_r _ _ (and_r _ _ (and_r _ _ f)))),
      )

-- ---- later tables

pub longer_same : (t : Table) → Longer t t
longer_same t = record { more = []; is = sym (append-nil t) }

pub longer_then : (t u v : Table) → Longer t u → Longer u v → Longer t v
longer_then t u v a b = record {
  more = a.more ++ b.more;
  is = b.is ∙ ap (λ (z : Table). z ++ b.more) a.is ∙ append_assoc t a.more b.more;
}

pub longer_none : (t : Table) → Longer [] t
longer_none t = record { more = t; is = refl }

pub later_same : (t : Tables) → Later t t
later_same t = record { comps = longer_same _; vers = longer_same _; facs = longer_same _; impls = longer_same _ }

pub later_then : (t u v : Tables) → Later t u → Later u v → Later t v
later_then t u v a b = record {
  comps = longer_then _ _ _ a.comps b.comps;
  vers = longer_then _ _ _ a.vers b.vers;
  facs = longer_then _ _ _ a.facs b.facs;
  impls = longer_then _ _ _ a.impls b.impls;
}

-- a table only grows
pub enters_longer : (n : ℕ) (t t' : Table) (o : Found ℕ) (w : Name) → Enters n t t' o w → Longer t t'
unfolding table_with
enters_longer n t t' o w e = elim (bool? (length (enter t (w ∷ [])) ≤? n)) [
  | inl b ↦ (let u = enter_longer t (w ∷ []) in record { more = u.0; is = e.table ∙ if-true _ _ _ b ∙ u.1 })
  | inr b ↦ record { more = []; is = e.table ∙ if-false _ _ _ b ∙ sym (append-nil t) }
]

-- a name that found the place k
module _ (n : ℕ) (t t' : Table) (o : Found ℕ) (w : Name) (e : Enters n t t' o w) (k : ℕ) (y : o ≡ Some k) where
  at_k : place_with n t w ≡ some k
  unfolding answered
  at_k = sym e.place ∙ ap answered y

  fitted : (length (enter t (w ∷ [])) ≤? n) ≡ true
  unfolding place_with
  fitted = elim (bool? (length (enter t (w ∷ [])) ≤? n)) [ inl b ↦ b | inr b ↦ no_some (sym (if-false _ _ _ b) ∙ at_k) ]

  now_is : t' ≡ enter t (w ∷ [])
  unfolding table_with
  now_is = e.table ∙ if-true _ _ _ fitted

  found : place t' w ≡ some k
  unfolding place_with
  found = ap (λ (u : Table). place u w) now_is ∙ sym (if-true _ _ _ fitted) ∙ at_k

  pub enters_number : (u : Table) → Longer t' u → number u w ≡ k
  unfolding number or_else
  enters_number u l =
      ap (λ (x : Option ℕ). or_else x 0)
      (ap (λ (z : Table). place z w) l.is ∙ place_longer t' l.more w (place-among t' w k found) ∙ found)

  pub enters_below : k < n
  enters_below = let p = place_name t' w k found in let m = ≤?_out _ _ fitted in let l = ap length now_is in omega arith

-- ---- lists

pub numbered_all : {S A B G : Type 0} (R : S → S → A → Type 0) (world : S → Tables) (got : S → Found G) (num : Tables → A → B)
    (step : G → B → G) (good : B → Bool)
    → ((s s' : S) (x : A) (g' : G) → R s s' x → got s' ≡ Some g' → NumberedOne world got num step good s s' x g')
    → (s s'' : S) (xs : List A) (g'' : G) → Each R s s'' xs → got s'' ≡ Some g'' → NumberedAll world got num step good s s'' xs g''
unfolding Each fold_on every
numbered_all R world got num step good f s s'' [] g'' e y = record {
  before = g'';
  was = ap got e ∙ y;
  values = [];
  are = λ u l. refl;
  pass = refl;
  add = refl;
  later = subst (λ z. Later (world s) (world z)) e (later_same (world s));
}
numbered_all R world got num step good f s s'' (x ∷ xs) g'' e y =
    let b = numbered_all R world got num step good f e.0 s'' xs g'' e.2 y in
    let a = f s e.0 x b.before e.1 b.was in
    record {
      before = a.before;
      was = a.was;
      values = a.value ∷ b.values;
      are = λ u l. ap₂ (λ y ys. y ∷ ys) (a.is u (later_then _ _ _ b.later l)) (b.are u l);
      pass = and_in _ _ a.passes b.pass;
      add = b.add ∙ ap (λ g. fold_on step g b.values) a.adds;
      later = later_then _ _ _ a.later b.later;
    }
