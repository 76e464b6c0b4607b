-- What a session leaves, whether its listing fits the slice or not; and the state that it begins with.
use Rattle.std.specs.Prelude.{Bool, None, Option, Result, Some, not, ok_or, List, [], ◌++◌, ◌≡◌, ◌+◌, ◌-◌, ◌<◌, ◌≤◌, ℕ, negsuc, take}
use Rattle.std.proofs.Math.Bool.{false, true}
use Rattle.std.proofs.Math.Logic.{◌⊎◌, inl, inr}
use Rattle.std.proofs.Common.{◌∙◌, ap₂, le_refl}
use Rattle.std.proofs.Math.Path.{ap, refl, subst, sym}
use Rattle.std.proofs.Math.Nat.{sub_self}
use native.Mathlib.Omega.{arith}
use borrow.Author.Tests.{not-false, not-true}
use Rattle.std.proofs.Math.IntN.{pos}
use Rattle.std.proofs.Math.ListN.{length, length-replicate, replicate}
use Rattle.book.specs.Plain.{plain_of}
use Rattle.book.specs.declared.Book.{Book as TheBook}
use Rattle.write_bytes.specs.Room.{Room, written_in}
use Rattle.refusal.specs.declared.Refusal.{Refusal}
use Rattle.refusal.specs.declared.Refusal.TheVariants.{DoesNotFit}
use Rattle.model.specs.Book.{Book, empty}
use Rattle.model.specs.Lists.{every, non_empty}
use Rattle.names.specs.Kept.{Kept}
use Rattle.names.specs.Stored.{Rows, table_of, tables, tables_of}
use Rattle.names.specs.declared.Names.{Names}
use Rattle.book_rules.specs.TestLaws.{empty_book_passes}
use Rattle.sets.specs.TestLaws.{and-false, and-true, bool?, fails, if-false, if-true, ≤?_in, ≤?_out}
use Rattle.sets.specs.Tests.{◌≤?◌}
use Rattle.seqs.specs.Filled.{filled}
use Rattle.seqs.specs.FilledLaws.{filled-length}
use Rattle.session_state.specs.Ready.{Ready}
use Rattle.session_state.specs.State.{plain_state, state_of}
use Rattle.session_state.specs.declared.state.State.{State as Held}
use Rattle.text.specs.Bytes.{Text}
use Rattle.text.specs.LentSlice.{fits_in, host_fits, host_result, host_slice, listing_in, most_bytes, slice_after, state_after}
use Rattle.text.specs.Session.{State, fresh, session}
use Rattle.text.specs.Tables.{Tables, no_names}
use Rattle.session_run.specs.Ran.{Ran}
use Rattle.svcd.specs.Reached.{Leaves, SessionCall, answer_of, fits, len, length_of}

-- ---- the listing

module _ {t : Text} {s : State} {q : Room} {old new : List ℕ} (r : Ran t s q old new) where
  fit : q.fits ≡ fits_in old t
  unfolding fits_in
  fit = r.puts.fits ∙ and-true _ _ refl

  pub left_none : not q.fits ≡ true → {s' : State} → s' ≡ fresh → {z : List ℕ} → z ≡ replicate (length new) 0
      → Leaves t old z false 0 s'
  unfolding length_of slice_after state_after
  left_none h f e =
      let n : fits_in old t ≡ false = sym fit ∙ not-true _ h in
      record {
        fits_is = sym n;
        length_is = sym (if-false _ _ _ n);
        slice = e ∙ ap (λ (k : ℕ). replicate k 0) r.puts.keeps ∙ sym (if-false _ _ _ n);
        state = f ∙ sym (if-false _ _ _ n);
      }

  pub left_inside : not q.fits ≡ false → q.left ≤ length old
  left_inside h = let e = r.puts.left (not-false _ h) in omega arith

  pub left_all : not q.fits ≡ false → Leaves t old new true (length old - q.left) s
  unfolding length_of slice_after state_after listing_in written_in filled
  left_all h =
      let y : fits_in old t ≡ true = sym fit ∙ not-false _ h in
      let l = r.puts.left (not-false _ h) in
      let n : length old - q.left ≡ length (session t).0 = omega arith in
      let w = r.puts.holds (not-false _ h) (le_refl _) in
      record {
        fits_is = sym y;
        length_is = n ∙ sym (if-true _ _ _ y);
        slice = w ∙ ap (λ (i : ℕ). filled (take i old ++ (session t).0) old) (sub_self (length old)) ∙ sym (if-true _ _ _ y);
        state = r.state ∙ sym (if-true _ _ _ y);
      }

-- ---- the answer of the library's session

module _ {t : Text} {old new : List ℕ} {fits : Bool} {n : ℕ} {s : State} (l : Leaves t old new fits n s) where
  pub answers_0 : fits ≡ true → 0 ≡ answer_of old t
  unfolding answer_of
  answers_0 y = sym (if-true _ _ _ (sym l.fits_is ∙ y))

  -- no byte behind the slice is touched, and none of it is lost
  pub leaves_keeps : length new ≡ length old
  unfolding slice_after filled
  leaves_keeps = elim (bool? (fits_in old t)) [
    | inl y ↦ ap length (l.slice ∙ if-true _ _ _ y) ∙ listing_length y
    | inr z ↦ ap length (l.slice ∙ if-false _ _ _ z) ∙ length-replicate (length old) 0
  ]
    where
      listing_length : fits_in old t ≡ true → length (listing_in old t) ≡ length old
      listing_length y = unfold listing_in in filled-length (session t).0 old (unfold fits_in in ≤?_out _ _ y)

  pub leaves_short : not fits ≡ false → n ≤ length old
  unfolding length_of fits_in
  leaves_short h =
      let y : fits_in old t ≡ true = sym l.fits_is ∙ not-false _ h in
      let e : n ≡ length (session t).0 = l.length_is ∙ if-true _ _ _ y in
      let k = ≤?_out _ _ y in omega arith

  pub answers_22 : fits ≡ false → 22 ≡ answer_of old t
  unfolding answer_of
  answers_22 z = sym (if-false _ _ _ (sym l.fits_is ∙ z))

-- all that it gives back
module _ {t : Text} {old new : List ℕ} {s : Held} where
  called_as : (o : Option ℕ) → Leaves t old new (fits o) (len o) (plain_state s)
      → SessionCall t old new (record { answer = ok_or o DoesNotFit; state = s })
  called_as (Some n) l = record { answer = answers_0 l refl; len = l.length_is; slice = l.slice; state = l.state }
  called_as None l = record { answer = answers_22 l refl; len = l.length_is; slice = l.slice; state = l.state }

  pub called : (o : Option ℕ) {a : Result ℕ Refusal} → Leaves t old new (fits o) (len o) (plain_state s) → a ≡ ok_or o DoesNotFit
      → SessionCall t old new (record { answer = a; state = s })
  called o l e = subst (λ (x : Result ℕ Refusal). SessionCall t old new (record { answer = x; state = s })) (sym e) (called_as o l)

-- ---- the host's call

beyond : (m n : ℕ) → n < m → (m ≤? n) ≡ false
beyond m n h = fails _ (λ e. let k = ≤?_out m n e in omega arith)

module _ (t : Text) (old : List ℕ) where
  refused : {z : List ℕ} → host_fits old t ≡ false → z ≡ replicate (length old) 0 → (negsuc 21 ≡ host_result old t) × (z ≡ host_slice old t)
  unfolding host_result host_slice
  refused e f = (sym (if-false _ _ _ e), f ∙ sym (if-false _ _ _ e))

  pub long_text : {z : List ℕ} → most_bytes < length t → z ≡ replicate (length old) 0
      → (negsuc 21 ≡ host_result old t) × (z ≡ host_slice old t)
  unfolding host_fits
  long_text h = refused (and-false _ _ (beyond _ _ h))

  pub long_slice : {z : List ℕ} → length t ≤ most_bytes → most_bytes < length old → z ≡ replicate (length old) 0
      → (negsuc 21 ≡ host_result old t) × (z ≡ host_slice old t)
  unfolding host_fits
  long_slice h g = refused (and-true _ _ (≤?_in _ _ h) ∙ and-false _ _ (beyond _ _ g))

  pub long_call : {z : List ℕ} → (most_bytes < length t) ⊎ ((length t ≤ most_bytes) × (most_bytes < length old)) → z ≡ replicate (length old) 0
      → (negsuc 21 ≡ host_result old t) × (z ≡ host_slice old t)
  long_call (inl h) e = long_text h e
  long_call (inr h) e = long_slice h.0 h.1 e

  module _ (h : length t ≤ most_bytes) (g : length old ≤ most_bytes) {new : List ℕ} {fits : Bool} {n : ℕ} {s : State}
      (l : Leaves t old new fits n s) where
    short : host_fits old t ≡ fits_in old t
    unfolding host_fits
    short = and-true _ _ (≤?_in _ _ h) ∙ and-true _ _ (≤?_in _ _ g)

    pub too_long_lem : not fits ≡ true → (negsuc 21 ≡ host_result old t) × (new ≡ host_slice old t)
    unfolding slice_after
    too_long_lem z =
        let e : fits_in old t ≡ false = sym l.fits_is ∙ not-true _ z in refused (short ∙ e) (l.slice ∙ if-false _ _ _ e)

    pub listed : not fits ≡ false → (pos n ≡ host_result old t) × (new ≡ host_slice old t)
    unfolding host_result host_slice slice_after length_of
    listed z =
        let e : fits_in old t ≡ true = sym l.fits_is ∙ not-false _ z in (
          ap pos (l.length_is ∙ if-true _ _ _ e) ∙ sym (if-true _ _ _ (short ∙ e)),
          l.slice ∙ if-true _ _ _ e ∙ sym (if-true _ _ _ (short ∙ e)),
        )

-- ---- an empty state

kept_empty : (n : ℕ) {rows : Rows} → table_of n rows ≡ [] → Kept n rows
kept_empty n e = record { held = ap (every non_empty) e ∙ unfold every in refl }

module _ (b : TheBook) (n : Names) (e : plain_of b.sets b.numbers ≡ empty) (t : tables n ≡ no_names) where
  pub empty_ready : Ready b.sets b.numbers n.comps.rows n.vers.rows n.facs.rows n.impls.rows
  unfolding tables_of
  empty_ready = record {
    passes = empty_book_passes _ _ e;
    comps = kept_empty 32 (ap (λ (x : Tables). x.comps) t);
    vers = kept_empty 64 (ap (λ (x : Tables). x.vers) t);
    facs = kept_empty 64 (ap (λ (x : Tables). x.facs) t);
    impls = kept_empty 256 (ap (λ (x : Tables). x.impls) t);
  }

  pub empty_fresh : state_of b.sets b.numbers n.comps.rows n.vers.rows n.facs.rows n.impls.rows ≡ fresh
  unfolding state_of
  empty_fresh = ap₂ (λ (x : Book) (y : Tables). record { book = x; tables = y }) e t
