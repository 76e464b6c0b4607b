-- Demands 1 and 2 of the library's session: what it gives back and leaves, for every text and every slice. Each law has a call's contract
-- (`SessionCall`) before its arrow, so it speaks of whatever the call gave.
use Rattle.std.specs.Prelude.{true, List, [], ◌++◌, ◌≡◌, ◌<◌, ◌≤◌, ℕ, drop, replicate}
use Rattle.std.proofs.Math.Logic.{inl, inr}
use Rattle.std.proofs.Common.{◌∙◌, sym, arith}
use Rattle.std.proofs.Math.Path.{subst}
use Rattle.std.proofs.Math.ListN.{length}
use Rattle.names_test.specs.Answered.{handed, passes_named}
use Rattle.names_test.specs.Demand.{named_test}
use Rattle.model.specs.Book.{has_version}
use Rattle.book_rules.specs.TestLaws.{passes-proper}
use Rattle.sets.specs.TestLaws.{bool?, fails, if-false, if-true, ≤?_in, ≤?_out}
use Rattle.sets.specs.Tests.{◌≤?◌}
use Rattle.refusal.specs.Numbers.{code, found}
use Rattle.session_state.specs.State.{plain_state, state_of}
use Rattle.svcd.specs.Reached.{SessionCall, answer_of, length_of}
use Rattle.svcd.specs.declared.SessionEnd.{SessionEnd}
use Rattle.text.specs.Bytes.{Text}
use Rattle.text.specs.Handed.{PassesNamed}
use Rattle.text.specs.LentSlice.{fits_in, listing_in, slice_after, state_after}
use Rattle.text.specs.Session.{fresh, session, session_from}
use Rattle.text_laws.specs.SessionPasses.{session_passes, states_pass}
use Rattle.model_laws.specs.PartsRight.{PartsRight}
use Rattle.model_laws.specs.Sequence.{passes-parts}

-- an empty session passes the question for 25
pub fresh_passes : PassesNamed fresh
unfolding session_from
fresh_passes = states_pass 0 []

module _ {t : Text} {old new : List ℕ} {r : SessionEnd} (k : SessionCall t old new r) where
  -- a slice long enough: 0 and the listing's length; the listing, and behind it what stood there; book and tables as reached
  pub listed : length (session t).0 ≤ length old
      → (code r.answer ≡ 0) × (found r.answer ≡ length (session t).0) × (new ≡ (session t).0 ++ drop (length (session t).0) old) × (plain_state r.state ≡ (session t).1)
  unfolding answer_of length_of slice_after state_after listing_in fits_in
  listed h =
      let y = ≤?_in (length (session t).0) (length old) h in
      (k.answer ∙ if-true _ _ _ y, k.len ∙ if-true _ _ _ y, k.slice ∙ if-true _ _ _ y, k.state ∙ if-true _ _ _ y)

  -- "A listing longer than the slice gives 22 and a slice of zeros"; "after 22 both are empty"
  pub too_long_lem : length old < length (session t).0
      → (code r.answer ≡ 22) × (found r.answer ≡ 0) × (new ≡ replicate (length old) 0) × (plain_state r.state ≡ fresh)
  unfolding answer_of length_of slice_after state_after fits_in
  too_long_lem h =
      let z = fails (length (session t).0 ≤? length old) (λ e. let j = ≤?_out _ _ e in omega arith) in
      (k.answer ∙ if-false _ _ _ z, k.len ∙ if-false _ _ _ z, k.slice ∙ if-false _ _ _ z, k.state ∙ if-false _ _ _ z)

  -- what it hands back passes the question for 25, with its tables
  pub hands_back_good : PassesNamed (plain_state r.state)
  unfolding state_after
  hands_back_good = elim (bool? (fits_in old t)) [
    | inl y ↦ subst PassesNamed (sym (k.state ∙ if-true _ _ _ y)) (session_passes t)
    | inr z ↦ subst PassesNamed (sym (k.state ∙ if-false _ _ _ z)) fresh_passes
  ]

  -- so that every call takes it: the text of what is handed back is never refused with 25
  pub test_passed : passes_named r.state.book.sets r.state.book.numbers r.state.names.comps.rows r.state.names.vers.rows r.state.names.facs.rows
      r.state.names.impls.rows ≡ true
  unfolding state_of handed
  test_passed = named_test _ _ _ _ _ _ (passes-proper _ _ r.state.ready.passes, hands_back_good)

  -- and each version stored in it has the parts list that demand 3 asks for
  pub parts_listed : (c v : ℕ) → has_version (plain_state r.state).book.specs c v ≡ true → PartsRight (plain_state r.state).book c v
  parts_listed c v e = passes-parts _ hands_back_good.passes c v e
