use Rattle.std.proofs.Common.{◌∙◌, arith, pos, refl, to_z-of_z, w32, SFits}
use Rattle.std.specs.Prelude.{List, true, ◌≤◌, ℕ, length}
use Rattle.text.specs.Bytes.{Text}
use Rattle.text.specs.LentSlice.{most_bytes}
use Rattle.text.specs.Session.{State}
use Rattle.svcd.specs.Reached.{Leaves}
use Rattle.svcd.specs.LeavesLaws.{leaves_short, listed, long_call, too_long_lem}
use Rattle.svcd.proofs.svcd_session.Goals as goal

-- the length fits an i32
narrow : {t : Text} {old new : List ℕ} {n : ℕ} {s : State} → Leaves t old new true n s → length old ≤ most_bytes → SFits w32 (pos n)
narrow l g = let n = leaves_short l refl in record { sfits = omega (arith, n, g) }

pub returns-then-text-gt-MOST_BYTES : goal.returns-then-text-gt-MOST_BYTES
returns-then-text-gt-MOST_BYTES c =
    let both = long_call _ _ c.then-text-gt-MOST_BYTES.either c.clear.ensures in record { value = both.0; out_after = both.1 }

pub overflow_cast-result : goal.overflow_cast-result
overflow_cast-result c = narrow c.in-Some.ensures c.if-out-gt-MOST_BYTES.false

pub returns-in-Some : goal.returns-in-Some
returns-in-Some c =
    let both = listed _ _ c.if-text-gt-MOST_BYTES.false c.if-out-gt-MOST_BYTES.false c.in-Some.ensures refl in
    record { value = to_z-of_z (narrow c.in-Some.ensures c.if-out-gt-MOST_BYTES.false) ∙ both.0; out_after = both.1 }

pub returns-in-None : goal.returns-in-None
returns-in-None c =
    let both = too_long_lem _ _ c.if-text-gt-MOST_BYTES.false c.if-out-gt-MOST_BYTES.false c.in-None.ensures refl in
    record { value = both.0; out_after = both.1 }
