-- A session as a loop of steps.
use Rattle.std.specs.Prelude.{Bool, None, Option, Some, false, true, not as notᵇ, List, ◌++◌, ◌≡◌, ◌+◌, ◌<◌, ◌≤◌, suc, ℕ, drop, length}
use Rattle.std.proofs.Common.{refl, append-nil, ◌∙◌, ap, ap₂, subst, sym, arith, length-drop, drop-drop}
use Rattle.std.proofs.lemmas.Bool.{not-false, not-true}
use Rattle.write_bytes.specs.RoomLaws.{partly_as, partly_end, partly_more, partly_start}
use Rattle.write_bytes.specs.Room.{Room, room_of}
use Rattle.write_bytes.specs.declared.writer.Writer.{Writer}
use Rattle.text.specs.Bytes.{Text}
use Rattle.text.specs.Session.{State, fresh, session}
use Rattle.session_run.specs.Ran.{Ran, Running, RunningBy, whole}
use Rattle.session_step.specs.Stepped.{StepOf, Stepped, session_of}

pub running_start : (t : Text) (start : ℕ) (old : List ℕ) (s : State) → s ≡ fresh → start ≤ length t → Running t start start 1 s (whole old) old old
unfolding session session_of
running_start t start old s f k = record {
  listing = partly_as (sym (ap (λ (z : State). (session_of 1 z (drop start t)).0) f)) (partly_start (session (drop start t)).0 (whole old) old);
  state = ap (λ (z : State). (session_of 1 z (drop start t)).1) f;
  inside = k;
  numbered = omega arith;
}

-- a step on the rest of the text
pub on_rest : {u v : Text} → u ≡ v → {i e : ℕ} {s s' : State} {q r : Room} {now new : List ℕ} {more : Bool}
    → Stepped i u s s' q r now new more e → Stepped i v s s' q r now new more e
on_rest w {i} {e} {s} {s'} {q} {r} {now} {new} {more} d = subst (λ (x : Text). Stepped i x s s' q r now new more e) w d

module _ {t : Text} {start at i e : ℕ} {s s' : State} {q r : Room} {old now new : List ℕ} {more : Bool} (u : Running t start at i s q old now)
    (d : Stepped i (drop at t) s s' q r now new more e) where
  forward : notᵇ more ≡ false → (0 < e) × (at + e ≤ length t)
  forward h =
      let m = not-false more h in let a = d.onward m in let b = d.inside m in let l = length-drop at t in let k = u.inside in
      (a, omega arith)

  pub running_on : {f : ℕ} → f ≡ at + e → notᵇ more ≡ false → Running t start f (i + 1) s' r old new
  running_on {f} behind h =
      let m = not-false more h in
      let g = d.goes_on m in
      let n : suc i ≡ i + 1 = omega arith in
      let w : drop e (drop at t) ≡ drop f t = drop-drop e at t ∙ ap (λ (k : ℕ). drop k t) (sym behind) in
      record {
        listing = partly_more (partly_as (ap (λ (z : Text × State). z.0) g
            ∙ ap₂ (λ (k : ℕ) (v : Text). d.rows ++ (session_of k s' v).0) n w) u.listing) d.puts;
        state = ap₂ (λ (k : ℕ) (v : Text). (session_of k s' v).1) (sym n) (sym w) ∙ sym (ap (λ (z : Text × State). z.1) g) ∙ u.state;
        inside = (let a = (forward h).1 in omega (arith, behind));
        numbered = (let a = (forward h).0 in let b = u.numbered in omega (arith, behind));
      }

  pub ran : notᵇ more ≡ true → Ran (drop start t) s' r old new
  ran h =
      let g = d.ends (not-true more h) in
      record {
        puts = partly_end (partly_more (partly_as (ap (λ (z : Text × State). z.0) g ∙ sym (append-nil d.rows)) u.listing) d.puts);
        state = sym (ap (λ (z : Text × State). z.1) g) ∙ u.state;
      }

-- ---- by a writer

pub runs_start : (t : Text) (start : ℕ) (old : List ℕ) (s : State) (w : Writer) → s ≡ fresh → start ≤ length t → w.left ≡ Some (length old)
    → w.out.now ≡ old → RunningBy t start start 1 s old w w
runs_start t start old s w f k l o = record {
  running = subst (λ (x : Option ℕ). Running t start start 1 s (room_of x) old w.out.now) (sym l)
      (subst (λ (x : List ℕ). Running t start start 1 s (whole old) old x) (sym o) (running_start t start old s f k));
  same_slice = refl;
}

-- the step's text is the rest of the text t
module _ {t u : Text} {start at i : ℕ} {s s' : State} {old : List ℕ} {a b c : Writer} (r : RunningBy t start at i s old a b)
    (q : u ≡ drop at t) where
  pub runs_on : {e f : ℕ} → StepOf i u s s' b c (Some e) → f ≡ at + e → RunningBy t start f (i + 1) s' old a c
  runs_on d f = record { running = running_on r.running (on_rest q d.stepped) f refl; same_slice = d.same_slice ∙ r.same_slice }

  pub runs_end : {new : List ℕ} → StepOf i u s s' b c None → new ≡ c.out.now → Ran (drop start t) s' (room_of c.left) old new
  runs_end d e =
      subst (λ (x : List ℕ). Ran (drop start t) s' (room_of c.left) old x) (sym e) (ran r.running (on_rest q d.stepped) refl)
