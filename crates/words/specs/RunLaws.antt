-- A run of bytes that pass a test, by how many they are; and the run as a part of the text.
use Rattle.std.specs.Prelude.{Bool, [], ◌∷◌, ◌≡◌, refl, ◌+◌, ◌-◌, ◌≤◌, suc, ℕ, drop, length, take}
use Rattle.std.proofs.Common.{inl, inr, ◌∙◌, ap, le_refl, arith, length-drop, drop-drop, take_all}
use Rattle.std.proofs.Math.Path.{sym}
use Rattle.std.specs.List.{prefix_len}
use Rattle.std.proofs.lemmas.List.Sums.{prefix_len-le-length}
use Rattle.sets.specs.TestLaws.{bool?}
use Rattle.sets.specs.Tests.{if?◌then◌else◌}
use Rattle.text.specs.Bytes.{Text}
use Rattle.text.specs.Tokens.{past, run}
use Rattle.words.specs.Reading.{RunsTo, part}

past_prefix : (f : ℕ → Bool) (u : Text) → past f u ≡ drop (prefix_len f u) u
unfolding past if?◌then◌else◌
past_prefix f [] = refl
past_prefix f (c ∷ cs) =
    elim (bool? (f c)) [
      | inl e ↦ rw e (let z : suc (prefix_len f cs) ≡ 1 + prefix_len f cs = omega arith in
          past_prefix f cs ∙ ap (λ (n : ℕ). drop n (c ∷ cs)) z)
      | inr e ↦ rw e refl
    ]

-- n bytes from `at` on pass the test f, of those up to the end of the text
pub run_counted : (f : ℕ → Bool) (t : Text) (at n : ℕ) → at ≤ length t → n ≡ prefix_len f (take (length t - at) (drop at t))
    → RunsTo f t at (at + n)
run_counted f t at n h e =
    let all : take (length t - at) (drop at t) ≡ drop at t = take_all _ (drop at t) (let m = length-drop at t in omega arith) in
    let q : n ≡ prefix_len f (drop at t) = e ∙ ap (prefix_len f) all in
    record {
      is = sym (past_prefix f (drop at t) ∙ ap (λ (m : ℕ). drop m (drop at t)) (sym q) ∙ drop-drop n at t);
      from = omega arith;
      inside = (let l = prefix_len-le-length f (drop at t) in let m = length-drop at t in omega arith);
    }

past_le : (f : ℕ → Bool) (u : Text) → length (past f u) ≤ length u
unfolding past if?◌then◌else◌
past_le f [] = le_refl 0
past_le f (c ∷ cs) =
    elim (bool? (f c)) [ inl e ↦ rw e (let h = past_le f cs in omega arith) | inr e ↦ rw e (le_refl (length (c ∷ cs))) ]

run_take : (f : ℕ → Bool) (u : Text) → run f u ≡ take (length u - length (past f u)) u
unfolding run past if?◌then◌else◌
run_take f [] = refl
run_take f (c ∷ cs) =
    elim (bool? (f c)) [
      | inl e ↦ rw e (let h = past_le f cs in
          let z : suc (length cs) - length (past f cs) ≡ suc (length cs - length (past f cs)) = omega arith in
          rw z (ap (λ (x : Text). c ∷ x) (run_take f cs)))
      | inr e ↦ rw e (let z : suc (length cs) - suc (length cs) ≡ 0 = omega arith in rw z)
    ]

-- a run is the part of the text up to its end
pub run_part : (f : ℕ → Bool) (t : Text) (at r : ℕ) → RunsTo f t at r → run f (drop at t) ≡ part t at r
run_part f t at r w =
    let z : length (drop at t) - length (past f (drop at t)) ≡ r - at = rw (← w.is)
    (let a = length-drop at t in let b = length-drop r t in let g = w.from in let h = w.inside in omega arith) in
    run_take f (drop at t) ∙ ap (λ (n : ℕ). take n (drop at t)) z
