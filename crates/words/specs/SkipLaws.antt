-- White space and comments, passed a byte at a time.
use Rattle.std.specs.Prelude.{Bool, None, Some, false, true, ◌≡◌, refl, ◌+◌, ◌<◌, ◌≤◌, ℕ, drop, get_or, length}
use Rattle.std.proofs.Common.{◌∙◌, ap, le_refl, add-one, arith, drop-cons}
use Rattle.std.proofs.Math.Path.{sym}
use Rattle.std.proofs.Math.ListN.{drop_of_length-le}
use Rattle.sets.specs.TestLaws.{clash, if-false, if-true}
use Rattle.sets.specs.Tests.{◌or◌}
use Rattle.text.specs.Bytes.{Text}
use Rattle.text.specs.Tokens.{skip}
use Rattle.words.specs.Reading.{Skips, passes, rest_from, stays_open}

-- from `at` on all was passed up to position i, which lies in a comment or not
pub record Skipping (t : Text) (at i : ℕ) (inside : Bool) : Type 0 where
  pub is : skip false (drop at t) ≡ skip inside (drop i t)
  pub from : at ≤ i
  pub below : i ≤ length t

pub skip_start : (t : Text) (at : ℕ) → at ≤ length t → Skipping t at at false
skip_start t at h = record { is = refl; from = le_refl at; below = h }

on : (t : Text) (i : ℕ) (b : Bool) → i < length t → passes b (get_or t i 0) ≡ true
    → skip b (drop i t) ≡ skip (stays_open b (get_or t i 0)) (drop (i + 1) t)
unfolding skip passes stays_open ◌or◌
on t i true h e = rw (drop-cons t i 0 h, add-one i)
on t i false h e = rw (drop-cons t i 0 h, add-one i) (if-true _ _ _ e)

stop : (t : Text) (i : ℕ) (b : Bool) → i < length t → passes b (get_or t i 0) ≡ false → skip b (drop i t) ≡ rest_from t (Some i)
unfolding skip passes rest_from ◌or◌
stop t i true h e = clash refl e
stop t i false h e = rw (drop-cons t i 0 h) (if-false _ _ _ e)

module _ (t : Text) (at i : ℕ) (b : Bool) (s : Skipping t at i b) where
  pub skip_turn : (p b' : Bool) → i < length t → p ≡ passes b (get_or t i 0) → p ≡ true → b' ≡ stays_open b (get_or t i 0)
      → Skipping t at (i + 1) b'
  skip_turn p b' h q e f = record {
    is = s.is ∙ on t i b h (sym q ∙ e) ∙ ap (λ (z : Bool). skip z (drop (i + 1) t)) (sym f);
    from = (let l = s.from in omega arith);
    below = omega arith;
  }

  pub skip_stop : (p : Bool) → i < length t → p ≡ passes b (get_or t i 0) → p ≡ false → Skips t at (Some i)
  skip_stop p h q e = record { is = sym (s.is ∙ stop t i b h (sym q ∙ e)); within = (s.from, s.below) }

  pub skip_end : length t ≤ i → b ≡ false → Skips t at (Some (length t))
  unfolding skip rest_from
  skip_end h e = record {
    is = sym (s.is ∙ rw (e, drop_of_length-le t h, drop_of_length-le t (le_refl (length t))));
    within = (let f = s.from in let l = s.below in omega arith, le_refl (length t));
  }

  pub skip_open : length t ≤ i → b ≡ true → Skips t at None
  unfolding skip rest_from
  skip_open h e = record { is = sym (s.is ∙ rw (e, drop_of_length-le t h)); within = tt }
