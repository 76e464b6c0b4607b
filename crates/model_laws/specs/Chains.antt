-- The longest chain is a chain, and none is longer.
use Rattle.std.specs.Prelude.{◌⊎◌, ◌≡◌, refl, ◌<◌, ◌≤◌, max, suc, zero, ℕ}
use Rattle.std.proofs.Common.{inl, inr, ◌∙◌, ap, sym, zero-le, le_refl, not-suc-le-zero, arith}
use Rattle.std.proofs.Math.Option.{Option}
use Rattle.model.specs.Book.{Book, Systems, components, member}
use Rattle.model.specs.Limits.{SystemLimits}
use Rattle.model.specs.Lists.{greatest}
use Rattle.model.specs.Maps.{option_map, or_else}
use Rattle.model.specs.PartsList.{chain_in, longest_chain}
use Rattle.model.specs.Rules.{r}
use Rattle.sets.specs.TestLaws.{same?}
use Rattle.model_laws.specs.Good.{Good}
use Rattle.model_laws.specs.Heights.{Sound, bound, falls}
use Rattle.model_laws.specs.MapLaws.{option?}
use Rattle.model_laws.specs.Notions.{Chain, alone, down, systems_below}
use Rattle.model_laws.specs.Parts.{good→sound}

greatest_ge : (n : ℕ) (f : ℕ → ℕ) (i : ℕ) → i < n → f i ≤ greatest n f
unfolding greatest
greatest_ge zero f i h = absurd (not-suc-le-zero h)
greatest_ge (suc n) f i h = elim (same? i n) [ inl e ↦ rw e (omega arith) | inr k ↦ omega (arith, greatest_ge n f i (omega arith)) ]

max_one : (m n : ℕ) → (max m n ≡ m) ⊎ (max m n ≡ n)
max_one m n = elim (le_total m n) [ inl h ↦ inr (omega arith) | inr h ↦ inl (omega arith) ]
  where
    le_total : (m n : ℕ) → (m ≤ n) ⊎ (n ≤ m)
    le_total zero n = inl zero-le
    le_total (suc m) zero = inr zero-le
    le_total (suc m) (suc n) = elim (le_total m n) [ inl h ↦ inl (omega arith) | inr h ↦ inr (omega arith) ]

greatest_at : (n : ℕ) (f : ℕ → ℕ) → (greatest n f ≡ 0) ⊎ ((i : ℕ) × (f i ≡ greatest n f))
unfolding greatest
greatest_at zero f = inl refl
greatest_at (suc n) f =
    elim (max_one (f n) (greatest n f)) [
      | inl e ↦ inr (n, sym e)
      | inr e ↦ elim (greatest_at n f) [ inl z ↦ inl (e ∙ z) | inr q ↦ inr (q.0, q.1 ∙ sym e) ]
    ]

-- a chain is no longer than the longest
chain_in_lem : (Y : Systems) → Sound Y → SystemLimits Y → {c v n : ℕ} → Chain Y c v n → (k : ℕ) → systems_below Y c ≤ k → n ≤ chain_in k Y c v
unfolding chain_in or_else option_map
chain_in_lem Y ok l alone zero h = le_refl 1
chain_in_lem Y ok l alone (suc k) h = omega arith
chain_in_lem Y ok l (down {c = c} {v = v} {d = d} {w = w} m r) zero h = absurd (omega (arith, falls Y ok c d (ok.mem_usable c v d w m)))
chain_in_lem Y ok l (down {c = c} {v = v} {d = d} {w = w} {n = n} m r) (suc k) h =
    let i : n ≤ chain_in k Y d w = chain_in_lem Y ok l r k (omega (arith, falls Y ok c d (ok.mem_usable c v d w m))) in
    let e : or_else (option_map (λ w. chain_in k Y d w) (member Y c v d)) 0 ≡ chain_in k Y d w = ap (λ (o : Option ℕ). or_else (option_map (λ w. chain_in k Y d w) o) 0) m in
    omega (arith, greatest_ge components (λ d. or_else (option_map (λ w. chain_in k Y d w) (member Y c v d)) 0) d (l.member< c v d w m).0)

-- No chain is longer than the longest,
pub chain_most : (b : Book) → Good b → {c v n : ℕ} → Chain b.systems c v n → n ≤ longest_chain b.systems c v
unfolding longest_chain
chain_most b g {c} {v} {n} r = chain_in_lem b.systems (good→sound b g) g.system_limits r components (bound b.systems (good→sound b g) c)

-- and there is one as long
chain_of : (k : ℕ) (Y : Systems) (c v : ℕ) → Chain Y c v (chain_in k Y c v)
unfolding chain_in or_else option_map
chain_of zero Y c v = alone
chain_of (suc k) Y c v =
    elim (greatest_at components (λ d. or_else (option_map (λ w. chain_in k Y d w) (member Y c v d)) 0)) [
      | inl z ↦ rw z alone
      | inr q ↦ elim (option? (member Y c v q.0)) [
        | inl n ↦ rw (sym q.1 ∙ ap (λ (o : Option ℕ). or_else (option_map (λ w. chain_in k Y q.0 w) o) 0) n) alone
        | inr m ↦ rw (sym q.1 ∙ ap (λ (o : Option ℕ). or_else (option_map (λ w. chain_in k Y q.0 w) o) 0) m.1)
            (down m.1 (chain_of k Y q.0 m.0))
      ]
    ]

-- the longest chain is a chain.
pub chain_there : (Y : Systems) (c v : ℕ) → Chain Y c v (longest_chain Y c v)
unfolding longest_chain
chain_there Y c v = chain_of components Y c v
