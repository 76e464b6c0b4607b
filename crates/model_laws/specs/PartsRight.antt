-- What demand 3 says of a parts list, of every pair of a good book.
use Rattle.std.specs.Prelude.{false, true, List, [], ◌∷◌, ◌↔◌, ◌≡◌, length}
use Rattle.std.proofs.Math.Logic.{inl, inr}
use Prim.Native.Nat.{◌+◌, ◌≤◌, suc, zero, ℕ}
use Rattle.std.proofs.Math.Nat.{le_trans}
use Rattle.model.specs.Book.{Book, Pair, has_version}
use Rattle.model.specs.PartsList.{due, how_many_systems, listed, members_listed, next_row, parts, rows_from}
use Rattle.model.specs.Rules.{p, r}
use Rattle.sets.specs.TestLaws.{and_in, not_in}
use Rattle.model_laws.specs.Chains.{chain_most}
use Rattle.model_laws.specs.Good.{Good}
use Rattle.model_laws.specs.Heights.{longest_chain_lem}
use Rattle.model_laws.specs.MapLaws.{option?}
use Rattle.model_laws.specs.Meaning.{part_means}
use Rattle.model_laws.specs.Notions.{Chain, LowestFirst, MadeFrom, after_members, distinct, how_many_pairs}
use Rattle.model_laws.specs.Parts.{first_pair_least, good→sound, pair_limits, part_has_version, parts-once, parts_only}
use Rattle.model_laws.specs.Parts.{parts_ordered, parts_short, parts_whole, rows_from_end, rows_from_row, rows_from_zero}

-- "It holds exactly the versions that the stored one is made from, each once and after its own members. It has no more rows than the
-- book has versions, and no chain in it is longer than the number of systems plus one." And document 01's order.
pub record PartsRight (b : Book) (c v : ℕ) : Type 0 where
  pub exact : (d w : ℕ) → (listed (parts b c v) d w ≡ true) ↔ MadeFrom b.systems c v d w
  pub each_once : distinct (parts b c v) ≡ true
  pub after_members_lem : after_members b.systems [] (parts b c v) ≡ true
  pub lowest_first : LowestFirst b.systems c v [] (parts b c v)
  pub rows : length (parts b c v) ≤ how_many_pairs b
  pub chains : (d w n : ℕ) → MadeFrom b.systems c v d w → Chain b.systems d w n → n ≤ how_many_systems b.systems + 1

module _ (b : Book) (g : Good b) (c v : ℕ) (has_it : has_version b.specs c v ≡ true) where
  -- a part whose members are listed, and which is not, is due
  is_due : (l : List Pair) (d w : ℕ) → MadeFrom b.systems c v d w → listed l d w ≡ false → members_listed b.systems l d w ≡ true
      → due b c v l d w ≡ true
  unfolding due
  is_due l d w m n t =
      let p = (part_means b g c v has_it d w).1 m in
      and_in _ _ (part_has_version b g c v has_it d w p) (and_in _ _ (not_in _ n) (and_in _ _ t p))

  lowest : (n : ℕ) (l : List Pair) → LowestFirst b.systems c v l (rows_from n b c v l)
  unfolding LowestFirst
  lowest zero l = rw rows_from_zero tt
  lowest (suc n) l =
      elim (option? (next_row b c v l)) [
        | inl e ↦ rw (rows_from_end n b c v l e) tt
        | inr q ↦ rw (rows_from_row n b c v l q.0 q.1) (
          λ d w m k t.
              (let y = is_due l d w m k t in
              let h = pair_limits b g c v has_it d w (part_has_version b g c v has_it d w ((part_means b g c v has_it d w).1 m)) in
              first_pair_least (due b c v l) q.0 (unfold next_row in q.1) d w h.0 h.1 y),
          lowest n (q.0 ∷ l),
        )
      ]

  pub parts_right : PartsRight b c v
  unfolding parts how_many_pairs how_many_systems
  parts_right = record {
    exact = λ d w. (λ t. (part_means b g c v has_it d w).0 (parts_only b g c v has_it d w t), λ m. parts_whole b g c v has_it d w ((part_means b g c v has_it d w).1 m));
    each_once = parts-once b g c v has_it;
    after_members_lem = parts_ordered b g c v has_it;
    lowest_first = lowest 256 [];
    rows = parts_short b g c v has_it;
    chains = λ d w n m r. le_trans (chain_most b g r) (longest_chain_lem b.systems (good→sound b g) d w);
  }
