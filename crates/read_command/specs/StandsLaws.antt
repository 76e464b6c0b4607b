-- The names of deletions and queries stand in the text: one, or two of which the second stands behind the first.
use Rattle.std.specs.Prelude.{List, [], ◌∷◌, ◌++◌, ◌≡◌, refl, ◌+◌, ◌<◌, ◌≤◌, true, ℕ, drop, length}
use Rattle.std.proofs.Common.{◌∙◌, arith, length-drop, subst}
use Rattle.std.proofs.Math.Path.{ap, sym}
use Rattle.model.specs.Lists.{non_empty}
use Rattle.sets.specs.TestLaws.{and_l, clash}
use Rattle.text.specs.Bytes.{Text, short}
use Rattle.text.specs.Language.{MOD, Name, Said, of_one, of_pair}
use Rattle.text.specs.Tables.{mod_names}
use Rattle.text_laws.specs.Left.{Left}
use Rattle.text_laws.specs.Numbered.{mentioned}
use Rattle.read_tokens.specs.Readers.{Got}
use Rattle.read_tokens.specs.Stands.{BothStand, StandsTo}
use Rattle.read_tokens.specs.StandsLaws.{left_behind, long, one_in, stands, two_in}
use Rattle.read_command.specs.Words.{OneSaid, PairSaid}
use Rattle.read_command.specs.declared.Pair.{Pair}

-- ---- a command that tells its names

first : List Name → Name
first [] = []
first (w ∷ ws) = w

abbrev by_one : Name → Said
by_one w = MOD w []

abbrev by_two : Name → Name → Said
by_two w x = MOD w ((x, x) ∷ [])

one_out : (w x : Name) → by_one w ≡ by_one x → w ≡ x
unfolding mentioned mod_names first
one_out w x e = ap (λ s. first (mentioned s).comps) e

two_out : (w x y z : Name) → by_two w x ≡ by_two y z → (w ≡ y) × (x ≡ z)
unfolding mentioned mod_names first
two_out w x y z e = (ap (λ s. first (mentioned s).comps) e, ap (λ s. first (mentioned s).vers) e)

some_bytes : (w : Text) → short w ≡ true → 0 < length w
unfolding short non_empty
some_bytes [] e = clash (and_l _ _ e) refl
some_bytes (c ∷ cs) e = omega arith

-- ---- where they stand

pub one_stands : (t : Text) (at e : ℕ) (w : Text) → at ≤ length t → ((f : Name → Said) → Got (of_one f) (OneSaid f w) t at e)
    → StandsTo t at e w
one_stands t at e w a h =
    let g = h by_one in
    let m = one_in by_one (drop at t) (drop e t) g.value g.is in
    let l = subst (λ (z : Name). Left 0 (drop at t) (z ++ drop e t)) (one_out _ _ (sym m.is ∙ g.took.is)) m.left in
    let d = length-drop e t in let i = g.inside in
    stands t at w (drop e t) l a e (omega arith) (some_bytes w g.took.fits)

pub pair_stands : (t : Text) (at e : ℕ) (p : Pair) → at ≤ length t
    → ((f : Name → Name → Said) → Got (of_pair f) (PairSaid f p) t at e) → BothStand t at e p.component.now p.version.now
pair_stands t at e p a h =
    let g = h by_two in
    let m = two_in by_two (drop at t) (drop e t) g.value g.is in
    let x = two_out _ _ _ _ (sym m.is ∙ g.took.is) in
    let l = subst (λ (z : Name). Left 0 (drop at t) (z ++ m.behind)) x.0 m.first_left in
    let b = at + length l.front + length p.component.now in
    let o = long t at p.component.now m.behind l a in
    let r = subst (λ (z : Text). Left 0 z (p.version.now ++ drop e t)) (sym (left_behind t at p.component.now m.behind l a))
    (subst (λ (z : Name). Left 0 m.behind (z ++ drop e t)) x.1 m.second_left) in
    let d = length-drop e t in let i = g.inside in
    record {
      between = b;
      first = stands t at p.component.now m.behind l a b o (some_bytes _ g.took.component_fits);
      second = stands t b p.version.now (drop e t) r (omega arith) e (omega arith) (some_bytes _ g.took.version_fits);
    }
