-- The printed formula 2.35 holds of every composition, and B9 does not: so the choice of B9 matters.
use Rattle.std.specs.Prelude.{false, true, [], ◌∷◌, ◌≡◌, refl, ℕ}
use Rattle.std.proofs.Math.Option.{some}
use Rattle.model.specs.Book.{Book, Specs, System, Systems, components, composed, facilities, versions}
use Rattle.model.specs.Commands.{ADD-SYSVAR, Command, after}
use Rattle.model.specs.Limits.{Passes, SpecLimits}
use Rattle.model.specs.Maps.{only_if, put}
use Rattle.model.specs.PlainBook.{answer}
use Rattle.model.specs.Rules.{B1, B1_to_B9, B2, B3, B4, B5, B5_to_B9, B5_at, B6, B7, B8, B9, each_composition, r}
use Rattle.model.specs.Teaching.{K, everything, loop, one, plain, probe, tank, va, vb, vp}
use Rattle.model_laws.specs.Frame.{composition_out}
use Rattle.model_laws.specs.MapLaws.{has_out, if_there_out}
use Rattle.model_laws.specs.Printed.{printed_at, rs}
use Rattle.sets.specs.Sets.{minus, subset}
use Rattle.sets.specs.TestLaws.{all_in, all_out, and_in, and_l, and_r, any_in, any_out, clash, imp_in, imp_out, not_out}
use Rattle.sets.specs.Tests.{◌&◌, ◌=?◌, ◌or◌, if?◌then◌else◌}

module _ (S : Specs) (Y : Systems) (l : SpecLimits S) where
  -- A member is usable, with a version that it has (B5), so what it needs is in rs: nothing is in r and not in rs.
  r_in_rs : (s v f : ℕ) → B5_at S Y s v ≡ true → r S Y s v f ≡ true → rs S Y s f ≡ true
  unfolding r rs B5_at
  r_in_rs s v f b t =
      let q = any_out components _ t in
      let m = has_out _ _ q.2 in
      let u = if_there_out _ _ (all_out components _ (and_r _ _ b) q.0 q.1) m.0 m.1 in
      any_in components _ q.0 q.1
      (and_in _ _ (and_l _ _ u) (any_in versions _ m.0 (l.version< _ _ (and_r _ _ u)) (and_in _ _ (and_r _ _ u) m.2)))

  -- of a composition with B5, and no other rule
  pub printed_holds : (s v : ℕ) → B5_at S Y s v ≡ true → printed_at S Y s v ≡ true
  unfolding printed_at subset minus
  printed_holds s v b =
      all_in facilities _ (λ f i. imp_in _ _ (λ t. clash (r_in_rs s v f b (and_l _ _ t)) (not_out _ (and_r _ _ t))))

  -- as a rule of a book it would add nothing to B5
  pub printed_follows : B5 S Y ≡ true → each_composition Y (printed_at S Y) ≡ true
  unfolding B5 each_composition
  printed_follows t = all_in components _ (λ s i. all_in versions _ (λ v j. imp_in _ _ (λ c.
      printed_holds s v (imp_out _ _ (all_out versions _ (all_out components _ t s i) v j) c))))

-- "The formula printed there holds of every composition": of every book that passes the question for 25
pub printed_of_every : (b : Book) → Passes b → (s v : ℕ) → composed b.systems s v ≡ true → printed_at b.specs b.systems s v ≡ true
unfolding B1_to_B9 B5_to_B9 B5
printed_of_every b q s v c = printed_holds b.specs b.systems q.spec_limits s v
    (composition_out b.systems _ q.system_limits (and_l _ _ (and_r _ _ (and_r _ _ (and_r _ _ (and_r _ _ q.rules))))) s v c)

-- ---- B9 is another rule

-- tank.b without valve: loop needs cool, which no member provides and the usable component valve does
abbrev pub tank_without_valve : Command
tank_without_valve = ADD-SYSVAR tank vb (plain (loop ∷ probe ∷ []))

abbrev pub without_valve : Book
without_valve = after K tank_without_valve

-- All other rules hold, and the printed formula in place of B9;
pub formula_accepts :
    (let S = without_valve.specs in let Y = without_valve.systems in
    B1 S & B2 S without_valve.modules Y & B3 S Y & B4 Y & B5 S Y & B6 S Y & B7 S Y & B8 S Y & each_composition Y (printed_at S Y)) ≡ true
unfolding everything rs printed_at
formula_accepts = refl

-- B9 does not, and so the command is refused.
pub B9_refuses : B9 without_valve.specs without_valve.systems ≡ false
unfolding everything
B9_refuses = refl

pub B9_answers : answer K tank_without_valve ≡ 21
unfolding everything
B9_answers = refl

-- ---- the formula rests on B5

-- tank.a with the member loop that is not usable: what it needs is in r and not in rs
abbrev pub loop_not_usable : System
loop_not_usable = record {
  uses = λ c. c =? probe;
  comp = λ v. only_if (v =? va) (λ c. if? c =? loop then some vp else only_if (c =? probe) one);
}

pub printed_needs_B5 :
    (let Y = put tank (some loop_not_usable) K.systems in B5_at K.specs Y tank va or printed_at K.specs Y tank va) ≡ false
unfolding everything rs printed_at
printed_needs_B5 = refl
