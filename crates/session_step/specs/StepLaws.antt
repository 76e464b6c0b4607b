-- The three ways of a step: the session is over, what comes next is not of the language, or it is a command.
use Rattle.std.specs.Prelude.{IsNone, None, Option, Some, false, true, List, [], ◌++◌, ◌≡◌, ◌≤◌, suc, ℕ, drop, length}
use Rattle.std.proofs.Common.{◌∙◌, sym, arith}
use Rattle.std.proofs.Math.Path.{ap, refl, subst}
use Rattle.std.proofs.Math.ListN.{length-drop}
use Rattle.read_tokens.specs.Readers.{Got}
use Rattle.read_tokens.specs.declared.reader.Reader.{Reader}
use Rattle.write_bytes.specs.Room.{Puts, Room}
use Rattle.write_bytes.specs.RoomLaws.{puts_none}
use Rattle.write_bytes.specs.Writes.{Writes}
use Rattle.write_bytes.specs.declared.writer.Writer.{Writer}
use Rattle.sets.specs.TestLaws.{clash}
use Rattle.session_state.specs.Carried.{Carried, Decides}
use Rattle.session_state.specs.CarriedLaws.{decides_carried}
use Rattle.text.specs.Bytes.{Text}
use Rattle.text.specs.Language.{Read, Reader as Production, Said, command, over, read_as, said, wrong}
use Rattle.text.specs.Session.{State, carry, decimal, lines, on_read, row, session_from}
use Rattle.text_laws.specs.Bounds.{session_step_lem}
use Rattle.text_laws.specs.Left.{left_length}
use Rattle.text_laws.specs.Takes.{LeftR, command_left}
use Rattle.read_command.specs.Forms.{BeginsBy, begun, command_reader, query_reader}
use Rattle.read_command.specs.declared.Command.{Command}
use Rattle.read_command.specs.declared.Query.{Query}
use Rattle.read_command.specs.declared.Form.{Form}
use Rattle.read_command.specs.declared.Form.TheVariants.{Asks, Changes, Over}
use Rattle.session_step.specs.Stepped.{BehindOf, StepOf, Stepped, session_of}

as_read : (i : ℕ) (s : State) (t : Text) (r : Read) → command t ≡ r
    → session_of i s t ≡ on_read (λ s' u. session_from (length u) (suc i) s' u) i s r
unfolding session_of
as_read i s t r e = session_step_lem i s t ∙ ap (on_read (λ s' u. session_from (length u) (suc i) s' u) i s) e

module _ (i : ℕ) (t : Text) (s : State) (p : Room) (old : List ℕ) where
  pub step_over : command t ≡ over → Stepped i t s s p p old old false 0
  unfolding on_read
  step_over c = record {
    rows = [];
    puts = puts_none p old;
    goes_on = λ y. clash y refl;
    onward = λ y. clash y refl;
    inside = λ y. clash y refl;
    ends = λ y. as_read i s t over c;
    stops = λ y. refl;
  }

  pub step_wrong : (q : Room) (new : List ℕ) (e : ℕ) → e ≡ 0 → command t ≡ wrong → Puts (row i (decimal 23)) p q old new
      → Stepped i t s s p q old new false e
  unfolding on_read
  step_wrong q new e z c r = record {
    rows = row i (decimal 23);
    puts = r;
    goes_on = λ y. clash y refl;
    onward = λ y. clash y refl;
    inside = λ y. clash y refl;
    ends = λ y. as_read i s t wrong c;
    stops = λ y. z;
  }

  pub step_said : (s' : State) (q : Room) (new : List ℕ) (x : Said) (e : ℕ) → e ≤ length t → command t ≡ said x (drop e t)
      → Carried i s s' p q old new x → Stepped i t s s' p q old new true e
  unfolding on_read session_of
  step_said s' q new x e m c r = record {
    rows = lines i (carry s x);
    puts = r.rows;
    goes_on = λ y.
        as_read i s t (said x (drop e t)) c
        ∙ ap (λ (z : State). (
          lines i (carry s x) ++ (session_from (length (drop e t)) (suc i) z (drop e t)).0,
          (session_from (length (drop e t)) (suc i) z (drop e t)).1,
        )) (sym r.state);
    onward = λ y.
        (let h = left_length (subst (LeftR 1 t) c (command_left t)) in let b = length-drop e t in omega arith);
    inside = λ y. m;
    ends = λ y. clash refl y;
    stops = λ y. clash refl y;
  }

-- ---- behind the first word

module _ {k : Production Said} {i : ℕ} {r : Reader} {s s' : State} {w w' : Writer} where
  pub behind_decided : {a e : ℕ} → Got k (Decides s s' a) r.text.now r.at e → Writes (row i (decimal a)) w w'
      → BehindOf k i r s s' w w' (Some e)
  behind_decided {a} g p = record {
    behind = record {
      read = λ y. record {
        value = g.value;
        is = g.is;
        took = decides_carried i a s s' _ _ _ _ g.value g.took p.puts;
        from = g.from;
        inside = g.inside;
      };
      unread = λ y. clash refl y;
      refused = λ y. clash refl y;
      unchanged = λ y. clash refl y;
      stops = λ y. clash refl y;
    };
    same_slice = p.same_slice;
  }

-- ---- the whole step, by what the first word begins

-- where no position is given
no_position : (e : Option ℕ) → IsNone e → e ≡ None
no_position None n = refl
no_position (Some x) n = clash refl n

-- the reader r stands at the start of a text, and q behind the first word
module _ (r q : Reader) where
  of_text : {t : Text} {f : Form} → r.text.now ≡ t → BeginsBy r q (Some f) → q.text.now ≡ t
  of_text b c = ap (λ x. x.now) c.1 ∙ b

  module _ (z : r.at ≡ 0) where
    from_start : (x : Read) → command (drop r.at r.text.now) ≡ x → command r.text.now ≡ x
    from_start x c = subst (λ (n : ℕ). command (drop n r.text.now) ≡ x) z c

    begun_as : {f : Form} → BeginsBy r q (Some f) → (g : Form) → f ≡ g → command q.text.now ≡ begun g (drop q.at q.text.now)
    begun_as {f} c g e =
        subst (λ (v : Text). command v ≡ begun g (drop q.at v)) (ap (λ x. x.now) (sym c.1))
        (from_start (begun g (drop q.at r.text.now)) (c.0.is ∙ ap (λ (x : Form). begun x (drop q.at r.text.now)) e))

module _ (i : ℕ) (s : State) (w : Writer) where
  on_text : {u t : Text} {s' : State} {w' : Writer} {e : Option ℕ} → u ≡ t → StepOf i u s s' w w' e → StepOf i t s s' w w' e
  on_text {s' = s'} {w' = w'} {e = e} q d = subst (λ (x : Text). StepOf i x s s' w w' e) q d

  stops_wrong : (u : Text) (w' : Writer) (e : Option ℕ) → command u ≡ wrong → IsNone e → Writes (row i (decimal 23)) w w'
      → StepOf i u s s w w' e
  stops_wrong u w' e c n p = subst (λ (x : Option ℕ). StepOf i u s s w w' x) (sym (no_position e n)) (record {
    stepped = step_wrong i u s _ _ _ _ 0 refl c p.puts;
    same_slice = p.same_slice;
  })

  stepped : (k : Production Said) (q : Reader) (s' : State) (w' : Writer) (e : Option ℕ)
      → command q.text.now ≡ read_as (k (drop q.at q.text.now)) → BehindOf k i q s s' w w' e → StepOf i q.text.now s s' w w' e
  unfolding read_as
  stepped k q s' w' (Some e) c d =
      let g = d.behind.read refl in
      record {
        stepped = step_said i q.text.now s _ _ s' _ _ g.value e g.inside (c ∙ ap read_as g.is) g.took;
        same_slice = d.same_slice;
      }
  stepped k q s' w' None c d =
      subst (λ (x : State). StepOf i q.text.now s x w w' None) (sym (d.behind.unchanged refl)) (record {
        stepped = step_wrong i q.text.now s _ _ _ _ 0 refl (c ∙ ap read_as (d.behind.unread refl)) (d.behind.refused refl);
        same_slice = d.same_slice;
      })

module _ (t : Text) (r q : Reader) (b : r.text.now ≡ t) (z : r.at ≡ 0) {i : ℕ} {s : State} {w : Writer} where
  pub steps_nothing : {w' : Writer} {e : Option ℕ} → BeginsBy r q None → IsNone e → Writes (row i (decimal 23)) w w' → StepOf i t s s w w' e
  steps_nothing c n p = on_text i s w b (stops_wrong i s w r.text.now _ _ (from_start r q z wrong c.0) n p)

  module _ {f : Form} (c : BeginsBy r q (Some f)) where
    pub steps_over : f ≡ Over → StepOf i t s s w w None
    unfolding begun
    steps_over e = on_text i s w (of_text r q b c) (record { stepped = step_over i q.text.now s _ _ (begun_as r q z c Over e); same_slice = refl })

    module _ {s' : State} {w' : Writer} {e : Option ℕ} where
      pub steps_changed : (x : Command) → f ≡ Changes x → BehindOf (command_reader x) i q s s' w w' e → StepOf i t s s' w w' e
      unfolding begun
      steps_changed x y d = on_text i s w (of_text r q b c) (stepped i s w (command_reader x) q s' w' e (begun_as r q z c (Changes x) y) d)

      pub steps_asked : (x : Query) → f ≡ Asks x → BehindOf (query_reader x) i q s s' w w' e → StepOf i t s s' w w' e
      unfolding begun
      steps_asked x y d = on_text i s w (of_text r q b c) (stepped i s w (query_reader x) q s' w' e (begun_as r q z c (Asks x) y) d)
