-- Readers one after the other in one text: what was read from behind a reader is read of the text that the first one had.
use Rattle.std.specs.Prelude.{Bool, None, Option, false, true, [], ◌∷◌, ◌≡◌, refl, ◌<◌, ◌≤◌, ℕ, drop, length}
use Rattle.std.proofs.Common.{◌∙◌, ap, le_refl, subst, sym, arith}
use Rattle.std.proofs.Math.Option.{none, some}
use Rattle.text.specs.Bytes.{Text}
use Rattle.text.specs.Language.{Reader as Production, ahead, list_of, want}
use Rattle.text.specs.Tokens.{Token}
use Rattle.text_laws.specs.Takes.{Takes}
use Rattle.read_tokens.specs.Ahead.{Gives, GivesRead, LeadsBy, Passes}
use Rattle.read_tokens.specs.ListLaws.{leads_start, list_broken, list_cons, list_none, list_one}
use Rattle.read_tokens.specs.Readers.{Any, Got, Told}
use Rattle.read_tokens.specs.Steps.{Each}
use Rattle.read_tokens.specs.TokenLaws.{ahead_no, ahead_yes, got_less}
use Rattle.read_tokens.specs.declared.reader.Reader.{Reader}

-- ---- the same text

module _ {A : Type 0} (p : Production A) (r s : Reader) (q : s.text ≡ r.text) where
  same_text : s.text.now ≡ r.text.now
  same_text = ap (λ x. x.now) q

  -- what is read, or is not there, of the text of the reader s
  pub got_on : (Q : A → Type 0) (a e : ℕ) → Got p Q s.text.now a e → Got p Q r.text.now a e
  got_on Q a e g = subst (λ (t : Text). Got p Q t a e) same_text g

  pub none_on : (a : ℕ) → p (drop a s.text.now) ≡ none → p (drop a r.text.now) ≡ none
  none_on a n = subst (λ (t : Text). p (drop a t) ≡ none) same_text n

-- nothing is given where nothing is read; read_none says nothing of where the reader is then
pub gives_none : {A B : Type 0} (p : Production A) (R : B → A → Type 0) (r : Reader) (o : Option B) → o ≡ None → p (drop r.at r.text.now) ≡ none
    → Gives p R r r o
gives_none p R r o e n = subst (λ (x : Option _). Gives p R r r x) (sym e) (n, refl)

pub read_none : {A B : Type 0} (p : Production A) (R : B → A → Type 0) (r s : Reader) (o : Option B) → o ≡ None → p (drop r.at r.text.now) ≡ none
    → GivesRead p R r s o
read_none p R r s o e n = subst (λ (x : Option _). GivesRead p R r s x) (sym e) n

-- ---- what comes next, passed if it is there

pub passes_yes : (k : Token) (r : Reader) (e : ℕ) → Got (want k) Any r.text.now r.at e → Got (ahead k) (Told true) r.text.now r.at e
passes_yes k r e g = record { value = true; is = ahead_yes k r.text.now r.at e g; took = record { is = refl }; from = g.from; inside = g.inside }

pub passes_no : (k : Token) (r : Reader) → want k (drop r.at r.text.now) ≡ none → Got (ahead k) (Told false) r.text.now r.at r.at
passes_no k r n = record {
  value = false;
  is = ahead_no k r.text.now r.at n;
  took = record { is = refl };
  from = le_refl r.at;
  inside = r.inside;
}

-- ---- a list, read entry by entry in a loop

pub leads_by : {S A : Type 0} (k : Token) (p : Production A) (R : S → S → A → Type 0) (r : Reader) (s : S) → LeadsBy k p R r s r s
leads_by k p R r s = (leads_start k p R r.text.now r.at s r.inside, refl)

module _ {S A : Type 0} (k : Token) (p : Production A) (R : S → S → A → Type 0) (takes : Takes 1 p) (r₀ r : Reader) (s₀ s : S)
    (l : LeadsBy k p R r₀ s₀ r s) where
  pub entry_wrong : p (drop r.at r.text.now) ≡ none → list_of k p (drop r₀.at r₀.text.now) ≡ none
  entry_wrong n = l.0.off (list_none k p takes (drop r.at r₀.text.now) (none_on p r₀ r l.1 r.at n))

  module _ (s' : S) (e : Reader) (g : Got p (R s s') r.text.now r.at e.at) (x : e.text ≡ r.text) (z : Reader) where
    entry : Got p (R s s') r₀.text.now r.at e.at
    entry = got_on p r₀ r l.1 (R s s') r.at e.at g

    next : (b : Bool) → Passes k e z b → ahead k (drop e.at r₀.text.now) ≡ some (b, drop z.at r₀.text.now)
    next b m = (let h = got_on (ahead k) r₀ e (x ∙ l.1) (Told b) e.at z.at m.0 in h.is ∙ ap (λ (y : Bool). some (y, drop z.at r₀.text.now)) h.took.is)

    pub entry_last : Passes k e z false → Got (list_of k p) (Each R s₀ s') r₀.text.now r₀.at z.at × (z.text ≡ r₀.text)
    unfolding Each
    entry_last m = (
      l.0.on z.at s' (record {
        value = entry.value ∷ [];
        is = list_one k p takes (drop r.at r₀.text.now) (drop e.at r₀.text.now) (drop z.at r₀.text.now) entry.value entry.is (next false m);
        took = (s', entry.took, refl);
        from = (let a = entry.from in let b = m.0.from in omega arith);
        inside = (got_on (ahead k) r₀ e (x ∙ l.1) (Told false) e.at z.at m.0).inside;
      }),
      m.1 ∙ x ∙ l.1,
    )

    pub entry_less : Passes k e z true → (r.at < z.at) × (z.at ≤ length z.text.now)
    entry_less m =
        let a = got_less p (R s s') r₀.text.now r.at e.at takes entry l.0.inside in let b = m.0.from in let c = m.0.inside in
        let d : length z.text.now ≡ length e.text.now = ap (λ x. length x.now) m.1 in
        (omega arith, omega arith)

    pub entry_on : Passes k e z true → LeadsBy k p R r₀ s₀ z s'
    unfolding Each
    entry_on m = (
      let h = got_on (ahead k) r₀ e (x ∙ l.1) (Told true) e.at z.at m.0 in record {
        from = (let a = l.0.from in let b = entry.from in let c = h.from in omega arith);
        inside = h.inside;
        on = λ y s'' g. l.0.on y s'' (record {
          value = entry.value ∷ g.value;
          is = list_cons k p takes (drop r.at r₀.text.now) (drop e.at r₀.text.now) (drop z.at r₀.text.now) (drop y r₀.text.now) entry.value
              g.value entry.is (next true m) g.is;
          took = (s', entry.took, g.took);
          from = (let a = entry.from in let b = h.from in let c = g.from in omega arith);
          inside = g.inside;
        });
        off = λ q. l.0.off (list_broken k p takes (drop r.at r₀.text.now) (drop e.at r₀.text.now) (drop z.at r₀.text.now) entry.value entry.is
            (next true m) q);
      },
      m.1 ∙ x ∙ l.1,
    )
