-- The productions of the language: a law for each way out of the code.
use Rattle.std.specs.Prelude.{Bool, false, true, List, [], ◌≡◌, refl, ℕ, drop}
use Rattle.std.proofs.Math.Option.{none, some}
use Rattle.std.proofs.Common.{◌∙◌, ap, sym, arith}
use Rattle.model.specs.Maps.{and_then}
use Rattle.sets.specs.Tests.{~◌}
use Rattle.text.specs.Bytes.{Text, bytes, keywords}
use Rattle.text.specs.Language.{Name, ◌>>=◌, ◌>>◌, ahead, comma, give, key, list_of, name, names, names_up_to, requirements}
use Rattle.text.specs.Language.{want, when}
use Rattle.text.specs.Tables.{name_at}
use Rattle.text.specs.Tokens.{Token}
use Rattle.read_tokens.specs.Ahead.{Passes}
use Rattle.read_tokens.specs.ReaderLaws.{got_on, none_on}
use Rattle.read_tokens.specs.Readers.{Any, Got, Told, key_at}
use Rattle.read_tokens.specs.Steps.{Each}
use Rattle.read_tokens.specs.declared.reader.Reader.{Reader}

-- ---- keywords

requires_key : key_at 14 ≡ key "requires"
unfolding key_at key name_at keywords bytes
requires_key = refl

pub end_key : key_at 3 ≡ key "end"
unfolding key_at key name_at keywords bytes
end_key = refl

-- ---- what stands next

-- what was passed
pub passed : (k : Token) (t : Text) (at e : ℕ) (b : Bool) → Got (ahead k) (Told b) t at e → ahead k (drop at t) ≡ some (b, drop e t)
passed k t at e b g = g.is ∙ ap (λ (x : Bool). some (x, drop e t)) g.took.is

-- ---- ["requires" facs]

module _ (r s : Reader) where
  requires_ahead : (b : Bool) → Passes (key_at 14) r s b → ahead (key "requires") (drop r.at r.text.now) ≡ some (b, drop s.at r.text.now)
  requires_ahead b m =
      ap (λ (k : Token). ahead k (drop r.at r.text.now)) (sym requires_key) ∙ passed (key_at 14) r.text.now r.at s.at b m.0

  pub requirements_none : {S : Type 0} (R : S → S → Name → Type 0) (x : S) → Passes (key_at 14) r s false
      → Got requirements (Each R x x) r.text.now r.at s.at × (s.text ≡ r.text)
  unfolding requirements ◌>>=◌ and_then when Each
  requirements_none R x m =
      (record { value = []; is = rw (requires_ahead false m); took = refl; from = m.0.from; inside = m.0.inside }, m.1)

  module _ (m : Passes (key_at 14) r s true) where
    pub requirements_wrong : list_of comma name (drop s.at s.text.now) ≡ none → requirements (drop r.at r.text.now) ≡ none
    unfolding requirements names ◌>>=◌ and_then when
    requirements_wrong n = rw (requires_ahead true m, none_on (list_of comma name) r s m.1 s.at n)

    pub requirements_rest : (Q : List Name → Type 0) (u : Reader) → Got (list_of comma name) Q s.text.now s.at u.at × (u.text ≡ s.text)
        → Got requirements Q r.text.now r.at u.at × (u.text ≡ r.text)
    unfolding requirements names ◌>>=◌ and_then when
    requirements_rest Q u g =
        let b = got_on (list_of comma name) r s m.1 Q s.at u.at g.0 in (
          record {
            value = b.value;
            is = rw (requires_ahead true m, b.is);
            took = b.took;
            from = (let f = m.0.from in let h = b.from in omega arith);
            inside = b.inside;
          },
          g.1 ∙ m.1,
        )

-- ---- [facs] k

module _ (k : Token) (r s : Reader) where
  pub up_to_absent : {S : Type 0} (R : S → S → Name → Type 0) (x : S) → Passes k r s true
      → Got (names_up_to k) (Each R x x) r.text.now r.at s.at × (s.text ≡ r.text)
  unfolding names_up_to ◌>>=◌ and_then when ~◌ Each
  up_to_absent R x m =
      (record { value = []; is = rw (passed k r.text.now r.at s.at true m.0); took = refl; from = m.0.from; inside = m.0.inside }, m.1)

  module _ (m : Passes k r s false) where
    away : ahead k (drop r.at r.text.now) ≡ some (false, drop s.at r.text.now)
    away = passed k r.text.now r.at s.at false m.0

    pub up_to_wrong : list_of comma name (drop s.at s.text.now) ≡ none → names_up_to k (drop r.at r.text.now) ≡ none
    unfolding names_up_to names ◌>>=◌ and_then when ~◌
    up_to_wrong n = rw (away, none_on (list_of comma name) r s m.1 s.at n)

    module _ (Q : List Name → Type 0) (u : Reader) (g : Got (list_of comma name) Q s.text.now s.at u.at × (u.text ≡ s.text)) where
      listed : Got (list_of comma name) Q r.text.now s.at u.at
      listed = got_on (list_of comma name) r s m.1 Q s.at u.at g.0

      pub up_to_open : want k (drop u.at u.text.now) ≡ none → names_up_to k (drop r.at r.text.now) ≡ none
      unfolding names_up_to names ◌>>=◌ ◌>>◌ and_then when ~◌
      up_to_open n = rw (away, listed.is, none_on (want k) r u (g.1 ∙ m.1) u.at n)

      pub up_to_is : (v : Reader) → Got (want k) Any u.text.now u.at v.at × (v.text ≡ u.text)
          → Got (names_up_to k) Q r.text.now r.at v.at × (v.text ≡ r.text)
      unfolding names_up_to names ◌>>=◌ ◌>>◌ and_then when ~◌ give
      up_to_is v w =
          let b = got_on (want k) r u (g.1 ∙ m.1) Any u.at v.at w.0 in (
            record {
              value = listed.value;
              is = rw (away, listed.is, b.is);
              took = listed.took;
              from = (let x = m.0.from in let y = listed.from in let z = b.from in omega arith);
              inside = b.inside;
            },
            w.1 ∙ g.1 ∙ m.1,
          )
