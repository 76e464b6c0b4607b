-- Productions read one after the other, by a reader that goes on from where it stands.
use Rattle.std.specs.Prelude.{Bool, List, ◌≡◌, ◌≤◌, drop, length}
use Rattle.std.proofs.Math.Option.{none, some}
use Rattle.std.proofs.Common.{◌∙◌, arith, le_refl, refl}
use Rattle.std.proofs.Math.Path.{ap, subst, sym}
use Rattle.model.specs.Maps.{and_then}
use Rattle.text.specs.Language.{Reader as Production, ◌>>=◌, ◌>>◌, ahead, give, key, want}
use Rattle.text.specs.Tokens.{Token}
use Rattle.read_tokens.specs.Ahead.{Passes}
use Rattle.read_tokens.specs.ListLaws.{each_on}
use Rattle.read_tokens.specs.ProductionLaws.{end_key}
use Rattle.read_tokens.specs.ReaderLaws.{gives_none, read_none}
use Rattle.read_tokens.specs.Readers.{Any, Got, Told, key_at}
use Rattle.read_tokens.specs.Steps.{Each}
use Rattle.read_tokens.specs.declared.reader.Reader.{Reader}

-- the production p reads a value of which R holds, and the reader s stands behind it
abbrev pub Read : {A : Type 0} → Production A → (A → Type 0) → Reader → Reader → Type 0
Read p R r s = Got p R r.text.now r.at s.at × (s.text ≡ r.text)

-- there is none
abbrev pub Lacks : {A : Type 0} → Production A → Reader → Type 0
Lacks p r = p (drop r.at r.text.now) ≡ none

module _ {A B : Type 0} (p : Production A) (r : Reader) (n : Lacks p r) where
  pub first_lacks : (f : A → Production B) → Lacks (p >>= f) r
  unfolding ◌>>=◌ and_then
  first_lacks f = rw n

  pub before_lacks : (q : Production B) → Lacks (p >> q) r
  unfolding ◌>>◌ and_then
  before_lacks q = rw n

module _ {A : Type 0} {p : Production A} {R : A → Type 0} (r s : Reader) (g : Read p R r s) where
  read_on : p (drop r.at r.text.now) ≡ some (g.0.value, drop s.at s.text.now)
  read_on = g.0.is ∙ ap (λ t. some (g.0.value, drop s.at t.now)) (sym g.1)

  -- what is read behind p is read with it
  both : {B : Type 0} (q o : Production B) (z : Reader) (Q : B → Type 0) → o (drop r.at r.text.now) ≡ q (drop s.at s.text.now)
      → Read q Q s z → Read o Q r z
  both q o z Q e k = (
    record {
      value = k.0.value;
      is = e ∙ k.0.is ∙ ap (λ t. some (k.0.value, drop z.at t.now)) g.1;
      took = k.0.took;
      from = (let a = g.0.from in let b = k.0.from in omega arith);
      inside = subst (λ t. z.at ≤ length t.now) g.1 k.0.inside;
    },
    k.1 ∙ g.1,
  )

  module _ {B : Type 0} (f : A → Production B) where
    bind_on : (p >>= f) (drop r.at r.text.now) ≡ f g.0.value (drop s.at s.text.now)
    unfolding ◌>>=◌ and_then
    bind_on = rw read_on refl

    pub next_lacks : ((x : A) → R x → Lacks (f x) s) → Lacks (p >>= f) r
    next_lacks n = bind_on ∙ n g.0.value g.0.took

    pub next_read : (z : Reader) {Q : B → Type 0} → ((x : A) → R x → Read (f x) Q s z) → Read (p >>= f) Q r z
    next_read z {Q = Q} h = both (f g.0.value) (p >>= f) z Q bind_on (h g.0.value g.0.took)

  module _ {B : Type 0} (q : Production B) where
    then_on : (p >> q) (drop r.at r.text.now) ≡ q (drop s.at s.text.now)
    unfolding ◌>>◌ and_then
    then_on = rw read_on refl

    pub behind_lacks : Lacks q s → Lacks (p >> q) r
    behind_lacks n = then_on ∙ n

    pub behind_read : (z : Reader) {Q : B → Type 0} → Read q Q s z → Read (p >> q) Q r z
    behind_read z {Q = Q} k = both q (p >> q) z Q then_on k

pub give_read : {A : Type 0} {Q : A → Type 0} (x : A) (r : Reader) → Q x → Read (give x) Q r r
unfolding give
give_read x r q = (record { value = x; is = refl; took = q; from = le_refl _; inside = r.inside }, refl)

-- the entries of a list, of states seen by f
pub read_seen : {S T A : Type 0} (f : S → T) (R : T → T → A → Type 0) (p : Production (List A)) (s s'' : S) (r z : Reader)
    → Read p (Each (λ s s' x. R (f s) (f s') x) s s'') r z → Read p (Each R (f s) (f s'')) r z
read_seen f R p s s'' r z g = (
  record { value = g.0.value; is = g.0.is; took = each_on f R s s'' g.0.value g.0.took; from = g.0.from; inside = g.0.inside },
  g.1,
)

-- ---- a token by its name

module _ {j k : Token} (e : j ≡ k) (r : Reader) where
  pub as_named : (s : Reader) → Read (want j) Any r s → Read (want k) Any r s
  as_named s g = subst (λ i. Read (want i) Any r s) e g

  pub not_named : Lacks (want j) r → Lacks (want k) r
  not_named n = subst (λ i. Lacks (want i) r) e n

  pub as_ahead : (s : Reader) {b : Bool} → Passes j r s b → Read (ahead k) (Told b) r s
  as_ahead s {b = b} g = subst (λ i. Read (ahead i) (Told b) r s) e g

pub end_read : (r s : Reader) → Read (want (key_at 3)) Any r s → Read (want (key "end")) Any r s
end_read r s g = as_named end_key r s g

pub end_lacks : (r : Reader) → Lacks (want (key_at 3)) r → Lacks (want (key "end")) r
end_lacks r n = not_named end_key r n

-- nothing is given where one of the productions lacks
pub ruleset lacking = (gives_none, read_none, first_lacks, before_lacks, next_lacks, behind_lacks, end_read, end_lacks)
