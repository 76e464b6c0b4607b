-- What the writer of a system asks, from the tests made before its call.
use Rattle.std.specs.Prelude.{Bool, false, not, List, ◌≡◌, ◌<◌, ◌^◌, suc, zero, ℕ, get_or, replicate}
use Rattle.std.proofs.Common.{◌∙◌, sym, arith}
use Rattle.std.proofs.lemmas.Bool.{not-false}
use Rattle.book.specs.Changes.{TakesDefinition}
use Rattle.book.specs.Plain.{plain_of, proper}
use Rattle.model.specs.Book.{is_defined, is_module, is_system, specified}
use Rattle.sets.specs.TestLaws.{or-false}

pub takes_definition : {s n : List ℕ} {c : ℕ} {r q m y : Bool}
    → c < 32
    → r ≡ proper s n
    → not r ≡ false
    → q ≡ specified (plain_of s n).specs c
    → not q ≡ false
    → m ≡ is_module (plain_of s n).modules c
    → m ≡ false
    → y ≡ is_system (plain_of s n).systems c
    → y ≡ false
    → TakesDefinition s n c
unfolding is_defined
takes_definition {r = r} {q = q} h e t e' t' em m ey y = record {
  component< = h;
  is_proper = sym e ∙ not-false r t;
  is_specified = sym e' ∙ not-false q t';
  is_undefined = or-false _ _ (sym em ∙ m) ∙ sym ey ∙ y;
}

-- the same set at every place is below 2 ^ 32 where the set is
pub low_all : (k x v : ℕ) → x < 2 ^ 32 → get_or (replicate k x) v 0 < 2 ^ 32
low_all zero x v h = omega arith
low_all (suc k) x zero h = h
low_all (suc k) x (suc v) h = low_all k x v h
