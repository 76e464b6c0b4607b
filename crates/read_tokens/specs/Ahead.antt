-- What a reader gives, and where it stands then.
use Rattle.std.specs.Prelude.{Bool, None, Option, Some, ◌≡◌, ◌<◌, ℕ, drop, length}
use Rattle.std.proofs.Math.Option.{none}
use Rattle.text.specs.Bytes.{Text}
use Rattle.text.specs.Language.{Reader as Production, ahead}
use Rattle.text.specs.Tokens.{Token}
use Rattle.read_tokens.specs.declared.Keyword.{Keyword}
use Rattle.read_tokens.specs.declared.Keyword.TheVariants.{AllOf, Choice, DelMod, DelModvar, DelSpec, DelSys, DelSysvar, End, Impl, In, Mod, Modvar}
use Rattle.read_tokens.specs.declared.Keyword.TheVariants.{Needs, Out, Parts, Provides, Quit, Requires, Spec, Standard, Std, Supplies, Sys, Sysvar}
use Rattle.read_tokens.specs.declared.Keyword.TheVariants.{Undefined, Unused, Use, WhereUsed}
use Rattle.read_tokens.specs.declared.reader.Reader.{Reader}
use Rattle.read_tokens.specs.Readers.{Any, Got, Told}
use Rattle.read_tokens.specs.Steps.{Leads}

-- the production p read from where the reader r stands: what was read is given and is R of the value, and the reader s stands behind it;
-- or there is none, and the reader is as it was
abbrev pub Gives : {A B : Type 0} → Production A → (B → A → Type 0) → Reader → Reader → Option B → Type 0
Gives p R r s (Some x) = Got p (R x) r.text.now r.at s.at × (s.text ≡ r.text)
Gives p R r s None = (p (drop r.at r.text.now) ≡ none) × (s ≡ r)

-- the same, and where there is none, nothing of the reader s
abbrev pub GivesRead : {A B : Type 0} → Production A → (B → A → Type 0) → Reader → Reader → Option B → Type 0
GivesRead p R r s (Some x) = Got p (R x) r.text.now r.at s.at × (s.text ≡ r.text)
GivesRead p R r s None = p (drop r.at r.text.now) ≡ none

-- the production p read from where the reader r stands: the position behind it, or none
abbrev pub Ends : {A : Type 0} → Production A → Reader → Option ℕ → Type 0
Ends p r (Some e) = Got p Any r.text.now r.at e
Ends p r None = p (drop r.at r.text.now) ≡ none

-- whether the token k comes next where the reader r stands: the reader s stands behind it then, else where r does
abbrev pub Passes : Token → Reader → Reader → Bool → Type 0
Passes k r s b = Got (ahead k) (Told b) r.text.now r.at s.at × (s.text ≡ r.text)

-- the reader r stands in a list of entries that p reads, which the reader r₀ began with the state s₀: what the rest of the list gives from
-- there and from the state s on is what the whole gives
abbrev pub LeadsBy : {S A : Type 0} → Token → Production A → (S → S → A → Type 0) → Reader → S → Reader → S → Type 0
LeadsBy k p R r₀ s₀ r s = Leads k p R r₀.text.now r₀.at s₀ r.at s × (r.text ≡ r₀.text)

-- the value is the word that was read, of a byte at least
pub record IsWord (x : Text) (w : Text) : Type 0 where
  pub is : w ≡ x
  pub some_bytes : 0 < length w

-- the number of a keyword among the keywords
abbrev pub keyword_number : Keyword → ℕ
keyword_number Supplies = 0
keyword_number Needs = 1
keyword_number Choice = 2
keyword_number End = 3
keyword_number Standard = 4
keyword_number Undefined = 5
keyword_number Unused = 6
keyword_number WhereUsed = 7
keyword_number In = 8
keyword_number Out = 9
keyword_number Quit = 10
keyword_number Spec = 11
keyword_number Provides = 12
keyword_number Std = 13
keyword_number Requires = 14
keyword_number AllOf = 15
keyword_number Mod = 16
keyword_number Impl = 17
keyword_number Sys = 18
keyword_number Use = 19
keyword_number DelSpec = 20
keyword_number DelMod = 21
keyword_number DelSys = 22
keyword_number Modvar = 23
keyword_number Sysvar = 24
keyword_number DelModvar = 25
keyword_number DelSysvar = 26
keyword_number Parts = 27
