-- The text of a reader stays, whether or not anything is read.
use Rattle.std.specs.Prelude.{None, Option, Some, ◌≡◌}
use Rattle.std.proofs.Math.Path.{ap}
use Rattle.text.specs.Bytes.{Text}
use Rattle.text.specs.Language.{DELMODVAR, DELSPEC, Name, Reader as Production, Said, of_one, of_pair}
use Rattle.read_tokens.specs.Ahead.{Gives}
use Rattle.read_tokens.specs.declared.reader.Reader.{Reader}
use Rattle.read_command.specs.Forms.{BeginsBy}
use Rattle.read_command.specs.Words.{OneSaid, PairSaid}
use Rattle.read_command.specs.declared.Form.{Form}
use Rattle.read_command.specs.declared.Pair.{Pair}

pub text_kept : {A B : Type 0} (p : Production A) (R : B → A → Type 0) (r s : Reader) (o : Option B) → Gives p R r s o → s.text ≡ r.text
text_kept p R r s None g = ap (λ (z : Reader). z.text) g.1
text_kept p R r s (Some x) g = g.1

pub form_kept : (r s : Reader) (o : Option Form) → BeginsBy r s o → s.text ≡ r.text
form_kept r s None b = ap (λ (z : Reader). z.text) b.1
form_kept r s (Some f) b = b.1

pub one_kept : (r s : Reader) (o : Option Text) → ((f : Name → Said) → Gives (of_one f) (OneSaid f) r s o) → s.text ≡ r.text
one_kept r s o g = text_kept (of_one DELSPEC) (OneSaid DELSPEC) r s o (g DELSPEC)

pub pair_kept : (r s : Reader) (o : Option Pair) → ((f : Name → Name → Said) → Gives (of_pair f) (PairSaid f) r s o) → s.text ≡ r.text
pair_kept r s o g = text_kept (of_pair DELMODVAR) (PairSaid DELMODVAR) r s o (g DELMODVAR)

-- the ways to read a command
pub ruleset kept = (text_kept, form_kept, one_kept, pair_kept)
