use Rattle.std.proofs.Common.{refl}
use Rattle.read_tokens.specs.ReaderLaws.{passes_no}
use Rattle.read_tokens.proofs.reader.Reader.passes_mark.Goals as goal

pub returns-in_default : goal.returns-in_default
returns-in_default c = (passes_no _ c.args.self.now c.in_default.ensures, refl)
