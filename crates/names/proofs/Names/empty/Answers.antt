use Rattle.std.proofs.Common.{refl}
use Rattle.names.specs.Stored.{tables_of}
use Rattle.names.proofs.Names.empty.Goals as goal

pub returns : goal.returns
unfolding tables_of
returns c = rw (c.empty.ensures, c.empty-2.ensures, c.empty-3.ensures, c.empty-4.ensures) refl
