use Rattle.std.specs.Prelude.{not}
use Rattle.std.proofs.Common.{arith, ap}
use Rattle.try_book.specs.Asked.{takes_definition, low_all}
use Rattle.try_book.proofs.system.Goals as goal

pub put_sys-requires-clause-takes_definition : goal.put_sys-requires-clause-takes_definition
put_sys-requires-clause-takes_definition c = (
  takes_definition (omega (arith, c.if-c-ge32.false)) c.is_proper.ensures (ap not c.if-not-is_proper.false)
      c.is_specified.ensures (ap not c.if-not-is_specified.false)
      c.is_module.ensures c.if-is_module.false c.is_system.ensures c.if-is_system.false,
  omega (arith, c.if-members-ge4294967296.false),
)

pub put_sys-requires-clause-by_index : goal.put_sys-requires-clause-by_index
put_sys-requires-clause-by_index c = λ v h. low_all 64 _ v (omega (arith, c.if-members-ge4294967296.false))
