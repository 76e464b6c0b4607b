use Rattle.std.proofs.Common.{arith, rules}
use Rattle.book.specs.Plain.{plain}
use Rattle.model.specs.Book.{is_system}
use Rattle.names.specs.EnterLaws.{found_at, found_nothing}
use Rattle.names.specs.Stored.{tables_of}
use Rattle.text.specs.Written.{systems_in_order}
use Rattle.write_line.specs.Lines.{system_lines}
use Rattle.write_book.specs.SystemLaws.{next_below, order_end, order_start, order_stop, order_turn}
use Rattle.write_book.proofs.put_systems.Goals as goal

pub loop-i-init : goal.loop-i-init
unfolding system_lines systems_in_order tables_of
loop-i-init c = (omega arith, order_start _ _ _ _)

pub next_system-requires : goal.next_system-requires
next_system-requires c = c.those-systems.ensures (is_system (plain c.args.book.now).systems) (λ k r l p. search rules)

pub returns-in_default : goal.returns-in_default
returns-in_default c =
    let sys = c.those-systems.ensures (is_system (plain c.args.book.now).systems) (λ k r l p. search rules) in
    order_stop c.loop-i.invariant.1 _ sys c.loop-i-test.true (found_nothing _ _ c.next_system.ensures c.in_default.is)

pub with-done-requires : goal.with-done-requires
with-done-requires c = let h = next_below _ _ _ _ _ (found_at _ _ _ c.next_system.ensures c.in-Some.is) in omega (arith, h)

pub loop-i-preserved : goal.loop-i-preserved
loop-i-preserved c =
    let sys = c.those-systems.ensures (is_system (plain c.args.book.now).systems) (λ k r l p. search rules) in (
      omega arith,
      order_turn c.loop-i.invariant.1 _ sys c.loop-i-test.true (found_at _ _ _ c.next_system.ensures c.in-Some.is) c.put_sys_line.ensures
          c.with-done.ensures,
    )

pub returns : goal.returns
returns c = order_end c.loop-i.invariant.1 c.loop-i-test.false
