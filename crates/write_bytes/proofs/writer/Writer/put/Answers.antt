use Rattle.std.proofs.Common.{refl}
use Rattle.write_bytes.specs.WritesLaws.{word_written, writes_after_miss, writes_measured, writes_miss}
use Rattle.write_bytes.proofs.writer.Writer.put.Goals as goal

pub returns-in_default : goal.returns-in_default
returns-in_default c = writes_after_miss _ _ c.in_default.is

pub returns-in_default-checked_sub : goal.returns-in_default-checked_sub
returns-in_default-checked_sub c = writes_miss _ _ c.in-Some.is c.in_default-checked_sub.ensures

pub returns-then-left-self : goal.returns-then-left-self
returns-then-left-self c = record {
  puts = word_written _ c.args.self.now c.in-Some.is c.in-Some-checked_sub.ensures c.if-left-self.true c.copy_from_slice.ensures.after;
  same_slice = refl;
}

pub returns-else-left-self : goal.returns-else-left-self
returns-else-left-self c = writes_measured _ _ c.in-Some.is c.in-Some-checked_sub.ensures c.if-left-self.false
