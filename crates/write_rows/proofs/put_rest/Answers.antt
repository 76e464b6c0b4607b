use Rattle.std.proofs.Common.{refl}
use Rattle.write_rows.specs.RestLaws.{rest_puts}
use Rattle.write_rows.proofs.put_rest.Goals as goal

pub returns-in_default : goal.returns-in_default
returns-in_default g c = λ w h. h _ _ c.put.ensures

pub returns : goal.returns
returns g c = λ w h. record {
  puts = rest_puts w c.args.writer.now _ c.start.ensures.value c.in-Some.is (c.write_whole-len.ensures.value w h)
      (c.write_whole-len.ensures.out_after w h) c.behind-writer.ensures;
  same_slice = refl;
}
