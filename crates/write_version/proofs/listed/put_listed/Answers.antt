use Rattle.std.proofs.Common.{arith, ◌<◌, ◌^◌}
use Rattle.names.specs.EnterLaws.{found_at, found_nothing}
use Rattle.sets.specs.SetLaws.{bit_limit}
use Rattle.write_bytes.specs.WritesLaws.{writing_start}
use Rattle.write_version.specs.ListedLaws.{list_end, list_less, list_turn, next_in, within_start, within_turn}
use Rattle.write_version.proofs.listed.put_listed.Goals as goal

pub loop-k-init : goal.loop-k-init
loop-k-init g c = (within_start _, λ f h. writing_start _ _)

pub put-requires-in-Some : goal.put-requires-in-Some
put-requires-in-Some g c =
    c.requires _ _ (next_in _ _ _ (found_at _ _ _ c.first_by_name.ensures c.in-Some.is) c.loop-k.invariant.0)

pub without-rest-requires : goal.without-rest-requires
without-rest-requires g c =
    let h : c.args.set < 2 ^ 64 = omega arith in
    bit_limit 64 _ _ h (next_in _ _ _ (found_at _ _ _ c.first_by_name.ensures c.in-Some.is) c.loop-k.invariant.0)

pub loop-k-smaller : goal.loop-k-smaller
loop-k-smaller g c = list_less _ _ _ (found_at _ _ _ c.first_by_name.ensures c.in-Some.is) c.without-rest.ensures

pub loop-k-preserved : goal.loop-k-preserved
loop-k-preserved g c =
    let e = found_at _ _ _ c.first_by_name.ensures c.in-Some.is in
    let w = c.loop-k.invariant.0 in (
      within_turn _ _ _ e c.without-rest.ensures w,
      λ f h. list_turn _ _ _ e c.without-rest.ensures _ f (c.loop-k.invariant.1 f h) c.put.ensures
          (h _ _ _ (next_in _ _ _ e w) c.put-in-Some.ensures),
    )

pub returns : goal.returns
returns g c = λ f h. list_end _ _ _ _ _ f (found_nothing _ _ c.first_by_name.ensures c.in_default.is) (c.loop-k.invariant.1 f h)
