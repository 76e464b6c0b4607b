use Rattle.read_sys.specs.SysLaws.{without_members, without_place, without_versions}
use Rattle.read_sys.proofs.with_sys_version.Goals as goal

pub returns-in_err-g : goal.returns-in_err-g
returns-in_err-g c = rw (c.from_residual.ensures, c.in_err-g.was) (without_versions _ _)

pub returns-in_err-v : goal.returns-in_err-v
returns-in_err-v c = rw (c.from_residual-in_err-v.ensures, c.in_ok-g.was, c.in_err-v.was) (without_place _ _)

pub returns-in_err-m : goal.returns-in_err-m
returns-in_err-m c = rw (c.from_residual-in_err-m.ensures, c.in_ok-g.was, c.in_ok-v.was, c.in_err-m.was) (without_members _ _)
