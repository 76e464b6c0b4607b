use Rattle.std.proofs.Common.{rules}
use Rattle.bench_host.specs.AskedLaws.{gives_0, gives_1, gives_2, gives_3, gives_4, gives_5}
use Rattle.bench_host.proofs.query.Goals as goal

pub returns-then-kind-eq0 : goal.returns-then-kind-eq0
returns-then-kind-eq0 c = search (rules, gives_0)

pub returns-then-kind-eq1 : goal.returns-then-kind-eq1
returns-then-kind-eq1 c = search (rules, gives_1)

pub returns-then-kind-eq2 : goal.returns-then-kind-eq2
returns-then-kind-eq2 c = search (rules, gives_2)

pub returns-then-kind-eq3 : goal.returns-then-kind-eq3
returns-then-kind-eq3 c = search (rules, gives_3)

pub returns-then-kind-eq4 : goal.returns-then-kind-eq4
returns-then-kind-eq4 c = search (rules, gives_4)

pub returns : goal.returns
returns c = search (rules, gives_5)

pub returns-in_err-version : goal.returns-in_err-version
returns-in_err-version c = search (rules, gives_5)
