use Rattle.std.proofs.Common.{rules}
use Rattle.text.specs.Bytes.{bytes}
use Rattle.text.specs.Tables.{name_at}
use Rattle.names.specs.Stored.{table_in}
use Rattle.write_version.specs.Pieces.{names_led}
use Rattle.write_version.proofs.put_led.Goals as goal

pub returns : goal.returns
unfolding names_led bytes
returns g c = c.put_listed.ensures (name_at (table_in c.args.table.now)) (λ a b k h p. search rules)
