use Rattle.std.proofs.Common.{rules}
use Rattle.cursor.proofs.Choosing.{takes_as}
use Rattle.cursor.proofs.cursor.Cursor.expect_as.Goals as goal

pub returns : goal.returns
returns g c = takes_as c.args.table.now c.take.ensures (λ p o h. search rules)
