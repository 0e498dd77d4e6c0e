use Rattle.std.proofs.Common.{rules}
use Rattle.cursor.proofs.Expecting.{takes_any}
use Rattle.cursor.proofs.cursor.Cursor.expect_any.Goals as goal

pub returns : goal.returns
returns c = takes_any c.args.kinds.now c.take.ensures (λ p o h. search rules)
