use Rattle.std.proofs.Common.{arith}
use Rattle.units.proofs.Texts.{length-units}
use Rattle.units.proofs.count.Goals as goal

pub returns : goal.returns
returns c = let l = length-units c.args.text.now in omega arith
