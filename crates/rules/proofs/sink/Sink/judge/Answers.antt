use Rattle.std.proofs.Common.{arith}
use Rattle.units.proofs.Texts.{length-units}
use Rattle.rules.proofs.sink.Sink.judge.Goals as goal

pub overflow_cast-i : goal.overflow_cast-i
overflow_cast-i c = let e = c.in-Some.ensures.first in let l = length-units c.args.self.now.text.now in omega (arith, e.0)
