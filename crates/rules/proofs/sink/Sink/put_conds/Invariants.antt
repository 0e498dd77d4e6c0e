use Rattle.std.proofs.Common.{take}
use Rattle.units.specs.Units.{units}
use Rattle.rules.proofs.Each.{of_conds}
use Rattle.rules.specs.Held.{Put}
use Rattle.rules.proofs.sink.Sink.put_conds.Given as goal

abbrev pub invariant-loop-cond : goal.invariant-loop-cond
invariant-loop-cond l = Put (of_conds (units l.initial.self.text.now) (take l.cond-index l.conds.items)) l.initial.self l.self
