use Rattle.std.proofs.Common.{take}
use Rattle.units.specs.Units.{units}
use Rattle.rules.proofs.Each.{of_selections}
use Rattle.rules.specs.Held.{Put}
use Rattle.rules.proofs.sink.Sink.put_selections.Given as goal

abbrev pub invariant-loop-selection : goal.invariant-loop-selection
invariant-loop-selection l = Put (of_selections (units l.initial.self.text.now) (take l.selection-index l.selections.items)) l.initial.self l.self
