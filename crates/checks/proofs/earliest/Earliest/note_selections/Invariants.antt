use Rattle.std.proofs.Common.{◌≡◌, [], take, drop}
use Rattle.checks.specs.Earliest.{earliest_from}
use Rattle.checks.specs.Faults.{selections_faults}
use Rattle.checks.specs.Names.{shown}
use Rattle.checks.proofs.earliest.Earliest.note_selections.Given as goal

abbrev pub invariant-loop-i : goal.invariant-loop-i
invariant-loop-i l =
    earliest_from l.self.known (selections_faults (take l.i (shown l.names)) (drop l.i (shown l.names)))
    ≡ earliest_from l.initial.self.known (selections_faults [] (shown l.names))
