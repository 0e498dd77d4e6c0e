use Rattle.std.proofs.Common.{◌≡◌, drop}
use Rattle.units.specs.Units.{units}
use Rattle.conditions.specs.Shown.{conds_of}
use Rattle.checks.specs.Earliest.{earliest_from}
use Rattle.checks.specs.Faults.{conds_faults}
use Rattle.checks.proofs.earliest.Earliest.note_conds.Given as goal

abbrev pub invariant-loop-cond : goal.invariant-loop-cond
invariant-loop-cond l =
    earliest_from l.self.known (conds_faults (drop l.cond-index (conds_of (units l.text) l.conds))) ≡ earliest_from l.initial.self.known (conds_faults (conds_of (units l.text) l.conds))
