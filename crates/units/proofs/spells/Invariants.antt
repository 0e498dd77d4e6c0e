use Rattle.std.proofs.Common.{◌≡◌, drop}
use Rattle.units.specs.Units.{units}
use Rattle.units.specs.Fold.{same_units}
use Rattle.units.proofs.spells.Given as goal

abbrev pub invariant-loop-i : goal.invariant-loop-i
invariant-loop-i l = same_units (drop l.i (units l.text)) (drop l.i l.name) ≡ same_units (units l.text) l.name
