use Rattle.std.proofs.Common.{◌≡◌, ◌+◌, ◌≤◌, length}
use Rattle.units.specs.Units.{units}
use Rattle.pattern.specs.Formed.{formed}
use Rattle.pattern.specs.declared.scan.State.TheVariants.{Fresh}
use Rattle.pattern.proofs.scan.well_formed.Given as goal

abbrev pub invariant-loop-u : goal.invariant-loop-u
invariant-loop-u l =
    (formed l.pass.state l.pass.depth (units l.u-iterator.rest.now) ≡ formed Fresh 0 (units l.body))
    × (l.pass.depth + length (units l.u-iterator.rest.now) ≤ length (units l.body))
