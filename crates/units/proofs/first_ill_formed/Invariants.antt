use Rattle.std.proofs.Common.{◌≡◌, ◌+◌, ◌<◌, ◌^◌, length, drop}
use Rattle.units.specs.Units.{units}
use Rattle.units.specs.Form.{first_ill}
use Rattle.units.proofs.first_ill_formed.Given as goal

abbrev pub invariant-loop-i : goal.invariant-loop-i
invariant-loop-i l =
    (goal.iterator-loop-i).can_next l.i-iterator × (goal.iterator-loop-i).is_finite l.i-iterator
    × (l.i-iterator.count + length (units l.i-iterator.iter.rest.now) < 2 ^ 64)
    × (units l.i-iterator.iter.rest.now ≡ drop l.i-iterator.count (units l.text))
    × (first_ill l.before l.i-iterator.count (units l.i-iterator.iter.rest.now) ≡ first_ill 0 0 (units l.text))
