use Rattle.std.proofs.Common.{◌≡◌, ◌≤◌, true}
use Rattle.units.specs.Units.{units}
use Rattle.notation.specs.Numbers.{digits, decimal}
use Rattle.notation.proofs.numbers.value_of_digits.Given as goal

abbrev pub invariant-loop-unit : goal.invariant-loop-unit
invariant-loop-unit l =
    (l.n ≤ 18446744073709551615) × (digits (units l.unit-iterator.rest.now) ≡ true)
    × (decimal l.n (units l.unit-iterator.rest.now) ≡ decimal 0 (units l.text))
