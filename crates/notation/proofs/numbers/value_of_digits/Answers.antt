use Rattle.std.proofs.Common.{◌∙◌, sym, ap, arith}
use Rattle.units.specs.Units.{units}
use Rattle.notation.specs.Numbers.{decimal}
use Rattle.notation.proofs.Digits.{none_iff, too_large, digit_of, decimal_next}
use Rattle.notation.proofs.numbers.value_of_digits.Goals as goal

pub overflow_sub-unit : goal.overflow_sub-unit
overflow_sub-unit c = let d = digit_of c.in-Some.unit _ _ c.in-Some.ensures.steps c.loop-unit.invariant.1 in omega arith

pub returns-in_err-checked_mul : goal.returns-in_err-checked_mul
returns-in_err-checked_mul c =
    let m = c.in_err-checked_mul.ensures in
    none_iff _ c.from_residual.ensures
    (too_large c.loop-unit.n c.in-Some.unit _ _ (units c.args.text.now) c.in-Some.ensures.steps c.loop-unit.invariant.2 (omega arith))

pub returns-in_err-n : goal.returns-in_err-n
returns-in_err-n c =
    let m = c.in_err-n.ensures in
    let k = c.in_ok-checked_mul.ensures in
    let f = c.from.ensures in
    none_iff _ c.from_residual-in_err-n.ensures
    (too_large c.loop-unit.n c.in-Some.unit _ _ (units c.args.text.now) c.in-Some.ensures.steps c.loop-unit.invariant.2 (omega arith))

pub loop-unit-preserved : goal.loop-unit-preserved
loop-unit-preserved c =
    let d = digit_of c.in-Some.unit _ _ c.in-Some.ensures.steps c.loop-unit.invariant.1 in
    let k = c.in_ok-checked_mul.ensures in
    let e = c.in_ok-n.ensures in
    let f = c.from.ensures in
    (omega arith, d.2, decimal_next c.loop-unit.n c.in-Some.unit c.in_ok-n.n _ _ c.in-Some.ensures.steps (omega arith) ∙ c.loop-unit.invariant.2)

pub returns : goal.returns
returns c =
    let e = ap (decimal c.loop-unit.n) c.in-None.ensures.steps.0 in
    let i = c.loop-unit.invariant in
    (omega arith, sym e ∙ i.2)
