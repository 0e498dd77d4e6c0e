use Rattle.std.proofs.Common.{sym, ◌∙◌, arith}
use Rattle.units.specs.Units.{units}
use Rattle.notation.proofs.Digits.{unsigned_short, unsigned_not, unsigned_by, units_some}
use Rattle.notation.proofs.numbers.unsigned.Goals as goal
use Rattle.notation.proofs.numbers.unsigned.Goals.{then-text-lt2-via-then-text-lt2, then-text-lt2-via-else-text-lt2+then-not-is_number}

pub returns-then-text-lt2 : goal.returns-then-text-lt2
returns-then-text-lt2 c =
    elim c.then-text-lt2.branch [
      | then-text-lt2-via-then-text-lt2 w ↦ sym (unsigned_short c.args.text.now (omega arith))
      | then-text-lt2-via-else-text-lt2+then-not-is_number w ↦ sym (unsigned_not (units c.args.text.now) (sym w.if-not-is_number.ensures))
    ]

pub value_of_digits-requires : goal.value_of_digits-requires
value_of_digits-requires c = sym c.if-not-is_number.ensures

pub returns : goal.returns
returns c =
    c.ok_or.ensures.value ∙ unsigned_by (units c.args.text.now) c.value_of_digits.result (units_some c.args.text.now (omega arith)) (sym c.if-not-is_number.ensures) c.value_of_digits.ensures
