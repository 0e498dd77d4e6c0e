use Rattle.std.proofs.Common.{arith, rules}
use Rattle.units.proofs.Texts.{length-units, get_or-units}
use Rattle.units.proofs.unit.Goals as goal

pub overflow_mul-i : goal.overflow_mul-i
overflow_mul-i c = let l = length-units c.args.text.now in omega arith

pub bounds-text-i : goal.bounds-text-i
bounds-text-i c = let l = length-units c.args.text.now in omega arith

pub overflow_mul-i-2 : goal.overflow_mul-i-2
overflow_mul-i-2 c = let l = length-units c.args.text.now in omega arith

pub overflow_add-i : goal.overflow_add-i
overflow_add-i c = let l = length-units c.args.text.now in omega arith

pub bounds-text-i-2 : goal.bounds-text-i-2
bounds-text-i-2 c = let l = length-units c.args.text.now in omega arith

pub returns : goal.returns
returns c = let e = get_or-units c.args.text.now c.args.i c.requires in search rules
