use Rattle.std.proofs.Common.{◌≡◌, ◌/◌, min, length, ap, ◌∙◌, arith}
use Rattle.units.specs.Units.{units}
use Rattle.units.proofs.Texts.{length-units, units_part, run_cut}
use Rattle.units.proofs.run_of.Goals as goal

pub returns : goal.returns
returns c =
    let l = length-units c.args.text.now in
    let n : length c.args.text.now / 2 ≡ length (units c.args.text.now) = omega arith in
    units_part c.min-from.result c.min-to.result c.args.text.now ∙ run_cut (units c.args.text.now) c.args.from c.args.len c.min-from.result c.min-to.result (c.min-from.ensures ∙ ap (min c.args.from) n) (cc (c.min-to.ensures, n, c.from.ensures))
