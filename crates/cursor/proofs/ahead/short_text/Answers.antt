use Rattle.std.proofs.Common.{◌≡◌, length, take, ap, arith}
use Rattle.std.proofs.lemmas.List.{length-take}
use Rattle.units.specs.Units.{units}
use Rattle.cursor.specs.Ahead.{short}
use Rattle.cursor.proofs.ahead.short_text.Goals as goal

pub returns : goal.returns
unfolding short
returns c =
    let us = units c.args.text.now in
    let l = length-take 65535 us in
    let e : length (units c.run_of.result.now) ≡ length (take 65535 us) = ap length c.run_of.ensures in
    record { value = c.run_of.ensures; bound = omega arith }
