use Rattle.units.specs.Units.{units}
use Rattle.units.proofs.Texts.{same_from}
use Rattle.units.proofs.same.Goals as goal

pub returns : goal.returns
returns c = same_from (units c.args.a.now) (units c.args.b.now) c.folds_alike.result c.folds_alike.ensures.alike c.folds_alike.ensures.unlike
