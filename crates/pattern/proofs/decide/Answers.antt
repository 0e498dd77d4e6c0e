use Rattle.units.specs.Units.{units}
use Rattle.pattern.proofs.Parse.{answered}
use Rattle.pattern.proofs.decide.Goals as goal

pub returns-clause-exact : goal.returns-clause-exact
returns-clause-exact c =
    answered (units c.args.pattern.now) (units c.args.text.now) c.in_ok-p.p c.matches.result c.in_ok-p.ensures.exact c.matches.ensures.exact
