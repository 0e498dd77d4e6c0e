use Rattle.units.specs.Units.{units}
use Rattle.pattern.proofs.Parse.{told_value}
use Rattle.pattern.proofs.matches.Goals as goal

pub returns : goal.returns
returns c = record {
  exact = c.matches.ensures;
  value = λ us a. told_value us (units c.args.text.now) c.args.pattern.now c.matches.result a c.matches.ensures;
}
