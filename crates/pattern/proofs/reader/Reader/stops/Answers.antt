use Rattle.units.specs.Units.{units}
use Rattle.pattern.proofs.Looks.{stops_at}
use Rattle.pattern.proofs.reader.Reader.stops.Goals as goal

pub returns : goal.returns
returns c = stops_at (units c.args.self.now.pattern.now) c.args.self.now.at c.unit_at.result c.is_none_or.result c.unit_at.ensures c.is_none_or.ensures
