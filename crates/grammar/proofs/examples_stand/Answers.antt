use Rattle.grammar.proofs.Stand.{stand}
use Rattle.grammar.proofs.examples_stand.Goals as goal

pub returns : goal.returns
returns c = stand
