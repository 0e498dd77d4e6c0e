use Rattle.pattern.proofs.Examples.{worked, all_computed}
use Rattle.pattern.proofs.worked_examples_stand.Goals as goal

pub returns : goal.returns
returns c = record { worked = worked; computed = all_computed }
