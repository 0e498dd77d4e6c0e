use Rattle.std.proofs.Common.{arith}
use Rattle.std.proofs.lemmas.Grind.{common_steps}
use Rattle.std.proofs.lemmas.List.{take_all}
use Rattle.claims.proofs.sources.Listed.over.Goals as goal

pub returns : goal.returns
returns c = grind (arith, common_steps, take_all 512 c.args.claims.now)
