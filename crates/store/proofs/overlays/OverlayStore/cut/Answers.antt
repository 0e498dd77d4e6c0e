use Rattle.std.proofs.Common.{arith}
use Rattle.store.proofs.Laid.{laid_cut, laid_length}
use Rattle.store.proofs.overlays.OverlayStore.cut.Goals as goal

pub returns-clause-cases : goal.returns-clause-cases
returns-clause-cases g c = grind (arith, laid_cut, laid_length)
