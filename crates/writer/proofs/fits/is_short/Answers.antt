use Rattle.std.proofs.Common.{arith}
use Rattle.writer.proofs.Texts.{short_decided}
use Rattle.writer.proofs.fits.is_short.Goals as goal

pub returns-then-count-le-MAX_UNITS : goal.returns-then-count-le-MAX_UNITS
returns-then-count-le-MAX_UNITS c = short_decided c.args.text.now c.is_well_formed.result (λ i. (c.type_inv.text i).fits) (omega arith) c.is_well_formed.ensures
