use Rattle.units.specs.Units.{units}
use Rattle.writer.proofs.Records.{writable_decided}
use Rattle.writer.proofs.fits.is_writable.Goals as goal

pub returns-then-parts_fit : goal.returns-then-parts_fit
returns-then-parts_fit c =
    writable_decided c.args.texts.now.rules.now c.args.texts.now.packet.now c.args.claim (units c.bytes_of.result.now) c.names.result c.bytes_of.ensures.text
    (c.parts_fit.ensures.0 c.if-parts_fit.true) (c.names.ensures c.args.texts.now.rules.now c.args.texts.now.packet.now)
