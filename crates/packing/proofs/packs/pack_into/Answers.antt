use Rattle.packing.proofs.Written.{wrote_within, wrote_accepted}
use Rattle.packing.proofs.packs.pack_into.Goals as goal

pub returns : goal.returns
returns c = record { within = wrote_within c.write.result c.write.ensures; accepted = wrote_accepted c.write.result c.write.ensures }
