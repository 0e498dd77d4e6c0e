use Rattle.std.proofs.Common.{length}
use Rattle.listing.proofs.fields.Line.quoted.Given as goal

abbrev pub decreases-loop-text : goal.decreases-loop-text
decreases-loop-text l = length l.self.rest.now
