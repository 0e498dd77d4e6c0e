use Rattle.units.specs.Units.{units}
use Rattle.std.proofs.Common.{◌∙◌}
use Rattle.notation.proofs.Spelt.{whole_more}
use Rattle.notation.proofs.texts.UnitText.append.Goals as goal

pub invariant_of-self : goal.invariant_of-self
invariant_of-self c =
    record { whole = whole_more c.extend_from_slice.result _ _ _ (units c.args.more.now.bytes.items) c.args.self.now.whole (c.bytes.ensures ∙ c.args.more.now.whole) c.extend_from_slice.ensures.items }
