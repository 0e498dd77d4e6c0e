use Rattle.notation.proofs.Spelt.{whole_more, byte_pair}
use Rattle.std.proofs.Common.{[], ◌∷◌, arith}
use Rattle.notation.proofs.texts.UnitText.push_unit.Goals as goal

pub invariant_of-self : goal.invariant_of-self
invariant_of-self c =
    record { whole = whole_more c.extend_from_slice.result _ _ _ (c.args.unit ∷ []) c.args.self.now.whole (byte_pair c.args.unit _ (omega arith) c.to_be_bytes.ensures) c.extend_from_slice.ensures.items }
