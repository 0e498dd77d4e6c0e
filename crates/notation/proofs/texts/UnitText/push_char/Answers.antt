use Rattle.std.proofs.Common.{◌++◌, vec_items, ap, ◌∙◌, arith}
use Rattle.std.proofs.lemmas.List.{take_all, get_or_default}
use Rattle.units.specs.Units.{unit_bytes}
use Rattle.notation.proofs.Spelt.{units_more}
use Rattle.notation.proofs.texts.UnitText.push_char.Goals as goal

pub loop-unit-preserved : goal.loop-unit-preserved
loop-unit-preserved c =
    (c.loop-unit.invariant.0, units_more c.encode_utf16.result.now c.loop-unit.unit-index _ (vec_items c.args.self.now.bytes) _ _ (omega arith) (get_or_default c.encode_utf16.result.now c.loop-unit.unit-index 0 _ (omega arith)) c.loop-unit.invariant.1 c.in_ok-push_unit.ensures.more)

pub returns : goal.returns
returns c =
    let i = c.loop-unit.invariant in
    i.1
    ∙ ap (λ us. vec_items c.args.self.now.bytes ++ unit_bytes us) (take_all c.loop-unit.unit-index c.encode_utf16.result.now (omega arith) ∙ i.0)
