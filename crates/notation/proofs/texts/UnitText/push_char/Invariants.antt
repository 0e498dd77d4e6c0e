use Rattle.std.proofs.Common.{◌≡◌, ◌++◌, take, vec_items}
use Rattle.units.specs.Units.{unit_bytes}
use Rattle.notation.specs.Letters.{utf16}
use Rattle.notation.proofs.texts.UnitText.push_char.Given as goal

abbrev pub invariant-loop-unit : goal.invariant-loop-unit
invariant-loop-unit l = (l.unit-items ≡ utf16 l.fn.c) × (vec_items l.self.bytes ≡ vec_items l.fn.self.bytes ++ unit_bytes (take l.unit-index l.unit-items))
