use Rattle.std.proofs.Common.{◌≡◌, take, vec_items}
use Rattle.units.specs.Units.{unit_bytes}
use Rattle.notation.specs.Letters.{spelling}
use Rattle.notation.proofs.texts.spell.Given as goal

abbrev pub invariant-loop-c : goal.invariant-loop-c
invariant-loop-c l = vec_items l.text.bytes ≡ unit_bytes (spelling (take l.c-index l.letters))
