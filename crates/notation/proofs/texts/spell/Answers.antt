use Rattle.std.proofs.Common.{ap, ◌∙◌, arith}
use Rattle.std.proofs.lemmas.List.{take_all}
use Rattle.units.specs.Units.{unit_bytes}
use Rattle.notation.specs.Letters.{spelling}
use Rattle.notation.proofs.Spelt.{spelling_more}
use Rattle.notation.proofs.texts.spell.Goals as goal

pub loop-c-preserved : goal.loop-c-preserved
loop-c-preserved c = spelling_more c.args.letters.now c.loop-c.c-index c.c-item.result _ _ (omega arith) c.c-item.is c.loop-c.invariant c.in_ok-push_char.ensures

pub returns : goal.returns
returns c = c.loop-c.invariant ∙ ap (λ t. unit_bytes (spelling t)) (take_all c.loop-c.c-index c.args.letters.now (omega arith))
