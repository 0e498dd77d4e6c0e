use Rattle.std.proofs.Common.{refl, ◌∙◌}
use Rattle.units.specs.Units.{units}
use Rattle.conditions.specs.Shown.{cond_of, conds_of}
use Rattle.checks.proofs.Turns.{left_from, cond_more}
use Rattle.checks.proofs.earliest.Earliest.note_conds.Goals as goal

pub loop-cond-preserved : goal.loop-cond-preserved
loop-cond-preserved c =
    let us = units c.args.text.now in
    let i = c.loop-cond.cond-index in
    cond_more (conds_of us c.args.conds.now) i _ (left_from (cond_of us) c.args.conds.now.items c.deref-cond-items.result.now c.deref-cond-items.ensures.0 i _ _ c.loop-cond-test.true refl)
    c.loop-cond.self.known c.note_cond.new.self.known c.note_cond.ensures
    ∙ c.loop-cond.invariant
