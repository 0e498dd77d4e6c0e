use Rattle.std.proofs.Common.{◌∙◌}
use Rattle.units.specs.Units.{units}
use Rattle.conditions.specs.Shown.{selection_of}
use Rattle.checks.specs.Names.{shown}
use Rattle.checks.proofs.Turns.{left_from, taken_with, selection_more}
use Rattle.checks.proofs.earliest.Earliest.note_selections.Goals as goal

pub loop-i-preserved : goal.loop-i-preserved
loop-i-preserved c =
    let names = c.args.names.now in
    let f = selection_of (units names.text.now) in
    let xs = names.selections.now.items in
    let ys = c.deref-selection-items.result.now in
    let same = c.deref-selection-items.ensures.0 in
    let i = c.loop-i.i in
    let s = c.selection-item.result in
    selection_more (shown names) i (f s) (left_from f xs ys same i s s c.loop-i-test.true c.selection-item.is) (taken_with f xs ys same i s s c.loop-i-test.true c.selection-item.is)
    c.loop-i.self.known c.note_selection.new.self.known c.note_selection.ensures
    ∙ c.loop-i.invariant
