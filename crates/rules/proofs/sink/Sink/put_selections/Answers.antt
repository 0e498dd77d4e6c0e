use Rattle.rules.proofs.Each.{each_found, each_end, of_selections, of_selection, selections_push}
use Rattle.rules.proofs.sink.Sink.put_selections.Goals as goal

pub loop-selection-preserved : goal.loop-selection-preserved
loop-selection-preserved c =
    let x = c.selection-item.result in
    each_found of_selections of_selection selections_push c.args.selections.now.items c.deref-selection-items.result.now c.deref-selection-items.ensures.0 c.loop-selection.selection-index c.args.self.now c.loop-selection.self c.loop-selection.invariant x x c.loop-selection-test.true c.selection-item.is c.put_selection.new.self c.put_selection.ensures

pub returns : goal.returns
returns c = each_end of_selections of_selection selections_push c.args.selections.now.items c.deref-selection-items.result.now c.deref-selection-items.ensures.0 c.loop-selection.selection-index c.args.self.now c.loop-selection.self c.loop-selection.invariant c.loop-selection-test.false
