use Rattle.std.proofs.Common.{length, Err, ap, ◌∙◌}
use Rattle.units.specs.Units.{units}
use Rattle.cursor.specs.Ahead.{short}
use Rattle.cursor.specs.Reading.{rest, text_of, fault_of}
use Rattle.parser.proofs.Wholly.{Parses, at_end, not_at_end, stops}
use Rattle.parser.proofs.parses.parse.Goals as goal
use Rattle.parser.proofs.parses.parse.Goals.{in-Ok-2, in-Err}

pub returns-in-Ok : goal.returns-in-Ok
returns-in-Ok c =
    let p = at_end _ (text_of c.new-cursor.result) (rest c.new-cursor.result) c.new-cursor.ensures.text c.new-cursor.ensures.words (rest c.rules.new.cursor) c.in-Ok.all c.in-Ok.ensures.reads c.if-at_end.ensures in
    record { value = p.value; exact = p.exact }

pub returns : goal.returns
returns c =
    let start = c.new-cursor in
    let left = rest c.rules.new.cursor in
    let us = text_of c.rules.new.cursor in
    let p : Parses (short (units c.args.text.now)) (Err c.fault.result) = elim c.match-rules.branch [
      | in-Ok-2 w ↦ not_at_end _ (text_of start.result) (rest start.result) start.ensures.text start.ensures.words left us w.in-Ok.all c.fault.result c.rules.ensures.text w.in-Ok.ensures.reads w.if-at_end.ensures
          (c.fault.ensures ∙ ap (λ s. fault_of (length us) s left) w.stop-is)
      | in-Err w ↦ stops _ (text_of start.result) (rest start.result) start.ensures.text start.ensures.words left us w.in-Err.stop c.fault.result c.rules.ensures.text w.in-Err.ensures.reads
          (c.fault.ensures ∙ ap (λ s. fault_of (length us) s left) w.stop-is)
    ] in
    record { value = p.value; exact = p.exact }
