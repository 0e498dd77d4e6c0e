use Rattle.std.proofs.Common.{sym, ◌∙◌}
use Rattle.units.specs.Units.{units}
use Rattle.cursor.specs.Pieces.{word_of}
use Rattle.checks.proofs.Numbering.{numbered_among}
use Rattle.checks.proofs.names.Names.number_among.Goals as goal

pub returns-in_err-place : goal.returns-in_err-place
returns-in_err-place c =
    let us = units c.args.self.now.text.now in
    let e = numbered_among us (word_of us c.args.name).text c.args.many c.args.self.now.selections.now.items in
    c.from_residual.ensures ∙ c.in_err-place.ensures.value ∙ sym e

pub returns : goal.returns
returns c =
    let us = units c.args.self.now.text.now in
    let e = numbered_among us (word_of us c.args.name).text c.args.many c.args.self.now.selections.now.items in
    c.in_ok-place.ensures.value ∙ sym e
