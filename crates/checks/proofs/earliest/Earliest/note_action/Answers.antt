use Rattle.std.proofs.Common.{List, sym, ap, ◌∙◌}
use Rattle.units.specs.Units.{units}
use Rattle.faults.specs.declared.Fault.{Fault}
use Rattle.actions.specs.Shown.{expr_of, action_of}
use Rattle.actions.specs.declared.tree.Expr.{Expr}
use Rattle.cursor.specs.declared.pieces.Piece.{Piece}
use Rattle.checks.specs.Earliest.{earliest_from}
use Rattle.checks.specs.Faults.{expr_faults, action_faults}
use Rattle.checks.specs.Names.{shown}
use Rattle.checks.proofs.First.{earliest_three}
use Rattle.checks.proofs.earliest.Earliest.note_action.Goals as goal

pub returns-in-New : goal.returns-in-New
returns-in-New c =
    let us = units c.args.names.now.text.now in
    let ss = shown c.args.names.now in
    let faults : Expr Piece Piece → List Fault = λ e. expr_faults ss (expr_of us e) in
    earliest_three c.args.self.now.known c.note_expr.new.self.known c.note_expr-in-New.new.self.known c.note_expr-in-New-2.new.self.known (faults c.in-New.claim_type) (faults c.in-New.value) (faults c.in-New.value_type)
    c.note_expr.ensures c.note_expr-in-New.ensures c.note_expr-in-New-2.ensures
    ∙ ap (λ a. earliest_from c.args.self.now.known (action_faults ss (action_of us a))) (sym c.in-New.is)
