use Rattle.std.proofs.Common.{[], ◌∷◌}
use Rattle.words.specs.declared.terminals.Terminal.TheVariants.{KeyType, KeyValue, KeyValueType}
use Rattle.cursor.specs.Reading.{text_of}
use Rattle.cursor.proofs.Choosing.{shown_as}
use Rattle.actions.specs.Shown.{expr_of}
use Rattle.actions.specs.declared.tree.Expr.TheVariants.{TypeOf, ValueOf, ValueTypeOf}
use Rattle.actions.proofs.exprs.property.Goals as goal

pub returns : goal.returns
returns c =
    let i = c.args.i in
    let properties = (KeyType, TypeOf i) ∷ (KeyValue, ValueOf i) ∷ (KeyValueType, ValueTypeOf i) ∷ [] in
    record { reads = shown_as (expr_of (text_of c.args.cursor.now)) properties _ _ _ c.expect_as.ensures.reads; text = c.expect_as.ensures.text }
