use Rattle.std.proofs.Common.{[], ◌∷◌}
use Rattle.words.specs.declared.terminals.Terminal.TheVariants as terminal
use Rattle.cursor.specs.Reading.{text_of}
use Rattle.cursor.proofs.Choosing.{shown_as}
use Rattle.conditions.specs.Shown.{oper_of}
use Rattle.conditions.specs.declared.tree.Oper.TheVariants as oper
use Rattle.conditions.proofs.conds.cond_oper.Goals as goal

pub returns : goal.returns
returns c =
    let opers = (terminal.Equal, oper.Equal) ∷ (terminal.NotEqual, oper.NotEqual) ∷ (terminal.Matches, oper.Matches) ∷ (terminal.NotMatches, oper.NotMatches) ∷ [] in
    record { reads = shown_as (oper_of (text_of c.args.cursor.now)) opers _ _ _ c.expect_as.ensures.reads; text = c.expect_as.ensures.text }
