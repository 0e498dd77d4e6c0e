-- What rules say through the units of the rule text.
use Rattle.std.specs.Prelude.{ℕ, List, map}
use Rattle.grammar.specs.Tree as T
use Rattle.cursor.specs.declared.pieces.Piece.{Piece}
use Rattle.list.specs.Few.{Few}
use Rattle.conditions.specs.Shown.{selections_of}
use Rattle.conditions.specs.declared.tree.Selection.{Selection}
use Rattle.actions.specs.Shown.{action_of}
use Rattle.actions.specs.declared.tree.Action.{Action}
use Rattle.parser.specs.declared.tree.Rule.{Rule}

-- selections and an action
abbrev pub body_of : List ℕ → Few Selection × Action Piece Piece → List T.Selection × T.Action
body_of us b = (selections_of us b.0, action_of us b.1)

abbrev pub rule_of : List ℕ → Rule → T.Rule
rule_of us r = record { at = r.at; selections = selections_of us r.selections; action = action_of us r.action }

abbrev pub rules_of : List ℕ → Few Rule → List T.Rule
rules_of us rs = map (rule_of us) rs.items
