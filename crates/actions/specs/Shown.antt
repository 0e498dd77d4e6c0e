-- What the action of a rule says through the units of the rule text.
use Rattle.std.specs.Prelude.{List, ℕ}
use Rattle.grammar.specs.Tree as T
use Rattle.cursor.specs.Pieces.{word_of}
use Rattle.cursor.specs.declared.pieces.Piece.{Piece}
use Rattle.actions.specs.declared.tree.Action.{Action}
use Rattle.actions.specs.declared.tree.Action.TheVariants as action
use Rattle.actions.specs.declared.tree.Expr.{Expr}
use Rattle.actions.specs.declared.tree.Expr.TheVariants as expr

abbrev pub expr_of : List ℕ → Expr Piece Piece → T.Expr
expr_of us (expr.Literal p) = T.literal (word_of us p)
expr_of us (expr.ValueType p) = T.value_type (word_of us p)
expr_of us (expr.TypeOf p) = T.type_of (word_of us p)
expr_of us (expr.ValueOf p) = T.value_of (word_of us p)
expr_of us (expr.ValueTypeOf p) = T.value_type_of (word_of us p)

-- a value and a value type
abbrev pub two_of : List ℕ → Expr Piece Piece × Expr Piece Piece → T.Expr × T.Expr
two_of us e = (expr_of us e.0, expr_of us e.1)

abbrev pub action_of : List ℕ → Action Piece Piece → T.Action
action_of us (action.Copy p) = T.copy (word_of us p)
action_of us (action.New n v y) = T.new (expr_of us n) (expr_of us v) (expr_of us y)
