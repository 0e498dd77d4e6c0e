-- What parts say through the units of the rule text.
use Rattle.std.specs.Prelude.{ℕ, ◌+◌, List, take, drop}
use Rattle.conditions.specs.Shown.{oper_of}
use Rattle.parts.specs.Resolved as meaning
use Rattle.actions.specs.declared.tree.Action.{Action}
use Rattle.actions.specs.declared.tree.Action.TheVariants as action
use Rattle.conditions.specs.declared.tree.Cond.{Cond}
use Rattle.conditions.specs.declared.tree.Cond.TheVariants as cond
use Rattle.actions.specs.declared.tree.Expr.{Expr}
use Rattle.actions.specs.declared.tree.Expr.TheVariants as expr
use Rattle.parts.specs.declared.Quoted.{Quoted}
use Rattle.parts.specs.declared.Reference.{Reference}

-- the units behind the opening quote
abbrev pub quoted_units : List ℕ → Quoted → List ℕ
quoted_units us q = take q.len (drop (q.at + 1) us)

abbrev pub cond_says : List ℕ → Cond Quoted → meaning.Cond
cond_says us (cond.Type o l) = meaning.type_is (oper_of us o) (quoted_units us l)
cond_says us (cond.Value o l p m) = meaning.value_is (oper_of us o) (quoted_units us l) (oper_of us p) (quoted_units us m)

abbrev pub expr_says : List ℕ → Expr Quoted Reference → meaning.Expr
expr_says us (expr.Literal q) = meaning.literal q.at (quoted_units us q)
expr_says us (expr.ValueType q) = meaning.value_type q.at (quoted_units us q)
expr_says us (expr.TypeOf r) = meaning.type_of r.at r.selection
expr_says us (expr.ValueOf r) = meaning.value_of r.at r.selection
expr_says us (expr.ValueTypeOf r) = meaning.value_type_of r.at r.selection

abbrev pub action_says : List ℕ → Action Quoted Reference → meaning.Action
action_says us (action.Copy r) = meaning.copy r.selection
action_says us (action.New n v y) = meaning.new (expr_says us n) (expr_says us v) (expr_says us y)
