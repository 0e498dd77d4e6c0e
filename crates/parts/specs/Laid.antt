-- The parts that rules are laid out in: one for each rule, selection and condition, in the order of the text.
use Rattle.std.specs.Prelude.{List, [], ◌∷◌, ◌++◌, map, length}
use Rattle.words.specs.Words.{Word}
use Rattle.grammar.specs.Tree as T
use Rattle.conditions.specs.declared.tree.Oper.{Oper}
use Rattle.conditions.specs.declared.tree.Oper.TheVariants as oper
use Rattle.parts.specs.Resolved.{selection_of}
use Rattle.actions.specs.declared.tree.Action.{Action}
use Rattle.actions.specs.declared.tree.Action.TheVariants as action
use Rattle.conditions.specs.declared.tree.Cond.{Cond}
use Rattle.conditions.specs.declared.tree.Cond.TheVariants as cond
use Rattle.actions.specs.declared.tree.Expr.{Expr}
use Rattle.actions.specs.declared.tree.Expr.TheVariants as expr
use Rattle.parts.specs.declared.Part.{Part}
use Rattle.parts.specs.declared.Part.TheVariants as part
use Rattle.parts.specs.declared.Quoted.{Quoted}
use Rattle.parts.specs.declared.Reference.{Reference}

abbrev pub lay_oper : T.Oper → Oper
lay_oper T.eq = oper.Equal
lay_oper T.neq = oper.NotEqual
lay_oper T.match = oper.Matches
lay_oper T.no_match = oper.NotMatches

abbrev pub lay_quoted : Word → Quoted
lay_quoted w = record { at = w.at; len = length w.text }

abbrev pub lay_reference : List T.Selection → Word → Reference
lay_reference ss w = record { at = w.at; selection = selection_of ss w }

abbrev pub lay_cond : T.Cond → Cond Quoted
lay_cond (T.type_cond o l) = cond.Type (lay_oper o) (lay_quoted l)
lay_cond (T.value_cond o l p m) = cond.Value (lay_oper o) (lay_quoted l) (lay_oper p) (lay_quoted m)

abbrev pub lay_expr : List T.Selection → T.Expr → Expr Quoted Reference
lay_expr ss (T.literal w) = expr.Literal (lay_quoted w)
lay_expr ss (T.value_type w) = expr.ValueType (lay_quoted w)
lay_expr ss (T.type_of w) = expr.TypeOf (lay_reference ss w)
lay_expr ss (T.value_of w) = expr.ValueOf (lay_reference ss w)
lay_expr ss (T.value_type_of w) = expr.ValueTypeOf (lay_reference ss w)

abbrev pub lay_action : List T.Selection → T.Action → Action Quoted Reference
lay_action ss (T.copy w) = action.Copy (lay_reference ss w)
lay_action ss (T.new n v y) = action.New (lay_expr ss n) (lay_expr ss v) (lay_expr ss y)

abbrev pub lay_conds : List T.Cond → List Part
lay_conds cs = map (λ c. part.Condition (lay_cond c)) cs

-- a selection, then its conditions
abbrev pub lay_selections : List T.Selection → List Part
lay_selections [] = []
lay_selections (s ∷ ss) = part.Selection ∷ (lay_conds s.conds ++ lay_selections ss)

-- a rule, then its selections
abbrev pub lay_rule : T.Rule → List Part
lay_rule r = part.Rule r.at (lay_action r.selections r.action) ∷ lay_selections r.selections

abbrev pub lay_rules : List T.Rule → List Part
lay_rules [] = []
lay_rules (r ∷ rs) = lay_rule r ++ lay_rules rs
