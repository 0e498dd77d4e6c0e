-- What rules ask and do, apart from how they are written: texts as units, and an identifier as the number of its selection.
use Rattle.std.specs.Prelude.{ℕ, suc, Bool, false, cond, List, [], ◌∷◌, map, Some, None, Option}
use Rattle.std.specs.Option.{option_map, unwrap_or}
use Rattle.units.specs.Fold.{same_units}
use Rattle.words.specs.Words.{Word}
use Rattle.grammar.specs.Tree as T
use Rattle.grammar.specs.Tree.{Oper}

-- a condition on the type; or one on the value and one on the value type
pub data Cond : Type 0 where
  type_is : Oper → List ℕ → Cond
  value_is : Oper → List ℕ → Oper → List ℕ → Cond

-- what a new claim's type, value or value type is made of, and the place at which it is written
pub data Expr : Type 0 where
  literal : ℕ → List ℕ → Expr
  value_type : ℕ → List ℕ → Expr
  type_of : ℕ → ℕ → Expr
  value_of : ℕ → ℕ → Expr
  value_type_of : ℕ → ℕ → Expr

-- a copy of the claim of a selection; or a new claim's type, value and value type
pub data Action : Type 0 where
  copy : ℕ → Action
  new : Expr → Expr → Expr → Action

pub record Rule : Type 0 where
  pub at : ℕ
  pub selections : List (List Cond)
  pub action : Action

-- does a selection have this identifier?
abbrev pub is_named : List ℕ → Option Word → Bool
is_named name None = false
is_named name (Some w) = same_units w.text name

-- the number from 0 of the first selection that has the identifier
abbrev pub numbered : List T.Selection → List ℕ → Option ℕ
numbered [] name = None
numbered (s ∷ ss) name = cond (is_named name s.name) (Some 0) (option_map suc (numbered ss name))

abbrev pub selection_of : List T.Selection → Word → ℕ
selection_of ss w = unwrap_or (numbered ss w.text) 0

abbrev pub cond_of : T.Cond → Cond
cond_of (T.type_cond o l) = type_is o l.text
cond_of (T.value_cond o l p m) = value_is o l.text p m.text

abbrev pub expr_of : List T.Selection → T.Expr → Expr
expr_of ss (T.literal w) = literal w.at w.text
expr_of ss (T.value_type w) = value_type w.at w.text
expr_of ss (T.type_of w) = type_of w.at (selection_of ss w)
expr_of ss (T.value_of w) = value_of w.at (selection_of ss w)
expr_of ss (T.value_type_of w) = value_type_of w.at (selection_of ss w)

abbrev pub action_of : List T.Selection → T.Action → Action
action_of ss (T.copy w) = copy (selection_of ss w)
action_of ss (T.new n v y) = new (expr_of ss n) (expr_of ss v) (expr_of ss y)

abbrev pub resolved : T.Rule → Rule
resolved r = record { at = r.at; selections = map (λ s. map cond_of s.conds) r.selections; action = action_of r.selections r.action }
