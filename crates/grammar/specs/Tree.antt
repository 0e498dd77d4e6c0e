-- What a rule text says: rules of selections of conditions, each with an action.
use Rattle.std.specs.Prelude.{ℕ, List, Option}
use Rattle.words.specs.Words.{Word}

pub data Oper : Type 0 where
  eq : Oper
  neq : Oper
  match : Oper
  no_match : Oper

pub data Cond : Type 0 where
  type_cond : Oper → Word → Cond
  value_cond : Oper → Word → Oper → Word → Cond

pub record Selection : Type 0 where
  pub name : Option Word
  pub conds : List Cond

pub data Expr : Type 0 where
  literal : Word → Expr
  value_type : Word → Expr
  type_of : Word → Expr
  value_of : Word → Expr
  value_type_of : Word → Expr

-- a new claim's type, value and value type
pub data Action : Type 0 where
  copy : Word → Action
  new : Expr → Expr → Expr → Action

pub record Rule : Type 0 where
  pub at : ℕ
  pub selections : List Selection
  pub action : Action
