-- The quoted words of a tree lie in its text: a right side, a literal or a value type has the units behind its opening quote.
use Rattle.std.specs.Prelude.{◌≡◌, ℕ, ◌+◌, ◌≤◌, List, length, take, drop}
use Rattle.std.specs.List.{AllByRecursion}
use Rattle.words.specs.Words.{Word}
use Rattle.grammar.specs.Tree.{Cond, type_cond, value_cond, Selection, Expr, literal, value_type, type_of, value_of, value_type_of, Action, copy, new, Rule}
use Rattle.grammar.specs.Whole.{parse, rules}

pub record Lies (us : List ℕ) (w : Word) : Type 0 where
  pub within : w.at + 1 + length w.text ≤ length us
  pub units : w.text ≡ take (length w.text) (drop (w.at + 1) us)

abbrev pub CondLies : List ℕ → Cond → Type 0
CondLies us (type_cond o l) = Lies us l
CondLies us (value_cond o l p m) = Lies us l × Lies us m

abbrev pub SelectionLies : List ℕ → Selection → Type 0
SelectionLies us s = AllByRecursion (CondLies us) s.conds

-- what refers to a claim has no quoted word
abbrev pub ExprLies : List ℕ → Expr → Type 0
ExprLies us (literal w) = Lies us w
ExprLies us (value_type w) = Lies us w
ExprLies us (type_of w) = Unit {0}
ExprLies us (value_of w) = Unit {0}
ExprLies us (value_type_of w) = Unit {0}

abbrev pub ActionLies : List ℕ → Action → Type 0
ActionLies us (copy w) = Unit {0}
ActionLies us (new n v y) = ExprLies us n × ExprLies us v × ExprLies us y

pub record RuleLies (us : List ℕ) (r : Rule) : Type 0 where
  pub selections : AllByRecursion (SelectionLies us) r.selections
  pub action : ActionLies us r.action

abbrev pub Lying : Type 0
Lying = (us : List ℕ) (rs : List Rule) → parse us ≡ rules rs → AllByRecursion (RuleLies us) rs
