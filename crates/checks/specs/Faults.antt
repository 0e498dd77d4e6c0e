-- The faults of a rule that the grammar derives: its identifiers and its patterns.
use Rattle.std.specs.Prelude.{ℕ, List, [], ◌∷◌, ◌++◌, Some, None, Option}
use Rattle.faults.specs.At.{fault_at}
use Rattle.faults.specs.declared.Cause.{Cause}
use Rattle.faults.specs.declared.Cause.TheVariants.{RepeatedIdentifier, UnknownIdentifier}
use Rattle.faults.specs.declared.Fault.{Fault}
use Rattle.words.specs.Words.{Word}
use Rattle.grammar.specs.Tree as T
use Rattle.parts.specs.Resolved.{numbered}
use Rattle.pattern.specs.Caused.{cause_of_pattern}

abbrev pub caused_at : Option Cause → ℕ → List Fault
caused_at None at = []
caused_at (Some c) at = fault_at c at ∷ []

-- what stands on the right side of =~ and !~ is a pattern
abbrev pub side_faults : T.Oper → Word → List Fault
side_faults T.eq w = []
side_faults T.neq w = []
side_faults T.match w = caused_at (cause_of_pattern w.text) w.at
side_faults T.no_match w = caused_at (cause_of_pattern w.text) w.at

abbrev pub cond_faults : T.Cond → List Fault
cond_faults (T.type_cond o l) = side_faults o l
cond_faults (T.value_cond o l p m) = side_faults o l ++ side_faults p m

abbrev pub conds_faults : List T.Cond → List Fault
conds_faults [] = []
conds_faults (c ∷ cs) = cond_faults c ++ conds_faults cs

-- the identifier at the place is that of a selection before
abbrev pub repeated_at : Option ℕ → ℕ → List Fault
repeated_at None at = []
repeated_at (Some n) at = fault_at RepeatedIdentifier at ∷ []

-- the identifier at the place is that of no selection
abbrev pub unknown_at : Option ℕ → ℕ → List Fault
unknown_at None at = fault_at UnknownIdentifier at ∷ []
unknown_at (Some n) at = []

abbrev pub name_faults : List T.Selection → Option Word → List Fault
name_faults earlier None = []
name_faults earlier (Some w) = repeated_at (numbered earlier w.text) w.at

abbrev pub selection_faults : List T.Selection → T.Selection → List Fault
selection_faults earlier s = name_faults earlier s.name ++ conds_faults s.conds

-- of selections behind the earlier ones
abbrev pub selections_faults : List T.Selection → List T.Selection → List Fault
selections_faults earlier [] = []
selections_faults earlier (s ∷ ss) = selection_faults earlier s ++ selections_faults (earlier ++ (s ∷ [])) ss

abbrev pub reference_faults : List T.Selection → Word → List Fault
reference_faults ss w = unknown_at (numbered ss w.text) w.at

abbrev pub expr_faults : List T.Selection → T.Expr → List Fault
expr_faults ss (T.literal w) = []
expr_faults ss (T.value_type w) = []
expr_faults ss (T.type_of w) = reference_faults ss w
expr_faults ss (T.value_of w) = reference_faults ss w
expr_faults ss (T.value_type_of w) = reference_faults ss w

abbrev pub action_faults : List T.Selection → T.Action → List Fault
action_faults ss (T.copy w) = reference_faults ss w
action_faults ss (T.new n v y) = expr_faults ss n ++ (expr_faults ss v ++ expr_faults ss y)

abbrev pub rule_faults : T.Rule → List Fault
rule_faults r = selections_faults [] r.selections ++ action_faults r.selections r.action
