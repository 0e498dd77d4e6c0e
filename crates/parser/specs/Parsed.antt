-- What a whole text is told to say: its rules through its units, or the fault.
use Rattle.std.specs.Prelude.{ℕ, List, Ok, Err, Result}
use Rattle.faults.specs.declared.Fault.{Fault}
use Rattle.grammar.specs.Whole.{Parsed, rules, fault}
use Rattle.list.specs.Few.{Few}
use Rattle.parser.specs.Shown.{rules_of}
use Rattle.parser.specs.declared.tree.Rule.{Rule}

abbrev pub parsed_of : List ℕ → Result (Few Rule) Fault → Parsed
parsed_of us (Ok rs) = rules (rules_of us rs)
parsed_of us (Err f) = fault f
