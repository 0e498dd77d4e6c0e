-- What the buffer for the parts holds after loading, and what checked rules are.
use Rattle.std.specs.Prelude.{ℕ, ◌-◌, List, [], ◌++◌, length, take, replicate}
use Rattle.units.specs.Units.{units}
use Rattle.grammar.specs.Tree.{Rule}
use Rattle.grammar.specs.Whole.{Parsed, rules, fault, parse}
use Rattle.parts.specs.Laid.{lay_rules}
use Rattle.parts.specs.declared.Part.{Part}
use Rattle.parts.specs.declared.Part.TheVariants.{Blank}
use Rattle.rules.specs.Judged.{Verdict, accepted, refused}

-- these parts, as many as there is room for, and blanks behind them
abbrev pub padded : ℕ → List Part → List Part
padded n ps = take n ps ++ replicate (n - length ps) Blank

abbrev pub buffer_of : ℕ → Verdict → List Part
buffer_of room (accepted rs) = padded room (lay_rules rs)
buffer_of room (refused f) = replicate room Blank

abbrev pub tree_from : Parsed → List Rule
tree_from (rules rs) = rs
tree_from (fault f) = []

-- the rules that a text derives
abbrev pub tree_of : List ℕ → List Rule
tree_of bytes = tree_from (parse (units bytes))
