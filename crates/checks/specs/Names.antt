-- The selections of a rule through the units of their text.
use Rattle.std.specs.Prelude.{List}
use Rattle.units.specs.Units.{units}
use Rattle.grammar.specs.Tree.{Selection}
use Rattle.conditions.specs.Shown.{selections_of}
use Rattle.checks.specs.declared.names.Names.{Names}

abbrev pub shown : Names → List Selection
shown n = selections_of (units n.text.now) n.selections.now
