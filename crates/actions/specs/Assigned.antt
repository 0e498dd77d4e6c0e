-- What the assignments to a claim's type and to its value have in common.
use Rattle.words.specs.declared.terminals.Terminal.{Terminal}
use Rattle.words.specs.declared.terminals.Terminal.TheVariants.{Assign}
use Rattle.grammar.specs.Tree.{Expr}
use Rattle.grammar.specs.Readers.{Reads, t, ◌>>◌}
use Rattle.grammar.specs.Parse.{Expression}

-- a key, and the expression that is assigned to it
abbrev pub assigned : Terminal → Reads Expr
assigned k = t k >> t Assign >> Expression
