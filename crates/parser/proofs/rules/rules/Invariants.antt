use Rattle.std.proofs.Common.{◌≡◌, ◌-◌, length}
use Rattle.grammar.specs.Parse.{Rules, RuleSet}
use Rattle.cursor.specs.Reading.{rest, text_of}
use Rattle.parser.specs.Shown.{rules_of}
use Rattle.cursor.proofs.Many.{pre}
use Rattle.parser.proofs.rules.rules.Given as goal

abbrev pub invariant-loop : goal.invariant-loop
invariant-loop l =
    (length l.all.items ≡ l.counter) × (text_of l.cursor ≡ text_of l.initial.cursor)
    × (pre (rules_of (text_of l.initial.cursor) l.all) (Rules (32 - l.counter) (rest l.cursor)) ≡ RuleSet (rest l.initial.cursor))
