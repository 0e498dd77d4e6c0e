use Rattle.std.proofs.Common.{rules}
use Rattle.checks.proofs.First.{earliest-append}
use Rattle.checks.proofs.earliest.Earliest.note_cond.Goals as goal

pub returns-in-Value : goal.returns-in-Value
returns-in-Value c = search (rules, earliest-append)
