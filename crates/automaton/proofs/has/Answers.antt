use Rattle.std.proofs.Common.{sym, ◌∙◌, arith, le-ltb}
use Rattle.automaton.proofs.Sets.{none_above}
use Rattle.automaton.proofs.has.Goals as goal

pub returns-else-p-lt64 : goal.returns-else-p-lt64
returns-else-p-lt64 c = le-ltb c.args.p 64 c.if-p-lt64.false ∙ sym (none_above c.args.set c.args.p (omega arith) c.if-p-lt64.false)
