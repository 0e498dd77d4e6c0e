use Rattle.grammar.proofs.Top.{exact}
use Rattle.grammar.proofs.grammar_is_exact.Goals as goal

pub returns : goal.returns
returns c = exact
