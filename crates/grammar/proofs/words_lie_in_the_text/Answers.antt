use Rattle.grammar.proofs.Keeping.{lying}
use Rattle.grammar.proofs.words_lie_in_the_text.Goals as goal

pub returns : goal.returns
returns c = lying
