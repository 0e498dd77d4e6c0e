use Rattle.std.proofs.Common.{ap, rules}
use Rattle.writer.proofs.Texts.{even_of}
use Rattle.writer.proofs.shown.bytes_of.Goals as goal

pub returns-clause-even : goal.returns-clause-even
returns-clause-even c = even_of c.part.result c.args.text.len (λ p. p.bytes.now) c.map_or.result.now c.part.ensures.size c.map_or.ensures (λ d. ap (λ b. b.now) d) (λ x h. search rules)
