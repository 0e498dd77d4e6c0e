use Rattle.claims.proofs.Walks.{yields}
use Rattle.claims.proofs.sources.ClaimsIterator.next.Goals as goal

pub returns-clause-steps : goal.returns-clause-steps
returns-clause-steps g c = yields (g.S.Source.list c.args.self.now.source.now) c.args.self.now.next c.claim_at.result c.claim_at.ensures.value
